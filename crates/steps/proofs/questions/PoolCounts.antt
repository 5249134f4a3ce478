-- The pool's properties, by the counts of its blocks.
use Rattle.std.proofs.Common.{◌≡◌, None, ◌≤◌, ◌*◌, ℕ, refl, sym, ap, subst, ◌∙◌, arith}
use Rattle.model.specs.declared.request.Request.TheVariants.{PoolGet}
use Rattle.model.specs.declared.request.PoolProperty.{PoolProperty}
use Rattle.model.specs.declared.request.PoolProperty.TheVariants.{Size as SizeAsked, Allocated, Free, Freeing, Waiting, Group}
use Rattle.model.specs.declared.reply.Reply.TheVariants.{Value as ValueIs}
use Rattle.model.specs.declared.reply.Value.{Value}
use Rattle.model.specs.declared.reply.Value.TheVariants.{Size, Number}
use Rattle.model.specs.State.{State}
use Rattle.model.specs.Step.{Step}
use Rattle.model.specs.Sums.{freeing_of}
use Rattle.model.specs.Refusals.{refusal_of}
use Rattle.model.specs.Properties.{pool_value}
use Rattle.model.specs.requests.PoolGet.{pool_get_rule}
use Rattle.zalloc.specs.declared.Counts.{Counts}
use Rattle.world.specs.Tables.{Datasets}
use Rattle.steps.proofs.numbers.Ruled.{answered_by}
use Rattle.limits.specs.declared.pool_space.Space.{Space}
use Rattle.steps.specs.Limiting.{IsStateWith}
use Rattle.steps.proofs.quotas.Balanced.{freeing_fits}
use Rattle.steps.specs.Counted.{IsCountOf}

module _ (s : State) (t : Datasets) (space : Space) (is : IsStateWith s t space) (counts : Counts) (counted : IsCountOf s counts) where
  value_done : (p : PoolProperty) (v : Value) → v ≡ pool_value s p → Step s (PoolGet p) (ValueIs v) s
  unfolding refusal_of
  value_done p v e = answered_by (PoolGet p) (pool_get_rule p) (None, refl, refl) s is.steady (ValueIs v) refl refl refl (ap ValueIs e)

  module _ (p : PoolProperty) (v : Value) where
    asked : (q : PoolProperty) → p ≡ q → v ≡ pool_value s q → Step s (PoolGet p) (ValueIs v) s
    asked q same e = subst (λ x. Step s (PoolGet x) (ValueIs v) s) (sym same) (value_done q v e)

    pub pool_get_size : p ≡ SizeAsked → v ≡ Size (512 * space.size) → Step s (PoolGet p) (ValueIs v) s
    unfolding pool_value
    pool_get_size same e = asked SizeAsked same (e ∙ ap (λ n. Size (512 * n)) is.beside.size)

    pub pool_get_allocated : p ≡ Allocated → v ≡ Size (512 * counts.allocated) → Step s (PoolGet p) (ValueIs v) s
    unfolding pool_value
    pool_get_allocated same e = asked Allocated same (e ∙ ap (λ n. Size (512 * n)) counted.allocated)

    pub pool_get_free : p ≡ Free → v ≡ Size (512 * counts.free) → Step s (PoolGet p) (ValueIs v) s
    unfolding pool_value
    pool_get_free same e = asked Free same (e ∙ ap (λ n. Size (512 * n)) counted.free)

    pub pool_get_freeing : (n : ℕ) → p ≡ Freeing → v ≡ Size (512 * n) → (space.freeing ≤ space.size → n ≡ space.freeing) → Step s (PoolGet p) (ValueIs v) s
    unfolding pool_value freeing_of
    pool_get_freeing n same e told = asked Freeing same (e ∙ ap (λ k. Size (512 * k)) (told fits ∙ is.beside.freeing))
      where
        fits : space.freeing ≤ space.size
        fits =
            let f = freeing_fits s is.balanced in
            let n = is.beside.freeing in
            let m = is.beside.size in
            omega (arith, f, n, m)

    pub pool_get_waiting : p ≡ Waiting → v ≡ Size (512 * counts.waiting) → Step s (PoolGet p) (ValueIs v) s
    unfolding pool_value
    pool_get_waiting same e = asked Waiting same (e ∙ ap (λ n. Size (512 * n)) counted.waiting)

    pub pool_get_group : p ≡ Group → v ≡ Number t.group → Step s (PoolGet p) (ValueIs v) s
    unfolding pool_value
    pool_get_group same e = asked Group same (e ∙ ap (λ (d : Datasets). Number d.group) (sym is.datasets))

-- What limits say of the world that a request has led to.
use Rattle.std.proofs.Common.{◌≡◌, ◌<◌, ◌^◌, ◌+◌, ℕ, List, Option, None, Some, refl, sym, ap, subst, ◌∙◌, ⊎_elim, arith}
use Rattle.std.specs.Prelude.{count_by, is_some, IsSome}
use Rattle.std.specs.FinMap.{get}
use Rattle.std.specs.FinSet as set
use Rattle.std.specs.FinSet.{difference}
use Rattle.base.specs.declared.refusal.Refusal.{Refusal}
use Rattle.zalloc.specs.declared.BlockState.{BlockState}
use Rattle.zalloc.specs.declared.Counts.{Counts}
use Rattle.zalloc.specs.States.{is_free, is_allocated, is_waiting}
use Rattle.model.specs.declared.limits.Limit.{Limit}
use Rattle.model.specs.declared.request.Request.TheVariants.{Set}
use Rattle.model.specs.declared.reply.Reply.TheVariants.{Done}
use Rattle.model.specs.Rule.{first_of}
use Rattle.model.specs.State.{State, waiting_of}
use Rattle.model.specs.Step.{Step}
use Rattle.model.specs.Sums.{allocated_of, free_of, waiting_count}
use Rattle.model.specs.World.{union_of, reach_of}
use Rattle.model.specs.requests.Change.{limit_row}
use Rattle.world.specs.Blocks.{block_order as o}
use Rattle.world.specs.Tables.{Datasets, world_of}
use Rattle.world.proofs.lists.SetCounts.{len-union}
use Rattle.limits.specs.Limits.{IsUnlimited}
use Rattle.datasets.specs.Limits.{with_limit_of}
use Rattle.steps.specs.Asked.{asked_by_set}
use Rattle.steps.specs.Counted.{IsCountOf}
use Rattle.steps.specs.Edits.{datasets_of, put, CanPut}
use Rattle.steps.specs.Handed.{Space, Line, IsAccounted}
use Rattle.steps.specs.Limiting.{IsOver, IsStateWith}
use Rattle.steps.proofs.quotas.Balanced as balanced
use Rattle.steps.proofs.quotas.Bounded.{IsUnasked}
use Rattle.steps.proofs.numbers.Counts as counts
use Rattle.steps.proofs.quotas.Foretold.{ledger_alike}
use Rattle.steps.proofs.numbers.Known.{states_of}
use Rattle.steps.proofs.questions.Properties.{are_balanced}
use Rattle.steps.proofs.requests.Setting as setting
use Rattle.pool.specs.Pools.{IsSound}

-- the ledger after the group is closed
pub accounted_next : (t next : Datasets) (l : Option (List Line)) → next ≡ record t { group = t.group + 1 } → IsAccounted t l → IsAccounted next l
accounted_next t next None is kept = subst (λ (d : Datasets). IsUnlimited d.file_systems) (sym is) kept
accounted_next t next (Some l) is kept = kept ∙ ledger_alike (world_of t) (world_of next) (ap (λ (d : Datasets). d.file_systems) (sym is))

module _ (s : State) (numbers : List BlockState) (sound : IsSound s numbers) where
  -- as many numbers wait as blocks
  pub waiting_counted : count_by is_waiting numbers ≡ set.len (waiting_of s)
  unfolding waiting_of
  waiting_counted = counts.count-waiting (reach_of s.now) (reach_of s.last) s.last.group s.now.group s.size sound.steady.good.pair.reached numbers (states_of s numbers sound.states)

  -- as many are free
  free_counted : count_by is_free numbers ≡ free_of s
  unfolding allocated_of waiting_count waiting_of
  free_counted =
      let f = counts.count-free (reach_of s.now) (reach_of s.last) s.last.group s.now.group s.size sound.steady.good.pair.reached numbers (states_of s numbers sound.states) in
      let b = are_balanced s sound.steady numbers sound.states in
      let u = len-union o (reach_of s.now) (reach_of s.last) in
      omega (arith, f, b, u)

  -- and as many are allocated
  pub count_with : (n : Counts) → n.allocated ≡ count_by is_allocated numbers → n.free ≡ count_by is_free numbers → n.waiting ≡ count_by is_waiting numbers → IsCountOf s n
  unfolding allocated_of waiting_count
  count_with n allocated free waiting = record {
    allocated = allocated ∙ counts.count-allocated (reach_of s.now) (reach_of s.last) s.last.group s.now.group s.size sound.steady.good.pair.reached numbers (states_of s numbers sound.states);
    free = free ∙ free_counted;
    waiting = waiting ∙ waiting_counted;
  }

  -- the state has its datasets, and this beside them
  pub state_with : (space : Space) → space.size ≡ s.size → space.freeing ≡ set.len s.now.freeing → space.waiting ≡ count_by is_waiting numbers → IsStateWith s (datasets_of s) space
  state_with space size freeing waiting = record {
    steady = sound.steady;
    balanced = are_balanced s sound.steady numbers sound.states;
    datasets = refl;
    beside = record { size = size; freeing = freeing; waiting = waiting ∙ waiting_counted };
  }

  -- ---- the state that limits are asked of

  module _ (new : State) (is : IsUnasked s new) (to : Datasets) (systems : new.now.file_systems ≡ to.file_systems) where
    -- what its datasets have can be counted by so many bits
    pub few_unasked : set.len (union_of (world_of to)) < 2 ^ 32
    few_unasked = balanced.few_unasked s (are_balanced s sound.steady numbers sound.states) new is sound.small to (sym systems)

    -- as many wait
    waiting_same : set.len (waiting_of new) ≡ set.len (waiting_of s)
    unfolding waiting_of
    waiting_same = (λ i. set.len (difference (reach_of (is.last i)) (is.reach i)))

    -- what was found is what the row of its limits says
    pub over_is : (freeing : ℕ) → set.len new.now.freeing ≡ freeing → (r : Option Refusal) → IsOver s to freeing r → (IsUnlimited s.now.file_systems → first_of (limit_row new) ≡ None)
        → first_of (limit_row new) ≡ r
    over_is freeing freed r over bare = ⊎_elim (λ b. bare b.0 ∙ sym b.1) (λ all. sym (all new (record { systems = systems; freed = freed; waiting = waiting_same; size = is.size }))) over

  -- ---- a limit that is set

  module _ (name : List ℕ) (limit : Limit) (amount : Option ℕ) (there : IsSome (get s.now.file_systems name))
      (fits : IsSome amount → first_of (limit_row (asked_by_set s name limit amount)) ≡ None) (t : Datasets) (is : t ≡ with_limit_of (datasets_of s) name limit amount) where
    fits_here : (n : ℕ) → amount ≡ Some n → first_of (limit_row (asked_by_set s name limit amount)) ≡ None
    fits_here n given = fits (ap is_some given)

    there_here : get s.now.file_systems name ≡ None → ⊥
    there_here none = let e = sym there ∙ ap is_some none in cc

    pub set_can : CanPut s t 0
    set_can = subst (λ d. CanPut s d 0) (sym is) (setting.set_can s sound.steady name limit amount fits_here)

    pub set_done : Step s (Set name limit amount) Done (put s t 0)
    set_done = subst (λ d. Step s (Set name limit amount) Done (put s d 0)) (sym is) (setting.set_done s name limit amount there_here sound.steady fits_here)

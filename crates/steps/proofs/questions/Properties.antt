-- The pool's properties: how many numbers are in each state.
use Rattle.std.proofs.Common.{◌≡◌, ℕ, zero, suc, ◌+◌, Bool, cond, List, refl, sym, ap, ◌∙◌, arith}
use Rattle.std.specs.Prelude.{count_by}
use Rattle.std.specs.List.{range_with_len}
use Rattle.std.proofs.lemmas.List.Sums.{sum_by-cons}
use Rattle.zalloc.specs.declared.BlockState.{BlockState}
use Rattle.zalloc.specs.States.{is_free}
use Rattle.model.specs.World.{reach_of}
use Rattle.model.specs.State.{State, waiting_of, block_state}
use Rattle.model.specs.Sums.{allocated_of, free_of, waiting_count, IsBalanced}
use Rattle.model.specs.Numbers.{HasStates}
use Rattle.world.specs.Blocks.{block_order as o}
use Rattle.world.proofs.lists.SetCounts.{len-union}
use Rattle.steps.specs.Steady.{IsSteady}
use Rattle.steps.proofs.numbers.States.{count-list, count_below-front, count_below-same}
use Rattle.steps.proofs.numbers.Free.{count_below}
use Rattle.steps.proofs.numbers.Counts as counts
use Rattle.steps.proofs.numbers.Known.{states_of}

-- how many numbers of a range pass a test
count-range : (p : ℕ → Bool) (a n : ℕ) → count_by p (range_with_len a n) ≡ count_below (λ k. p (a + k)) n
count-range p a zero = refl
count-range p a (suc n) =
    let same = count_below-same (λ k. p (a + 1 + k)) (λ k. p (a + suc k)) n (λ k. ap p (shifted k)) in
    sum_by-cons (λ z. cond {A = ℕ} (p z) 1 0) a (range_with_len (a + 1) n)
    ∙ (λ i. cond {A = ℕ} (p (zeroth i)) 1 0 + (count-range p (a + 1) n ∙ same) i)
    ∙ sym (count_below-front (λ k. p (a + k)) n)
  where
    shifted : (k : ℕ) → a + 1 + k ≡ a + suc k
    shifted k = omega arith

    zeroth : a ≡ a + 0
    zeroth = omega arith

module _ (s : State) (steady : IsSteady s) where
  module _ (states : List BlockState) (known : HasStates s states) where
    count-free : count_by is_free states ≡ free_of s
    unfolding free_of
    count-free =
        count-list is_free states (block_state s) (λ k l. let e = known.count in known.each k (omega arith))
        ∙ ap (count_below (λ k. is_free (block_state s k))) known.count
        ∙ count_below-same (λ k. is_free (block_state s k)) (λ k. is_free (block_state s (0 + k))) s.size (λ k. ap (λ n. is_free (block_state s n)) (zeroth k))
        ∙ sym (count-range (λ n. is_free (block_state s n)) 0 s.size)
      where
        zeroth : (n : ℕ) → n ≡ 0 + n
        zeroth n = omega arith

    -- each block of the pool is allocated, free or waiting
    pub are_balanced : IsBalanced s
    unfolding allocated_of waiting_count waiting_of
    are_balanced =
        let f = count-free in
        let b = counts.count-free (reach_of s.now) (reach_of s.last) s.last.group s.now.group s.size steady.good.pair.reached states (states_of s states known) in
        let u = len-union o (reach_of s.now) (reach_of s.last) in
        omega (arith, f, b, u)

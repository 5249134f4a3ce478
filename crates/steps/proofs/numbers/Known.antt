-- The states of a pool's numbers, in the words of the model and as the blocks of both worlds give them.
use Rattle.std.proofs.Common.{◌≡◌, ◌<◌, ℕ, List, Some, map, refl, sym, ap, subst, ◌∙◌, arith}
use Rattle.std.specs.List.{range_with_len}
use Rattle.std.proofs.lemmas.List.{same_lists}
use Rattle.std.proofs.lemmas.List.FromFn.{length-map-range_with_len, get_or-map-range_with_len}
use Rattle.std.proofs.lemmas.Option.{get_or_from_slice_get, slice_get-get_or}
use Rattle.base.specs.Map.{BlockSet}
use Rattle.zalloc.specs.declared.BlockState.{BlockState}
use Rattle.model.specs.World.{reach_of}
use Rattle.model.specs.State.{State, waiting_of, block_state}
use Rattle.model.specs.Numbers.{HasStates}
use Rattle.steps.specs.Settles.{state_at, AreStatesOf}

state_is : (s : State) (n : ℕ) → block_state s n ≡ state_at (reach_of s.now) (reach_of s.last) n
unfolding block_state waiting_of
state_is s n = refl

pub states_of : (s : State) (numbers : List BlockState) → HasStates s numbers → AreStatesOf (reach_of s.now) (reach_of s.last) s.size numbers
states_of s numbers known = record { count = known.count; each = λ n l. known.each n l ∙ ap Some (state_is s n) }

pub of_states : (s : State) (numbers : List BlockState) → AreStatesOf (reach_of s.now) (reach_of s.last) s.size numbers → HasStates s numbers
of_states s numbers known = record { count = known.count; each = λ n l. known.each n l ∙ ap Some (sym (state_is s n)) }

-- there is one list of them
module _ (now last : BlockSet) (size : ℕ) where
  pub known_are : (states : List BlockState) → AreStatesOf now last size states → states ≡ map (state_at now last) (range_with_len 0 size)
  known_are states known = same_lists states (map (state_at now last) (range_with_len 0 size)) (known.count ∙ sym (length-map-range_with_len (state_at now last) 0 size))
      (λ k d l. let below : k < size = subst (λ n. k < n) known.count l in
      get_or_from_slice_get states k (state_at now last k) d (known.each k below) ∙ sym (get_or-map-range_with_len (state_at now last) 0 size k k d below (omega arith)))

  pub are_known : AreStatesOf now last size (map (state_at now last) (range_with_len 0 size))
  are_known = record {
    count = length-map-range_with_len (state_at now last) 0 size;
    each = λ n l. slice_get-get_or (map (state_at now last) (range_with_len 0 size)) n (state_at now last n) (subst (λ m. n < m) (sym (length-map-range_with_len (state_at now last) 0 size)) l)
        ∙ ap Some (get_or-map-range_with_len (state_at now last) 0 size n n (state_at now last n) l (omega arith));
  }

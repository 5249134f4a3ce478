-- Other datasets put in place: the blocks are released, then the numbers are taken, and every number has the state that the worlds
-- give it.
use Rattle.std.proofs.Common.{◌≡◌, ℕ, ◌+◌, List, Some, sym, ap, subst, ◌∙◌, inr, inl, ⊎_elim, arith}
use Rattle.base.specs.Map.{Block, BlockSet}
use Rattle.zalloc.specs.declared.BlockState.{BlockState}
use Rattle.tree.specs.Taking.{takes, AllFree}
use Rattle.model.specs.World.{reach_of}
use Rattle.model.specs.State.{State}
use Rattle.model.specs.Numbers.{HasStates}
use Rattle.world.specs.Tables.{Datasets}
use Rattle.steps.specs.Settles.{AreStatesOf, AreTakable, releases, AllAllocated}
use Rattle.steps.specs.Steady.{IsSteady}
use Rattle.steps.specs.Edits.{with_datasets, put, CanPut, CanChange}
use Rattle.steps.proofs.numbers.Settling as settling
use Rattle.steps.proofs.numbers.Known.{states_of, of_states}

none_more : (n : ℕ) → n + 0 ≡ n
none_more n = omega arith

-- without a guid more
pub put_none : (s : State) (t : Datasets) → put s t 0 ≡ with_datasets s t
put_none s t = λ i. record (with_datasets s t) { next_guid = none_more s.next_guid i }

-- where the same blocks are reached, no number changes its state
pub kept_states : (s : State) (numbers : List BlockState) → HasStates s numbers → (t : Datasets) (guids : ℕ) → CanPut s t guids → HasStates (put s t guids) numbers
kept_states s numbers known t guids can =
    of_states (put s t guids) numbers (subst (λ r. AreStatesOf r (reach_of s.last) s.size numbers) (sym can.reach) (states_of s numbers known))

module _ (s : State) (steady : IsSteady s) (numbers : List BlockState) (known : HasStates s numbers) (t : Datasets) (released : List Block) (taken : List ℕ)
    (can : CanChange s t released taken) where
  abbrev new : BlockSet
  new = reach_of (with_datasets s t).now

  takable : AreTakable numbers s.last.group released taken
  takable n i = ⊎_elim (λ f. inl (known.each n f.0 ∙ ap Some f.1)) (λ w. inr w) (can.takable n i)

  pub release_them : AllAllocated s.last.group numbers released
  release_them = settling.release_them (reach_of s.now) new (reach_of s.last) s.last.group s.now.group s.size steady.good.pair.reached released taken can.settling
      numbers (states_of s numbers known) takable

  pub take_them : AllFree (releases s.last.group numbers released) taken
  take_them = settling.take_them (reach_of s.now) new (reach_of s.last) s.last.group s.now.group s.size steady.good.pair.reached released taken can.settling
      numbers (states_of s numbers known) takable

  pub put_states : HasStates (with_datasets s t) (takes (releases s.last.group numbers released) taken)
  put_states = of_states (with_datasets s t) (takes (releases s.last.group numbers released) taken)
      (settling.settled (reach_of s.now) new (reach_of s.last) s.last.group s.now.group s.size steady.good.pair.reached released taken can.settling
      numbers (states_of s numbers known) takable)

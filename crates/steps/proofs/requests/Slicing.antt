-- A slice of what is to be freed: it can be taken, and its step.
use Rattle.std.proofs.Common.{◌≡◌, ℕ, List, [], None, refl}
use Rattle.std.specs.Prelude.{IsTrue}
use Rattle.std.specs.FinSet as set
use Rattle.std.specs.FinSet.{difference, from_list}
use Rattle.std.proofs.lemmas.Bool.{eq-eqb}
use Rattle.base.specs.Map.{Block, BlockSet}
use Rattle.base.specs.Surveys.{IsIn, AreDifferent}
use Rattle.zalloc.specs.declared.BlockState.{BlockState}
use Rattle.model.specs.declared.request.Request.TheVariants.{Slice}
use Rattle.model.specs.declared.reply.Reply.TheVariants.{Count}
use Rattle.model.specs.World.{reach_of}
use Rattle.model.specs.State.{State}
use Rattle.model.specs.Numbers.{HasStates}
use Rattle.model.specs.Refusals.{refusal_of}
use Rattle.model.specs.Step.{Step}
use Rattle.model.specs.requests.Slice.{slice_size, slice_rule}
use Rattle.world.specs.Sets.{Has}
use Rattle.world.proofs.removals.Slices.{slice_settles}
use Rattle.world.proofs.steps.StateSteps.{slice_before}
use Rattle.steps.specs.Settles.{AreTakable, releases, AllAllocated}
use Rattle.steps.specs.Steady.{IsSteady}
use Rattle.steps.specs.Edits.{with_freeing, CanFree}
use Rattle.steps.proofs.numbers.Known.{states_of, of_states}
use Rattle.steps.proofs.quotas.Limits.{same_limits}
use Rattle.steps.proofs.quotas.Unlimited.{still_swept, same_known, same_origins}
use Rattle.steps.proofs.numbers.Ruled.{done_by}
use Rattle.steps.proofs.numbers.Settling as settling

module _ (s : State) (steady : IsSteady s) where
  -- less is to be freed, and nothing else changes
  pub freeing_steady : (taken : BlockSet) → IsSteady (with_freeing s (difference s.now.freeing taken))
  freeing_steady taken = record {
    good = slice_before s steady.good taken;
    swept = still_swept s (with_freeing s (difference s.now.freeing taken)) steady refl (same_known s.now.file_systems) (same_origins s.now.file_systems);
    limits = same_limits s (with_freeing s (difference s.now.freeing taken)) steady (slice_before s steady.good taken) refl refl;
  }

  -- blocks that are to be freed, each once
  pub can_free : (ts : List Block) → AreDifferent ts → ((b : Block) → IsIn ts b → Has s.now.freeing b) → CanFree s (difference s.now.freeing (from_list ts)) ts
  can_free ts once inside = record {
    steady = freeing_steady (from_list ts);
    settling = slice_settles s.size s.now s.last steady.good.now steady.good.pair ts once inside;
  }

-- the states of the numbers, once they are released
module _ (s : State) (steady : IsSteady s) (numbers : List BlockState) (known : HasStates s numbers) (rest : BlockSet) (released : List Block)
    (can : CanFree s rest released) where
  none_taken : AreTakable numbers s.last.group released []
  none_taken n i = absurd i

  pub free_them : AllAllocated s.last.group numbers released
  free_them = settling.release_them (reach_of s.now) (reach_of (with_freeing s rest).now) (reach_of s.last) s.last.group s.now.group s.size steady.good.pair.reached released [] can.settling
      numbers (states_of s numbers known) none_taken

  pub freed_states : HasStates (with_freeing s rest) (releases s.last.group numbers released)
  freed_states = of_states (with_freeing s rest) (releases s.last.group numbers released)
      (settling.settled (reach_of s.now) (reach_of (with_freeing s rest).now) (reach_of s.last) s.last.group s.now.group s.size steady.good.pair.reached released [] can.settling
      numbers (states_of s numbers known) none_taken)

-- ---- steps

module _ (s : State) (count : ℕ) where
  -- nothing refuses it
  row_is : refusal_of s (slice_rule count) ≡ None
  unfolding refusal_of
  row_is = refl

  -- it takes any of what is to be freed, as many as it asks for or all
  pub slice_done : IsSteady s → (taken : BlockSet) → IsTrue (set.is_subset taken s.now.freeing) → set.len taken ≡ slice_size s count
      → Step s (Slice count) (Count (slice_size s count)) (with_freeing s (difference s.now.freeing taken))
  slice_done steady taken within size_is = done_by (Slice count) (slice_rule count) (None, refl, refl) s (record { number = λ _. 0; taken = taken })
      (with_freeing s (difference s.now.freeing taken)) (Count (slice_size s count)) refl
      (rw within (eq-eqb (set.len taken) (slice_size s count) size_is)) row_is refl refl (freeing_steady s steady taken)

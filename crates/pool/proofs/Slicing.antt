-- A slice that was taken out of what is to be freed: its blocks can be released, and that is a step.
use Rattle.std.proofs.Common.{◌≡◌, ℕ, List, sym, subst, ◌∙◌, map, length}
use Rattle.std.specs.Prelude.{IsTrue, min}
use Rattle.std.specs.FinSet as set
use Rattle.std.specs.FinSet.{difference, contains-is_subset}
use Rattle.std.proofs.lemmas.List.{length-map}
use Rattle.base.specs.declared.number.Dead.{Dead}
use Rattle.base.specs.Map.{BlockSet}
use Rattle.base.specs.Surveys.{AreDifferent, dead_block}
use Rattle.zalloc.specs.declared.BlockState.{BlockState}
use Rattle.model.specs.declared.request.Request.TheVariants.{Slice as ToSlice}
use Rattle.model.specs.declared.reply.Reply.TheVariants.{Count}
use Rattle.model.specs.State.{State}
use Rattle.model.specs.Step.{Step}
use Rattle.world.specs.Sets.{IsSubset}
use Rattle.world.specs.Blocks.{block_order as o}
use Rattle.world.proofs.lists.Lists.{in_listed}
use Rattle.snap.specs.Members.{dead_blocks, dead_set}
use Rattle.steps.specs.Edits.{with_freeing, CanFree}
use Rattle.steps.specs.Settles.{AllAllocated}
use Rattle.steps.proofs.requests.Slicing.{can_free, slice_done, free_them}
use Rattle.steps.proofs.numbers.Surveys.{len-from_list}
use Rattle.model.specs.requests.Slice.{slice_size}
use Rattle.pool.specs.Pools.{IsSound}

module _ (s : State) (numbers : List BlockState) (sound : IsSound s numbers) (rest : BlockSet) (taken : List Dead) (once : AreDifferent (dead_blocks taken)) (within : IsSubset (dead_set taken) s.now.freeing)
    (is : rest ≡ difference s.now.freeing (dead_set taken)) where
  pub slice_can : CanFree s rest (map dead_block taken)
  slice_can = subst (λ r. CanFree s r (map dead_block taken)) (sym is) (can_free s sound.steady (dead_blocks taken) once (λ b i. within b (in_listed o (dead_blocks taken) b i)))

  pub slice_may : AllAllocated s.last.group numbers (map dead_block taken)
  slice_may = free_them s sound.steady numbers sound.states rest _ slice_can

  subset : IsTrue (set.is_subset (dead_set taken) s.now.freeing)
  subset = contains-is_subset o.total (dead_set taken) s.now.freeing within

  pub slice_step : (count : ℕ) → length taken ≡ min count (set.len s.now.freeing) → Step s (ToSlice count) (Count (length taken)) (with_freeing s rest)
  slice_step count counted =
      subst (λ k. Step s (ToSlice count) (Count k) (with_freeing s rest)) (sym counted)
      (subst (λ r. Step s (ToSlice count) (Count (slice_size s count)) (with_freeing s r)) (sym is)
      (slice_done s count sound.steady (dead_set taken) subset (len-from_list (dead_blocks taken) once ∙ length-map taken dead_block ∙ counted)))

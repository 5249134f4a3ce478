-- The numbers so far are Free.
use Rattle.std.proofs.Common.{◌≡◌, ℕ, ◌<◌, Some}
use Rattle.std.specs.Prelude.{slice_get}
use Rattle.base.specs.declared.number.BlockNo.{BlockNo}
use Rattle.zalloc.specs.declared.BlockState.TheVariants.{Free}
use Rattle.tree_rows.proofs.rig.are_free.Given as goal

abbrev pub invariant-loop-number : goal.invariant-loop-number
invariant-loop-number l = (i : ℕ) (b : BlockNo) → i < l.number-index → slice_get l.numbers i ≡ Some b → slice_get l.allocator b.0 ≡ Some Free

-- the blocks so far may be written
use Rattle.std.proofs.Common.{◌≡◌, ℕ, ◌<◌, List, Some}
use Rattle.std.specs.Prelude.{slice_get}
use Rattle.base.specs.declared.number.BlockNo.{BlockNo}
use Rattle.image.specs.Image.{IsOpen}
use Rattle.layers_tests.proofs.images.trees.are_open.Given as goal

abbrev pub invariant-loop-block : goal.invariant-loop-block
invariant-loop-block l = (i : ℕ) (b : BlockNo × List ℕ) → i < l.block-index → slice_get l.blocks i ≡ Some b → IsOpen l.image.kept b.0.0

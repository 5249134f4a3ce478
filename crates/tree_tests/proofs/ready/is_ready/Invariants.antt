-- The blocks so far stand.
use Rattle.std.proofs.Common.{◌≡◌, ℕ, ◌<◌, Some}
use Rattle.std.specs.Prelude.{slice_get}
use Rattle.base.specs.declared.number.Dead.{Dead}
use Rattle.tree_tests.proofs.Standing.{IsStanding}
use Rattle.tree_tests.proofs.ready.is_ready.Given as goal

abbrev pub invariant-loop-block : goal.invariant-loop-block
invariant-loop-block l = (i : ℕ) (d : Dead) → i < l.block-index → slice_get l.block-items i ≡ Some d → IsStanding l.group.0 l.allocator d

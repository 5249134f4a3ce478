use Rattle.std.proofs.Common.{◌≡◌, length}
use Rattle.layers_tests.proofs.images.moments.synced.Given as goal

abbrev pub invariant-loop-number : goal.invariant-loop-number
invariant-loop-number g l = length l.states ≡ 1000

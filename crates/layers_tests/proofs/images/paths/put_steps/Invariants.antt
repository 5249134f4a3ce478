use Rattle.std.proofs.Common.{◌≡◌}
use Rattle.layers_tests.proofs.images.paths.put_steps.Given as goal

abbrev pub invariant-loop-step : goal.invariant-loop-step
invariant-loop-step l = l.image.kept ≡ l.fn.image.kept

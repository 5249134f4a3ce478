use Rattle.layers_tests.proofs.Splits.{AreSplit}
use Rattle.layers_tests.proofs.images.moved.is_moved.Given as goal

abbrev pub invariant-loop-level : goal.invariant-loop-level
invariant-loop-level l = AreSplit l.image.kept l.before l.after l.level

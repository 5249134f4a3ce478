use Rattle.deadlist.specs.Left.{left}
use Rattle.layers_tests.specs.Rising.{AreRising}
use Rattle.layers_tests.proofs.slices.are_rising.Given as goal

abbrev pub invariant-loop-dead : goal.invariant-loop-dead
invariant-loop-dead l = AreRising l.cut l.low l.least (left l.dead-iterator) → AreRising l.cut l.low 0 l.list.entries

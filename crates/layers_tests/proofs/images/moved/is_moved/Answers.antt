use Rattle.std.proofs.Common.{arith}
use Rattle.layers_tests.proofs.Splits.{split_open, split_apart}
use Rattle.layers_tests.proofs.images.moved.is_moved.Goals as goal

pub returns-clause-open : goal.returns-clause-open
returns-clause-open c = λ _. split_open c.args.image.now.kept c.args.before.now c.args.after.now c.loop-level.level c.loop-level.invariant (omega (arith, c.loop-level-test.false))

pub returns-clause-apart : goal.returns-clause-apart
returns-clause-apart c = λ _. split_apart c.args.image.now.kept c.args.before.now c.args.after.now c.loop-level.level c.loop-level.invariant (omega (arith, c.loop-level-test.false))

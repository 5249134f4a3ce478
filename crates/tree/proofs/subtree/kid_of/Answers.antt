use Rattle.std.proofs.Common.{arith}
use Rattle.tree.proofs.Branches.{small_index}
use Rattle.tree.proofs.subtree.kid_of.Goals as goal

pub overflow_mul-result : goal.overflow_mul-result
overflow_mul-result g c =
    let s = small_index c.args.key.level c.args.key.index (omega (arith, c.requires.level)) c.requires.key.level c.requires.key.index in
    omega (arith, s)

pub overflow_add-result : goal.overflow_add-result
overflow_add-result g c =
    let s = small_index c.args.key.level c.args.key.index (omega (arith, c.requires.level)) c.requires.key.level c.requires.key.index in
    omega (arith, s)

use Rattle.std.proofs.Common.{◌<◌, ◌^◌, subst, arith}
use Rattle.pool.specs.Pools.{state_in}
use Rattle.pool.proofs.Imaged.{unwritten}
use Rattle.pool.proofs.pool.Pool.take.Goals as goal

pub returns-in-Question-clause-writes : goal.returns-in-Question-clause-writes
returns-in-Question-clause-writes c =
    let s = state_in c.self.inside.keep c.self.inside.present in
    let low : s.now.group < 2 ^ 64 = subst (λ n. n < 2 ^ 64) c.group-group.ensures (omega arith) in
    rw (← c.self.view_is) (unwritten s c.self.inside.keep.numbers.present c.self.invariant.sound low c.self.inside.keep.image c.self.invariant.image _ _ _)

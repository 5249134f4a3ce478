use Rattle.std.proofs.Common.{arith}
use Rattle.deadlist.proofs.Places.{pile_at_read, pile_at_past}
use Rattle.deadlist.proofs.Steps.{steps_read}
use Rattle.deadlist.proofs.parts.Parts.pile.Goals as goal

pub returns-then-at-len-clause-entries : goal.returns-then-at-len-clause-entries
returns-then-at-len-clause-entries c =
    let s = c.args.self.now in
    pile_at_read s.closed.items c.args.at c.index.result.now s.last.entries (omega arith) c.index.ensures

pub returns-then-at-len-clause-steps : goal.returns-then-at-len-clause-steps
returns-then-at-len-clause-steps c =
    let s = c.args.self.now in
    let k = steps_read s.closed.items c.args.at c.index.result.now (omega arith) c.index.ensures in
    omega (arith, k)

pub returns-else-at-len-clause-entries : goal.returns-else-at-len-clause-entries
returns-else-at-len-clause-entries c =
    let s = c.args.self.now in
    pile_at_past s.closed.items c.args.at s.last.entries (omega arith)

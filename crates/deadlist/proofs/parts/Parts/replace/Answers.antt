use Rattle.std.proofs.Common.{arith, ap}
use Rattle.deadlist.proofs.Places.{pile_at_read, pile_at_past, with_pile_is, with_pile_past, last_with_in, last_with_past}
use Rattle.deadlist.specs.declared.parts.Segment.{Segment}
use Rattle.deadlist.specs.Piled.{Piled}
use Rattle.deadlist.proofs.Steps.{steps_set}
use Rattle.deadlist.proofs.parts.Parts.replace.Goals as goal

pub returns-then-at-len-clause-closed : goal.returns-then-at-len-clause-closed
returns-then-at-len-clause-closed c =
    let h = with_pile_is c.args.self.now.closed.items c.args.at c.index_mut-segment.result.now c.args.pile (omega arith) c.index_mut-segment.ensures.value in
    cc

pub returns-then-at-len-clause-last : goal.returns-then-at-len-clause-last
returns-then-at-len-clause-last c =
    let s = c.args.self.now in
    last_with_in s.closed.items c.args.at s.last.entries c.args.pile.entries (omega arith)

pub returns-then-at-len-clause-old : goal.returns-then-at-len-clause-old
returns-then-at-len-clause-old c =
    let h = pile_at_read c.args.self.now.closed.items c.args.at c.index_mut-segment.result.now c.args.self.now.last.entries (omega arith) c.index_mut-segment.ensures.value in
    cc

pub returns-clause-closed : goal.returns-clause-closed
returns-clause-closed c = with_pile_past c.args.self.now.closed.items c.args.at c.args.pile.entries (omega arith)

pub returns-clause-last : goal.returns-clause-last
returns-clause-last c =
    let h = last_with_past c.args.self.now.closed.items c.args.at c.args.self.now.last.entries c.args.pile.entries (omega arith) in
    cc

pub returns-clause-old : goal.returns-clause-old
returns-clause-old c =
    let h = pile_at_past c.args.self.now.closed.items c.args.at c.args.self.now.last.entries (omega arith) in
    cc

pub returns-then-at-len-clause-steps : goal.returns-then-at-len-clause-steps
returns-then-at-len-clause-steps c =
    let xs = c.args.self.now.closed.items in
    let x : Segment = record { upper = c.index_mut-segment.result.now.upper; pile = c.replace.new.dest } in
    let k = steps_set xs c.args.at x (omega arith) in
    let same = ap (λ (p : Piled). p.steps) c.replace.ensures.after in
    omega (arith, k, same)

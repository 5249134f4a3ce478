use Rattle.std.proofs.Common.{◌≡◌, ◌++◌, length, refl, ap, arith}
use Rattle.deadlist.specs.Spans.{spans}
use Rattle.deadlist.specs.Segments.{AreCut, entries_of, most_steps}
use Rattle.deadlist.proofs.deadlist.Deadlist.new.Goals as goal

pub invariant_of-result : goal.invariant_of-result
invariant_of-result c =
    let cut : AreCut 0 (spans c.new.result.closed.items) c.new.result.last.entries = rw (c.new.ensures.closed, c.new.ensures.last) tt in
    let none : 0 ≡ length (entries_of c.new.result ++ c.new-2.result.items) = rw (c.new.ensures.closed, c.new.ensures.last, c.new-2.ensures.items) refl in
    (cut, none, rw (c.new.ensures.closed, c.new.ensures.last, c.new-2.ensures.items) tt, rw (c.new.ensures.closed, c.new.ensures.last, c.new-2.ensures.items) tt)

pub returns-clause-steps : goal.returns-clause-steps
returns-clause-steps c =
    let none : most_steps c.new.result.closed.items ≡ 0 = ap most_steps c.new.ensures.closed in
    omega (arith, none, c.new.ensures.steps)

pub returns-clause-waiting : goal.returns-clause-waiting
returns-clause-waiting c = ap length c.new-2.ensures.items

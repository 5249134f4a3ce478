use Rattle.std.proofs.Common.{arith, nat_le}
use Rattle.std.proofs.lemmas.List.{length-drop, length-map}
use Rattle.deadlist.specs.Spans.{span_of, spans}
use Rattle.deadlist.specs.Segments.{ended}
use Rattle.deadlist.proofs.Places.{front_within}
use Rattle.deadlist.proofs.Counts.{after_cuts}
use Rattle.deadlist.proofs.parts.Parts.reached_after.Goals as goal

pub overflow_sub-result : goal.overflow_sub-result
overflow_sub-result c =
    let s = c.args.self.now in
    let le = front_within (λ u. nat_le u c.args.cut) s.closed.items in
    omega (arith, le, c.upto.ensures, c.len.ensures, s.closed.ok.0)

pub returns : goal.returns
returns c =
    let s = c.args.self.now in
    let n = after_cuts (spans s.closed.items) c.args.cut s.last.entries c.requires in
    let l = length-drop (ended c.args.cut (spans s.closed.items)) (spans s.closed.items) in
    let own = length-map s.closed.items span_of in
    omega (arith, n, l, own, c.upto.ensures, c.len.ensures, s.closed.ok.0)

use Rattle.std.proofs.Common.{add-one, length, ap, arith}
use Rattle.std.proofs.lemmas.List.{length-map}
use Rattle.deadlist.specs.Spans.{span_of, spans}
use Rattle.deadlist.specs.Held.{Held}
use Rattle.deadlist.specs.Segments.{upper_of}
use Rattle.deadlist.proofs.Places.{uppers_strict}
use Rattle.deadlist.proofs.deadlist.Deadlist.segments.Goals as goal

pub returns-clause-rising : goal.returns-clause-rising
returns-clause-rising c =
    let p = c.self.inside.parts in
    rw (← c.self.view_is) (λ k. rw add-one (λ h. uppers_strict (spans p.closed.items) 0 p.last.entries c.self.invariant.0 k h))

pub returns-clause-count : goal.returns-clause-count
returns-clause-count c =
    let closed = c.self.inside.parts.closed in
    let cuts = ap (λ (h : Held). length h.cuts) c.self.view_is in
    omega (arith, c.len.ensures, closed.ok.0, length-map (spans closed.items) upper_of, length-map closed.items span_of, cuts)

use Rattle.std.proofs.Common.{length, length-append, arith, ap, sym, ◌∙◌}
use Rattle.std.proofs.lemmas.Bool.{false≢true}
use Rattle.deadlist.specs.Held.{Held}
use Rattle.deadlist.specs.Piled.{Piled}
use Rattle.deadlist.specs.Segments.{entries_of, most_steps}
use Rattle.deadlist.specs.Spans.{spans}
use Rattle.deadlist.proofs.Counts.{has_cut_any}
use Rattle.deadlist.proofs.Meters.{counted_none, counted_standing}
use Rattle.deadlist.proofs.deadlist.Deadlist.join.Goals as goal
use Rattle.deadlist.proofs.deadlist.Deadlist.join.Goals.{then-stands, else-stands}

pub returns-in_err-join-clause-meter : goal.returns-in_err-join-clause-meter
returns-in_err-join-clause-meter c =
    let p = c.self.inside.parts in
    let e = c.count-before.ensures in
    let small = c.count-before.type_inv in
    let old = c.args.meter.now in
    let none = counted_none old (omega (arith, e, small)) in
    rw (← c.self.view_is) (counted_standing (spans p.closed.items) c.args.group.0 old c.if-stands.meter 2 0 c.stands.result c.stands.ensures
    (λ t. elim c.if-stands.branch [
      | then-stands w ↦ w.meter-is ∙ w.reach.ensures.metered
      | else-stands w ↦ absurd (false≢true (sym w.if-stands.false ∙ t))
    ])
    (λ f. elim c.if-stands.branch [
      | then-stands w ↦ absurd (false≢true (sym f ∙ w.if-stands.true))
      | else-stands w ↦ w.meter-is ∙ none
    ]))

pub returns-clause-meter : goal.returns-clause-meter
returns-clause-meter c =
    let p = c.self.inside.parts in
    let e = c.count-before.ensures in
    let small = c.count-before.type_inv in
    let old = c.args.meter.now in
    let none = counted_none old (omega (arith, e, small)) in
    rw (← c.self.view_is) (counted_standing (spans p.closed.items) c.args.group.0 old c.if-stands.meter 2 0 c.stands.result c.stands.ensures
    (λ t. elim c.if-stands.branch [
      | then-stands w ↦ w.meter-is ∙ w.reach.ensures.metered
      | else-stands w ↦ absurd (false≢true (sym w.if-stands.false ∙ t))
    ])
    (λ f. elim c.if-stands.branch [
      | then-stands w ↦ absurd (false≢true (sym f ∙ w.if-stands.true))
      | else-stands w ↦ w.meter-is ∙ none
    ]))

pub returns-in_err-join-clause-absent : goal.returns-in_err-join-clause-absent
returns-in_err-join-clause-absent c =
    let p = c.self.inside.parts in
    rw (← c.self.view_is) (λ h. absurd (false≢true (c.in_err-join.ensures.absent (has_cut_any (spans p.closed.items) c.args.group.0 ∙ h))))

pub returns-in_err-join-clause-never_lower : goal.returns-in_err-join-clause-never_lower
returns-in_err-join-clause-never_lower c =
    elim c.if-stands.branch [
      | then-stands w ↦ omega (arith, w.meter-is, w.reach.ensures.never_lower)
      | else-stands w ↦ omega (arith, w.meter-is)
    ]

pub returns-clause-never_lower : goal.returns-clause-never_lower
returns-clause-never_lower c =
    elim c.if-stands.branch [
      | then-stands w ↦ omega (arith, w.meter-is, w.reach.ensures.never_lower)
      | else-stands w ↦ omega (arith, w.meter-is)
    ]

pub returns-in_err-join-clause-steps : goal.returns-in_err-join-clause-steps
returns-in_err-join-clause-steps c =
    let was = ap (λ (h : Held). h.steps) c.self.view_is in
    let closed = ap most_steps c.in_err-join.ensures.err_closed in
    let last = ap (λ (p : Piled). p.steps) c.in_err-join.ensures.err_last in
    omega (arith, was, closed, last)

pub returns-clause-steps : goal.returns-clause-steps
returns-clause-steps c =
    let was = ap (λ (h : Held). h.steps) c.self.view_is in
    let all = ap (λ (h : Held). length h.entries) c.self.view_is in
    let l = length-append (entries_of c.self.inside.parts) c.self.inside.fresh.items in
    omega (arith, was, all, l, c.in_ok-join.ensures.steps)

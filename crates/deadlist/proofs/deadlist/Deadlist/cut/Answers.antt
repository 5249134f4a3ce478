use Rattle.std.proofs.Common.{◌++◌, arith, ap, sym, ◌∙◌}
use Rattle.deadlist.specs.Piled.{Piled}
use Rattle.deadlist.specs.Spans.{spans}
use Rattle.deadlist.specs.Held.{Held}
use Rattle.deadlist.specs.Segments.{entries_of, most_steps, with_cut}
use Rattle.std.proofs.lemmas.Bool.{false≢true}
use Rattle.std.proofs.lemmas.List.Sorted.{length_permutation, IsPermutation-append_left}
use Rattle.deadlist.proofs.Counts.{has_cut_any}
use Rattle.deadlist.proofs.Orders.{born_from_permuted, born_by_permuted}
use Rattle.deadlist.proofs.Meters.{counted_none, counted_standing}
use Rattle.deadlist.proofs.deadlist.Deadlist.cut.Goals as goal
use Rattle.deadlist.proofs.deadlist.Deadlist.cut.Goals.{then-not-stands, else-not-stands}

pub returns-in_err-cut-clause-meter : goal.returns-in_err-cut-clause-meter
returns-in_err-cut-clause-meter c =
    let p = c.self.inside.parts in
    let e = c.count-before.ensures in
    let small = c.count-before.type_inv in
    let old = c.args.meter.now in
    let none = counted_none old (omega (arith, e, small)) in
    rw (← c.self.view_is) (counted_standing (spans p.closed.items) c.args.group.0 old c.if-not-stands.meter 0 1 c.stands.result c.stands.ensures
    (λ t. elim c.if-not-stands.branch [
      | then-not-stands w ↦ absurd (false≢true (sym w.if-not-stands.true ∙ t))
      | else-not-stands w ↦ w.meter-is ∙ none
    ])
    (λ f. elim c.if-not-stands.branch [
      | then-not-stands w ↦ w.meter-is ∙ w.add_one.ensures.metered
      | else-not-stands w ↦ absurd (false≢true (sym f ∙ w.if-not-stands.false))
    ]))

pub returns-clause-meter : goal.returns-clause-meter
returns-clause-meter c =
    let p = c.self.inside.parts in
    let e = c.count-before.ensures in
    let small = c.count-before.type_inv in
    let old = c.args.meter.now in
    let none = counted_none old (omega (arith, e, small)) in
    rw (← c.self.view_is) (counted_standing (spans p.closed.items) c.args.group.0 old c.if-not-stands.meter 0 1 c.stands.result c.stands.ensures
    (λ t. elim c.if-not-stands.branch [
      | then-not-stands w ↦ absurd (false≢true (sym w.if-not-stands.true ∙ t))
      | else-not-stands w ↦ w.meter-is ∙ none
    ])
    (λ f. elim c.if-not-stands.branch [
      | then-not-stands w ↦ w.meter-is ∙ w.add_one.ensures.metered
      | else-not-stands w ↦ absurd (false≢true (sym f ∙ w.if-not-stands.false))
    ]))

pub invariant_of-self-2 : goal.invariant_of-self-2
invariant_of-self-2 c =
    let s = c.self.inside in
    let old = entries_of s.parts ++ s.fresh.items in
    let new = entries_of c.cut.new.self ++ s.fresh.items in
    let perm = IsPermutation-append_left s.fresh.items (entries_of s.parts) (entries_of c.cut.new.self) c.in_ok-cut.ensures.entries in (
      c.in_ok-cut.ensures.cut,
      c.self.invariant.1 ∙ sym (length_permutation old new perm),
      born_from_permuted s.low old new c.self.invariant.2 perm,
      born_by_permuted s.high old new c.self.invariant.3 perm,
    )

pub returns-clause-entries : goal.returns-clause-entries
returns-clause-entries c =
    let es = entries_of c.self.inside.parts in
    rw (← c.self.view_is) (IsPermutation-append_left c.self.inside.fresh.items es (entries_of c.cut.new.self) c.in_ok-cut.ensures.entries)

pub returns-in_err-cut-clause-stands : goal.returns-in_err-cut-clause-stands
returns-in_err-cut-clause-stands c =
    let p = c.self.inside.parts in
    rw (← c.self.view_is) (λ h. absurd (false≢true (c.in_err-cut.ensures.stands (has_cut_any (spans p.closed.items) c.args.group.0 ∙ h))))

pub returns-clause-cuts : goal.returns-clause-cuts
returns-clause-cuts c =
    c.in_ok-cut.ensures.cuts ∙ ap (λ (h : Held). with_cut c.args.group.0 h.cuts) c.self.view_is

pub returns-in_err-cut-clause-never_lower : goal.returns-in_err-cut-clause-never_lower
returns-in_err-cut-clause-never_lower c =
    elim c.if-not-stands.branch [
      | then-not-stands w ↦ omega (arith, w.meter-is, w.add_one.ensures.never_lower)
      | else-not-stands w ↦ omega (arith, w.meter-is)
    ]

pub returns-clause-never_lower : goal.returns-clause-never_lower
returns-clause-never_lower c =
    elim c.if-not-stands.branch [
      | then-not-stands w ↦ omega (arith, w.meter-is, w.add_one.ensures.never_lower)
      | else-not-stands w ↦ omega (arith, w.meter-is)
    ]

pub returns-in_err-cut-clause-steps : goal.returns-in_err-cut-clause-steps
returns-in_err-cut-clause-steps c =
    let was = ap (λ (h : Held). h.steps) c.self.view_is in
    let closed = ap most_steps c.in_err-cut.ensures.err_closed in
    let last = ap (λ (p : Piled). p.steps) c.in_err-cut.ensures.err_last in
    omega (arith, was, closed, last)

pub returns-clause-steps : goal.returns-clause-steps
returns-clause-steps c =
    let was = ap (λ (h : Held). h.steps) c.self.view_is in
    omega (arith, was, c.in_ok-cut.ensures.steps)

use Rattle.std.proofs.Common.{◌≡◌, ◌++◌, List, arith, ap, sym, subst, ◌∙◌, length, length-append}
use Rattle.std.proofs.lemmas.List.{append_assoc}
use Rattle.base.specs.declared.number.Dead.{Dead}
use Rattle.deadlist.specs.Entries.{AreBornBy, AreBornFrom, run_entries}
use Rattle.deadlist.specs.Piled.{Piled}
use Rattle.deadlist.proofs.Births.{born_from_weaker, born_by_weaker, born_from_append, born_by_append}
use Rattle.deadlist.proofs.pile.Pile.followed.Goals as goal

pub invariant_of-result : goal.invariant_of-result
invariant_of-result c =
    let s = c.self.inside in
    let o = c.other.inside in
    let own = run_entries s.runs.items ++ s.tail.items in
    let others = run_entries o.runs.items ++ o.tail.items in
    let put : c.in_ok-tail.tail.items ≡ s.tail.items ++ others = c.in_ok-tail.ensures ∙ ap (λ (p : Piled). s.tail.items ++ p.entries) (sym c.other.view_is) in
    let is : run_entries s.runs.items ++ c.in_ok-tail.tail.items ≡ own ++ others = ap (λ (ds : List Dead). run_entries s.runs.items ++ ds) put ∙ sym (append_assoc (run_entries s.runs.items) s.tail.items others) in
    let many : length (run_entries s.runs.items ++ c.in_ok-tail.tail.items) ≡ length (own ++ others) = ap length is in
    let l = length-append own others in
    let low = c.min-low.ensures in
    let high = c.max-high.ensures in
    let was = c.self.invariant.0 in
    let other = c.other.invariant.0 in
    let more = c.in-Some.ensures.1 in (
      omega arith,
      subst (AreBornFrom c.min-low.result) (sym is) (born_from_append c.min-low.result own others (born_from_weaker s.low c.min-low.result own c.self.invariant.1 (omega arith)) (born_from_weaker o.low c.min-low.result others c.other.invariant.1 (omega arith))),
      subst (AreBornBy c.max-high.result) (sym is) (born_by_append c.max-high.result own others (born_by_weaker s.high c.max-high.result own c.self.invariant.2 (omega arith)) (born_by_weaker o.high c.max-high.result others c.other.invariant.2 (omega arith))),
    )

pub returns-clause-entries : goal.returns-clause-entries
returns-clause-entries c =
    let s = c.self.inside in
    let es = run_entries s.runs.items in
    ap (λ (ds : List Dead). es ++ ds) c.in_ok-tail.ensures
    ∙ sym (append_assoc es s.tail.items c.args.other.now.entries)
    ∙ ap (λ (p : Piled). p.entries ++ c.args.other.now.entries) c.self.view_is

pub returns-clause-steps : goal.returns-clause-steps
returns-clause-steps c =
    let s = c.self.inside in
    let is = ap (λ (p : Piled). p.steps) c.self.view_is in
    let put = ap length c.in_ok-tail.ensures in
    let l = length-append s.tail.items c.args.other.now.entries in
    omega (arith, is, put, l)

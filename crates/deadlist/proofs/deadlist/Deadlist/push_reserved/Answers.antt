use Rattle.std.proofs.Common.{◌≡◌, List, [], ◌∷◌, ◌++◌, length, arith, ap, sym, subst, ◌∙◌, length-append}
use Rattle.std.proofs.lemmas.List.{append_assoc}
use Rattle.base.specs.declared.number.Dead.{Dead}
use Rattle.deadlist.specs.Held.{Held}
use Rattle.deadlist.specs.Segments.{AreBornFrom, AreBornBy, entries_of}
use Rattle.deadlist.proofs.Births.{born_from_weaker, born_by_weaker, born_from_append, born_by_append}
use Rattle.deadlist.proofs.deadlist.Deadlist.push_reserved.Goals as goal

pub returns-clause-entries : goal.returns-clause-entries
returns-clause-entries c =
    let es = entries_of c.self.inside.parts in
    ap (λ (ds : List Dead). es ++ ds) c.push_reserved.ensures.items
    ∙ sym (append_assoc es c.self.inside.fresh.items (c.args.dead ∷ []))
    ∙ ap (λ (h : Held). h.entries ++ c.args.dead ∷ []) c.self.view_is

pub invariant_of-self : goal.invariant_of-self
invariant_of-self c =
    let s = c.self.inside in
    let d = c.args.dead in
    let es = entries_of s.parts in
    let old = es ++ s.fresh.items in
    let is : es ++ c.push_reserved.new.self.items ≡ old ++ d ∷ [] = ap (λ (ds : List Dead). es ++ ds) c.push_reserved.ensures.items ∙ sym (append_assoc es s.fresh.items (d ∷ [])) in
    let many : length (es ++ c.push_reserved.new.self.items) ≡ length (old ++ d ∷ []) = ap length is in
    let l = length-append old (d ∷ []) in
    let low = c.min-self-inside.ensures in
    let high = c.max-self-inside.ensures in
    let was = c.self.invariant.1 in (
      c.self.invariant.0,
      omega arith,
      subst (AreBornFrom c.min-self-inside.result) (sym is) (born_from_append c.min-self-inside.result old (d ∷ []) (born_from_weaker s.low c.min-self-inside.result old c.self.invariant.2 (omega arith)) (omega arith, tt)),
      subst (AreBornBy c.max-self-inside.result) (sym is) (born_by_append c.max-self-inside.result old (d ∷ []) (born_by_weaker s.high c.max-self-inside.result old c.self.invariant.3 (omega arith)) (omega arith, tt)),
    )

pub returns-clause-waiting : goal.returns-clause-waiting
returns-clause-waiting c =
    let l = length-append c.self.inside.fresh.items (c.args.dead ∷ []) in
    let put = ap length c.push_reserved.ensures.items in
    let was = ap (λ (h : Held). h.waiting) c.self.view_is in
    omega (arith, l, put, was)

pub returns-clause-steps : goal.returns-clause-steps
returns-clause-steps c = ap (λ (h : Held). h.steps) c.self.view_is

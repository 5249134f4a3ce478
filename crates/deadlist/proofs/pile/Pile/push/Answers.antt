use Rattle.std.proofs.Common.{◌≡◌, ◌++◌, ◌∷◌, [], List, arith, ap, sym, subst, ◌∙◌, length, length-append}
use Rattle.std.proofs.lemmas.List.{append_assoc}
use Rattle.base.specs.declared.number.Dead.{Dead}
use Rattle.deadlist.specs.Entries.{AreBornBy, AreBornFrom, run_entries}
use Rattle.deadlist.proofs.Births.{born_from_weaker, born_by_weaker, born_from_append, born_by_append}
use Rattle.deadlist.proofs.pile.Pile.push.Goals as goal

pub invariant_of-self-2 : goal.invariant_of-self-2
invariant_of-self-2 c =
    let s = c.self.inside in
    let d = c.args.dead in
    let es = run_entries s.runs.items in
    let old = es ++ s.tail.items in
    let is : es ++ c.push.new.self.items ≡ old ++ d ∷ [] = ap (λ (ds : List Dead). es ++ ds) c.in_ok-push.ensures.items ∙ sym (append_assoc es s.tail.items (d ∷ [])) in
    let many : length (es ++ c.push.new.self.items) ≡ length (old ++ d ∷ []) = ap length is in
    let l = length-append old (d ∷ []) in
    let low = c.min-self-inside.ensures in
    let high = c.max-self-inside.ensures in
    let was = c.self.invariant.0 in
    let more = c.in-Some.ensures.1 in (
      omega arith,
      subst (AreBornFrom c.min-self-inside.result) (sym is) (born_from_append c.min-self-inside.result old (d ∷ []) (born_from_weaker s.low c.min-self-inside.result old c.self.invariant.1 (omega arith)) (omega arith, tt)),
      subst (AreBornBy c.max-self-inside.result) (sym is) (born_by_append c.max-self-inside.result old (d ∷ []) (born_by_weaker s.high c.max-self-inside.result old c.self.invariant.2 (omega arith)) (omega arith, tt)),
    )

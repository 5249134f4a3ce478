use Rattle.std.proofs.Common.{◌≡◌, ◌+◌, ◌≤◌, ◌<◌, true, arith, ap, sym, ◌∙◌}
use Rattle.std.proofs.lemmas.Result.{IfOk-weaker}
use Rattle.deadlist.specs.Piled.{Piled}
use Rattle.deadlist.specs.Spans.{spans}
use Rattle.deadlist.specs.Segments.{ended, has_cut, pile_at, steps_of}
use Rattle.deadlist.proofs.Births.{upto_born_from, after_born_from}
use Rattle.deadlist.proofs.Stands.{stands_divided}
use Rattle.deadlist.proofs.parts.Parts.divided.Goals as goal

pub returns-then-stands-clause-entries : goal.returns-then-stands-clause-entries
returns-then-stands-clause-entries c =
    let s = c.args.self.now in
    let cut = c.args.cut in
    let stands : has_cut cut (spans s.closed.items) ≡ true = sym c.stands.ensures ∙ c.if-stands.true in
    let born = stands_divided (spans s.closed.items) 0 cut s.last.entries c.requires.cut stands in
    let lt : cut < cut + 1 = omega arith in
    let none = upto_born_from (cut + 1) cut (pile_at (spans s.closed.items) s.last.entries (ended cut (spans s.closed.items))) born lt in
    let all = after_born_from (cut + 1) cut (pile_at (spans s.closed.items) s.last.entries (ended cut (spans s.closed.items))) born lt in
    let at = c.requires.at in
    (rw at (c.new.ensures.entries ∙ sym none), rw at (ap (λ (p : Piled). p.entries) c.in_ok-copy.ensures ∙ c.pile-pile.ensures.entries ∙ ap (pile_at (spans s.closed.items) s.last.entries) at ∙ sym all))

pub returns-then-stands-clause-steps : goal.returns-then-stands-clause-steps
returns-then-stands-clause-steps c =
    let none = c.new.ensures.steps in
    let same = ap (λ (p : Piled). p.steps) c.in_ok-copy.ensures in
    let le = c.pile-pile.ensures.steps in
    (omega (arith, none), omega (arith, same, le))

pub returns-clause-steps : goal.returns-clause-steps
returns-clause-steps c =
    let le = c.pile-pile.ensures.steps in
    let most = c.pile-pile.result.now.steps in
    let all = steps_of c.args.self.now in
    IfOk-weaker c.divide.result (λ (p : Piled × Piled). (p.0.steps ≤ most) × (p.1.steps ≤ most)) (λ (p : Piled × Piled). (p.0.steps ≤ all) × (p.1.steps ≤ all)) (λ p h. (omega (arith, le, h.0), omega (arith, le, h.1))) c.divide.ensures.steps

use Rattle.std.proofs.Common.{◌≡◌, ◌++◌, [], filter, arith, ap, subst, sym, ◌∙◌}
use Rattle.deadlist.specs.Piled.{Piled}
use Rattle.deadlist.specs.Entries.{is_after, is_upto, run_entries}
use Rattle.deadlist.proofs.Births.{upto_born_by, after_born_by, upto_born_from, after_born_from}
use Rattle.deadlist.proofs.pile.Pile.divide.Goals as goal

pub returns-then-self-cut-clause-entries : goal.returns-then-self-cut-clause-entries
returns-then-self-cut-clause-entries c =
    let s = c.self.inside in
    let es = run_entries s.runs.items ++ s.tail.items in
    let all = subst (λ (p : Piled). filter (is_upto c.args.cut) p.entries ≡ p.entries) c.self.view_is (upto_born_by s.high c.args.cut es c.self.invariant.2 c.if-self-cut.true) in
    let none = subst (λ (p : Piled). filter (is_after c.args.cut) p.entries ≡ []) c.self.view_is (after_born_by s.high c.args.cut es c.self.invariant.2 c.if-self-cut.true) in
    (ap (λ (p : Piled). p.entries) c.in_ok-copy.ensures ∙ sym all, c.new.ensures.entries ∙ sym none)

pub returns-then-cut-self-clause-entries : goal.returns-then-cut-self-clause-entries
returns-then-cut-self-clause-entries c =
    let s = c.self.inside in
    let es = run_entries s.runs.items ++ s.tail.items in
    let none = subst (λ (p : Piled). filter (is_upto c.args.cut) p.entries ≡ []) c.self.view_is (upto_born_from s.low c.args.cut es c.self.invariant.1 c.if-cut-self.true) in
    let all = subst (λ (p : Piled). filter (is_after c.args.cut) p.entries ≡ p.entries) c.self.view_is (after_born_from s.low c.args.cut es c.self.invariant.1 c.if-cut-self.true) in
    (c.new-then-cut-self.ensures.entries ∙ sym none, ap (λ (p : Piled). p.entries) c.in_ok-copy-2.ensures ∙ sym all)

pub returns-then-self-cut-clause-steps : goal.returns-then-self-cut-clause-steps
returns-then-self-cut-clause-steps c =
    let same = ap (λ (p : Piled). p.steps) c.in_ok-copy.ensures in
    let none = c.new.ensures.steps in
    (omega (arith, same), omega (arith, none))

pub returns-then-cut-self-clause-steps : goal.returns-then-cut-self-clause-steps
returns-then-cut-self-clause-steps c =
    let same = ap (λ (p : Piled). p.steps) c.in_ok-copy-2.ensures in
    let none = c.new-then-cut-self.ensures.steps in
    (omega (arith, none), omega (arith, same))

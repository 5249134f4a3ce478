use Rattle.std.proofs.Common.{◌≡◌, Bool, true, false, refl, sym, ap, subst, ◌∙◌, true≢false}
use Rattle.std.specs.Prelude.{not}
use Rattle.std.proofs.lemmas.Bool.{eqb-true, eq-eqb}
use Rattle.batch.specs.Said.{said, IsIdle}
use Rattle.batch.proofs.Heard.{idle_present, idle_absent}
use Rattle.batch.proofs.SaidLaws.{idle_punches, idle_none}
use Rattle.batch.proofs.update.is_idle.Goals as goal

not_on : (b : Bool) → not b ≡ true → b ≡ false
not_on true e = absurd (true≢false (sym e))
not_on false e = refl

pub returns-then-present-clause-idle : goal.returns-then-present-clause-idle
returns-then-present-clause-idle c = λ t. idle_none c.args.updates.now c.args.present (eqb-true _ _ (sym c.is_empty.ensures ∙ t))

pub returns-else-present-clause-idle : goal.returns-else-present-clause-idle
returns-else-present-clause-idle c = λ t.
    let e = idle_punches c.args.updates.now (sym c.any_writes.ensures ∙ not_on _ t) in
    subst (λ b. IsIdle (said c.args.updates.now) b) (sym c.if-present.false) e

pub returns-then-present-clause-only : goal.returns-then-present-clause-only
returns-then-present-clause-only c = λ o h. c.is_empty.ensures ∙ eq-eqb _ _ (idle_present c.args.updates.now o (subst (λ b. IsIdle (said c.args.updates.now) b) c.if-present.true h))

pub returns-else-present-clause-only : goal.returns-else-present-clause-only
returns-else-present-clause-only c = λ o h. ap not (c.any_writes.ensures ∙ idle_absent c.args.updates.now c.args.present o h)

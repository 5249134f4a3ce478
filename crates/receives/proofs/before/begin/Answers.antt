use Rattle.std.proofs.Common.{sym, subst, ◌∙◌}
use Rattle.std.specs.Prelude.{IfOk}
use Rattle.base.specs.declared.name.member.Member.{Member}
use Rattle.removals.specs.declared.working_copy.WorkingCopy.{WorkingCopy}
use Rattle.receives.specs.Ends.{CanFinish}
use Rattle.receives.proofs.Ready.{ready, ready_after}
use Rattle.receives.proofs.before.begin.Goals as goal

pub returns-clause-ready : goal.returns-clause-ready
returns-clause-ready c =
    let t = c.args.table.now in
    let m = c.member-name.result.now in
    subst (λ (n : Member). IfOk c.start.result (λ (e : WorkingCopy). CanFinish e.to n)) c.member-name.ensures.value
    (ready_after c.start.result _ m c.start.ensures.ok (ready t c.facts.ensures.good c.args.views.now.opened m c.args.stream.now c.args.mode.now (sym c.receive_refusal.ensures ∙ c.in_default.is)))

pub start-requires-clause-can : goal.start-requires-clause-can
start-requires-clause-can c = (c.args.views.now.opened, sym c.receive_refusal.ensures ∙ c.in_default.is)

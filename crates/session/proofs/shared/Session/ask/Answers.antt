use Rattle.std.proofs.Common.{rules, ap, subst}
use Rattle.std.specs.Prelude.{IfOk}
use Rattle.model.specs.declared.request.Request.{Request}
use Rattle.session.specs.Asked.{Asked}
use Rattle.session.specs.Entering.{Ran}
use Rattle.session.proofs.shared.Session.ask.Goals as goal

pub returns-clause-ok : goal.returns-clause-ok
returns-clause-ok g c =
    subst (λ (q : Request). IfOk c.enter_call.result (λ r. Ran c.args.seat.now q r.receipt c.enter_call.new.seat)) (ap (λ (a : Asked). a.request) c.in_ok-call.ensures.ok) c.enter_call.ensures.ran

pub returns-clause-there : goal.returns-clause-there
returns-clause-there g c = c.enter_call.ensures.there

pub returns-clause-err : goal.returns-clause-err
returns-clause-err g c = search rules

pub returns-clause-refusal : goal.returns-clause-refusal
returns-clause-refusal g c = c.enter_call.ensures.refusal

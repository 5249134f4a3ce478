use Rattle.std.proofs.Common.{◌≡◌, ◌≢◌, sym, subst}
use Rattle.model.specs.declared.request.Request.TheVariants.{CloseView}
use Rattle.model.specs.declared.reply.Reply.TheVariants.{Done}
use Rattle.session.specs.Entering.{Ran}
use Rattle.session.specs.Receipts.{Kept, Placed}
use Rattle.session.specs.Views.{Viewed}
use Rattle.session.specs.ViewCalls.{HasClosed, IsClosedBy}
use Rattle.session.specs.declared.view.ClosedView.{ClosedView}
use Rattle.session.specs.declared.view.ClosedView.TheVariants.{Closed, Refused, NotRun}
use Rattle.session.proofs.There.{closed_there}
use Rattle.session.proofs.shared.Session.close_view.Goals as goal

-- what a request that ran came to, once it is told apart
told : {K : Type 0} (view : Viewed) (seat after : Kept) (r : Placed) (o : ClosedView K) → Ran seat (CloseView view.number) r after → IsClosedBy r view o → HasClosed seat view o after
told view seat after r (Closed own) ran (is, done) =
    (subst (λ (x : Placed). Ran seat (CloseView view.number) x after) (sym is) ran, subst (λ (x : Placed). x.entry.reply ≡ Done) (sym is) done)
told view seat after r (Refused own v) ran (is, not_done, same) =
    (subst (λ (x : Placed). Ran seat (CloseView view.number) x after) (sym is) ran, subst (λ (x : Placed). x.entry.reply ≢ Done) (sym is) not_done, same)
told view seat after r (NotRun e v) ran never = elim never [ ]

pub returns-in-Ok-clause-closed : goal.returns-in-Ok-clause-closed
returns-in-Ok-clause-closed g c =
    told c.args.view c.args.seat.now c.ask.new.seat c.in-Ok.field-0.receipt c.closed.result
    (subst (λ n. Ran c.args.seat.now (CloseView n) c.in-Ok.field-0.receipt c.ask.new.seat) c.number-number.ensures c.in-Ok.ensures.ok) c.closed.ensures

pub returns-in-Ok-clause-there : goal.returns-in-Ok-clause-there
returns-in-Ok-clause-there g c = closed_there g.K.Opening.opening c.in-Ok.field-0.receipt c.args.view c.closed.result c.closed.ensures c.in-Ok.ensures.there

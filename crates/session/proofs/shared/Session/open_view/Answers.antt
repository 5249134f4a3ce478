use Rattle.std.proofs.Common.{◌≡◌, ◌∙◌, sym, ap, subst, false}
use Rattle.base.specs.declared.name.target.Target.{Target}
use Rattle.model.specs.declared.request.Request.TheVariants.{OpenView}
use Rattle.model.specs.declared.reply.Reply.TheVariants.{Opened as TheOpened}
use Rattle.session.specs.Entering.{Ran}
use Rattle.session.specs.Entered.{is_opened}
use Rattle.session.specs.Receipts.{Kept, Placed}
use Rattle.session.specs.Views.{opened_name}
use Rattle.session.specs.ViewCalls.{HasOpened, IsOpenedBy}
use Rattle.session.specs.declared.view.OpenedView.{OpenedView}
use Rattle.session.specs.declared.view.OpenedView.TheVariants.{Opened, Refused}
use Rattle.session.proofs.There.{opened_there}
use Rattle.session.proofs.shared.Session.open_view.Goals as goal

-- what a request that ran came to, once it is told apart
told : {K : Type 0} (target : Target) (seat after : Kept) (r : Placed) (o : OpenedView K) → Ran seat (OpenView target) r after → IsOpenedBy r o → HasOpened target seat o after
told target seat after r (Opened v own) ran (is, shown, named) = (
  subst (λ (x : Placed). Ran seat (OpenView target) x after) (sym is) ran,
  subst (λ (x : Placed). x.entry.reply ≡ TheOpened v.number v.sight) (sym is) shown,
  named ∙ ap opened_name ran.1,
)
told target seat after r (Refused own) ran (is, none) = (
  subst (λ (x : Placed). Ran seat (OpenView target) x after) (sym is) ran,
  subst (λ (x : Placed). is_opened x.entry.reply ≡ false) (sym is) none,
)

pub returns-clause-ok : goal.returns-clause-ok
returns-clause-ok g c =
    told c.args.target c.args.seat.now c.ask.new.seat c.in_ok-receipt.field-0.receipt c.opened.result c.in_ok-receipt.ensures.ok c.opened.ensures

pub returns-clause-there : goal.returns-clause-there
returns-clause-there g c = opened_there g.K.Opening.opening c.in_ok-receipt.field-0.receipt c.opened.result c.opened.ensures c.in_ok-receipt.ensures.there

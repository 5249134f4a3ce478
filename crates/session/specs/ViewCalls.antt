-- What the calls on views give.
use Rattle.std.specs.Prelude.{◌≡◌, ◌≢◌, Bool, true, false, Option, None, Some}
use Rattle.base.specs.declared.name.target.Target.{Target}
use Rattle.model.specs.declared.request.Request.{Request}
use Rattle.model.specs.declared.request.Request.TheVariants.{OpenView, CloseView}
use Rattle.model.specs.declared.reply.Reply.TheVariants.{Opened as TheOpened, Done}
use Rattle.session.specs.Entering.{Ran, IsFullOrNoMemory}
use Rattle.session.specs.Entered.{is_opened}
use Rattle.session.specs.Receipts.{Kept, Placed}
use Rattle.session.specs.Views.{Viewed, opened_name}
use Rattle.session.specs.declared.view.OpenedView.{OpenedView}
use Rattle.session.specs.declared.view.OpenedView.TheVariants.{Opened, Refused}
use Rattle.session.specs.declared.view.ClosedView.{ClosedView}
use Rattle.session.specs.declared.view.ClosedView.TheVariants as closed

-- the request opens or closes a view (profile)
abbrev pub is_of_views : Request → Bool
is_of_views (OpenView target) = true
is_of_views (CloseView view) = true
is_of_views request = false

-- the receipt of a request that opened a view or was refused (profile)
abbrev pub opening_receipt : {K : Type 0} → OpenedView K → Placed
opening_receipt (Opened v r) = r
opening_receipt (Refused r) = r

-- the receipt of a request that closed a view or was refused, and none where nothing ran (profile)
abbrev pub closing_receipt : {K : Type 0} → ClosedView K → Option Placed
closing_receipt (closed.Closed r) = Some r
closing_receipt (closed.Refused r v) = Some r
closing_receipt (closed.NotRun e v) = None

-- the view is of the name that the request says and shows what the reply says; or the reply opened none (profile)
abbrev pub IsOpenedBy : {K : Type 0} → Placed → OpenedView K → Type 0
IsOpenedBy r (Opened v own) = (own ≡ r) × (r.entry.reply ≡ TheOpened v.number v.sight) × (v.target ≡ opened_name r.entry.request)
IsOpenedBy r (Refused own) = (own ≡ r) × (is_opened r.entry.reply ≡ false)

-- the request ran, and the view is that of its name, with the number and what is shown of its reply; or the reply opened none (profile)
abbrev pub HasOpened : {K : Type 0} → Target → Kept → OpenedView K → Kept → Type 0
HasOpened target seat (Opened v r) after = Ran seat (OpenView target) r after × (r.entry.reply ≡ TheOpened v.number v.sight) × (v.target ≡ target)
HasOpened target seat (Refused r) after = Ran seat (OpenView target) r after × (is_opened r.entry.reply ≡ false)

-- the view is spent where the reply is Done, and else handed back (profile)
abbrev pub IsClosedBy : {K : Type 0} → Placed → Viewed → ClosedView K → Type 0
IsClosedBy r view (closed.Closed own) = (own ≡ r) × (r.entry.reply ≡ Done)
IsClosedBy r view (closed.Refused own v) = (own ≡ r) × (r.entry.reply ≢ Done) × (v ≡ view)
IsClosedBy r view (closed.NotRun e v) = ⊥

-- the view is spent where the pool closed it; else it is handed back, whether the request ran and was refused or didn't run (profile)
abbrev pub HasClosed : {K : Type 0} → Kept → Viewed → ClosedView K → Kept → Type 0
HasClosed seat view (closed.Closed r) after = Ran seat (CloseView view.number) r after × (r.entry.reply ≡ Done)
HasClosed seat view (closed.Refused r v) after = Ran seat (CloseView view.number) r after × (r.entry.reply ≢ Done) × (v ≡ view)
HasClosed seat view (closed.NotRun e v) after = (after ≡ seat) × (v ≡ view) × IsFullOrNoMemory e

-- The place of a call in a history that its caller can't read yet.
use Rattle.std.proofs.Common.{◌≡◌, ◌++◌, ◌∷◌, [], ℕ, List, length, map, sym, refl, ap, subst, arith}
use Rattle.std.specs.Prelude.{IfSome}
use Rattle.std.proofs.lemmas.List.{map-append, append-nil}
use Rattle.model.specs.State.{State}
use Rattle.model.specs.Step.{Step}
use Rattle.model.specs.declared.entry.Entry.{Entry}
use Rattle.model.specs.declared.request.Request.{Request}
use Rattle.session.specs.History.{IsLegal, IsLedTo, IsStepThere, IsRunThere}
use Rattle.session.specs.Receipts.{Placed, Kept}
use Rattle.session.specs.Calls.{IsBatch}
use Rattle.session.specs.Views.{Viewed}
use Rattle.session.specs.ViewCalls.{IsOpenedBy, IsClosedBy, opening_receipt, closing_receipt}
use Rattle.session.specs.declared.view.OpenedView.{OpenedView}
use Rattle.session.specs.declared.view.OpenedView.TheVariants.{Opened, Refused}
use Rattle.session.specs.declared.view.ClosedView.{ClosedView}
use Rattle.session.specs.declared.view.ClosedView.TheVariants as closed
use Rattle.session.proofs.Alls.{all_none}
use Rattle.session.proofs.Legal.{legal_more}

abbrev pub entry_in : Placed → Entry
entry_in r = r.entry

-- the history that is there, as one of its length
led_to : (opening s : State) (history : List Entry) (n : ℕ) → IsLegal opening history s → n ≡ length history → IsLedTo opening n s
led_to opening s history n legal number = record { history = history; counted = sym number; legal = legal }

-- a step from the state of the history that is there
pub step_there : (opening s u : State) (history : List Entry) (q : Request) (r : Placed) → IsLegal opening history s → r.number ≡ length history → r.entry.request ≡ q
    → Step s q r.entry.reply u → IsStepThere opening r
step_there opening s u history q r legal number asked step =
    record { before = s; after = u; led = led_to opening s history r.number legal number; step = subst (λ x. Step s x r.entry.reply u) (sym asked) step }

-- and a run from it
pub run_there : (opening s u : State) (history : List Entry) (n : ℕ) (rs : List Placed) → IsLegal opening history s → n ≡ length history
    → IsLegal s (map entry_in rs) u → IsRunThere opening n rs
run_there opening s u history n rs legal number run = record { before = s; after = u; led = led_to opening s history n legal number; run = run }

-- and the run of a batch, whose first request was entered by itself
pub batch_there : (opening s t w u : State) (history : List Entry) (q : Request) (r : Placed) (rs : List Placed) → IsLegal opening history s → r.number ≡ length history
    → r.entry.request ≡ q → Step s q r.entry.reply t → w ≡ t → (Step s r.entry.request r.entry.reply w → IsLegal s (map entry_in rs) u) → IsRunThere opening r.number rs
batch_there opening s t w u history q r rs legal number asked step same ran =
    let first : Step s r.entry.request r.entry.reply w = subst (λ x. Step s r.entry.request r.entry.reply x) (sym same) (subst (λ x. Step s x r.entry.reply t) (sym asked) step) in
    run_there opening s u history r.number rs legal number (ran first)

-- of no requests
none_there : (opening : State) → IsRunThere opening 0 []
none_there opening = record { before = opening; after = opening; led = record { history = []; counted = refl; legal = refl }; run = refl }

-- the first of a run, and one more
pub first_ran : (s u : State) (r : Placed) → Step s r.entry.request r.entry.reply u → IsLegal s (map entry_in (r ∷ [])) u
first_ran s u r step = (u, step, refl)

pub more_ran : (s t u : State) (rs : List Placed) (r : Placed) → IsLegal s (map entry_in rs) t → Step t r.entry.request r.entry.reply u → IsLegal s (map entry_in (rs ++ r ∷ [])) u
more_ran s t u rs r run step =
    subst (λ es. IsLegal s es u) (sym (map-append entry_in rs (r ∷ []))) (legal_more s t u (map entry_in rs) r.entry run step)

-- a batch of no requests
pub empty_batch : (opening : State) (limit : ℕ) (seat : Kept) (requests : List Request) (rs : List Placed) → length requests ≡ 0 → rs ≡ [] → IsBatch opening limit seat requests rs seat
empty_batch opening limit seat requests rs none empty =
    subst (λ xs. IsBatch opening limit seat requests xs seat) (sym empty)
    (record {
      added = record { kept = ap (λ xs. record { number = seat.number; receipts = xs }) (sym (append-nil seat.receipts)); seated = all_none (λ (r : Placed). r.entry.seat ≡ seat.number) };
      requested = refl;
      first = 0;
      follow = tt;
      ran = none_there opening;
      fits = omega (arith, none);
    })

-- ---- views

-- the receipt of what opened a view or none is the request's
pub opened_there : {K : Type 0} (opening : State) (r : Placed) (o : OpenedView K) → IsOpenedBy r o → IsStepThere opening r → IsStepThere opening (opening_receipt o)
opened_there opening r (Opened v own) is there = subst (IsStepThere opening) (sym is.0) there
opened_there opening r (Refused own) is there = subst (IsStepThere opening) (sym is.0) there

-- and so is that of what closed one or not
pub closed_there : {K : Type 0} (opening : State) (r : Placed) (view : Viewed) (o : ClosedView K) → IsClosedBy r view o → IsStepThere opening r
    → IfSome (closing_receipt o) (λ x. IsStepThere opening x)
closed_there opening r view (closed.Closed own) is there = subst (IsStepThere opening) (sym is.0) there
closed_there opening r view (closed.Refused own v) is there = subst (IsStepThere opening) (sym is.0) there
closed_there opening r view (closed.NotRun e v) never there = elim never [ ]

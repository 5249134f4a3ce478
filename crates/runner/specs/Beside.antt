-- A script that runs beside workers.
use Rattle.std.specs.Prelude.{◌≡◌, ◌==◌, ◌⊎◌, ℕ, Bool, false, List, [], ◌∷◌, ◌++◌, All, Option, Some, None}
use Rattle.std.specs.List.{list_any}
use Rattle.std.specs.List.Sorted.{IsPermutation}
use Rattle.base.specs.declared.refusal.Refusal.{Refusal}
use Rattle.base.specs.declared.refusal.Refusal.TheVariants.{NoView}
use Rattle.model.specs.declared.request.Request.{Request}
use Rattle.model.specs.declared.request.Request.TheVariants.{OpenView, CloseView, Sync, Slice}
use Rattle.model.specs.declared.reply.Reply.{Reply}
use Rattle.model.specs.declared.reply.Reply.TheVariants.{Done, Refused, Opened}
use Rattle.model.specs.declared.entry.Entry.{Entry}
use Rattle.model.specs.State.{State}
use Rattle.session.specs.Handed.{Ran, IsFullOrNoMemory, IsLegal, Placed, Kept, IsAnswered}
use Rattle.runner.specs.Sitting.{Sitting}
use Rattle.runner.specs.Status.{RanAs}

-- the view that a reply opened (profile)
abbrev pub where_opened : Reply → List ℕ
where_opened (Opened view sight) = view ∷ []
where_opened reply = []

-- the view, where the reply says that the request was done (profile)
abbrev pub where_done : ℕ → Reply → List ℕ
where_done view Done = view ∷ []
where_done view reply = []

-- the view that a request opened with this reply (profile)
abbrev pub opened_by : Request → Reply → List ℕ
opened_by (OpenView target) r = where_opened r
opened_by request r = []

-- the view that a request closed with this reply (profile)
abbrev pub closed_by : Request → Reply → List ℕ
closed_by (CloseView view) r = where_done view r
closed_by request r = []

-- a request to close a view that the seat doesn't hold (profile)
abbrev pub IsUnheld : Request → List ℕ → Type 0
IsUnheld q held = (view : ℕ) × (q ≡ CloseView view) × (list_any (λ n. n == view) held ≡ false)

-- The seat gained a receipt of the request, and holds what it opened, and no more what it closed; the reply is the receipt's, or none where
-- there was no memory for a copy of it. Or nothing ran: the seat gained no receipt and holds what it held, and the reply is the
-- refusal that says why: the session had no room or there was no memory, or no view of that number is held (profile)
abbrev pub Gains : Sitting → Request → Option Reply → Sitting → Type 0
Gains s request reply t =
    ((r : Placed) × Ran s.seat request r t.seat × IsPermutation (opened_by request r.entry.reply ++ s.held) (closed_by request r.entry.reply ++ t.held)
    × ((reply ≡ Some r.entry.reply) ⊎ (reply ≡ None)))
    ⊎ ((refusal : Refusal) × (t.seat ≡ s.seat) × IsPermutation s.held t.held × (reply ≡ Some (Refused refusal))
    × (IsFullOrNoMemory refusal ⊎ ((refusal ≡ NoView) × IsUnheld request s.held)))

-- there is one history, a run of the pool from its opening state on, and the seats together have its receipts, each once (profile)
pub record HasHistory (opening : State) (seats : List Kept) : Type 0 where
  pub history : List Entry
  pub end : State
  pub legal : IsLegal opening history end
  pub answered : IsAnswered history seats

-- each receipt of the seat is for this request (profile)
abbrev pub AsksOnly : Request → Kept → Type 0
AsksOnly request seat = All (λ r. r.entry.request ≡ request) seat.receipts

-- the workers' seats: one asked for syncs alone, the other for slices of 64 blocks alone (profile)
pub record AreWorkers (syncer destroyer : Kept) : Type 0 where
  pub syncs : AsksOnly Sync syncer
  pub slices : AsksOnly (Slice 64) destroyer

-- The script was run by a seat that had no receipts and held no view: each request gained a receipt, whose reply was written, or it was
-- refused as it stands above. The receipts, together with those of a syncer and a destroyer, are a run of the pool from its opening state
-- on (profile)
pub record RanBeside (opening : State) (stop : Bool) (told held held' : Option (List ℕ)) (status : ℕ) : Type 0 where
  pub seat : Kept
  pub syncer : Kept
  pub destroyer : Kept
  pub new : seat.receipts ≡ []
  pub ran : RanAs Gains stop told held held' (record { seat = seat; held = [] }) status
  pub workers : AreWorkers syncer destroyer
  pub history : HasHistory opening (ran.after.seat ∷ syncer ∷ destroyer ∷ [])

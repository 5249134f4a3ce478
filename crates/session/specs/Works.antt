-- What a worker asks for, what it adds to a seat, and why it ends.
use Rattle.std.specs.Prelude.{◌≡◌, ◌≢◌, ◌⊎◌, ◌+◌, ℕ, List, [], ◌∷◌, ◌++◌, length, All, Bool, true, false, Option, Some, None}
use Rattle.base.specs.declared.refusal.Refusal.{Refusal}
use Rattle.base.specs.declared.refusal.Refusal.TheVariants.{NoMemory}
use Rattle.model.specs.declared.request.Request.{Request}
use Rattle.model.specs.declared.request.Request.TheVariants.{Sync, Slice}
use Rattle.model.specs.declared.reply.Reply.TheVariants.{Refused}
use Rattle.model.specs.State.{State}
use Rattle.session.specs.Entering.{IsFullOrNoMemory}
use Rattle.session.specs.History.{IsStepThere}
use Rattle.session.specs.Receipts.{Placed, Kept}
use Rattle.session.specs.Calls.{IsAdded}
use Rattle.session.specs.declared.workers.Work.{Work}
use Rattle.session.specs.declared.workers.Work.TheVariants.{Syncs, Slices}

-- the request that a worker makes (profile)
abbrev pub work_request : Work → Request
work_request Syncs = Sync
work_request (Slices count) = Slice count

-- the request was not refused for want of memory (profile)
abbrev pub HadMemory : Placed → Type 0
HadMemory r = r.entry.reply ≢ Refused NoMemory

-- the last was refused for want of memory, and none before it (profile)
pub record LackedMemoryLast (rs : List Placed) : Type 0 where
  pub front : List Placed
  pub last : Placed
  pub split : rs ≡ front ++ last ∷ []
  pub had : All HadMemory front
  pub lacked : last.entry.reply ≡ Refused NoMemory

-- Why a worker ended, from the gate's turns before, the receipts of the requests that ran, the refusal that ended it, if one did, the
-- gate's turns after, and whether its last answer was no. The gate was asked once before each request that ran. Then it was asked once
-- more: it said no, or it said yes and the next request got no entry, since the session had no room or no memory for it; and none that
-- ran had been refused for want of memory. Or it was not asked again: the request that ran last was refused for want of memory (profile)
abbrev pub HasEnded : ℕ → List Placed → Option Refusal → ℕ → Bool → Type 0
HasEnded before rs None after stopped = (stopped ≡ true) × (before ≡ after + length rs) × All HadMemory rs
HasEnded before rs (Some r) after stopped =
    (stopped ≡ false)
    × (((before ≡ after + length rs + 1) × IsFullOrNoMemory r × All HadMemory rs)
    ⊎ ((before ≡ after + length rs) × (r ≡ NoMemory) × LackedMemoryLast rs))

-- so many receipts were added to the seat, each for this request and each a step of the pool in its place, and it was they, the gate and
-- the refusal that ended the worker (profile)
pub record IsWork (opening : State) (seat : Kept) (request : Request) (before count : ℕ) (end : Option Refusal) (left : ℕ) (stopped : Bool) (after : Kept) : Type 0 where
  pub receipts : List Placed
  pub added : IsAdded seat receipts after
  pub counted : length receipts ≡ count
  pub asked : All (λ r. r.entry.request ≡ request) receipts
  pub there : All (IsStepThere opening) receipts
  pub ended : HasEnded before receipts end left stopped

-- What contracts see of views, and what is read through one.
use Rattle.std.specs.Prelude.{◌≡◌, ℕ, List, [], Option, Some, Result, Ok, Err, true, refl}
use Rattle.std.specs.Coded.{Coded, code_by, coded×, coded_ℕ}
use Rattle.std.specs.FinMap as finmap
use Rattle.base.specs.declared.refusal.Refusal.{Refusal}
use Rattle.base.specs.contracts.name.target.Target as target
use Rattle.base.specs.declared.name.target.Target.{Target}
use Rattle.base.specs.declared.name.target.Target.TheVariants.{FileSystem as OfFileSystem}
use Rattle.model.specs.declared.request.Request.{Request}
use Rattle.model.specs.declared.request.Request.TheVariants.{OpenView, Read, Send}
use Rattle.model.specs.declared.reply.Reply.{Reply}
use Rattle.model.specs.declared.reply.Reply.TheVariants.{Done, Refused, Data, Value, Group, Names, Count, Opened, Stream}
use Rattle.model.specs.Numbers.{IsNumbered}
use Rattle.model.specs.Sights.{Seen, seen_code}
use Rattle.model.specs.State.{State}
use Rattle.model.specs.Step.{Step}
use Rattle.model.specs.Targets.{has_dataset, dataset_of}
use Rattle.model.specs.World.{Dataset, map_of}
use Rattle.model.specs.requests.Send.{sight_named}

-- the name that the view was opened of, its number, and what it shows (profile)
pub record Viewed : Type 0 where
  pub target : Target
  pub number : ℕ
  pub sight : Seen

-- an empty map (profile)
abbrev pub nothing_seen : Seen
nothing_seen = record { map = finmap.empty; guid = 0; group = 0; sources = [] }

-- what a reply shows of the snapshot that it opened a view of, and nothing where it opened none (profile)
abbrev pub seen_in : Reply → Seen
seen_in Done = nothing_seen
seen_in (Refused refusal) = nothing_seen
seen_in (Data bytes) = nothing_seen
seen_in (Value value) = nothing_seen
seen_in (Group group) = nothing_seen
seen_in (Names names) = nothing_seen
seen_in (Count count) = nothing_seen
seen_in (Opened view sight) = sight
seen_in (Stream bytes) = nothing_seen

-- the name that a request opens a view of, and that of no dataset where it opens none (profile)
abbrev pub opened_name : Request → Target
opened_name (OpenView target) = target
opened_name request = OfFileSystem []

-- its code, that of the tuple of the fields
abbrev pub viewed_code : Coded Viewed
viewed_code =
    code_by (Target × (ℕ × Seen)) (coded× target.the_row.coded (coded× coded_ℕ seen_code)) (λ v. (v.target, (v.number, v.sight)))
    (λ p. record { target = p.0; number = p.1.0; sight = p.1.1 }) (λ _. refl)

-- the bytes of a block or why they can't be read, as the pool's reply (profile)
abbrev pub reply_of : Result (Option (List ℕ)) Refusal → Reply
reply_of (Ok bytes) = Data bytes
reply_of (Err refusal) = Refused refusal

-- the bytes of a send or why there are none, as the pool's reply (profile)
abbrev pub sent_reply : Result (List ℕ) Refusal → Reply
sent_reply (Ok bytes) = Stream bytes
sent_reply (Err refusal) = Refused refusal

-- It is what Read answers of a dataset with the map that is shown, wherever there is one (On-Disk Specification, chapter 3)
abbrev pub ReadsAs : Seen → ℕ → ℕ → Result (Option (List ℕ)) Refusal → Type 0
ReadsAs sight object block r =
    (s : State) (target : Target) (d : Dataset)
    → IsNumbered s → has_dataset s target ≡ true → dataset_of s target ≡ Some d → map_of s.now d ≡ sight.map
    → Step s (Read target object block) (reply_of r) s

-- It is what Send answers of the snapshot of a name, wherever a send of it sees what is shown (zfs-send(8))
abbrev pub SendsAs : Seen → Option Target → Result (List ℕ) Refusal → Type 0
SendsAs sight from r =
    (s : State) (target : Target) → IsNumbered s → sight_named s.now target ≡ Some sight → Step s (Send target from) (sent_reply r) s

-- It is what a request of the view's name is answered in the place of the one that opened the view: in each state in which that one is
-- answered with the view's number and with what it shows (zfs-send(8); views are profile)
abbrev pub AnswersAtOpening : Viewed → (Target → Request) → Reply → Type 0
AnswersAtOpening v request reply =
    (s u : State) → IsNumbered s → Step s (OpenView v.target) (Opened v.number v.sight) u → Step s (request v.target) reply s

-- Calls on a host and on a handle.
use Rattle.std.specs.Prelude.{◌≡◌, ◌⊎◌, ℕ, ◌==◌, ◌<◌, ◌≤◌, Bool, true, false, List, [], Option, None, Some, length, replicate, slice_get, MatchBool}
use Rattle.base.specs.Refusals.{number_of}
use Rattle.base.specs.declared.refusal.Refusal.{Refusal}
use Rattle.base.specs.declared.refusal.Refusal.TheVariants.{BadName, TooMany, NoMemory}
use Rattle.model.specs.declared.receiving.Receiving.{Receiving}
use Rattle.model.specs.declared.request.Request.{Request}
use Rattle.model.specs.declared.request.Request.TheVariants.{Sync, Slice, PoolGet}
use Rattle.model.specs.declared.limits.Limit.{Limit}
use Rattle.model.specs.declared.request.Property.{Property}
use Rattle.model.specs.declared.request.PoolProperty.{PoolProperty}
use Rattle.model.specs.declared.reply.Reply.{Reply}
use Rattle.model.specs.declared.reply.Reply.TheVariants as R
use Rattle.model.specs.State.{State, fresh_state}
use Rattle.model.specs.Step.{Step}
use Rattle.runner.specs.Serving.{Serves}
use Rattle.script.specs.Meaning.{meaning}
use Rattle.script.specs.Served.{IsServed, IsUnserved}
use Rattle.script.specs.Text.{has_any_length}
use Rattle.script.specs.declared.run.LineFault.{LineFault}
use Rattle.c_api.specs.declared.host.Host.{Host}
use Rattle.c_api.specs.declared.answer.Answer.{Answer}
use Rattle.c_api.specs.declared.answer.Answer.TheVariants.{Done, Refused, NoPool, HasPool, BadLength, NoProperty, BadAmount, NoEntry}
use Rattle.c_api.specs.Answers.{answer_of, got_answer, number_in, group_in, count_in, view_in, names_in, stream_in}
use Rattle.c_api.specs.Asking.{asked_write, asked_read, asked_get, asked_set, asked_open_view, asked_receive, asked_send_from}
use Rattle.c_api.specs.Pieces.{IsPiece}

-- a request that was asked, if its names are some: the reply, of which more is said, is that of the pool's step; or memory was wanting before
-- the request was whole, and the pool is as it was (profile)
abbrev pub Asks : State → Option Request → State → (Reply → Type 0) → Type 0
Asks s None t says = (t ≡ s) × (says (R.Refused BadName) ⊎ says (R.Refused NoMemory))
Asks s (Some request) t says = (reply : Reply) × says reply × (Step s request reply t ⊎ ((reply ≡ R.Refused NoMemory) × (t ≡ s)))

-- what a host hands out by pieces is the same (profile)
abbrev pub KeepsResults : Host → Host → Type 0
KeepsResults h k = (k.reply ≡ h.reply) × (k.stream ≡ h.stream) × (k.names ≡ h.names)

-- a call without a value of its own (profile)
abbrev pub Does : Option Request → Host → Answer → Host → Type 0
Does request h answer k = Asks h.caller request k.caller (λ reply. answer ≡ answer_of reply) × KeepsResults h k

-- a call that did nothing (profile)
abbrev pub Idle : Answer → Host → Answer → Host → Type 0
Idle why h answer k = (answer ≡ why) × (k ≡ h)

-- a write of a block of 512 bytes (profile)
abbrev pub Writes : List ℕ → ℕ → ℕ → List ℕ → Host → Answer → Host → Type 0
Writes name object block bytes h answer k =
    MatchBool (length bytes == 512) (Does (asked_write name object block bytes) h answer k) (Idle BadLength h answer k)

-- what a read leaves in the buffer, and whether the block is a hole: 512 bytes, all zero for a hole; a refused one leaves both (profile)
abbrev pub ReadInto : Reply → List ℕ → Bool → List ℕ → Bool → Type 0
ReadInto (R.Data (Some bytes)) before was after is = (after ≡ bytes) × (is ≡ false)
ReadInto (R.Data None) before was after is = (after ≡ replicate 512 0) × (is ≡ true)
ReadInto _ before was after is = (after ≡ before) × (is ≡ was)

-- a read of a block into a buffer of 512 bytes (profile)
abbrev pub ReadsBlock : List ℕ → ℕ → ℕ → List ℕ → Bool → List ℕ → Bool → Host → Answer → Host → Type 0
ReadsBlock name object block before was after is h answer k =
    MatchBool (length before == 512)
    (Asks h.caller (asked_read name object block) k.caller (λ reply. (answer ≡ answer_of reply) × ReadInto reply before was after is) × KeepsResults h k)
    (Idle BadLength h answer k × (after ≡ before) × (is ≡ was))

-- a call that tells a number (profile)
abbrev pub TellsNumber : Option Request → ℕ → ℕ → Host → Answer → Host → Type 0
TellsNumber request before after h answer k =
    Asks h.caller request k.caller (λ reply. (answer ≡ got_answer reply) × (after ≡ number_in reply before)) × KeepsResults h k

-- a property's number (profile)
abbrev pub GetsOf : List ℕ → Option Property → ℕ → ℕ → Host → Answer → Host → Type 0
GetsOf name None before after h answer k = Idle NoProperty h answer k × (after ≡ before)
GetsOf name (Some property) before after h answer k = TellsNumber (asked_get name property) before after h answer k

-- a number of the pool (profile)
abbrev pub PoolGetsOf : Option PoolProperty → ℕ → ℕ → Host → Answer → Host → Type 0
PoolGetsOf None before after h answer k = Idle NoProperty h answer k × (after ≡ before)
PoolGetsOf (Some property) before after h answer k = TellsNumber (Some (PoolGet property)) before after h answer k

-- a limit that is set to an amount, or let go (profile)
abbrev pub SetsOf : List ℕ → Option Limit → Option (Option ℕ) → Host → Answer → Host → Type 0
SetsOf name None amount h answer k = Idle NoProperty h answer k
SetsOf name (Some limit) None h answer k = Idle BadAmount h answer k
SetsOf name (Some limit) (Some amount) h answer k = Does (asked_set name limit amount) h answer k

-- a receive in a mode, if there is one of that number (profile)
abbrev pub ReceivesOf : List ℕ → List ℕ → Option (Option Receiving) → Host → Answer → Host → Type 0
ReceivesOf name bytes None h answer k = Idle NoProperty h answer k
ReceivesOf name bytes (Some mode) h answer k = Does (asked_receive name bytes mode) h answer k

-- a view that is opened, and its number (profile)
abbrev pub OpensView : List ℕ → ℕ → ℕ → Host → Answer → Host → Type 0
OpensView name before after h answer k =
    Asks h.caller (asked_open_view name) k.caller (λ reply. (answer ≡ answer_of reply) × (after ≡ view_in reply before)) × KeepsResults h k

-- a list of names: they are kept in the place of earlier ones (profile)
abbrev pub Lists : Option Request → ℕ → Host → Answer → Host → Type 0
Lists request size h answer k =
    Asks h.caller request k.caller (λ reply. (answer ≡ answer_of reply) × (k.names ≡ names_in reply h.names))
    × (k.reply ≡ h.reply) × (k.stream ≡ h.stream) × (size ≡ length k.names)

-- a name of the last list: its front, as much as fits, and its length; or there is none at this place (profile)
abbrev pub NameAt : Option (List ℕ) → List ℕ → List ℕ → ℕ → ℕ → Answer → Type 0
NameAt None before after was size answer = (answer ≡ NoEntry) × (after ≡ before) × (size ≡ was)
NameAt (Some name) before after was size answer = (answer ≡ Done) × (size ≡ length name) × ((count : ℕ) × IsPiece name 0 before after count)

abbrev pub NamesPiece : ℕ → List ℕ → List ℕ → ℕ → ℕ → Host → Answer → Host → Type 0
NamesPiece index before after was size h answer k = (k ≡ h) × NameAt (slice_get h.names index) before after was size answer

-- a sync, and the open group after it (profile)
abbrev pub Syncs : ℕ → ℕ → Host → Answer → Host → Type 0
Syncs before after h answer k = Asks h.caller (Some Sync) k.caller (λ reply. (answer ≡ answer_of reply) × (after ≡ group_in reply before)) × KeepsResults h k

-- a slice, and how many blocks it has taken (profile)
abbrev pub Slices : ℕ → ℕ → ℕ → Host → Answer → Host → Type 0
Slices count before after h answer k =
    Asks h.caller (Some (Slice count)) k.caller (λ reply. (answer ≡ answer_of reply) × (after ≡ count_in reply before)) × KeepsResults h k

-- a send: its stream is kept in the place of an earlier one (profile)
abbrev pub Sends : List ℕ → List ℕ → ℕ → Host → Answer → Host → Type 0
Sends name from size h answer k =
    Asks h.caller (asked_send_from name from) k.caller (λ reply. (answer ≡ answer_of reply) × (k.stream ≡ stream_in reply h.stream))
    × (k.reply ≡ h.reply) × (k.names ≡ h.names) × (size ≡ length k.stream)

-- the number of the refusal of a line, 0 where it was none (profile)
abbrev pub number_told : Option Refusal → ℕ
number_told None = 0
number_told (Some refusal) = number_of refusal

-- a line: its reply's line is kept in the place of an earlier one, and by which refusal it was refused is told; or there was no memory for it
-- or for its reply, and the pool is as it was (profile)
abbrev pub LineAnswered : List ℕ → ℕ → ℕ → Host → Answer → Host → Type 0
LineAnswered line was told h Done k =
    (refusal : Option Refusal) × IsServed Serves (meaning line) (Some []) (Some k.reply.items) h.caller k.caller refusal × (told ≡ number_told refusal)
LineAnswered line was told h (Refused why) k =
    (why ≡ NoMemory) × (told ≡ was) × (k.caller ≡ h.caller)
    × (fault : LineFault) × IsUnserved Serves (meaning line) has_any_length (Some []) (Some k.reply.items) h.caller k.caller fault
LineAnswered line was told h _ k = ⊥

abbrev pub Answers : List ℕ → ℕ → ℕ → ℕ → Host → Answer → Host → Type 0
Answers line was told size h answer k =
    LineAnswered line was told h answer k × (k.stream ≡ h.stream) × (k.names ≡ h.names) × (size ≡ length k.reply.items)

-- a piece of the last reply, or of the last stream (profile)
abbrev pub RepliesPiece : ℕ → List ℕ → List ℕ → ℕ → Host → Answer → Host → Type 0
RepliesPiece from before after count h answer k = Idle Done h answer k × IsPiece h.reply.items from before after count

abbrev pub StreamsPiece : ℕ → List ℕ → List ℕ → ℕ → Host → Answer → Host → Type 0
StreamsPiece from before after count h answer k = Idle Done h answer k × IsPiece h.stream from before after count

-- nothing is kept any more (profile)
abbrev pub Forgets : Host → Host → Type 0
Forgets h k = (k.caller ≡ h.caller) × (k.reply.items ≡ []) × (k.stream ≡ []) × (k.names ≡ [])

abbrev pub Forgotten : Host → Answer → Host → Type 0
Forgotten h answer k = (answer ≡ Done) × Forgets h k

-- a call on a handle: without a pool it answers so, and else it is one on the pool's host (profile)
abbrev pub Calls : (Host → Answer → Host → Type 0) → Option Host → Answer → Option Host → Type 0
Calls does None answer new = (answer ≡ NoPool) × (new ≡ None)
Calls does (Some h) answer None = ⊥
Calls does (Some h) answer (Some k) = does h answer k

-- a new pool: its state is the fresh one, and it keeps no results (profile)
abbrev pub IsFresh : ℕ → ℕ → Host → Type 0
IsFresh id blocks k = (k.caller ≡ fresh_state id blocks) × (k.reply.items ≡ []) × (k.stream ≡ []) × (k.names ≡ [])

-- an id and a number of blocks, of at most so many, that a pool can have (profile)
abbrev pub CanBe : ℕ → ℕ → ℕ → Type 0
CanBe most id blocks = (0 < id) × ((1 ≤ blocks) × (blocks ≤ most))

-- why a pool isn't made: an id of 0, else a number of blocks that no pool has, else want of memory (profile)
abbrev pub CreateRefused : ℕ → ℕ → ℕ → Refusal → Type 0
CreateRefused most id blocks BadName = id ≡ 0
CreateRefused most id blocks TooMany = (0 < id) × ((blocks < 1) ⊎ (most < blocks))
CreateRefused most id blocks NoMemory = CanBe most id blocks
CreateRefused most id blocks _ = ⊥

-- a create: a pool in a handle that had none, or a refusal (profile)
abbrev pub Creates : ℕ → ℕ → ℕ → Option Host → Answer → Option Host → Type 0
Creates most id blocks (Some h) answer new = (answer ≡ HasPool) × (new ≡ Some h)
Creates most id blocks None (Refused why) None = CreateRefused most id blocks why
Creates most id blocks None answer None = ⊥
Creates most id blocks None answer (Some k) = (answer ≡ Done) × CanBe most id blocks × IsFresh id blocks k

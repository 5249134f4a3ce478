-- Calls on handles, and requests that were asked.
use Rattle.std.proofs.Common.{◌≡◌, ℕ, Bool, true, true≢false, List, length, Option, Some, None, Result, inl, inr, refl, sym, ap, ◌∙◌, subst}
use Rattle.std.specs.Prelude.{◌==◌, IfSome, MatchBool, is_some}
use Rattle.base.specs.declared.refusal.Refusal.{Refusal}
use Rattle.model.specs.declared.request.Request.{Request}
use Rattle.model.specs.declared.reply.Reply.{Reply}
use Rattle.model.specs.State.{State}
use Rattle.base.specs.Reading.{Reads}
use Rattle.model.specs.declared.receiving.Receiving.{Receiving}
use Rattle.c_api.specs.declared.host.Host.{Host}
use Rattle.c_api.specs.declared.answer.Answer.{Answer}
use Rattle.model.specs.declared.request.Property.{Property}
use Rattle.model.specs.declared.request.PoolProperty.{PoolProperty}
use Rattle.model.specs.declared.request.Request.TheVariants.{PoolGet}
use Rattle.c_api.specs.declared.answer.Answer.TheVariants.{Done, Refused, NoPool, HasPool, BadLength}
use Rattle.c_api.specs.Answers.{answer_of, got_answer, number_in, names_in, stream_in}
use Rattle.c_api.specs.Asking.{asked_write, asked_read, asked_get, asked_receive, asked_send_from}
use Rattle.c_api.specs.Calls.{Calls, Creates, IsFresh, CanBe, CreateRefused, Asks, Does, Idle, KeepsResults, Writes, ReadInto, ReadsBlock, TellsNumber, GetsOf, PoolGetsOf, ReceivesOf, Lists, Sends}

-- a handle without a pool says so
pub unopened : (does : Host → Answer → Host → Type 0) (old new : Option Host) → None ≡ old → new ≡ None → Calls does old NoPool new
unopened does old new e f = subst (λ (o : Option Host). Calls does o NoPool new) e (refl, f)

-- a call on the host of a handle is one on the handle
pub opened : (does : Host → Answer → Host → Type 0) (old new : Option Host) (answer : Answer) (h k : Host) → Some h ≡ old → new ≡ Some k → does h answer k → Calls does old answer new
opened does old new answer h k e f d =
    subst (λ (o : Option Host). Calls does o answer new) e (subst (λ (n : Option Host). Calls does (Some h) answer n) (sym f) d)

-- what holds of the reply that came is said of it
pub said : (s t : State) (read : Option Request) (r : Reply) (says : Reply → Type 0) → Asks s read t (λ reply. reply ≡ r) → says r → Asks s read t says
said s t None r says (same, inl e) it = (same, inl (subst says (sym e) it))
said s t None r says (same, inr e) it = (same, inr (subst says (sym e) it))
said s t (Some request) r says (reply, e, step) it = (reply, subst says (sym e) it, step)

-- a write of 512 bytes, of which the request has a copy
pub writes : (name : List ℕ) (object block : ℕ) (copy bytes : List ℕ) (h k : Host) (answer : Answer) → (length bytes == 512) ≡ true → copy ≡ bytes
    → Does (asked_write name object block copy) h answer k → Writes name object block bytes h answer k
writes name object block copy bytes h k answer is same does =
    subst (λ (b : Bool). MatchBool b (Does (asked_write name object block bytes) h answer k) (Idle BadLength h answer k)) (sym is)
    (subst (λ (bs : List ℕ). Does (asked_write name object block bs) h answer k) same does)

-- a read into 512 bytes
pub reads : (name : List ℕ) (object block : ℕ) (before : List ℕ) (was : Bool) (after : List ℕ) (hole : Bool) (h k : Host) (answer : Answer) → (length before == 512) ≡ true
    → Asks h.caller (asked_read name object block) k.caller (λ reply. (answer ≡ answer_of reply) × ReadInto reply before was after hole) × KeepsResults h k
    → ReadsBlock name object block before was after hole h answer k
reads name object block before was after hole h k answer is asks =
    subst (λ (b : Bool). MatchBool b
    (Asks h.caller (asked_read name object block) k.caller (λ reply. (answer ≡ answer_of reply) × ReadInto reply before was after hole) × KeepsResults h k)
    (Idle BadLength h answer k × (after ≡ before) × (hole ≡ was))) (sym is) asks

-- a property that has a number
pub gets : (name : List ℕ) (at : Option Property) (property : Property) (before after : ℕ) (h k : Host) (answer : Answer) → Some property ≡ at
    → TellsNumber (asked_get name property) before after h answer k
    → GetsOf name at before after h answer k
gets name at property before after h k answer is asks = subst (λ (o : Option Property). GetsOf name o before after h answer k) is asks

-- a receive in a mode that has a number
pub receives : (name bytes : List ℕ) (at : Option (Option Receiving)) (found : Option (Result Receiving Refusal)) (mode : Result Receiving Refusal) (h k : Host) (answer : Answer) → found ≡ Some mode
    → (at ≡ None → found ≡ None) → ((read : Option Receiving) → at ≡ Some read → IfSome found (λ m. Reads m read))
    → ((read : Option Receiving) → Reads mode read → Does (asked_receive name bytes read) h answer k)
    → ReceivesOf name bytes at h answer k
receives name bytes None found mode h k answer is none some does = absurd (true≢false (ap is_some (sym is ∙ none refl)))
receives name bytes (Some read) found mode h k answer is none some does = does read (subst (λ (x : Option (Result Receiving Refusal)). IfSome x (λ m. Reads m read)) is (some read refl))

-- a property of the pool that has a number
pub pool_gets : (at : Option PoolProperty) (property : PoolProperty) (before after : ℕ) (h k : Host) (answer : Answer) → Some property ≡ at
    → TellsNumber (Some (PoolGet property)) before after h answer k → PoolGetsOf at before after h answer k
pool_gets at property before after h k answer is tells = subst (λ (o : Option PoolProperty). PoolGetsOf o before after h answer k) is tells

-- a create: the handle has a pool, or gets one, or there is none for it
pub there : (most id blocks : ℕ) (old new : Option Host) (h : Host) → Some h ≡ old → new ≡ Some h → Creates most id blocks old HasPool new
there most id blocks old new h e f = subst (λ (o : Option Host). Creates most id blocks o HasPool new) e (refl, f)

pub made : (most id blocks : ℕ) (old new : Option Host) (k : Host) → None ≡ old → new ≡ Some k → CanBe most id blocks → IsFresh id blocks k → Creates most id blocks old Done new
made most id blocks old new k e f can fresh =
    subst (λ (o : Option Host). Creates most id blocks o Done new) e (subst (λ (n : Option Host). Creates most id blocks None Done n) (sym f) (refl, can, fresh))

pub unmade : (most id blocks : ℕ) (old new : Option Host) (why : Refusal) → None ≡ old → new ≡ None → CreateRefused most id blocks why → Creates most id blocks old (Refused why) new
unmade most id blocks old new why e f refused =
    subst (λ (o : Option Host). Creates most id blocks o (Refused why) new) e (subst (λ (n : Option Host). Creates most id blocks None (Refused why) n) (sym f) refused)

-- a list, whose names are kept once it is made
pub listed : (request : Option Request) (size : ℕ) (h m k : Host) (r : Reply) (answer : Answer) → Asks h.caller request m.caller (λ reply. reply ≡ r)
    → KeepsResults h m → answer ≡ answer_of r → k.names ≡ names_in r m.names → k.reply ≡ m.reply → k.stream ≡ m.stream → k.caller ≡ m.caller → size ≡ length k.names
    → Lists request size h answer k
listed request size h m k r answer asks keeps is names reply stream pool counted = (
  said h.caller k.caller request r (λ told. (answer ≡ answer_of told) × (k.names ≡ names_in told h.names))
      (subst (λ (t : State). Asks h.caller request t (λ told. told ≡ r)) (sym pool) asks)
      (is, subst (λ (ns : List (List ℕ)). k.names ≡ names_in r ns) keeps.2 names),
  reply ∙ keeps.0,
  stream ∙ keeps.1,
  counted,
)

-- a send, whose stream is kept once it is made
pub sent : (name from : List ℕ) (size : ℕ) (h m k : Host) (r : Reply) (answer : Answer) → Asks h.caller (asked_send_from name from) m.caller (λ reply. reply ≡ r)
    → KeepsResults h m → answer ≡ answer_of r → k.stream ≡ stream_in r m.stream → k.reply ≡ m.reply → k.names ≡ m.names → k.caller ≡ m.caller → size ≡ length k.stream
    → Sends name from size h answer k
sent name from size h m k r answer asks keeps is stream reply names pool counted = (
  said h.caller k.caller (asked_send_from name from) r (λ told. (answer ≡ answer_of told) × (k.stream ≡ stream_in told h.stream))
      (subst (λ (t : State). Asks h.caller (asked_send_from name from) t (λ told. told ≡ r)) (sym pool) asks)
      (is, subst (λ (bs : List ℕ). k.stream ≡ stream_in r bs) keeps.1 stream),
  reply ∙ keeps.0,
  names ∙ keeps.2,
  counted,
)

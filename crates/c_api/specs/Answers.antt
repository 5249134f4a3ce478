-- What a call tells C.
use Rattle.std.specs.Prelude.{◌≡◌, ℕ, ℤ, pos, negsuc, List}
use Rattle.base.specs.Refusals.{number_of}
use Rattle.model.specs.declared.reply.Reply.{Reply}
use Rattle.model.specs.declared.reply.Reply.TheVariants as R
use Rattle.model.specs.declared.reply.Value.TheVariants as V
use Rattle.c_api.specs.declared.answer.Answer.{Answer}
use Rattle.c_api.specs.declared.answer.Answer.TheVariants.{Done, Refused, NoPool, HasPool, BadLength, NoProperty, NotApplicable, BadAmount, NoEntry}

-- its number (profile)
abbrev pub code_of : Answer → ℤ
code_of Done = pos 0
code_of (Refused refusal) = pos (number_of refusal)
code_of NoPool = negsuc 1
code_of HasPool = negsuc 2
code_of BadLength = negsuc 3
code_of NoProperty = negsuc 4
code_of NotApplicable = negsuc 5
code_of BadAmount = negsuc 6
code_of NoEntry = negsuc 7

-- the number of an answer of which this holds (profile)
abbrev pub Codes : ℤ → (Answer → Type 0) → Type 0
Codes code holds = (answer : Answer) × (code ≡ code_of answer) × holds answer

-- a reply whose value goes another way (profile)
abbrev pub answer_of : Reply → Answer
answer_of (R.Refused refusal) = Refused refusal
answer_of R.Done = Done
answer_of (R.Data bytes) = Done
answer_of (R.Value v) = Done
answer_of (R.Group group) = Done
answer_of (R.Names names) = Done
answer_of (R.Count count) = Done
answer_of (R.Opened view sight) = Done
answer_of (R.Stream bytes) = Done

-- a reply to the question for a number (profile)
abbrev pub got_answer : Reply → Answer
got_answer (R.Refused refusal) = Refused refusal
got_answer (R.Value (V.Size n)) = Done
got_answer (R.Value (V.Number n)) = Done
got_answer (R.Value (V.Named bytes)) = NotApplicable
got_answer (R.Value (V.Truth t)) = NotApplicable
got_answer (R.Value V.NotApplicable) = NotApplicable
got_answer R.Done = NotApplicable
got_answer (R.Data bytes) = NotApplicable
got_answer (R.Group group) = NotApplicable
got_answer (R.Names names) = NotApplicable
got_answer (R.Count count) = NotApplicable
got_answer (R.Opened view sight) = NotApplicable
got_answer (R.Stream bytes) = NotApplicable

-- the number in a reply, or the one that was there (profile)
abbrev pub number_in : Reply → ℕ → ℕ
number_in (R.Value (V.Size n)) before = n
number_in (R.Value (V.Number n)) before = n
number_in _ before = before

-- the open group that a sync leaves, or the one that was there (profile)
abbrev pub group_in : Reply → ℕ → ℕ
group_in (R.Group group) before = group
group_in _ before = before

-- how many blocks a slice has taken, or what was there (profile)
abbrev pub count_in : Reply → ℕ → ℕ
count_in (R.Count count) before = count
count_in _ before = before

-- the number of the view that was opened, or what was there (profile)
abbrev pub view_in : Reply → ℕ → ℕ
view_in (R.Opened view sight) before = view
view_in _ before = before

-- the names that were listed, or those that were there (profile)
abbrev pub names_in : Reply → List (List ℕ) → List (List ℕ)
names_in (R.Names names) before = names
names_in _ before = before

-- the stream that was made, or the one that was there (profile)
abbrev pub stream_in : Reply → List ℕ → List ℕ
stream_in (R.Stream bytes) before = bytes
stream_in _ before = before

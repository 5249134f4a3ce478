-- An entry made for a request that is applied.
use Rattle.std.specs.Prelude.{◌≡◌, ℕ, Bool, true, false, Option, IfSome, is_some}
use Rattle.model.specs.State.{State}
use Rattle.model.specs.Step.{Step}
use Rattle.model.specs.declared.request.Request.{Request}
use Rattle.model.specs.declared.reply.Reply.{Reply}
use Rattle.model.specs.declared.reply.Reply.TheVariants.{Done, Refused, Data, Value, Group, Names, Count, Opened, Stream}
use Rattle.model.specs.declared.entry.Entry.{Entry}

-- a view was opened (profile)
abbrev pub is_opened : Reply → Bool
is_opened Done = false
is_opened (Refused refusal) = false
is_opened (Data bytes) = false
is_opened (Value v) = false
is_opened (Group group) = false
is_opened (Names names) = false
is_opened (Count count) = false
is_opened (Opened view sight) = true
is_opened (Stream bytes) = false

-- an entry's other owners have the same, and a view has one of its own exactly where the entry opened it (profile)
pub record AreOwners (entry second third : Entry) (viewed : Option Entry) : Type 0 where
  pub second_is : second ≡ entry
  pub third_is : third ≡ entry
  pub viewed_is : IfSome viewed (λ v. v ≡ entry)
  pub opened : is_some viewed ≡ is_opened entry.reply

-- the entry of a seat's request with the reply of a step, and its owners (profile)
pub record IsEntered (before : State) (seat : ℕ) (request : Request) (entry second third : Entry) (viewed : Option Entry) (after : State) : Type 0 where
  pub seat_is : entry.seat ≡ seat
  pub request_is : entry.request ≡ request
  pub step : Step before request entry.reply after
  pub owners : AreOwners entry second third viewed

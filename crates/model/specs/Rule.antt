-- What a request is: one rule.
use Rattle.std.specs.Prelude.{ℕ, Bool, true, List, [], ◌∷◌, Option, None, Some, if◌then◌else◌}
use Rattle.base.specs.declared.number.Key.{Key}
use Rattle.base.specs.declared.refusal.Refusal.{Refusal}
use Rattle.base.specs.Map.{BlockSet}
use Rattle.model.specs.declared.reply.Reply.{Reply}
use Rattle.model.specs.State.{State}

-- what requests leave to the pool: the numbers of new cells, and which blocks are no longer to be freed (zpool-features(7):
-- async_destroy)
pub record Choice : Type 0 where
  pub number : Key → ℕ
  pub taken : BlockSet

-- conditions, each with the refusal that stands for it (profile)
abbrev pub Row : Type 0
Row = List (Bool × Refusal)

-- the first whose condition holds (profile)
abbrev pub first_of : Row → Option Refusal
first_of [] = None
first_of (r ∷ rs) = if r.0 then Some r.1 else first_of rs

-- Its refusals in their order, of the state and of the one that its limits are asked of; the state after it and its reply, where it
-- isn't refused; and what the pool may choose then (the page of each subcommand; limits, choices and memory are profile)
pub record Rule : Type 0 where
  pub row : State → State → Row
  -- the sweep comes after it
  pub after : State → Choice → State
  pub reply : State → Reply
  pub may : State → Choice → Bool
  -- it leaves the state
  pub only_reads : Bool
  -- its reply may be want of memory
  pub takes_memory : Bool

-- any numbers may be chosen (profile)
abbrev pub any_choice : State → Choice → Bool
any_choice s c = true

-- the rule of a request that only reads (profile)
abbrev pub question : (State → Row) → (State → Reply) → Bool → Rule
question row reply takes_memory = record {
  row = λ s asked. row s;
  after = λ s c. s;
  reply = reply;
  may = any_choice;
  only_reads = true;
  takes_memory = takes_memory;
}

-- One step of the pool: a request applied to a state (the zfs-SUBCOMMAND(8) page of each request).
use Rattle.std.specs.Prelude.{◌≡◌, ◌⊎◌, Option, None, Some, IsTrue}
use Rattle.base.specs.declared.refusal.Refusal.{Refusal}
use Rattle.base.specs.declared.refusal.Refusal.TheVariants.{NoMemory}
use Rattle.stream.specs.Spelling.{Sending}
use Rattle.model.specs.declared.request.Request.{Request}
use Rattle.model.specs.declared.reply.Reply.{Reply}
use Rattle.model.specs.declared.reply.Reply.TheVariants.{Refused}
use Rattle.model.specs.State.{State}
use Rattle.model.specs.Rule.{Choice, Rule}
use Rattle.model.specs.Refusals.{refusal_of}
use Rattle.model.specs.Outcome.{state_after}
use Rattle.model.specs.Numbers.{IsNumbered}
use Rattle.model.specs.requests.{rule_of, IsReadingOf}

-- it is done, by some choice (profile)
pub record IsDone (old : State) (rule : Rule) (reply : Reply) (new : State) : Type 0 where
  pub choice : Choice
  pub allowed : IsTrue (rule.may old choice)
  pub not_refused : refusal_of old rule ≡ None
  pub reply_is : reply ≡ rule.reply old
  pub new_is : new ≡ state_after old choice rule
  pub numbered : IsNumbered new

-- it is refused, and nothing is changed (profile)
pub record IsRefused (old : State) (rule : Rule) (reply : Reply) (new : State) : Type 0 where
  pub why : Refusal
  pub row : refusal_of old rule ≡ Some why
  pub reply_is : reply ≡ Refused why
  pub unchanged : new ≡ old

-- memory is wanting, and nothing is changed (profile)
pub record IsOutOfMemory (old : State) (rule : Rule) (reply : Reply) (new : State) : Type 0 where
  pub may : IsTrue rule.takes_memory
  pub reply_is : reply ≡ Refused NoMemory
  pub unchanged : new ≡ old

-- one rule applied (profile)
pub data Follows (old : State) (rule : Rule) (reply : Reply) (new : State) : Type 0 where
  done : IsDone old rule reply new → Follows old rule reply new
  refused : IsRefused old rule reply new → Follows old rule reply new
  out_of_memory : IsOutOfMemory old rule reply new → Follows old rule reply new

-- one request applied, by the rule of what its bytes say, which stay unread where memory is wanting (profile)
pub record Step (old : State) (request : Request) (reply : Reply) (new : State) : Type 0 where
  pub reading : Option Sending
  pub read : IsReadingOf request reading ⊎ (reply ≡ Refused NoMemory)
  pub follows : Follows old (rule_of request reading) reply new

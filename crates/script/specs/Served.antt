-- One line of a script served.
use Rattle.std.specs.Prelude.{◌≡◌, ◌⊎◌, ◌||◌, ℕ, Bool, List, Option, Some, IsTrue, nat_lt}
use Rattle.std.specs.Io.KnownBytes.{Appends}
use Rattle.base.specs.declared.refusal.Refusal.{Refusal}
use Rattle.model.specs.declared.reply.Reply.{Reply}
use Rattle.script.specs.declared.run.LineFault.{LineFault}
use Rattle.script.specs.declared.run.LineFault.TheVariants.{NoMemory, Unwritten}
use Rattle.script.specs.Meaning.{Meaning}
use Rattle.script.specs.Run.{Relation, Answers, IsUnanswered, refusal_of, output_of}
use Rattle.script.specs.Text.{has_any_length}

-- the line was answered, its reply was written, and this is its refusal, if it was refused (profile)
pub record IsServed {C : Type 0} (asks : Relation C) (m : Meaning) (held held' : Option (List ℕ)) (s t : C) (refusal : Option Refusal) : Type 0 where
  pub reply : Option Reply
  pub answered : Answers asks m s reply t
  pub written : Appends held held' (output_of reply)
  pub kind : refusal ≡ refusal_of reply

-- there was no memory for the line or its reply, and nothing was written; or it was answered by one of the replies that may be missed, of
-- which any part may be written (profile)
abbrev pub IsUnserved : {C : Type 0} → Relation C → Meaning → (Reply → Bool) → Option (List ℕ) → Option (List ℕ) → C → C → LineFault → Type 0
IsUnserved asks m misses held held' s t NoMemory = (held' ≡ held) × ((t ≡ s) ⊎ IsUnanswered asks m s t)
IsUnserved asks m misses held held' s t Unwritten = (reply : Reply) × IsTrue (misses reply) × Answers asks m s (Some reply) t

-- what a writer may miss that has room for so many bytes: with room for a block's digits and a line feed, only what has any length (profile)
abbrev pub may_miss : ℕ → Reply → Bool
may_miss room reply = nat_lt room 1025 || has_any_length reply

-- What the kind of a request says of it.
use Rattle.std.proofs.Common.{◌≡◌, ◌⊎◌, ◌∙◌, ℕ, None, refl, sym, ⊎_elim}
use Rattle.std.specs.Prelude.{IsTrue, Bool, true, false, if◌then◌else◌}
use Rattle.model.specs.declared.reply.Reply.{Reply}
use Rattle.model.specs.declared.request.Request.{Request}
use Rattle.model.specs.declared.request.Request.TheVariants.{Get, WrittenSince, WouldFree, OpenView}
use Rattle.model.specs.requests.{rule_of}
use Rattle.world.specs.Tables.{Datasets}
use Rattle.steps.specs.Reached.{HasRead}
use Rattle.pool.specs.Kinds.{kind_of, other_kind}
use Rattle.pool.specs.Reached.{reaches_lists}
use Rattle.pool.specs.declared.kind.Kind.{Kind}
use Rattle.pool.specs.declared.kind.Kind.TheVariants.{Question, Change, Asking}

-- a request that reaches no list has a reply that reads none
abbrev pub IsUnread : Request → Type 0
IsUnread q = reaches_lists q ≡ false → (t : Datasets) (r : Reply) (old new : ℕ) → HasRead t q r old new → new ≡ old

no_other : (q : Request) → other_kind q ≡ Question → ⊥
no_other (OpenView target) is = absurd cc
no_other request is = absurd cc

reads : (q : Request) (b : Bool) → (rule_of q None).only_reads ≡ b → (if b then Question else other_kind q) ≡ Question → IsTrue (rule_of q None).only_reads
reads q true e is = e
reads q false e is = absurd (no_other q is)

unread : (q : Request) → IsUnread q
unread (Get target property) = λ none t r old new read. read none
unread (WrittenSince target since) = λ none t r old new read. absurd cc
unread (WouldFree name first last) = λ none t r old new read. absurd cc
unread request = λ none t r old new read. read

-- a request that only reads is one by its rule, and reaches no list where it asks for nothing that one holds
pub only_reads : (q : Request) → kind_of q ≡ Question → IsTrue (rule_of q None).only_reads × IsUnread q
only_reads q is = (reads q (rule_of q None).only_reads refl is, unread q)

-- a request that changes the present world doesn't only read
pub no_question : {P : Type 0} (k : Kind) → (k ≡ Change) ⊎ ((k ≡ Asking) × P) → k ≡ Question → ⊥
no_question k kind is = ⊎_elim (λ (e : k ≡ Change). let x = sym e ∙ is in absurd cc) (λ e. let x = sym e.0 ∙ is in absurd cc) kind

-- What a line leaves of a pool that has no reply, or whose reply wasn't written.
use Rattle.std.proofs.Common.{◌≡◌, ℕ, true, false, List, Option, Some, None, refl, sym, ap, ◌∙◌, ◌⊎◌, inl, inr, true≢false}
use Rattle.std.specs.Prelude.{IsTrue, if◌then◌else◌}
use Rattle.std.specs.Option.{option_map_or}
use Rattle.model.specs.declared.request.Request.{Request}
use Rattle.model.specs.declared.request.Request.TheVariants.{Read, Get, PoolGet, List as ToList, Holds, WrittenSince, WouldFree, Send, OpenView}
use Rattle.model.specs.declared.reply.Reply.{Reply}
use Rattle.model.specs.declared.reply.Reply.TheVariants.{Done, Opened}
use Rattle.model.specs.World.{id_of}
use Rattle.model.specs.State.{State}
use Rattle.model.specs.Rule.{Choice}
use Rattle.model.specs.Outcome.{state_after, state_after_sweep}
use Rattle.model.specs.Step.{Step, Follows, done, refused, out_of_memory}
use Rattle.model.specs.requests.{rule_of}
use Rattle.model.specs.requests.Rollback.{placed}
use Rattle.model.specs.requests.Send.{sight_of}
use Rattle.script.specs.declared.run.LineFault.{LineFault}
use Rattle.script.specs.declared.run.LineFault.TheVariants.{NoMemory, Unwritten}
use Rattle.script.specs.Meaning.{Meaning, Silent, Faulty, Asks}
use Rattle.script.specs.Run.{Answers, IsUnanswered}
use Rattle.script.specs.Served.{IsUnserved}
use Rattle.script.specs.Text.{has_any_length}
use Rattle.runner.specs.Serving.{Serves}

no_some : {A : Type 0} (a : A) → None ≡ Some a → ⊥
no_some a e = cc

opened_is_short : {A : Type 0} (told : A → Reply) (o : Option A) → ((a : A) → has_any_length (told a) ≡ false) → has_any_length (option_map_or told o Done) ≡ false
opened_is_short told None short = refl
opened_is_short told (Some a) short = short a

-- a request only reads, or no reply of it has any length
reads_or_is_short : (q : Request) (s t : State) (reply : Reply) (step : Step s q reply t)
    → ((rule_of q step.reading).only_reads ≡ true) ⊎ ((u : State) → has_any_length ((rule_of q step.reading).reply u) ≡ false)
reads_or_is_short (Read target object block) s t reply step = inl refl
reads_or_is_short (Get target property) s t reply step = inl refl
reads_or_is_short (PoolGet property) s t reply step = inl refl
reads_or_is_short ToList s t reply step = inl refl
reads_or_is_short (Holds target) s t reply step = inl refl
reads_or_is_short (WrittenSince target since) s t reply step = inl refl
reads_or_is_short (WouldFree name first last) s t reply step = inl refl
reads_or_is_short (Send target from) s t reply step = inl refl
reads_or_is_short (OpenView target) s t reply step =
    inr (λ u. opened_is_short (λ p. Opened u.next_view (sight_of u.now (id_of p.1))) (placed u.now target) (λ p. refl))
reads_or_is_short q s t reply step = inr (λ u. refl)

-- what is answered by a list, a text or a stream has changed nothing
read_alone : (s t : State) (q : Request) (reply : Reply) → IsTrue (has_any_length reply) → Step s q reply t → t ≡ s
unfolding state_after
read_alone s t q reply long step = by_end step.follows
  where
    by_rule : (c : Choice) → reply ≡ (rule_of q step.reading).reply s → t ≡ state_after s c (rule_of q step.reading)
        → ((rule_of q step.reading).only_reads ≡ true) ⊎ ((u : State) → has_any_length ((rule_of q step.reading).reply u) ≡ false) → t ≡ s
    by_rule c is new (inl reads) = new ∙ ap (λ b. if b then s else state_after_sweep ((rule_of q step.reading).after s c)) reads
    by_rule c is new (inr short) = absurd (true≢false (sym long ∙ ap has_any_length is ∙ short s))

    by_end : Follows s (rule_of q step.reading) reply t → t ≡ s
    by_end (done h) = by_rule h.choice h.reply_is h.new_is (reads_or_is_short q s t reply step)
    by_end (refused h) = h.unchanged
    by_end (out_of_memory h) = h.unchanged

-- the pool is as it was
pub unserved_same : (m : Meaning) (held held' : Option (List ℕ)) (s t : State) (fault : LineFault) → IsUnserved Serves m has_any_length held held' s t fault → t ≡ s
unserved_same m held held' s t NoMemory h = unanswered m h.1
  where
    unanswered : (m : Meaning) → (t ≡ s) ⊎ IsUnanswered Serves m s t → t ≡ s
    unanswered m (inl e) = e
    unanswered Silent (inr h) = absurd h
    unanswered (Faulty why) (inr h) = absurd h
    unanswered (Asks q) (inr h) = absurd (no_some h.0 h.1)
unserved_same m held held' s t Unwritten h = missed m h.2
  where
    missed : (m : Meaning) → Answers Serves m s (Some h.0) t → t ≡ s
    missed Silent answers = answers.1
    missed (Faulty why) answers = answers.1
    missed (Asks q) answers =
        let same : Some h.0 ≡ Some answers.2.0 = answers.1 ∙ answers.2.1 in
        read_alone s t q answers.2.0 (sym (ap (λ o. option_map_or has_any_length o true) same) ∙ h.1) answers.2.2

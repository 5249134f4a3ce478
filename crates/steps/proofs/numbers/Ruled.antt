-- Steps by a rule.
use Rattle.std.proofs.Common.{◌≡◌, true, false, None, Some, refl, sym, subst, ◌∙◌, inl}
use Rattle.std.specs.Prelude.{IsTrue, if◌then◌else◌}
use Rattle.std.specs.FinSet as set
use Rattle.base.specs.declared.refusal.Refusal.{Refusal}
use Rattle.base.specs.declared.refusal.Refusal.TheVariants.{NoMemory}
use Rattle.model.specs.declared.request.Request.{Request}
use Rattle.model.specs.declared.reply.Reply.{Reply}
use Rattle.model.specs.declared.reply.Reply.TheVariants.{Refused}
use Rattle.model.specs.State.{State}
use Rattle.model.specs.Rule.{Choice, Rule}
use Rattle.model.specs.Outcome.{state_after, state_after_sweep}
use Rattle.model.specs.Refusals.{refusal_of}
use Rattle.model.specs.Step.{Step, Follows, done, refused, out_of_memory}
use Rattle.world.proofs.steps.StateSteps.{swept_idle}
use Rattle.world.proofs.steps.States.{state_numbered}
use Rattle.steps.specs.Ruled.{HasRule}
use Rattle.steps.specs.Steady.{IsSteady}

-- where a rule leaves nothing to the pool
abbrev pub no_choice : Choice
no_choice = record { number = λ _. 0; taken = set.empty }

-- the request that has the rule
module _ (q : Request) (rule : Rule) (is : HasRule q rule) (s : State) where
  -- it follows the rule
  pub by_rule : (t : State) (r : Reply) → Follows s rule r t → Step s q r t
  by_rule t r f = record { reading = is.0; read = inl is.1; follows = subst (λ x. Follows s x r t) (sym is.2) f }

  pub refused_by : (why : Refusal) → refusal_of s rule ≡ Some why → Step s q (Refused why) s
  refused_by why row = by_rule s (Refused why) (refused (record { why = why; row = row; reply_is = refl; unchanged = refl }))

  pub no_memory_by : IsTrue rule.takes_memory → Step s q (Refused NoMemory) s
  no_memory_by may = by_rule s (Refused NoMemory) (out_of_memory (record { may = may; reply_is = refl; unchanged = refl }))

  -- a question that isn't refused is answered
  pub answered_by : IsSteady s → (r : Reply) → rule.only_reads ≡ true → IsTrue (rule.may s no_choice) → refusal_of s rule ≡ None → r ≡ rule.reply s → Step s q r s
  unfolding state_after
  answered_by steady r reads may none same = by_rule s r (done (record {
    choice = no_choice;
    allowed = may;
    not_refused = none;
    reply_is = same;
    new_is = λ i. if sym reads i then s else state_after_sweep (rule.after s no_choice);
    numbered = state_numbered s steady.good;
  }))

  -- what isn't refused is done, and then what nothing needs any more is swept
  pub swept_by : (c : Choice) (t : State) (r : Reply) → rule.only_reads ≡ false → IsTrue (rule.may s c) → refusal_of s rule ≡ None → r ≡ rule.reply s
      → t ≡ state_after_sweep (rule.after s c) → IsSteady t → Step s q r t
  unfolding state_after
  swept_by c t r reads may none same after steady = by_rule t r (done (record {
    choice = c;
    allowed = may;
    not_refused = none;
    reply_is = same;
    new_is = after ∙ (λ i. if sym reads i then s else state_after_sweep (rule.after s c));
    numbered = state_numbered t steady.good;
  }))

  -- what isn't refused is done; with nothing to sweep, the state after it is the rule's
  pub done_by : (c : Choice) (t : State) (r : Reply) → rule.only_reads ≡ false → IsTrue (rule.may s c) → refusal_of s rule ≡ None → r ≡ rule.reply s
      → t ≡ rule.after s c → IsSteady t → Step s q r t
  unfolding state_after
  done_by c t r reads may none same after steady = by_rule t r (done (record {
    choice = c;
    allowed = may;
    not_refused = none;
    reply_is = same;
    new_is = sym (swept_idle t steady.swept) ∙ (λ i. if sym reads i then s else state_after_sweep (after i));
    numbered = state_numbered t steady.good;
  }))

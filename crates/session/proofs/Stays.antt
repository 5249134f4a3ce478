-- A step that isn't done leaves the state.
use Rattle.std.proofs.Common.{◌≡◌, Bool, false, true≢false, ap, sym, ◌∙◌}
use Rattle.std.specs.Prelude.{◌↔◌, IsTrue}
use Rattle.model.specs.State.{State}
use Rattle.model.specs.Step.{Step, Follows, done, refused, out_of_memory}
use Rattle.model.specs.declared.request.Request.{Request}
use Rattle.model.specs.declared.reply.Reply.{Reply}
use Rattle.model.specs.declared.reply.Reply.TheVariants.{Done}
use Rattle.model.specs.requests.{rule_of, AnswersDone}

-- the reply is tested, and isn't Done
pub stays : (s t : State) (q asked : Request) (r : Reply) (is_done : Bool) → AnswersDone q → asked ≡ q → Step s asked r t → IsTrue is_done ↔ (r ≡ Done) → is_done ≡ false → t ≡ s
stays s t q asked r is_done answers same step tells isnt = at step.follows
  where
    at : Follows s (rule_of asked step.reading) r t → t ≡ s
    at (done x) = absurd (true≢false (sym (tells.1 (x.reply_is ∙ ap (λ o. (rule_of o step.reading).reply s) same ∙ answers step.reading s)) ∙ isnt))
    at (refused x) = x.unchanged
    at (out_of_memory x) = x.unchanged

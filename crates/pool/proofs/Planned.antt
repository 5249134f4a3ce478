-- What a prepared step writes.
use Rattle.std.proofs.Common.{◌≡◌, ℕ, true, List, [], sym, subst}
use Rattle.model.specs.State.{State}
use Rattle.model.specs.declared.reply.Reply.{Reply}
use Rattle.model.specs.declared.request.Request.{Request}
use Rattle.image.specs.Image.{ShownImage}
use Rattle.image.specs.StepWrites.{AreStepWrites, StepWrites, writes_nothing}
use Rattle.pool.specs.Plans.{state_after_plan, writes_of_plan, keeps_after_plan}
use Rattle.pool.specs.Shown.{Shown, Leap}
use Rattle.pool.specs.declared.pool.Plan.{Plan}

-- what its plan writes, it writes
pub planned_writes : (old : Shown) (leap : Leap) (from now : Shown) (plan held : Plan) (new : ShownImage)
    → record { from = from; to = state_after_plan from.state held; writes = writes_of_plan from.image.bytes held; keeps = keeps_after_plan from.image.keeps held } ≡ leap
    → leap.from ≡ old → from ≡ now → held ≡ plan → AreStepWrites now.state (state_after_plan now.state plan) (writes_of_plan now.image.bytes plan) now.image new
    → AreStepWrites old.state leap.to leap.writes old.image new
planned_writes old leap from now plan held new view is same kind writes =
    subst (λ (x : Shown). AreStepWrites x.state leap.to leap.writes x.image new) is
    (subst (λ (l : Leap). AreStepWrites l.from.state l.to l.writes l.from.image new) view
    (subst (λ (p : Plan). AreStepWrites from.state (state_after_plan from.state p) (writes_of_plan from.image.bytes p) from.image new) (sym kind)
    (subst (λ (x : Shown). AreStepWrites x.state (state_after_plan x.state plan) (writes_of_plan x.image.bytes plan) x.image new) (sym same) writes)))

-- a step that was prepared and is done
pub done_writes : (s mid t end : State) (q : Request) (r : Reply) (ws : List (ℕ × List ℕ)) (i prepared new : ShownImage) → mid ≡ s → prepared ≡ i → end ≡ t
    → (writes_nothing q r ≡ true → ws ≡ []) → AreStepWrites mid t ws prepared new → StepWrites s q r end i new
done_writes s mid t end q r ws i prepared new state image to none are = record {
  writes = ws;
  are = subst (λ (x : State). AreStepWrites x end ws i new) state
      (subst (λ (x : ShownImage). AreStepWrites mid end ws x new) image (subst (λ (x : State). AreStepWrites mid x ws prepared new) (sym to) are));
  none = none;
}

-- Runs of the pool (profile).
use Rattle.std.specs.Prelude.{◌≡◌, List, [], ◌∷◌}
use Rattle.model.specs.declared.request.Request.{Request}
use Rattle.model.specs.declared.reply.Reply.{Reply}
use Rattle.model.specs.State.{State}
use Rattle.model.specs.Step.{Step}

-- each request is joined to its reply by a step (profile)
abbrev pub Run : State → List Request → List Reply → State → Type 0
Run s [] [] u = s ≡ u
Run s (q ∷ qs) (r ∷ rs) u = (t : State) × Step s q r t × Run t qs rs u
Run s _ _ u = ⊥

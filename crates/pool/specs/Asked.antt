-- What a request asks of the tree of a file system.
use Rattle.std.specs.Prelude.{◌≡◌, ◌↔◌, Bool, false, Result, Err, [], ◌∷◌, IfOk, IfErr}
use Rattle.base.specs.Rewrite.{Changes}
use Rattle.base.specs.declared.name.target.Target.{Target}
use Rattle.base.specs.declared.refusal.Refusal.{Refusal}
use Rattle.base.specs.declared.refusal.Refusal.TheVariants.{BadKey}
use Rattle.batch.specs.declared.update.Update.{Update}
use Rattle.tree.specs.Updates.{changes_of}
use Rattle.model.specs.declared.request.Request.{Request}
use Rattle.model.specs.requests.Change.{change_rule}
use Rattle.steps.specs.Ruled.{HasRule}

-- the request's rule is that of this update of its target's live map; BadKey stands for one whose numbers are outside their limits (profile)
pub record Asks (q : Request) (target : Target) (update : Result Update Refusal) : Type 0 where
  pub changes : Changes
  pub in_range : Bool
  pub rule : HasRule q (change_rule target changes in_range)
  pub is : IfOk update (λ u. changes_of (u ∷ []) ≡ changes)
  pub bad_key : (update ≡ Err BadKey) ↔ (in_range ≡ false)
  pub only : IfErr update (λ why. why ≡ BadKey)

-- What nothing needs goes from a state whose worlds are in order: what holds between two steps holds then.
use Rattle.std.proofs.Common.{◌≡◌, not, ◌&&◌, refl, sym, ap, subst, ◌∙◌}
use Rattle.model.specs.World.{reach_of}
use Rattle.model.specs.State.{State}
use Rattle.model.specs.Outcome.{is_needed, state_after_sweep}
use Rattle.model.specs.Edits.{without_snaps}
use Rattle.world.specs.Worlds.{IsPoolState, IsSwept}
use Rattle.world.proofs.changes.Kept.{losses_reach}
use Rattle.world.proofs.steps.StateSteps.{sweep_swept}
use Rattle.world.proofs.steps.States.{sweep_keeps}
use Rattle.world.proofs.removals.WithoutSnaps.{without_from}
use Rattle.limits.specs.Limits.{HasLimits}
use Rattle.limits.proofs.Steps.{sweep_limits}
use Rattle.removals.specs.Requests.{swept}
use Rattle.steps.specs.Edits.{datasets_of, lose, CanLose}

module _ (s : State) (good : IsPoolState s) (limits : HasLimits s) where
  pub after_is : lose s (swept (datasets_of s) s.views) ≡ state_after_sweep s
  unfolding state_after_sweep
  after_is = refl

  left_reach : reach_of (state_after_sweep s).now ≡ reach_of s.now
  unfolding state_after_sweep
  left_reach = losses_reach s.size s.now (without_snaps s.now (λ u. u.deferred && not (is_needed s.now s.views u))) good.now
      (without_from s.now (λ u. u.deferred && not (is_needed s.now s.views u))) (sweep_keeps s good).now.systems refl

  pub sweep_can : CanLose s (swept (datasets_of s) s.views)
  sweep_can = record {
    steady = record {
      good = subst IsPoolState (sym after_is) (sweep_keeps s good);
      swept = subst IsSwept (sym after_is) (sweep_swept s);
      limits = subst HasLimits (sym after_is) (sweep_limits s good limits);
    };
    reach = ap (λ (x : State). reach_of x.now) after_is ∙ left_reach;
  }

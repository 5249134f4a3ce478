-- Back to the last synced world: what holds between two steps holds there, once it is swept; and the steps.
use Rattle.std.proofs.Common.{◌≡◌, Bool, true, false, not, ◌&&◌, cond, Option, Some, None, refl, ap}
use Rattle.std.specs.Prelude.{nat_lt}
use Rattle.std.specs.FinMap.{len}
use Rattle.base.specs.declared.refusal.Refusal.{Refusal}
use Rattle.base.specs.declared.refusal.Refusal.TheVariants.{Busy}
use Rattle.model.specs.declared.request.Request.TheVariants.{Abandon}
use Rattle.model.specs.declared.reply.Reply.TheVariants.{Done, Refused}
use Rattle.model.specs.State.{State}
use Rattle.model.specs.Edits.{with_now}
use Rattle.model.specs.Outcome.{is_needed}
use Rattle.model.specs.requests.Abandon.{abandon_rule}
use Rattle.model.specs.Refusals.{refusal_of}
use Rattle.model.specs.Step.{Step}
use Rattle.world.specs.Tables.{world_of}
use Rattle.world.specs.Worlds.{IsPoolState}
use Rattle.world.proofs.steps.Groups.{back_pairs}
use Rattle.world.proofs.views.ViewedRequests.{none_viewed}
use Rattle.world.proofs.views.ViewedSteps.{viewed}
use Rattle.limits.specs.Limits.{HasLimits, IsUnlimited}
use Rattle.removals.specs.Requests.{swept}
use Rattle.steps.specs.Steady.{IsSteady}
use Rattle.steps.specs.Edits.{datasets_of, lose, CanLose}
use Rattle.steps.proofs.quotas.Unlimited.{unlimited_without}
use Rattle.steps.proofs.numbers.Ruled.{no_choice, refused_by, swept_by}
use Rattle.steps.proofs.requests.Sweeping.{after_is, sweep_can}

-- the state that goes back to its last synced world, before what nothing needs there is swept
abbrev pub gone_back : State → State
gone_back s = with_now s s.last

module _ (s : State) where
  row_is : (b : Bool) → nat_lt 0 (len s.views) ≡ b → refusal_of s abandon_rule ≡ cond {A = Option Refusal} b (Some Busy) None
  unfolding refusal_of
  row_is b e = ap (λ x. cond {A = Option Refusal} x (Some Busy) None) e

  pub abandon_busy : nat_lt 0 (len s.views) ≡ true → Step s Abandon (Refused Busy) s
  abandon_busy some = refused_by Abandon abandon_rule (None, refl, refl) s Busy (row_is true some)

  module _ (steady : IsSteady s) (none : nat_lt 0 (len s.views) ≡ false) where
    back_good : IsPoolState (gone_back s)
    back_good = record {
      now = steady.good.last;
      last = steady.good.last;
      pair = back_pairs s.size s.now s.last steady.good.pair;
      views = λ v id e. absurd (none_viewed s.views none id (viewed s.views v id e));
    }

    back_limits : HasLimits (gone_back s)
    back_limits = record { now = steady.limits.last; last = steady.limits.last }

    -- the last synced datasets can be put in place once they are swept
    pub back_can : CanLose (gone_back s) (swept (datasets_of (gone_back s)) s.views)
    back_can = sweep_can (gone_back s) back_good back_limits

    -- where they had no limit, they have none
    pub back_unlimited : IsUnlimited s.last.file_systems → IsUnlimited (swept (datasets_of (gone_back s)) s.views).file_systems
    back_unlimited bare = unlimited_without (world_of (datasets_of (gone_back s))) bare (λ u. u.deferred && not (is_needed (world_of (datasets_of (gone_back s))) s.views u))

    pub abandon_done : Step s Abandon Done (lose (gone_back s) (swept (datasets_of (gone_back s)) s.views))
    abandon_done = swept_by Abandon abandon_rule (None, refl, refl) s no_choice (lose (gone_back s) (swept (datasets_of (gone_back s)) s.views)) Done refl refl
        (row_is false none) refl (after_is (gone_back s) back_good back_limits) back_can.steady

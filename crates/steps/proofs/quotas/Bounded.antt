-- Requests that ask limits of the state that they lead to: what their rows come to, and what holds of that state then.
use Rattle.std.proofs.Common.{◌≡◌, Bool, true, false, cond, not, List, [], ◌∷◌, ◌++◌, Option, Some, None, refl, sym, subst, ◌∙◌, arith}
use Rattle.std.specs.FinSet.{union, difference, len}
use Rattle.std.proofs.lemmas.Bool.{le-leb}
use Rattle.base.specs.declared.refusal.Refusal.{Refusal}
use Rattle.base.specs.declared.refusal.Refusal.TheVariants.{Quota, RefQuota, NoSpace}
use Rattle.zalloc.specs.declared.BlockState.{BlockState}
use Rattle.model.specs.World.{reach_of}
use Rattle.model.specs.State.{State, waiting_of}
use Rattle.model.specs.Numbers.{HasStates}
use Rattle.model.specs.Rule.{Row, first_of}
use Rattle.model.specs.requests.Change.{limit_row}
use Rattle.world.specs.Worlds.{IsPoolState, IsSwept}
use Rattle.limits.specs.Limits.{IsUnlimited, HasLimits}
use Rattle.limits.proofs.Unlimited.{quotas_unlimited, refquotas_unlimited, pool_unlimited}
use Rattle.steps.specs.Settles.{AreStatesOf}
use Rattle.steps.specs.Steady.{IsSteady}
use Rattle.steps.proofs.numbers.Counts.{count-free}
use Rattle.steps.proofs.numbers.Known.{states_of, of_states}
use Rattle.steps.proofs.quotas.Limits.{asked_limits}

-- ---- rows

-- what an earlier row refuses
pub first_left : (xs ys : Row) (why : Refusal) → first_of xs ≡ Some why → first_of (xs ++ ys) ≡ Some why
first_left [] ys why e = absurd cc
first_left (r ∷ rs) ys why e = at r.0 e (first_left rs ys why)
  where
    at : (b : Bool) → cond b (Some r.1) (first_of rs) ≡ Some why → (first_of rs ≡ Some why → first_of (rs ++ ys) ≡ Some why) → cond b (Some r.1) (first_of (rs ++ ys)) ≡ Some why
    at true e rest = e
    at false e rest = rest e

-- where an earlier row refuses nothing, the later one says
pub first_after : (xs ys : Row) → first_of xs ≡ None → first_of (xs ++ ys) ≡ first_of ys
first_after [] ys e = refl
first_after (r ∷ rs) ys e = at r.0 e (first_after rs ys)
  where
    at : (b : Bool) → cond b (Some r.1) (first_of rs) ≡ None → (first_of rs ≡ None → first_of (rs ++ ys) ≡ first_of ys) → cond b (Some r.1) (first_of (rs ++ ys)) ≡ first_of ys
    at true e rest = absurd cc
    at false e rest = rest e

-- ---- where no file system has a limit

-- none is passed
pub limits_unlimited : (s : State) → IsPoolState s → IsUnlimited s.now.file_systems → (numbers : List BlockState) → HasStates s numbers → first_of (limit_row s) ≡ None
limits_unlimited s good bare numbers known =
    let free = count-free (reach_of s.now) (reach_of s.last) s.last.group s.now.group s.size good.pair.reached numbers (states_of s numbers known) in
    row-value _ _ _ (quotas_unlimited s.now bare) (refquotas_unlimited s.now bare)
    (pool_unlimited s good.now.systems good.now.freeing_apart bare ∙ le-leb (len (union (reach_of s.now) (reach_of s.last))) s.size (omega (arith, free)))
  where
    row-value : (q f p : Bool) → q ≡ true → f ≡ true → p ≡ true
        → cond {A = Option Refusal} (not q) (Some Quota) (cond (not f) (Some RefQuota) (cond (not p) (Some NoSpace) None)) ≡ None
    row-value q f p a b c = rw (a, b, c) refl

-- ---- the state that a request leads to, where the same blocks are reached

-- what holds of it between two steps, but for the limits, which are asked of it
pub record IsUnasked (s new : State) : Type 0 where
  pub good : IsPoolState new
  pub swept : IsSwept new
  pub reach : reach_of new.now ≡ reach_of s.now
  pub last : new.last ≡ s.last
  pub size : new.size ≡ s.size

module _ (s new : State) (is : IsUnasked s new) where
  -- no number changes its state
  unasked_states : (numbers : List BlockState) → HasStates s numbers → HasStates new numbers
  unasked_states numbers known = of_states new numbers
      (subst (λ n. AreStatesOf (reach_of new.now) (reach_of new.last) n numbers) (sym is.size)
      (subst (λ w. AreStatesOf (reach_of new.now) (reach_of w) s.size numbers) (sym is.last)
      (subst (λ r. AreStatesOf r (reach_of s.last) s.size numbers) (sym is.reach) (states_of s numbers known))))

  -- and the same blocks wait
  pub unasked_waiting : waiting_of new ≡ waiting_of s
  unfolding waiting_of
  unasked_waiting i = difference (reach_of (is.last i)) (is.reach i)

  -- where no file system has a limit, none is passed
  pub unasked_fits : IsUnlimited new.now.file_systems → (numbers : List BlockState) → HasStates s numbers → first_of (limit_row new) ≡ None
  unasked_fits bare numbers known = limits_unlimited new is.good bare numbers (unasked_states numbers known)

  module _ (steady : IsSteady s) where
    with_limits : HasLimits new → IsSteady new
    with_limits limits = record { good = is.good; swept = is.swept; limits = limits }

    -- where its limits hold, what holds between two steps holds of it
    pub asked_steady : first_of (limit_row new) ≡ None → IsSteady new
    asked_steady fits = with_limits (asked_limits s new is.last fits steady.limits)

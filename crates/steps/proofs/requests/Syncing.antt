-- A sync.
use Rattle.std.proofs.Common.{◌≡◌, ℕ, ◌+◌, ◌≤◌, Bool, true, false, cond, List, Some, None, refl, sym, ap, subst, ◌∙◌, map, arith}
use Rattle.std.specs.Option.{option_map}
use Rattle.std.specs.FinSet.{difference}
use Rattle.std.proofs.lemmas.Bool.{false_from_ne_true, lt-ltb}
use Rattle.std.proofs.lemmas.List.{length-map}
use Rattle.std.proofs.lemmas.Option.{slice_get-map}
use Rattle.base.specs.declared.refusal.Refusal.TheVariants.{TooMany}
use Rattle.base.specs.Map.{BlockSet}
use Rattle.zalloc.specs.declared.BlockState.{BlockState}
use Rattle.zalloc.specs.declared.BlockState.TheVariants.{Free, Allocated, Waiting}
use Rattle.zalloc.specs.States.{after_group}
use Rattle.model.specs.declared.request.Request.TheVariants.{Sync}
use Rattle.model.specs.declared.reply.Reply.TheVariants.{Refused, Group as GroupIs}
use Rattle.model.specs.World.{reach_of}
use Rattle.model.specs.State.{State, is_number_of}
use Rattle.model.specs.Targets.{number_limit, has_no_next_group}
use Rattle.model.specs.Edits.{with_next_group}
use Rattle.model.specs.Numbers.{HasStates}
use Rattle.model.specs.requests.Sync.{sync_rule}
use Rattle.model.specs.Refusals.{refusal_of}
use Rattle.model.specs.Step.{Step}
use Rattle.world.specs.Blocks.{block_order as o}
use Rattle.world.proofs.lists.SetCounts.{from_difference}
use Rattle.world.proofs.maps.Cells.{from_number}
use Rattle.world.specs.Worlds.{IsPoolState}
use Rattle.world.proofs.steps.Groups.{next_keeps, next_reach, sync_pairs}
use Rattle.world.proofs.changes.Views.{snap_stays}
use Rattle.steps.specs.Settles.{state_at, AreStatesOf}
use Rattle.steps.specs.Steady.{IsSteady}
use Rattle.world.specs.Tables.{Datasets}
use Rattle.steps.specs.Edits.{datasets_of, synced, CanSync}
use Rattle.steps.proofs.numbers.Known.{states_of, of_states}
use Rattle.limits.proofs.Steps.{sync_limits}
use Rattle.steps.proofs.quotas.Unlimited.{still_swept, same_known, same_origins}
use Rattle.steps.proofs.numbers.Ruled.{no_choice, refused_by, done_by}

-- ---- numbers

module _ (now last : BlockSet) where
  -- no block waits that both worlds reach
  none_waits : (n : ℕ) → is_number_of (difference now now) n ≡ false
  none_waits n = false_from_ne_true _ (λ t. let b = from_number (difference now now) n t in let p = from_difference o now now b.0 b.1 in p.1 p.0)

  -- the state of a number once the group has ended
  ended_state : (n : ℕ) → after_group (state_at now last n) ≡ state_at now now n
  ended_state n =
      at (is_number_of now n) (is_number_of (difference last now) n)
      ∙ ap (λ w. cond (is_number_of now n) Allocated (cond w Waiting Free)) (sym (none_waits n))
    where
      at : (a w : _) → after_group (cond a Allocated (cond w Waiting Free)) ≡ cond a Allocated (cond false Waiting Free)
      at true w = refl
      at false true = refl
      at false false = refl

  sync_states_of : (size : ℕ) (states : List BlockState) → AreStatesOf now last size states → AreStatesOf now now size (map after_group states)
  sync_states_of size states known = record {
    count = length-map states after_group ∙ known.count;
    each = λ n l. slice_get-map after_group states n ∙ ap (option_map after_group) (known.each n l) ∙ ap Some (ended_state n);
  }

-- the present datasets in the next group
abbrev next_of : State → Datasets
next_of s = record (datasets_of s) { group = s.now.group + 1 }

module _ (s : State) (steady : IsSteady s) where
  reach_next : reach_of (with_next_group s.now) ≡ reach_of s.now
  reach_next = next_reach s.size s.now steady.good.now

  next_good : IsPoolState (synced s (next_of s))
  next_good = record {
    now = next_keeps s.size s.now steady.good.now;
    last = next_keeps s.size s.now steady.good.now;
    pair = sync_pairs s.size s.now steady.good.now s.last steady.good.pair;
    views = λ v id e. snap_stays s.now (with_next_group s.now) (s.now.group + 1) (next_keeps s.size s.now steady.good.now).systems.lines (λ q x u at h. (q, x, u, at, h, refl)) id (steady.good.views v id e);
  }

  next_steady : IsSteady (synced s (next_of s))
  next_steady = record {
    good = next_good;
    swept = still_swept s (synced s (next_of s)) steady refl (same_known s.now.file_systems) (same_origins s.now.file_systems);
    limits = sync_limits s steady.good next_good steady.limits;
  }

  next_states : (numbers : List BlockState) → HasStates s numbers → HasStates (synced s (next_of s)) (map after_group numbers)
  next_states numbers known = of_states (synced s (next_of s)) (map after_group numbers)
      (subst (λ r. AreStatesOf r r s.size (map after_group numbers)) (sym reach_next) (sync_states_of (reach_of s.now) (reach_of s.last) s.size numbers (states_of s numbers known)))

  module _ (t : Datasets) (can : CanSync s t) where
    -- what holds of the pool between two steps holds again
    pub sync_steady : IsSteady (synced s t)
    sync_steady = subst (λ x. IsSteady (synced s x)) (sym can.is) next_steady

    -- the end of the group gives every number the state that the worlds give it after a sync
    pub sync_states : (numbers : List BlockState) → HasStates s numbers → HasStates (synced s t) (map after_group numbers)
    sync_states numbers known = subst (λ x. HasStates (synced s x) (map after_group numbers)) (sym can.is) (next_states numbers known)

-- ---- steps

module _ (s : State) where
  row_is : (b : Bool) → has_no_next_group s.now ≡ b → refusal_of s sync_rule ≡ cond b (Some TooMany) None
  unfolding refusal_of
  row_is b e = ap (λ t. cond t (Some TooMany) None) e

  pub sync_too_many : number_limit ≤ s.now.group → Step s Sync (Refused TooMany) s
  sync_too_many l = refused_by Sync sync_rule (None, refl, refl) s TooMany (row_is true (lt-ltb number_limit (s.now.group + 1) (omega arith)))

pub sync_done : (s : State) → IsSteady s → (t : Datasets) → CanSync s t → Step s Sync (GroupIs (s.now.group + 1)) (synced s t)
sync_done s steady t can = done_by Sync sync_rule (None, refl, refl) s no_choice (synced s t) (GroupIs (s.now.group + 1)) refl refl
    (row_is s false can.next) refl (ap (synced s) can.is) (sync_steady s steady t can)

-- A clone of a snapshot made.
use Rattle.std.proofs.Common.{◌≡◌, Bool, true, false, cond, not, List, ℕ, Option, Some, None, refl, sym, ap, subst, ◌∙◌, ◌⊎◌, ⊎_elim}
use Rattle.std.specs.Prelude.{is_some}
use Rattle.std.specs.Option.{option_map_or}
use Rattle.std.specs.FinMap.{get}
use Rattle.std.specs.FinSet.{union}
use Rattle.base.specs.declared.refusal.Refusal.{Refusal}
use Rattle.base.specs.declared.refusal.Refusal.TheVariants.{NoMemory, NotSnapshot, NoDataset, Deferred}
use Rattle.base.specs.Surveys.{IsIn}
use Rattle.base.specs.declared.name.target.Target.{Target}
use Rattle.model.specs.declared.request.Request.TheVariants.{Clone}
use Rattle.model.specs.declared.reply.Reply.TheVariants.{Done, Refused}
use Rattle.model.specs.World.{World, FileSystem, Snap, SnapId, id_of, snap_at, map_of, map_of_snap, empty_file_system, reach_of}
use Rattle.model.specs.State.{State}
use Rattle.model.specs.Edits.{with_now}
use Rattle.model.specs.Targets.{is_snapshot_name}
use Rattle.model.specs.Rule.{first_of}
use Rattle.model.specs.requests.Create.{create_row, create_refusal}
use Rattle.model.specs.requests.Clone.{with_clone, clone_row, clone_rule}
use Rattle.model.specs.requests.Rollback.{placed}
use Rattle.model.specs.Refusals.{refusal_of}
use Rattle.model.specs.Step.{Step}
use Rattle.world.specs.Tables.{world_of}
use Rattle.world.proofs.changes.Creations.{clone_union}
use Rattle.world.proofs.changes.Kept.{reach_is}
use Rattle.world.proofs.steps.StateSteps.{clone_before}
use Rattle.world.proofs.views.Viewed.{snap_found}
use Rattle.world.proofs.views.ViewedRequests.{from_placed}
use Rattle.datasets.specs.Clones.{with_clone_of}
use Rattle.snap.specs.Requests.{cloned, clone_refusal}
use Rattle.steps.specs.Steady.{IsSteady}
use Rattle.steps.specs.Edits.{datasets_of, with_datasets, put, StaysUnlimited, CanPut}
use Rattle.steps.proofs.requests.Creating.{CanAdd, can_add}
use Rattle.limits.specs.Limits.{IsUnlimited}
use Rattle.limits.proofs.Steps.{shrunk_cloned}
use Rattle.steps.proofs.quotas.Limits.{kept_limits}
use Rattle.steps.proofs.quotas.Unlimited.{unlimited_put, still_swept, same_known, put_known, new_origins}
use Rattle.steps.proofs.numbers.Putting.{put_none}
use Rattle.steps.proofs.numbers.Ruled.{no_choice, refused_by, no_memory_by, done_by}
use Rattle.steps.proofs.requests.Seeing.{once}

-- ---- what nothing refuses

-- a snapshot that is there, and a name that a file system can have
record CanClone (w : World) (target : Target) (name : List ℕ) : Type 0 where
  found : FileSystem × Snap
  is : placed w target ≡ Some found
  named : create_refusal w.file_systems name ≡ None

can_clone : (w : World) (target : Target) (name : List ℕ) → first_of (clone_row w target name) ≡ None → CanClone w target name
unfolding create_refusal
can_clone w target name e = by_place (is_snapshot_name target) (placed w target) refl e
  where
    by_mark : (p : FileSystem × Snap) → placed w target ≡ Some p → (d : Bool) → ◌≡◌ {A = Option Refusal} (cond d (Some Deferred) (first_of (create_row w.file_systems name))) None → CanClone w target name
    by_mark p i true k = absurd (cc)
    by_mark p i false k = record { found = p; is = i; named = k }

    by_place : (b : Bool) (x : Option (FileSystem × Snap)) → placed w target ≡ x
        → ◌≡◌ {A = Option Refusal} (cond (not b) (Some NotSnapshot) (cond (not (is_some x)) (Some NoDataset)
        (cond (option_map_or (λ (p : FileSystem × Snap). p.1.deferred) x false) (Some Deferred) (first_of (create_row w.file_systems name))))) None
        → CanClone w target name
    by_place false x i k = absurd (cc)
    by_place true None i k = absurd (cc)
    by_place true (Some p) i k = by_mark p i p.1.deferred k

-- ---- the state after it

clone_world : (s : State) (id : SnapId) (name : List ℕ) → with_clone s.now id name ≡ record s.now { file_systems = (with_clone (world_of (datasets_of s)) id name).file_systems }
unfolding map_of
clone_world s id name = refl

cloned_state : (s : State) (target : Target) (name : List ℕ)
    → option_map_or (λ (p : FileSystem × Snap). with_now s (with_clone s.now (id_of p.1) name)) (placed s.now target) s ≡ put s (cloned (datasets_of s) target name) 0
cloned_state s target name = by_place (placed s.now target) ∙ sym (put_none s (cloned (datasets_of s) target name))
  where
    by_place : (x : Option (FileSystem × Snap))
        → option_map_or (λ (p : FileSystem × Snap). with_now s (with_clone s.now (id_of p.1) name)) x s
        ≡ with_datasets s (option_map_or (λ (p : FileSystem × Snap). with_clone_of (datasets_of s) (id_of p.1) name) x (datasets_of s))
    by_place None = refl
    by_place (Some p) = ap (with_now s) (clone_world s (id_of p.1) name)

module _ (s : State) (steady : IsSteady s) (target : Target) (name : List ℕ) (none : clone_refusal (datasets_of s) target name ≡ None) where
  can : CanClone s.now target name
  can = can_clone s.now target name none

  abbrev id : SnapId
  id = id_of can.found.1

  abbrev clone : FileSystem
  clone = record empty_file_system { live = map_of_snap s.now (Some (id_of can.found.1)); origin = Some (id_of can.found.1) }

  add : CanAdd s.now.file_systems name
  add = can_add s.now.file_systems name can.named

  owner : (n : List ℕ) × (get s.now.file_systems n ≡ Some can.found.0) × IsIn can.found.0.snaps can.found.1
  owner = from_placed s.now target can.found can.is

  there : snap_at s.now (id_of can.found.1) ≡ Some (owner.0, can.found.1)
  there = snap_found s.now (once s.size s.now steady.good.now) owner.0 can.found.1 id (can.found.0, owner.1, owner.2) refl

  state_is : with_now s (with_clone s.now (id_of can.found.1) name) ≡ put s (cloned (datasets_of s) target name) 0
  state_is = sym (ap (λ x. option_map_or (λ (p : FileSystem × Snap). with_now s (with_clone s.now (id_of p.1) name)) x s) can.is) ∙ cloned_state s target name

  with_clone_steady : IsSteady (with_now s (with_clone s.now (id_of can.found.1) name))
  with_clone_steady = record {
    good = clone_before s steady.good name add.absent add.parent add.room id (owner.0, can.found.1) there;
    swept = still_swept s (with_now s (with_clone s.now id name)) steady refl
        (put_known s.now.file_systems s.now.file_systems (same_known s.now.file_systems) name clone (λ t i. absurd i))
        (new_origins s.now.file_systems name clone add.absent);
    limits = kept_limits s (with_now s (with_clone s.now id name)) steady (clone_before s steady.good name add.absent add.parent add.room id (owner.0, can.found.1) there) refl
        (shrunk_cloned s.now id name add.absent);
  }

  clone_reach : reach_of (put s (cloned (datasets_of s) target name) 0).now ≡ reach_of s.now
  clone_reach =
      ap (λ (x : State). reach_of x.now) (sym state_is)
      ∙ reach_is (with_clone s.now id name)
      ∙ ap (λ u. union u s.now.freeing) (clone_union s.size s.now steady.good.now name add.absent add.parent add.room id (owner.0, can.found.1) there)
      ∙ sym (reach_is s.now)

  -- the datasets with the clone can be put in place
  pub clone_can : CanPut s (cloned (datasets_of s) target name) 0
  clone_can = record {
    steady = subst IsSteady state_is with_clone_steady;
    reach = clone_reach;
  }

  -- where there was no limit, there is none
  pub clone_unlimited : StaysUnlimited s (cloned (datasets_of s) target name)
  clone_unlimited none = subst (λ (x : State). IsUnlimited x.now.file_systems) state_is (unlimited_put s.now.file_systems none name clone refl)

-- ---- steps

module _ (s : State) (target : Target) (name : List ℕ) where
  row_is : refusal_of s (clone_rule target name) ≡ clone_refusal (datasets_of s) target name
  unfolding refusal_of
  row_is = refl

  -- a clone that is refused, or has no memory
  pub clone_refused : (why : Refusal) → (clone_refusal (datasets_of s) target name ≡ Some why) ⊎ (why ≡ NoMemory) → Step s (Clone target name) (Refused why) s
  clone_refused why which = ⊎_elim
      (λ e. refused_by (Clone target name) (clone_rule target name) (None, refl, refl) s why (row_is ∙ e))
      (λ e. subst (λ z. Step s (Clone target name) (Refused z) s) (sym e) (no_memory_by (Clone target name) (clone_rule target name) (None, refl, refl) s refl))
      which

  -- and one that nothing refuses
  pub clone_done : IsSteady s → clone_refusal (datasets_of s) target name ≡ None → Step s (Clone target name) Done (put s (cloned (datasets_of s) target name) 0)
  clone_done steady none = done_by (Clone target name) (clone_rule target name) (None, refl, refl) s no_choice (put s (cloned (datasets_of s) target name) 0) Done
      refl refl (row_is ∙ none) refl (sym (cloned_state s target name)) (clone_can s steady target name none).steady

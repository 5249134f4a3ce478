-- A rollback: the datasets after it, why it is refused, and its steps.
use Rattle.std.proofs.Common.{◌≡◌, ◌⊎◌, ◌<◌, Bool, false, List, [], Option, Some, None, refl, sym, ap, subst, ◌∙◌, inl, inr, ⊎_elim, map}
use Rattle.std.specs.Prelude.{nat_le, nat_lt}
use Rattle.std.specs.Option.{option_map_or}
use Rattle.std.specs.FinMap.{get, insert}
use Rattle.std.proofs.lemmas.Bool.{lt-ltb}
use Rattle.base.specs.Surveys.{IsIn}
use Rattle.base.specs.declared.refusal.Refusal.{Refusal}
use Rattle.base.specs.declared.refusal.Refusal.TheVariants.{Busy, HasClones, NoMemory}
use Rattle.base.specs.declared.name.target.Target.{Target}
use Rattle.zalloc.specs.declared.BlockState.{BlockState}
use Rattle.model.specs.declared.request.Request.TheVariants.{Rollback}
use Rattle.model.specs.declared.reply.Reply.TheVariants.{Done, Refused}
use Rattle.model.specs.World.{World, FileSystem, Snap, SnapId, id_of, snap_at}
use Rattle.model.specs.State.{State}
use Rattle.model.specs.Numbers.{HasStates}
use Rattle.model.specs.Rule.{first_of}
use Rattle.model.specs.Refusals.{refusal_of, state_asked}
use Rattle.model.specs.Edits.{with_now, with_losses, with_file_system}
use Rattle.model.specs.Step.{Step}
use Rattle.model.specs.requests.Change.{limit_row}
use Rattle.model.specs.requests.Rollback.{placed, snaps_after, back_at, after_rollback, rolled_back, newer_snaps, is_busy, has_clone_outside, back_row, rollback_rule}
use Rattle.world.specs.Shapes.{Name}
use Rattle.world.specs.Worlds.{AreFileSystems, AreMapsFrom}
use Rattle.world.specs.Dead.{HasNoCloneIn}
use Rattle.world.specs.Tables.{world_of}
use Rattle.world.proofs.lists.Finding.{any_none, in_filter, from_filter}
use Rattle.world.proofs.steps.Groups.{same_maps}
use Rattle.world.proofs.lists.Listed.{map_in}
use Rattle.world.proofs.lists.Maps.{same_value}
use Rattle.world.proofs.removals.Rollbacks.{rollback_systems, rollback_from}
use Rattle.steps.specs.Steady.{IsSteady}
use Rattle.steps.specs.Asked.{asked_by_rollback}
use Rattle.steps.specs.Edits.{datasets_of, lose, StaysUnlimited, CanLose}
use Rattle.limits.specs.Limits.{IsUnlimited}
use Rattle.removals.specs.Needs.{has_clone}
use Rattle.removals.specs.Requests.{rolled, rollback_refusal}
use Rattle.steps.proofs.quotas.Bounded.{first_left, first_after, IsUnasked, asked_steady, unasked_fits}
use Rattle.steps.proofs.requests.Losing.{lost_unasked}
use Rattle.steps.proofs.quotas.Unlimited.{unlimited_put, still_swept, AreKnown, AreOriginsIn, same_known, put_known, same_origins, put_origins}
use Rattle.steps.proofs.numbers.Ruled.{no_choice, refused_by, no_memory_by, done_by}
use Rattle.steps.proofs.requests.Seeing.{once, closed, seen_after}
use Rattle.removals.proofs.Clones.{uncloned_is, outside_is}
use Rattle.world.proofs.views.Viewed.{snap_found}
use Rattle.world.proofs.views.ViewedRequests.{row_false, from_placed, rollback_safe}

-- ---- the world after it

back_world : (s : State) (name : Name) (t : Snap)
    → with_file_system s.now name (λ f. back_at f t) ≡ record s.now { file_systems = (with_file_system (world_of (datasets_of s)) name (λ f. back_at f t)).file_systems }
back_world s name t = at (get s.now.file_systems name)
  where
    at : (x : Option FileSystem)
        → option_map_or (λ (f : FileSystem). record s.now { file_systems = insert s.now.file_systems name (back_at f t) }) x s.now
        ≡ record s.now { file_systems = (option_map_or (λ (f : FileSystem). record (world_of (datasets_of s)) { file_systems = insert s.now.file_systems name (back_at f t) }) x (world_of (datasets_of s))).file_systems }
    at None = refl
    at (Some f) = refl

after_world : (s : State) (id : SnapId) → after_rollback s.now id ≡ record s.now { file_systems = (after_rollback (world_of (datasets_of s)) id).file_systems }
after_world s id = at (snap_at s.now id)
  where
    at : (x : Option (Name × Snap))
        → option_map_or (λ (p : Name × Snap). with_file_system s.now p.0 (λ f. back_at f p.1)) x s.now
        ≡ record s.now { file_systems = (option_map_or (λ (p : Name × Snap). with_file_system (world_of (datasets_of s)) p.0 (λ f. back_at f p.1)) x (world_of (datasets_of s))).file_systems }
    at None = refl
    at (Some p) = back_world s p.0 p.1

-- it is that of the datasets, with what is to be freed
pub rolled_world : (s : State) (target : Target)
    → rolled_back s.now target ≡ record s.now { file_systems = (rolled_back (world_of (datasets_of s)) target).file_systems }
rolled_world s target = at (placed s.now target)
  where
    at : (x : Option (FileSystem × Snap))
        → option_map_or (λ (p : FileSystem × Snap). after_rollback s.now (id_of p.1)) x s.now
        ≡ record s.now { file_systems = (option_map_or (λ (p : FileSystem × Snap). after_rollback (world_of (datasets_of s)) (id_of p.1)) x (world_of (datasets_of s))).file_systems }
    at None = refl
    at (Some p) = after_world s (id_of p.1)

-- the state after it
pub rolled_state : (s : State) (target : Target)
    → with_now s (with_losses s.now (rolled_back s.now target)) ≡ lose s (rolled (datasets_of s) target)
rolled_state s target = ap (λ x. with_now s (with_losses s.now x)) (rolled_world s target)

-- ---- the datasets after it

module _ (s : State) (steady : IsSteady s) where
  -- of a file system
  back_unlimited : (name : Name) (t : Snap) → IsUnlimited s.now.file_systems → IsUnlimited (with_file_system s.now name (λ f. back_at f t)).file_systems
  back_unlimited name t bare = at (get s.now.file_systems name) refl
    where
      at : (x : Option FileSystem) → get s.now.file_systems name ≡ x
          → IsUnlimited (option_map_or (λ (f : FileSystem). record s.now { file_systems = insert s.now.file_systems name (back_at f t) }) x s.now).file_systems
      at None e = bare
      at (Some f) e = unlimited_put s.now.file_systems bare name (back_at f t) (bare name f e)

  back_known : (name : Name) (t : Snap) → AreKnown s.now.file_systems (with_file_system s.now name (λ f. back_at f t)).file_systems
  back_known name t = at (get s.now.file_systems name) refl
    where
      at : (x : Option FileSystem) → get s.now.file_systems name ≡ x
          → AreKnown s.now.file_systems (option_map_or (λ (f : FileSystem). record s.now { file_systems = insert s.now.file_systems name (back_at f t) }) x s.now).file_systems
      at None e = same_known s.now.file_systems
      at (Some f) e = put_known s.now.file_systems s.now.file_systems (same_known s.now.file_systems) name (back_at f t)
          (λ u i. inr (name, f, e, (from_filter (λ (v : Snap). nat_le v.group t.group) f.snaps u i).0))

  back_origins : (name : Name) (t : Snap) → AreOriginsIn s.now.file_systems (with_file_system s.now name (λ f. back_at f t)).file_systems
  back_origins name t = at (get s.now.file_systems name) refl
    where
      at : (x : Option FileSystem) → get s.now.file_systems name ≡ x
          → AreOriginsIn s.now.file_systems (option_map_or (λ (f : FileSystem). record s.now { file_systems = insert s.now.file_systems name (back_at f t) }) x s.now).file_systems
      at None e = same_origins s.now.file_systems
      at (Some f) e = put_origins s.now.file_systems s.now.file_systems (same_origins s.now.file_systems) name f (back_at f t) e refl

  record IsBack (to : World) : Type 0 where
    systems : AreFileSystems to.file_systems s.now.group
    from : AreMapsFrom s.now.file_systems to.file_systems
    unlimited : IsUnlimited s.now.file_systems → IsUnlimited to.file_systems
    known : AreKnown s.now.file_systems to.file_systems
    origins : AreOriginsIn s.now.file_systems to.file_systems

  same_world : IsBack s.now
  same_world = record {
    systems = steady.good.now.systems;
    from = same_maps s.now.file_systems;
    unlimited = λ bare. bare;
    known = same_known s.now.file_systems;
    origins = same_origins s.now.file_systems;
  }

  -- a snapshot of a file system, of whose newer ones none has a clone
  module _ (name : Name) (p : FileSystem × Snap) (at : get s.now.file_systems name ≡ Some p.0) (here : IsIn p.0.snaps p.1)
      (none : has_clone_outside s.now [] (map id_of (snaps_after p.0 p.1.group)) ≡ false) where
    found : snap_at s.now (id_of p.1) ≡ Some (name, p.1)
    found = snap_found s.now (once s.size s.now steady.good.now) name p.1 (id_of p.1) (p.0, at, here) refl

    uncloned : (x : FileSystem) (u : Snap) → get s.now.file_systems name ≡ Some x → IsIn x.snaps u → p.1.group < u.group → HasNoCloneIn s.now.file_systems (id_of u)
    uncloned x u was i l =
        let newer = in_filter (λ (v : Snap). nat_lt p.1.group v.group) p.0.snaps u (subst (λ (y : FileSystem). IsIn y.snaps u) (same_value x p.0 (sym was ∙ at)) i) (lt-ltb p.1.group u.group l) in
        uncloned_is (datasets_of s) (id_of u)
        (any_none (has_clone (datasets_of s)) (map id_of (snaps_after p.0 p.1.group)) (sym (outside_is (datasets_of s) (map id_of (snaps_after p.0 p.1.group))) ∙ none) (id_of u)
        (map_in (λ (v : Snap). id_of v) (snaps_after p.0 p.1.group) u newer))

    abbrev by_snap : Option (Name × Snap) → World
    by_snap x = option_map_or (λ (q : Name × Snap). with_file_system s.now q.0 (λ f. back_at f q.1)) x s.now

    is_back : IsBack (after_rollback s.now (id_of p.1))
    is_back = record {
      systems = rollback_systems s.size s.now steady.good.now (id_of p.1) (name, p.1) found uncloned;
      from = rollback_from s.size s.now steady.good.now (id_of p.1) (name, p.1) found uncloned;
      unlimited = λ bare. subst (λ x. IsUnlimited (by_snap x).file_systems) (sym found) (back_unlimited name p.1 bare);
      known = subst (λ x. AreKnown s.now.file_systems (by_snap x).file_systems) (sym found) (back_known name p.1);
      origins = subst (λ x. AreOriginsIn s.now.file_systems (by_snap x).file_systems) (sym found) (back_origins name p.1);
    }

  -- a snapshot's that may not be there
  module _ (target : Target) where
    is_rolled : has_clone_outside s.now [] (newer_snaps s.now target) ≡ false → IsBack (rolled_back s.now target)
    is_rolled none = at (placed s.now target) refl none
      where
        at : (x : Option (FileSystem × Snap)) → placed s.now target ≡ x
            → has_clone_outside s.now [] (option_map_or (λ (p : FileSystem × Snap). map id_of (snaps_after p.0 p.1.group)) x []) ≡ false
            → IsBack (option_map_or (λ (p : FileSystem × Snap). after_rollback s.now (id_of p.1)) x s.now)
        at None e k = same_world
        at (Some p) e k = let r = from_placed s.now target p e in is_back r.0 p r.1 r.2 k

    module _ (later : Bool) (none : rollback_refusal (datasets_of s) s.views target later ≡ None) where
      -- where nothing newer has a clone
      back : IsBack (rolled_back s.now target)
      back = is_rolled (row_false (back_row s.now s.views target later) none (has_clone_outside s.now [] (newer_snaps s.now target), HasClones) (inr (inr (inr (inr (inl refl))))))

      -- what holds of the state after it whatever the limits, where nothing newer is viewed
      pub rollback_unasked : IsUnasked s (asked_by_rollback s target)
      rollback_unasked =
          let idle = row_false (back_row s.now s.views target later) none (is_busy s.now s.views (newer_snaps s.now target), Busy) (inr (inr (inr (inl refl)))) in
          let safe = rollback_safe s.views s.now target (once s.size s.now steady.good.now) (closed s.size s.now steady.good.now) idle in
          let to = record (datasets_of s) { file_systems = (rolled_back s.now target).file_systems } in
          subst (λ ss. IsUnasked s (lose s (record (datasets_of s) { file_systems = ss }))) (ap (λ (x : World). x.file_systems) (rolled_world s target))
          (lost_unasked s steady to back.systems refl back.from
          (λ v id e. seen_after s steady (rolled_back s.now target) safe v id e)
          (still_swept s (lose s to) steady refl back.known back.origins))

      -- where no file system had a limit, none has one
      pub rollback_unlimited : StaysUnlimited s (rolled (datasets_of s) target)
      rollback_unlimited bare = subst IsUnlimited (ap (λ (x : World). x.file_systems) (rolled_world s target)) (back.unlimited bare)

      -- where the limits hold then, the datasets after it can be put in place
      pub rollback_can_within : first_of (limit_row (asked_by_rollback s target)) ≡ None → CanLose s (rolled (datasets_of s) target)
      rollback_can_within fits = record { steady = asked_steady s (asked_by_rollback s target) rollback_unasked steady fits; reach = rollback_unasked.reach }

      -- no limit is passed where there is none
      pub rollback_fits : IsUnlimited s.now.file_systems → (numbers : List BlockState) → HasStates s numbers → first_of (limit_row (asked_by_rollback s target)) ≡ None
      rollback_fits bare = unasked_fits s (asked_by_rollback s target) rollback_unasked (rollback_unlimited bare)

-- ---- its steps

module _ (s : State) (target : Target) (later : Bool) where
  -- the state that its limits are asked of
  pub rollback_asked : state_asked s (rollback_rule target later) ≡ asked_by_rollback s target
  unfolding state_asked
  rollback_asked = rolled_state s target

  refused_row : (why : Refusal) → rollback_refusal (datasets_of s) s.views target later ≡ Some why → refusal_of s (rollback_rule target later) ≡ Some why
  unfolding refusal_of
  refused_row why e = first_left (back_row s.now s.views target later) (limit_row (state_asked s (rollback_rule target later))) why e

  -- a rollback that is refused whatever the limits, or has no memory
  pub rollback_refused_before : (why : Refusal) → (rollback_refusal (datasets_of s) s.views target later ≡ Some why) ⊎ (why ≡ NoMemory) → Step s (Rollback target later) (Refused why) s
  rollback_refused_before why which = ⊎_elim
      (λ e. refused_by (Rollback target later) (rollback_rule target later) (None, refl, refl) s why (refused_row why e))
      (λ e. subst (λ z. Step s (Rollback target later) (Refused z) s) (sym e) (no_memory_by (Rollback target later) (rollback_rule target later) (None, refl, refl) s refl))
      which

  module _ (none : rollback_refusal (datasets_of s) s.views target later ≡ None) where
    -- what earlier rows don't refuse, the limits say
    row_is : refusal_of s (rollback_rule target later) ≡ first_of (limit_row (asked_by_rollback s target))
    unfolding refusal_of
    row_is =
        first_after (back_row s.now s.views target later) (limit_row (state_asked s (rollback_rule target later))) none
        ∙ ap (λ x. first_of (limit_row x)) rollback_asked

    -- a limit would be passed
    pub rollback_refused_by_limit : (why : Refusal) → first_of (limit_row (asked_by_rollback s target)) ≡ Some why → Step s (Rollback target later) (Refused why) s
    rollback_refused_by_limit why over = refused_by (Rollback target later) (rollback_rule target later) (None, refl, refl) s why (row_is ∙ over)

    -- and a rollback that nothing refuses
    pub rollback_done_within : IsSteady s → first_of (limit_row (asked_by_rollback s target)) ≡ None
        → Step s (Rollback target later) Done (lose s (rolled (datasets_of s) target))
    rollback_done_within steady fits = done_by (Rollback target later) (rollback_rule target later) (None, refl, refl) s no_choice
        (lose s (rolled (datasets_of s) target)) Done refl refl (row_is ∙ fits) refl
        (sym (rolled_state s target)) (rollback_can_within s steady target later none fits).steady

-- where no file system has a limit

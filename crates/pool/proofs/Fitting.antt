-- The requests that ask the limits of the world that they lead to.
use Rattle.std.proofs.Common.{◌≡◌, ◌⊎◌, ◌≤◌, ◌<◌, ◌^◌, ◌+◌, ◌-◌, ℕ, Bool, true, false, ◌||◌, List, Option, None, Some, [], ◌∷◌, length, refl, sym, ap, subst, ◌∙◌, arith}
use Rattle.std.specs.Prelude.{nat_lt}
use Rattle.std.specs.FinSet as set
use Rattle.std.proofs.lemmas.Bool.{ltb-false, lt-ltb}
use Rattle.base.specs.Map.{BlockSet}
use Rattle.base.specs.declared.refusal.Refusal.{Refusal}
use Rattle.base.specs.declared.refusal.Refusal.TheVariants.{NoMemory}
use Rattle.base.specs.declared.name.member.Member.{Member}
use Rattle.base.specs.declared.name.target.Target.{Target}
use Rattle.zalloc.specs.declared.BlockState.{BlockState}
use Rattle.model.specs.declared.request.Request.TheVariants.{Snapshot, Promote, Rename, Rollback}
use Rattle.model.specs.declared.reply.Reply.TheVariants.{Done, Refused}
use Rattle.model.specs.World.{World, snaps_of, union_of}
use Rattle.model.specs.Targets.{guid_limit, snap_limit, has_no_next_group}
use Rattle.model.specs.Rule.{first_of}
use Rattle.model.specs.State.{State}
use Rattle.model.specs.Step.{Step}
use Rattle.model.specs.requests.Change.{limit_row}
use Rattle.model.specs.requests.Snapshot.{snapshot_names, taking_row, guid_by}
use Rattle.world.specs.Tables.{Datasets, world_of}
use Rattle.world.proofs.steps.Takings.{may_take}
use Rattle.datasets.specs.Snapshots.{taken_of}
use Rattle.datasets.specs.Renames.{with_names, rename_refusal}
use Rattle.snap.specs.Requests.{promoted, promote_refusal}
use Rattle.removals.specs.Edits.{HasLost}
use Rattle.removals.specs.Requests.{rolled, rollback_refusal}
use Rattle.snap.specs.Taking.{after_taking}
use Rattle.steps.specs.Asked.{asked_by_snapshot, asked_by_promote, asked_by_rename, asked_by_rollback}
use Rattle.steps.specs.Edits.{datasets_of, put, lose, CanPut, CanLose, StaysUnlimited}
use Rattle.steps.specs.Limiting.{IsOver}
use Rattle.steps.proofs.numbers.Freeing.{joined_losses}
use Rattle.steps.proofs.requests.Promoting as promoting
use Rattle.steps.proofs.requests.Renaming as renaming
use Rattle.steps.proofs.requests.Rolling as rolling
use Rattle.steps.proofs.requests.Snapping as snaps
use Rattle.pool.specs.Pools.{IsSound}
use Rattle.pool.proofs.Limited.{few_unasked, over_is}

-- names that there are
taken_some : (t : Datasets) (guid : ℕ) (ms : List Member) → nat_lt 0 (length ms) ≡ true → after_taking t guid ms ≡ taken_of t guid ms
taken_some t guid [] e = absurd (cc)
taken_some t guid (m ∷ ms) e = refl

-- and where there are none nothing is taken
pub nothing_taken : (t : Datasets) (guid : ℕ) (ms : List Member) → length ms ≡ 0 → after_taking t guid ms ≡ t
nothing_taken t guid [] e = refl
nothing_taken t guid (m ∷ ms) e = absurd (omega arith)

-- the guids of names that nothing refuses are below the last one
guids_fit : (w : World) (next_guid : ℕ) (names all : List Member) → first_of (taking_row w next_guid names all) ≡ None → nat_lt 0 (length all) ≡ true → (count : ℕ) → count ≡ length all
    → next_guid + count ≤ guid_limit + 1
guids_fit w next_guid names all none longer count counted =
    let room = (may_take w next_guid names all none).room longer in
    let l : next_guid + length all - 1 ≤ guid_limit = ltb-false guid_limit (next_guid + length all - 1) (second (nat_lt snap_limit (length (snaps_of w) + length all)) (has_no_next_group w) _ room) in
    omega (arith, counted)
  where
    second : (a b c : Bool) → (a || (b || c)) ≡ false → c ≡ false
    second true b c e = absurd (cc)
    second false true c e = absurd (cc)
    second false false c e = e

module _ (s : State) (numbers : List BlockState) (sound : IsSound s numbers) where
  -- ---- snapshots

  module _ (names : List Member) (recursive : Bool) where
    abbrev all : List Member
    all = snapshot_names s.now names recursive

    -- those that were refused
    pub snapshot_refused : (why : Refusal) → (first_of (taking_row s.now s.next_guid names (snapshot_names s.now names recursive)) ≡ Some why) ⊎ (why ≡ NoMemory)
        → Step s (Snapshot names recursive) (Refused why) s
    snapshot_refused why which = snaps.snapshot_refused s (Snapshot names recursive) names recursive (None, refl, refl) why which

    module _ (none : first_of (taking_row s.now s.next_guid names (snapshot_names s.now names recursive)) ≡ None) (count : ℕ) (counted : count ≡ length (snapshot_names s.now names recursive)) where
      -- no name at all
      pub snapshot_nothing : count ≡ 0 → Step s (Snapshot names recursive) Done s
      snapshot_nothing e = snaps.snapshot_nothing_within s (Snapshot names recursive) names recursive (None, refl, refl) none sound.steady (ap (λ n. nat_lt 0 n) (sym counted ∙ e))

      module _ (some : 0 < count) (to : Datasets) (is : to ≡ after_taking (datasets_of s) (guid_by s.pool s.next_guid) (snapshot_names s.now names recursive)) where
        longer : nat_lt 0 (length all) ≡ true
        longer = ap (λ n. nat_lt 0 n) (sym counted) ∙ lt-ltb 0 count some

        taken_is : to ≡ taken_of (datasets_of s) (guid_by s.pool s.next_guid) all
        taken_is = is ∙ taken_some (datasets_of s) (guid_by s.pool s.next_guid) all longer

        systems : (asked_by_snapshot s names recursive).now.file_systems ≡ to.file_systems
        systems = ap (λ (t : Datasets). t.file_systems) (sym taken_is)

        pub snapshot_few : set.len (union_of (world_of to)) < 2 ^ 32
        snapshot_few = few_unasked s numbers sound (asked_by_snapshot s names recursive) (snaps.taking_unasked s sound.steady names recursive none) to systems

        pub snapshot_stays : StaysUnlimited s to
        snapshot_stays = subst (StaysUnlimited s) (sym taken_is) (snaps.snapshot_unlimited s names recursive)

        -- what limits say of it
        row : (r : Option Refusal) → IsOver s to (set.len s.now.freeing) r → first_of (limit_row (asked_by_snapshot s names recursive)) ≡ r
        row r over = over_is s numbers sound (asked_by_snapshot s names recursive) (snaps.taking_unasked s sound.steady names recursive none) to systems (set.len s.now.freeing) refl r over
            (λ bare. snaps.snapshot_fits s sound.steady names recursive none bare numbers sound.states)

        pub snapshot_over : (why : Refusal) → IsOver s to (set.len s.now.freeing) (Some why) → Step s (Snapshot names recursive) (Refused why) s
        snapshot_over why over = snaps.snapshot_refused_by_limit s (Snapshot names recursive) names recursive (None, refl, refl) none longer why (row (Some why) over)

        pub snapshot_guids : s.next_guid + count ≤ guid_limit + 1
        snapshot_guids = guids_fit s.now s.next_guid names all none longer count counted

        module _ (fits : IsOver s to (set.len s.now.freeing) None) where
          pub snapshot_can : CanPut s to count
          snapshot_can = subst (λ n. CanPut s to n) (sym counted) (subst (λ t. CanPut s t (length all)) (sym taken_is) (snaps.taking_can_within s sound.steady names recursive none (row None fits)))

          pub snapshot_done : Step s (Snapshot names recursive) Done (put s to count)
          snapshot_done = subst (λ n. Step s (Snapshot names recursive) Done (put s to n)) (sym counted)
              (subst (λ t. Step s (Snapshot names recursive) Done (put s t (length all))) (sym taken_is)
              (snaps.snapshot_done_within s (Snapshot names recursive) names recursive (None, refl, refl) none longer sound.steady (row None fits)))

  -- ---- a promote

  module _ (name : List ℕ) (none : promote_refusal (datasets_of s) name ≡ None) (to : Datasets) (is : to ≡ promoted (datasets_of s) name) where
    promoted_systems : (asked_by_promote s name).now.file_systems ≡ to.file_systems
    promoted_systems = ap (λ (t : Datasets). t.file_systems) (sym is)

    pub promote_few : set.len (union_of (world_of to)) < 2 ^ 32
    promote_few = few_unasked s numbers sound (asked_by_promote s name) (promoting.promote_unasked s sound.steady name none) to promoted_systems

    promoted_row : (r : Option Refusal) → IsOver s to (set.len s.now.freeing) r → first_of (limit_row (asked_by_promote s name)) ≡ r
    promoted_row r over = over_is s numbers sound (asked_by_promote s name) (promoting.promote_unasked s sound.steady name none) to promoted_systems (set.len s.now.freeing) refl r over
        (λ bare. promoting.promote_fits s sound.steady name none bare numbers sound.states)

    pub promote_over : (why : Refusal) → IsOver s to (set.len s.now.freeing) (Some why) → Step s (Promote name) (Refused why) s
    promote_over why over = promoting.promote_refused_by_limit s name none why (promoted_row (Some why) over)

    module _ (fits : IsOver s to (set.len s.now.freeing) None) where
      pub promote_can : CanPut s to 0
      promote_can = subst (λ t. CanPut s t 0) (sym is) (promoting.promote_can_within s sound.steady name none (promoted_row None fits))

      pub promote_done : Step s (Promote name) Done (put s to 0)
      promote_done = subst (λ t. Step s (Promote name) Done (put s t 0)) (sym is) (promoting.promote_done_within s name none sound.steady (promoted_row None fits))

  -- ---- a rename

  module _ (from name : List ℕ) (none : rename_refusal (datasets_of s) from name ≡ None) (to : Datasets) (is : to ≡ with_names (datasets_of s) from name) where
    renamed_systems : (asked_by_rename s from name).now.file_systems ≡ to.file_systems
    renamed_systems = ap (λ (t : Datasets). t.file_systems) (sym is)

    pub rename_few : set.len (union_of (world_of to)) < 2 ^ 32
    rename_few = few_unasked s numbers sound (asked_by_rename s from name) (renaming.rename_unasked s from name none sound.steady) to renamed_systems

    renamed_row : (r : Option Refusal) → IsOver s to (set.len s.now.freeing) r → first_of (limit_row (asked_by_rename s from name)) ≡ r
    renamed_row r over = over_is s numbers sound (asked_by_rename s from name) (renaming.rename_unasked s from name none sound.steady) to renamed_systems (set.len s.now.freeing) refl r over
        (λ bare. renaming.rename_fits s from name none sound.steady bare numbers sound.states)

    pub rename_over : (why : Refusal) → IsOver s to (set.len s.now.freeing) (Some why) → Step s (Rename from name) (Refused why) s
    rename_over why over = renaming.rename_refused_by_limit s from name none why (renamed_row (Some why) over)

    module _ (fits : IsOver s to (set.len s.now.freeing) None) where
      pub rename_can : CanPut s to 0
      rename_can = subst (λ t. CanPut s t 0) (sym is) (renaming.rename_can_within s from name none sound.steady (renamed_row None fits))

      pub rename_done : Step s (Rename from name) Done (put s to 0)
      rename_done = subst (λ t. Step s (Rename from name) Done (put s t 0)) (sym is) (renaming.rename_done_within s from name none sound.steady (renamed_row None fits))

  -- ---- a rollback

  module _ (target : Target) (later : Bool) (none : rollback_refusal (datasets_of s) s.views target later ≡ None) (to : Datasets) (is : to ≡ rolled (datasets_of s) target)
      (freeing : BlockSet) (lost : HasLost (datasets_of s) s.now.freeing to freeing) where
    rolled_systems : (asked_by_rollback s target).now.file_systems ≡ to.file_systems
    rolled_systems = ap (λ (t : Datasets). t.file_systems) (sym is)

    freed : set.len (asked_by_rollback s target).now.freeing ≡ set.len freeing
    freed = ap set.len (ap (λ t. (lose s t).now.freeing) (sym is) ∙ sym (joined_losses s to freeing lost.joined))

    pub rollback_few : set.len (union_of (world_of to)) < 2 ^ 32
    rollback_few = few_unasked s numbers sound (asked_by_rollback s target) (rolling.rollback_unasked s sound.steady target later none) to rolled_systems

    rolled_row : (r : Option Refusal) → IsOver s to (set.len freeing) r → first_of (limit_row (asked_by_rollback s target)) ≡ r
    rolled_row r over = over_is s numbers sound (asked_by_rollback s target) (rolling.rollback_unasked s sound.steady target later none) to rolled_systems (set.len freeing) freed r over
        (λ bare. rolling.rollback_fits s sound.steady target later none bare numbers sound.states)

    pub rollback_over : (why : Refusal) → IsOver s to (set.len freeing) (Some why) → Step s (Rollback target later) (Refused why) s
    rollback_over why over = rolling.rollback_refused_by_limit s target later none why (rolled_row (Some why) over)

    module _ (fits : IsOver s to (set.len freeing) None) where
      pub rollback_can : CanLose s to
      rollback_can = subst (CanLose s) (sym is) (rolling.rollback_can_within s sound.steady target later none (rolled_row None fits))

      pub rollback_done : Step s (Rollback target later) Done (lose s to)
      rollback_done = subst (λ t. Step s (Rollback target later) Done (lose s t)) (sym is) (rolling.rollback_done_within s target later none sound.steady (rolled_row None fits))

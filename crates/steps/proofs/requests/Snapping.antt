-- Snapshots taken: what nothing refuses can be put in place, and the steps of a request that takes them.
use Rattle.std.proofs.Common.{◌≡◌, ℕ, ◌+◌, Bool, true, false, cond, List, [], ◌∷◌, ◌++◌, Option, Some, None, refl, sym, ap, subst, ◌∙◌, ◌⊎◌, inl, inr, ⊎_elim, length, arith}
use Rattle.std.specs.Prelude.{nat_lt}
use Rattle.std.specs.Option.{option_map_or}
use Rattle.std.specs.FinMap.{get, insert}
use Rattle.std.specs.FinSet.{empty, union}
use Rattle.std.proofs.lemmas.Bool.{ltb-true, ltb-false}
use Rattle.base.specs.declared.refusal.Refusal.{Refusal}
use Rattle.base.specs.declared.refusal.Refusal.TheVariants.{NoMemory}
use Rattle.base.specs.Map.{BlockSet}
use Rattle.base.specs.Surveys.{IsIn}
use Rattle.base.specs.declared.name.member.Member.{Member}
use Rattle.zalloc.specs.declared.BlockState.{BlockState}
use Rattle.model.specs.declared.request.Request.{Request}
use Rattle.model.specs.declared.reply.Reply.TheVariants.{Done, Refused}
use Rattle.model.specs.World.{World, FileSystem, Snap, reach_of}
use Rattle.model.specs.State.{State}
use Rattle.model.specs.Edits.{with_now, with_next_group}
use Rattle.model.specs.Numbers.{HasStates}
use Rattle.model.specs.Rule.{Row, Rule, first_of}
use Rattle.model.specs.requests.Change.{limit_row}
use Rattle.model.specs.requests.Snapshot.{snap_of_live, snapshot_names, with_snapshots, guid_by, snapshots_taken, taking_row, snapshot_rule}
use Rattle.model.specs.Refusals.{refusal_of, state_asked}
use Rattle.model.specs.Step.{Step}
use Rattle.world.specs.Tables.{Datasets, world_of}
use Rattle.world.specs.Worlds.{FileSystems, IsPoolState}
use Rattle.world.proofs.changes.Kept.{reach_is}
use Rattle.world.proofs.steps.SnapshotLists.{snapshots_union}
use Rattle.world.proofs.steps.StateSteps.{snapshots_before}
use Rattle.world.proofs.steps.Takings.{takable, snapshots_leave}
use Rattle.datasets.specs.Snapshots.{taken_of}
use Rattle.limits.specs.Limits.{IsUnlimited}
use Rattle.steps.specs.Ruled.{HasRule}
use Rattle.steps.specs.Steady.{IsSteady}
use Rattle.steps.specs.Edits.{datasets_of, with_datasets, put, StaysUnlimited, CanPut}
use Rattle.steps.specs.Asked.{asked_by_snapshot}
use Rattle.steps.proofs.quotas.Bounded.{first_left, first_after, IsUnasked, asked_steady, unasked_fits}
use Rattle.steps.proofs.quotas.Unlimited.{unlimited_put, still_swept, AreKnown, AreOriginsIn, same_known, put_known, same_origins, put_origins}
use Rattle.steps.proofs.numbers.Ruled.{no_choice, refused_by, no_memory_by, done_by}

-- ---- what snapshots of a list leave: no limits, and what is to be freed apart

-- one snapshot more, after the others
in_appended : (ts : List Snap) (u t : Snap) → IsIn (ts ++ u ∷ []) t → IsIn ts t ⊎ (t ≡ u)
in_appended [] u t h = ⊎_elim inr (λ i. absurd i) h
in_appended (x ∷ ts) u t h = ⊎_elim (λ e. inl (inl e)) (λ i. ⊎_elim (λ k. inl (inr k)) inr (in_appended ts u t i)) h

abbrev longer : World → Member → ℕ → FileSystem → World
longer w m guid f = record w { file_systems = insert w.file_systems m.file_system (record f { snaps = f.snaps ++ snap_of_live w f m.component guid ∷ [] }) }

snapshots_unlimited : (ms : List Member) (guid : ℕ) (w : World) → IsUnlimited w.file_systems → IsUnlimited (with_snapshots w guid ms).file_systems
snapshots_unlimited [] guid w none = none
snapshots_unlimited (m ∷ ms) guid w none = by_name (λ v. snapshots_unlimited ms (guid + 1) v) (get w.file_systems m.file_system) refl
  where
    by_name : ((v : World) → IsUnlimited v.file_systems → IsUnlimited (with_snapshots v (guid + 1) ms).file_systems)
        → (x : Option FileSystem) → get w.file_systems m.file_system ≡ x → IsUnlimited (with_snapshots (option_map_or (longer w m guid) x w) (guid + 1) ms).file_systems
    by_name rest None e = rest w none
    by_name rest (Some f) e = rest (longer w m guid f) (unlimited_put w.file_systems none m.file_system (record f { snaps = f.snaps ++ snap_of_live w f m.component guid ∷ [] })
        (none m.file_system f e))

snapshots_known : (ss : FileSystems) (ms : List Member) (guid : ℕ) (w : World) → AreKnown ss w.file_systems → AreKnown ss (with_snapshots w guid ms).file_systems
snapshots_known ss [] guid w known = known
snapshots_known ss (m ∷ ms) guid w known = by_name (λ v. snapshots_known ss ms (guid + 1) v) (get w.file_systems m.file_system) refl
  where
    by_name : ((v : World) → AreKnown ss v.file_systems → AreKnown ss (with_snapshots v (guid + 1) ms).file_systems)
        → (x : Option FileSystem) → get w.file_systems m.file_system ≡ x → AreKnown ss (with_snapshots (option_map_or (longer w m guid) x w) (guid + 1) ms).file_systems
    by_name rest None e = rest w known
    by_name rest (Some f) e = rest (longer w m guid f) (put_known ss w.file_systems known m.file_system (record f { snaps = f.snaps ++ snap_of_live w f m.component guid ∷ [] })
        (λ t i. ⊎_elim (λ k. known m.file_system f t e k) (λ k. inl (ap (λ (u : Snap). u.deferred) k)) (in_appended f.snaps (snap_of_live w f m.component guid) t i)))

snapshots_origins : (ss : FileSystems) (ms : List Member) (guid : ℕ) (w : World) → AreOriginsIn ss w.file_systems → AreOriginsIn ss (with_snapshots w guid ms).file_systems
snapshots_origins ss [] guid w known = known
snapshots_origins ss (m ∷ ms) guid w known = by_name (λ v. snapshots_origins ss ms (guid + 1) v) (get w.file_systems m.file_system) refl
  where
    by_name : ((v : World) → AreOriginsIn ss v.file_systems → AreOriginsIn ss (with_snapshots v (guid + 1) ms).file_systems)
        → (x : Option FileSystem) → get w.file_systems m.file_system ≡ x → AreOriginsIn ss (with_snapshots (option_map_or (longer w m guid) x w) (guid + 1) ms).file_systems
    by_name rest None e = rest w known
    by_name rest (Some f) e = rest (longer w m guid f) (put_origins ss w.file_systems known m.file_system f (record f { snaps = f.snaps ++ snap_of_live w f m.component guid ∷ [] }) e refl)

snapshots_freed : (freeing : BlockSet) (ms : List Member) (guid : ℕ) (w : World)
    → with_snapshots (record w { freeing = freeing }) guid ms ≡ record (with_snapshots w guid ms) { freeing = freeing }
snapshots_freed freeing [] guid w = refl
snapshots_freed freeing (m ∷ ms) guid w = by_name (λ v. snapshots_freed freeing ms (guid + 1) v) (get w.file_systems m.file_system)
  where
    by_name : ((v : World) → with_snapshots (record v { freeing = freeing }) (guid + 1) ms ≡ record (with_snapshots v (guid + 1) ms) { freeing = freeing })
        → (x : Option FileSystem)
        → with_snapshots (option_map_or (longer (record w { freeing = freeing }) m guid) x (record w { freeing = freeing })) (guid + 1) ms
        ≡ record (with_snapshots (option_map_or (longer w m guid) x w) (guid + 1) ms) { freeing = freeing }
    by_name rest None = rest w
    by_name rest (Some f) = rest (longer w m guid f)

-- ---- what can be put in place

module _ (s : State) (all : List Member) where
  abbrev longer_world : World
  longer_world = with_next_group (with_snapshots s.now (guid_by s.pool s.next_guid) all)

  -- the datasets with the snapshots are those of the model's world
  now_is : (with_datasets s (taken_of (datasets_of s) (guid_by s.pool s.next_guid) all)).now ≡ with_next_group (with_snapshots s.now (guid_by s.pool s.next_guid) all)
  now_is =
      let leave = snapshots_leave all (guid_by s.pool s.next_guid) s.now in
      λ i. record {
        file_systems = (snapshots_freed empty all (guid_by s.pool s.next_guid) s.now i).file_systems;
        freeing = sym leave.1 i;
        group = sym leave.0 i + 1;
      }

-- snapshots of a list that isn't empty
pub put_is : (s : State) (all : List Member) → nat_lt 0 (length all) ≡ true
    → snapshots_taken s all ≡ put s (taken_of (datasets_of s) (guid_by s.pool s.next_guid) all) (length all)
put_is s [] some = let l = ltb-true 0 0 some in absurd (omega arith)
put_is s (m ∷ ms) some = λ i. record s { now = sym (now_is s (m ∷ ms)) i; next_guid = s.next_guid + length (m ∷ ms) }

-- where no file system had a limit, none has one
pub snapshot_unlimited : (s : State) (names : List Member) (recursive : Bool) → StaysUnlimited s (taken_of (datasets_of s) (guid_by s.pool s.next_guid) (snapshot_names s.now names recursive))
snapshot_unlimited s names recursive bare = snapshots_unlimited (snapshot_names s.now names recursive) (guid_by s.pool s.next_guid) (world_of (datasets_of s)) bare

module _ (s : State) (steady : IsSteady s) (names : List Member) (recursive : Bool)
    (none : first_of (taking_row s.now s.next_guid names (snapshot_names s.now names recursive)) ≡ None) where
  abbrev all : List Member
  all = snapshot_names s.now names recursive

  abbrev t : Datasets
  t = taken_of (datasets_of s) (guid_by s.pool s.next_guid) (snapshot_names s.now names recursive)

  good : IsPoolState (with_datasets s (taken_of (datasets_of s) (guid_by s.pool s.next_guid) (snapshot_names s.now names recursive)))
  good = subst (λ w. IsPoolState (with_now s w)) (sym (now_is s all))
      (snapshots_before s steady.good (guid_by s.pool s.next_guid) all (takable s.now s.next_guid names recursive none))

  known : AreKnown s.now.file_systems (taken_of (datasets_of s) (guid_by s.pool s.next_guid) (snapshot_names s.now names recursive)).file_systems
  known = snapshots_known s.now.file_systems all (guid_by s.pool s.next_guid) (world_of (datasets_of s)) (same_known s.now.file_systems)

  origins : AreOriginsIn s.now.file_systems (taken_of (datasets_of s) (guid_by s.pool s.next_guid) (snapshot_names s.now names recursive)).file_systems
  origins = snapshots_origins s.now.file_systems all (guid_by s.pool s.next_guid) (world_of (datasets_of s)) (same_origins s.now.file_systems)

  snapshot_reach : reach_of (with_datasets s (taken_of (datasets_of s) (guid_by s.pool s.next_guid) (snapshot_names s.now names recursive))).now ≡ reach_of s.now
  snapshot_reach =
      ap reach_of (now_is s all)
      ∙ reach_is (longer_world s all)
      ∙ (λ i. union (snapshots_union s.size s.now steady.good.now (guid_by s.pool s.next_guid) all (takable s.now s.next_guid names recursive none) i)
      ((snapshots_leave all (guid_by s.pool s.next_guid) s.now).1 i))
      ∙ sym (reach_is s.now)

  -- what holds of the state with snapshots that no row refuses, whatever the limits
  pub taking_unasked : IsUnasked s (asked_by_snapshot s names recursive)
  taking_unasked = record {
    good = record { now = good.now; last = good.last; pair = good.pair; views = good.views };
    swept = still_swept s (put s t (length all)) steady refl known origins;
    reach = snapshot_reach;
    last = refl;
    size = refl;
  }

  -- where the limits hold then, they can be put in place, with so many guids more
  pub taking_can_within : first_of (limit_row (asked_by_snapshot s names recursive)) ≡ None
      → CanPut s (taken_of (datasets_of s) (guid_by s.pool s.next_guid) (snapshot_names s.now names recursive)) (length (snapshot_names s.now names recursive))
  taking_can_within fits = record { steady = asked_steady s (put s t (length all)) taking_unasked steady fits; reach = snapshot_reach }

  -- no limit is passed where there is none
  pub snapshot_fits : IsUnlimited s.now.file_systems → (numbers : List BlockState) → HasStates s numbers → first_of (limit_row (asked_by_snapshot s names recursive)) ≡ None
  snapshot_fits bare = unasked_fits s (put s t (length all)) taking_unasked (snapshot_unlimited s names recursive bare)

-- ---- steps

-- the request that has the rule
module _ (s : State) (q : Request) (names : List Member) (recursive : Bool) (is : HasRule q (snapshot_rule names recursive)) where
  abbrev named : List Member
  named = snapshot_names s.now names recursive

  abbrev row : Row
  row = taking_row s.now s.next_guid names (snapshot_names s.now names recursive)

  abbrev rule : Rule
  rule = snapshot_rule names recursive

  refused_row : (why : Refusal) → first_of (taking_row s.now s.next_guid names (snapshot_names s.now names recursive)) ≡ Some why → refusal_of s (snapshot_rule names recursive) ≡ Some why
  unfolding refusal_of
  refused_row why e = first_left row (cond (nat_lt 0 (length named)) (limit_row (state_asked s rule)) []) why e

  -- a request that the table refused, or that had no memory
  pub snapshot_refused : (why : Refusal)
      → (first_of (taking_row s.now s.next_guid names (snapshot_names s.now names recursive)) ≡ Some why) ⊎ (why ≡ NoMemory) → Step s q (Refused why) s
  snapshot_refused why which = ⊎_elim
      (λ e. refused_by q rule is s why (refused_row why e))
      (λ e. subst (λ z. Step s q (Refused z) s) (sym e) (no_memory_by q rule is s refl))
      which

  -- the state that its limits are asked of
  pub snapshot_asked : nat_lt 0 (length (snapshot_names s.now names recursive)) ≡ true → state_asked s (snapshot_rule names recursive) ≡ asked_by_snapshot s names recursive
  unfolding state_asked
  snapshot_asked some = put_is s named some

  module _ (none : first_of (taking_row s.now s.next_guid names (snapshot_names s.now names recursive)) ≡ None) where
    -- what earlier rows don't refuse, the limits say
    row_then : (b : Bool) → nat_lt 0 (length (snapshot_names s.now names recursive)) ≡ b
        → refusal_of s (snapshot_rule names recursive) ≡ first_of (cond b (limit_row (state_asked s (snapshot_rule names recursive))) [])
    unfolding refusal_of
    row_then b e =
        ap (λ x. first_of (row ++ cond x (limit_row (state_asked s rule)) [])) e
        ∙ first_after row (cond b (limit_row (state_asked s rule)) []) none

    -- names that stand for nothing
    pub snapshot_nothing_within : IsSteady s → nat_lt 0 (length (snapshot_names s.now names recursive)) ≡ false → Step s q Done s
    snapshot_nothing_within steady empty_list = done_by q rule is s no_choice s Done refl refl
        (row_then false empty_list) refl (nothing named empty_list) steady
      where
        nothing : (ms : List Member) → nat_lt 0 (length ms) ≡ false → s ≡ snapshots_taken s ms
        nothing [] e = refl
        nothing (m ∷ ms) e = let l = ltb-false 0 (length (m ∷ ms)) e in absurd (omega arith)

    module _ (some : nat_lt 0 (length (snapshot_names s.now names recursive)) ≡ true) where
      row_is : refusal_of s (snapshot_rule names recursive) ≡ first_of (limit_row (asked_by_snapshot s names recursive))
      row_is = row_then true some ∙ ap (λ x. first_of (limit_row x)) (snapshot_asked some)

      -- a limit would be passed
      pub snapshot_refused_by_limit : (why : Refusal) → first_of (limit_row (asked_by_snapshot s names recursive)) ≡ Some why
          → Step s q (Refused why) s
      snapshot_refused_by_limit why over = refused_by q rule is s why (row_is ∙ over)

      -- it takes the snapshots that its names stand for, where the limits hold then
      pub snapshot_done_within : IsSteady s → first_of (limit_row (asked_by_snapshot s names recursive)) ≡ None
          → Step s q Done (put s (taken_of (datasets_of s) (guid_by s.pool s.next_guid) (snapshot_names s.now names recursive)) (length (snapshot_names s.now names recursive)))
      snapshot_done_within steady fits = done_by q rule is s no_choice (put s (taken_of (datasets_of s) (guid_by s.pool s.next_guid) named) (length named)) Done refl refl
          (row_is ∙ fits) refl (sym (put_is s named some)) (taking_can_within s steady names recursive none fits).steady
      -- where no file system has a limit

-- What a receive begins with: what holds of a pool between two steps holds of it, whatever the limits.
use Rattle.std.proofs.Common.{◌≡◌, ℕ, ◌<◌, ◌≤◌, ◌⊎◌, Bool, true, false, true≢false, map, List, [], ◌∷◌, ◌++◌, Option, Some, None, refl, sym, ap, subst, ◌∙◌, inl, inr, ⊎_elim, arith}
use Rattle.std.specs.Prelude.{◌==◌, IsSome, is_some, nat_le, nat_lt, if◌then◌else◌}
use Rattle.std.specs.List.{filter, last_or}
use Rattle.std.specs.Option.{option_map_or, option_and_then}
use Rattle.std.specs.FinMap.{get, insert}
use Rattle.std.specs.FinSet.{union, difference}
use Rattle.std.proofs.lemmas.Bool.{leb-true, lt-ltb}
use Rattle.base.specs.Map.{Block, BlockSet}
use Rattle.base.specs.Surveys.{IsIn}
use Rattle.base.specs.declared.name.member.Member.{Member}
use Rattle.stream.specs.Spelling.{Sending}
use Rattle.model.specs.declared.receiving.Receiving.{Receiving}
use Rattle.model.specs.declared.receiving.Receiving.TheVariants.{Plain, Back, Past, Origin, Replace}
use Rattle.model.specs.World.{World, FileSystem, Snap, SnapId, id_of, snap_at, snap_named, empty_file_system, map_of, map_of_snap, union_of, reach_of}
use Rattle.model.specs.State.{State}
use Rattle.model.specs.Edits.{with_now, with_file_system, with_losses}
use Rattle.model.specs.Rule.{first_of}
use Rattle.model.specs.requests.Clone.{with_clone}
use Rattle.model.specs.requests.Create.{with_new_file_system, create_refusal}
use Rattle.model.specs.requests.Destroy.{snaps_within}
use Rattle.model.specs.requests.Rollback.{snaps_upto, snaps_after, back_at, after_rollback, is_busy, has_clone_outside}
use Rattle.model.specs.requests.Receive.{newest_of, source_of, back_to_newest, forced_back, back_past, cloned_from, vacated, emptied, before_full, before_incremental, before_receive, snaps_past, full_row, incremental_row, stream_row}
use Rattle.world.specs.Sets.{Has}
use Rattle.world.specs.Blocks.{block_order as o}
use Rattle.world.specs.Shapes.{Name}
use Rattle.world.specs.Worlds.{AreFileSystems, AreMapsFrom, AreRising, IsPoolState, IsSwept}
use Rattle.world.specs.Tables.{Datasets, world_of}
use Rattle.world.specs.Dead.{HasNoCloneIn}
use Rattle.world.proofs.lineage.Bridge.{start, rising, in_middle}
use Rattle.world.proofs.changes.Creations.{clone_union}
use Rattle.world.proofs.lists.Finding.{any_none, in_filter, from_filter}
use Rattle.world.proofs.lists.Listed.{map_in}
use Rattle.world.proofs.changes.Kept.{reach_is, union-fields}
use Rattle.world.proofs.lists.Maps.{same_value, no_value}
use Rattle.world.proofs.changes.Promotions.{upto_is}
use Rattle.world.proofs.removals.Emptied.{emptied_systems, emptied_from}
use Rattle.world.proofs.removals.Rollbacks.{rollback_systems, rollback_from}
use Rattle.world.proofs.lists.SetCounts.{same_members, in_union_left, in_union_right, from_union, in_difference, from_difference}
use Rattle.world.proofs.steps.StateSteps.{clone_before}
use Rattle.world.proofs.views.Viewed.{IsSafe, snap_found, one_changed}
use Rattle.world.proofs.views.ViewedReceives.{no_full, no_incremental, replaced_there, replaced_bare, replaced_idle, replaced_alone, past_idle, past_alone, from_named, from_source, snap_within, vacated_safe}
use Rattle.world.proofs.views.ViewedRequests.{back_safe}
use Rattle.receives.proofs.Refusals.{can_make, can_clone}
use Rattle.removals.specs.Edits.{HasLost}
use Rattle.removals.specs.Needs.{has_clone}
use Rattle.removals.proofs.Clones.{uncloned_is, outside_is}
use Rattle.limits.specs.Limits.{IsUnlimited}
use Rattle.steps.specs.Steady.{IsSteady}
use Rattle.steps.specs.Edits.{datasets_of, lose}
use Rattle.steps.proofs.requests.Creating.{CanAdd, can_add, create_can}
use Rattle.steps.proofs.requests.Losing.{lost_unasked}
use Rattle.steps.proofs.numbers.Putting.{put_none}
use Rattle.steps.proofs.quotas.Bounded.{IsUnasked}
use Rattle.steps.proofs.requests.Seeing.{once, closed, seen_after}
use Rattle.steps.proofs.quotas.Unlimited.{unlimited_put, still_swept, same_known, put_known, same_origins, put_origins, new_origins}

-- What holds of another present world, whatever the limits: the facts between two steps, with the same blocks reached (profile)
pub record IsBegun (s : State) (w : World) : Type 0 where
  pub good : IsPoolState (with_now s w)
  pub swept : IsSwept (with_now s w)
  pub reach : reach_of w ≡ reach_of s.now
  pub group : w.group ≡ s.now.group
  pub unlimited : IsUnlimited s.now.file_systems → IsUnlimited w.file_systems

-- ---- the newest snapshot

split_last : (t : Snap) (ts : List Snap) (u : Snap) → last_or (Some t) ts ≡ Some u → (older : List Snap) × (t ∷ ts ≡ older ++ u ∷ [])
split_last t [] u e = ([], ap (λ (x : Snap). x ∷ []) (same_value t u e))
split_last t (x ∷ xs) u e = let k = split_last x xs u e in (t ∷ k.0, ap (λ l. t ∷ l) k.1)

-- all others stand before it
last_split : (ts : List Snap) (t : Snap) → last_or None ts ≡ Some t → (older : List Snap) × (ts ≡ older ++ t ∷ [])
last_split [] t e = absurd (no_value t e)
last_split (u ∷ ts) t e = split_last u ts t e

-- ---- worlds

module _ (s : State) (steady : IsSteady s) where
  same_world : IsBegun s s.now
  same_world = record { good = steady.good; swept = steady.swept; reach = refl; group = refl; unlimited = λ bare. bare }

  -- ---- a new file system

  new_world : (name : Name) → create_refusal s.now.file_systems name ≡ None → IsBegun s (with_new_file_system s.now name)
  new_world name may =
      let can = create_can s steady name may in
      let to = record (datasets_of s) { file_systems = insert s.now.file_systems name empty_file_system } in
      record {
        good = subst IsPoolState (put_none s to) can.steady.good;
        swept = subst IsSwept (put_none s to) can.steady.swept;
        reach = can.reach;
        group = refl;
        unlimited = λ bare. unlimited_put s.now.file_systems bare name empty_file_system refl;
      }

  -- ---- a new clone

  cloned_world : (name : Name) (origin : Member) → create_refusal s.now.file_systems name ≡ None → IsBegun s (cloned_from s.now name origin)
  cloned_world name origin may = by_snap (snap_named s.now origin) refl
    where
      add : CanAdd s.now.file_systems name
      add = can_add s.now.file_systems name may

      with_clone_world : (t : Snap) → snap_at s.now (id_of t) ≡ Some (origin.file_system, t) → IsBegun s (with_clone s.now (id_of t) name)
      with_clone_world t there =
          let clone = record empty_file_system { live = map_of_snap s.now (Some (id_of t)); origin = Some (id_of t) } in
          record {
            good = clone_before s steady.good name add.absent add.parent add.room (id_of t) (origin.file_system, t) there;
            swept = still_swept s (with_now s (with_clone s.now (id_of t) name)) steady refl
                (put_known s.now.file_systems s.now.file_systems (same_known s.now.file_systems) name clone (λ u i. absurd i))
                (new_origins s.now.file_systems name clone add.absent);
            reach = reach_is (with_clone s.now (id_of t) name)
                ∙ ap (λ u. union u s.now.freeing) (clone_union s.size s.now steady.good.now name add.absent add.parent add.room (id_of t) (origin.file_system, t) there)
                ∙ sym (reach_is s.now);
            group = refl;
            unlimited = λ bare. unlimited_put s.now.file_systems bare name clone refl;
          }

      by_snap : (x : Option Snap) → snap_named s.now origin ≡ x → IsBegun s (option_map_or (λ (t : Snap). with_clone s.now (id_of t) name) x s.now)
      by_snap None e = same_world
      by_snap (Some t) e = with_clone_world t (snap_found s.now (once s.size s.now steady.good.now) origin.file_system t (id_of t) (from_named s.now origin t e) refl)

  -- ---- a file system with fewer snapshots, what it loses to be freed

  module _ (name : Name) (f g : FileSystem) (at : get s.now.file_systems name ≡ Some f) (systems : AreFileSystems (insert s.now.file_systems name g) s.now.group)
      (from : AreMapsFrom s.now.file_systems (insert s.now.file_systems name g)) (safe : IsSafe s.views s.now (record s.now { file_systems = insert s.now.file_systems name g }))
      (fewer : (u : Snap) → IsIn g.snaps u → IsIn f.snaps u) (origin : g.origin ≡ f.origin) (limits : g.limits ≡ f.limits) where
    abbrev to : Datasets
    to = record (datasets_of s) { file_systems = insert s.now.file_systems name g }

    unasked : IsUnasked s (lose s to)
    unasked = lost_unasked s steady to systems refl from
        (λ v id e. seen_after s steady (record s.now { file_systems = insert s.now.file_systems name g }) safe v id e)
        (still_swept s (lose s to) steady refl
        (put_known s.now.file_systems s.now.file_systems (same_known s.now.file_systems) name g (λ u i. inr (name, f, at, fewer u i)))
        (put_origins s.now.file_systems s.now.file_systems (same_origins s.now.file_systems) name f g at origin))

    lost_world : IsBegun s (with_losses s.now (record s.now { file_systems = insert s.now.file_systems name g }))
    lost_world = record {
      good = unasked.good;
      swept = unasked.swept;
      reach = unasked.reach;
      group = refl;
      unlimited = λ bare. unlimited_put s.now.file_systems bare name g (limits ∙ bare name f at);
    }

  -- ---- back at one of its snapshots, of whose newer ones none has a clone

  module _ (name : Name) (f : FileSystem) (at : get s.now.file_systems name ≡ Some f) (t : Snap) (here : IsIn f.snaps t)
      (alone : (u : Snap) → IsIn f.snaps u → t.group < u.group → HasNoCloneIn s.now.file_systems (id_of u)) where
    found : snap_at s.now (id_of t) ≡ Some (name, t)
    found = snap_found s.now (once s.size s.now steady.good.now) name t (id_of t) (f, at, here) refl

    rolled_is : after_rollback s.now (id_of t) ≡ record s.now { file_systems = insert s.now.file_systems name (back_at f t) }
    rolled_is =
        ap (λ x. option_map_or (λ (p : Name × Snap). with_file_system s.now p.0 (λ f. back_at f p.1)) x s.now) found
        ∙ ap (λ x. option_map_or (λ (f : FileSystem). record s.now { file_systems = insert s.now.file_systems name (back_at f t) }) x s.now) at

    uncloned : (x : FileSystem) (u : Snap) → get s.now.file_systems name ≡ Some x → IsIn x.snaps u → t.group < u.group → HasNoCloneIn s.now.file_systems (id_of u)
    uncloned x u was i l = alone u (subst (λ (y : FileSystem). IsIn y.snaps u) (same_value x f (sym was ∙ at)) i) l

    back_world : IsSafe s.views s.now (record s.now { file_systems = insert s.now.file_systems name (back_at f t) })
        → IsBegun s (with_losses s.now (record s.now { file_systems = insert s.now.file_systems name (back_at f t) }))
    back_world safe = lost_world name f (back_at f t) at
        (subst (λ (x : World). AreFileSystems x.file_systems s.now.group) rolled_is (rollback_systems s.size s.now steady.good.now (id_of t) (name, t) found uncloned))
        (subst (λ (x : World). AreMapsFrom s.now.file_systems x.file_systems) rolled_is (rollback_from s.size s.now steady.good.now (id_of t) (name, t) found uncloned))
        safe (λ u i. (from_filter (λ (v : Snap). nat_le v.group t.group) f.snaps u i).0) refl refl

  -- at its newest one: none is newer
  module _ (name : Name) (f : FileSystem) (at : get s.now.file_systems name ≡ Some f) (t : Snap) (newest : last_or None f.snaps ≡ Some t) where
    abbrev older : List Snap
    older = (last_split f.snaps t newest).0

    parts : f.snaps ≡ older ++ t ∷ []
    parts = (last_split f.snaps t newest).1

    there : IsIn f.snaps t
    there = subst (λ l. IsIn l t) (sym parts) (in_middle older t [])

    upto : snaps_upto f t.group ≡ f.snaps
    upto =
        ap (filter (λ (u : Snap). nat_le u.group t.group)) parts
        ∙ upto_is (start s.now.file_systems s.now.group steady.good.now.systems.lines name f at).base older t []
        (subst (AreRising (start s.now.file_systems s.now.group steady.good.now.systems.lines name f at).base) parts (rising s.now.file_systems s.now.group steady.good.now.systems.lines name f at))
        ∙ sym parts

    low : (u : Snap) → IsIn f.snaps u → u.group ≤ t.group
    low u i = leb-true u.group t.group (from_filter (λ (v : Snap). nat_le v.group t.group) f.snaps u (subst (λ l. IsIn l u) (sym upto) i)).1

    abbrev put : FileSystem → World
    put x = record s.now { file_systems = insert s.now.file_systems name x }

    same_back : back_at f t ≡ back_to_newest t f
    same_back = λ i. record (back_to_newest t f) { snaps = upto i }

    newest_safe : IsSafe s.views s.now (record s.now { file_systems = insert s.now.file_systems name (back_to_newest t f) })
    newest_safe = subst (IsSafe s.views s.now) (ap (λ x. option_map_or (λ (f : FileSystem). record s.now { file_systems = insert s.now.file_systems name (back_to_newest t f) }) x s.now) at)
        (one_changed s.views s.now name (back_to_newest t) (once s.size s.now steady.good.now) (closed s.size s.now steady.good.now) (λ f u e h. h) (λ f u e h seen. h))

    newest_world : IsBegun s (with_losses s.now (record s.now { file_systems = insert s.now.file_systems name (back_to_newest t f) }))
    newest_world = subst (λ x. IsBegun s (with_losses s.now (put x))) same_back
        (back_world name f at t there (λ u i l. let k = low u i in absurd (omega arith)) (subst (λ x. IsSafe s.views s.now (put x)) (sym same_back) newest_safe))

  forced_world : (name : Name) → IsBegun s (forced_back s.now name)
  forced_world name = by_system (get s.now.file_systems name) refl
    where
      by_newest : (f : FileSystem) → get s.now.file_systems name ≡ Some f → (x : Option Snap) → last_or None f.snaps ≡ x
          → IsBegun s (option_map_or (λ t. with_losses s.now (with_file_system s.now name (back_to_newest t))) x s.now)
      by_newest f at None e = same_world
      by_newest f at (Some t) e = subst (λ x. IsBegun s (with_losses s.now x))
          (sym (ap (λ x. option_map_or (λ (f : FileSystem). record s.now { file_systems = insert s.now.file_systems name (back_to_newest t f) }) x s.now) at)) (newest_world name f at t e)

      by_system : (x : Option FileSystem) → get s.now.file_systems name ≡ x
          → IsBegun s (option_map_or (λ t. with_losses s.now (with_file_system s.now name (back_to_newest t))) (option_and_then (λ f. last_or None f.snaps) x) s.now)
      by_system None e = same_world
      by_system (Some f) e = by_newest f e (last_or None f.snaps) refl

  -- none of these has a clone
  pub none_cloned : (ids : List SnapId) → has_clone_outside s.now [] ids ≡ false → (id : SnapId) → IsIn ids id → HasNoCloneIn s.now.file_systems id
  none_cloned ids none id i = uncloned_is (datasets_of s) id (any_none (has_clone (datasets_of s)) ids (sym (outside_is (datasets_of s) ids) ∙ none) id i)

  -- at the one with a guid
  past_world : (name : Name) (guid : ℕ) → is_busy s.now s.views (snaps_past s.now name guid) ≡ false → has_clone_outside s.now [] (snaps_past s.now name guid) ≡ false
      → IsBegun s (back_past s.now name guid)
  past_world name guid = by_source (source_of s.now name guid) refl
    where
      by_source : (x : Option (FileSystem × Snap)) → source_of s.now name guid ≡ x
          → is_busy s.now s.views (option_map_or (λ (p : FileSystem × Snap). map id_of (snaps_after p.0 p.1.group)) x []) ≡ false
          → has_clone_outside s.now [] (option_map_or (λ (p : FileSystem × Snap). map id_of (snaps_after p.0 p.1.group)) x []) ≡ false
          → IsBegun s (option_map_or (λ (p : FileSystem × Snap). with_losses s.now (with_file_system s.now name (λ f. back_at f p.1))) x s.now)
      by_source None e idle alone = same_world
      by_source (Some p) e idle alone =
          let k = from_source s.now name guid p e in
          let is = ap (λ x. option_map_or (λ (f : FileSystem). record s.now { file_systems = insert s.now.file_systems name (back_at f p.1) }) x s.now) k.0 in
          let safe = back_safe s.views s.now name p (once s.size s.now steady.good.now) (closed s.size s.now steady.good.now) k.0 idle in
          subst (λ x. IsBegun s (with_losses s.now x)) (sym is)
          (back_world name p.0 k.0 p.1 k.1
          (λ u h l. none_cloned (map id_of (snaps_after p.0 p.1.group)) alone (id_of u)
          (map_in (λ (v : Snap). id_of v) (snaps_after p.0 p.1.group) u (in_filter (λ (v : Snap). nat_lt p.1.group v.group) p.0.snaps u h (lt-ltb p.1.group u.group l))))
          (subst (IsSafe s.views s.now) is safe))

  -- ---- emptied

  emptied_world : (name : Name) → IsSome (get s.now.file_systems name) → ((f : FileSystem) → get s.now.file_systems name ≡ Some f → f.origin ≡ None)
      → is_busy s.now s.views (snaps_within s.now (name ∷ [])) ≡ false → has_clone_outside s.now [] (snaps_within s.now (name ∷ [])) ≡ false → IsBegun s (emptied s.now name)
  emptied_world name there bare idle alone = by_system (get s.now.file_systems name) refl
    where
      by_system : (x : Option FileSystem) → get s.now.file_systems name ≡ x
          → IsBegun s (with_losses s.now (option_map_or (λ (f : FileSystem). record s.now { file_systems = insert s.now.file_systems name (vacated f) }) x s.now))
      by_system None e = absurd (true≢false (sym there ∙ ap is_some e))
      by_system (Some f) e =
          let none = λ (u : Snap) (i : IsIn f.snaps u). none_cloned (snaps_within s.now (name ∷ [])) alone (id_of u) (snap_within s.now name f e u i) in
          let is = ap (λ x. option_map_or (λ (f : FileSystem). record s.now { file_systems = insert s.now.file_systems name (vacated f) }) x s.now) e in
          lost_world name f (vacated f) e
          (emptied_systems s.now steady.good.now.systems name f e (bare f e) none)
          (emptied_from s.now steady.good.now.systems name f e (bare f e) none)
          (subst (IsSafe s.views s.now) is (vacated_safe s.views s.now (once s.size s.now steady.good.now) (closed s.size s.now steady.good.now) name idle))
          (λ u i. absurd i) (sym (bare f e)) refl

  -- ---- by the stream

  module _ (m : Member) where
    full_world : (mode : Receiving) → first_of (full_row s.now s.views m mode) ≡ None → IsBegun s (before_full s.now m.file_system mode)
    full_world Plain e = new_world m.file_system (can_make s.now m.file_system e)
    full_world Back e = new_world m.file_system (can_make s.now m.file_system e)
    full_world Past e = new_world m.file_system (can_make s.now m.file_system e)
    full_world (Origin origin) e = no_full s.now s.views m origin e
    full_world Replace e = emptied_world m.file_system (replaced_there s.now s.views m.file_system e) (replaced_bare s.now s.views m.file_system e) (replaced_idle s.now s.views m.file_system e) (replaced_alone s.now s.views m.file_system e)

    incremental_world : (source : ℕ) (mode : Receiving) → first_of (incremental_row s.now s.views m source mode) ≡ None → IsBegun s (before_incremental s.now m.file_system source mode)
    incremental_world source Plain e = same_world
    incremental_world source Back e = forced_world m.file_system
    incremental_world source Past e = past_world m.file_system source (past_idle s.now s.views m source e) (past_alone s.now s.views m source e)
    incremental_world source (Origin origin) e = cloned_world m.file_system origin (can_clone s.now m.file_system origin source e)
    incremental_world source Replace e = no_incremental s.now s.views m source e

  module _ (m : Member) (sent : Sending) (mode : Receiving) (none : first_of (stream_row s.now s.views m sent mode) ≡ None) where
    -- what it begins with
    pub begun_world : IsBegun s (before_receive s.now m.file_system sent mode)
    begun_world = by_source (sent.source == 0) none
      where
        by_source : (b : Bool) → first_of (if b then full_row s.now s.views m mode else incremental_row s.now s.views m sent.source mode) ≡ None
            → IsBegun s (if b then before_full s.now m.file_system mode else before_incremental s.now m.file_system sent.source mode)
        by_source true e = full_world m mode e
        by_source false e = incremental_world m sent.source mode e

-- ---- the datasets that it begins with, and what is to be freed then

-- those that stand in the world are those that are made from the datasets alone
module _ (s : State) (name : List ℕ) where
  abbrev d : World
  d = world_of (datasets_of s)

  full_datasets : (mode : Receiving) → record (datasets_of s) { file_systems = (before_full (world_of (datasets_of s)) name mode).file_systems } ≡ datasets_of (with_now s (before_full s.now name mode))
  full_datasets Plain = refl
  full_datasets Back = refl
  full_datasets Past = refl
  full_datasets (Origin origin) = refl
  full_datasets Replace = by_system (get s.now.file_systems name)
    where
      by_system : (x : Option FileSystem)
          → record (datasets_of s) { file_systems = (option_map_or (λ (f : FileSystem). record d { file_systems = insert s.now.file_systems name (vacated f) }) x d).file_systems }
          ≡ datasets_of (with_now s (with_losses s.now (option_map_or (λ (f : FileSystem). record s.now { file_systems = insert s.now.file_systems name (vacated f) }) x s.now)))
      by_system None = refl
      by_system (Some f) = refl

  incremental_datasets : (source : ℕ) (mode : Receiving)
      → record (datasets_of s) { file_systems = (before_incremental (world_of (datasets_of s)) name source mode).file_systems } ≡ datasets_of (with_now s (before_incremental s.now name source mode))
  unfolding map_of
  incremental_datasets source Plain = refl
  incremental_datasets source Back = by_newest (newest_of s.now name)
    where
      by_system : (t : Snap) (x : Option FileSystem)
          → record (datasets_of s) { file_systems = (option_map_or (λ (f : FileSystem). record d { file_systems = insert s.now.file_systems name (back_to_newest t f) }) x d).file_systems }
          ≡ datasets_of (with_now s (option_map_or (λ (f : FileSystem). record s.now { file_systems = insert s.now.file_systems name (back_to_newest t f) }) x s.now))
      by_system t None = refl
      by_system t (Some f) = refl

      by_newest : (x : Option Snap)
          → record (datasets_of s) { file_systems = (option_map_or (λ t. with_losses d (with_file_system d name (back_to_newest t))) x d).file_systems }
          ≡ datasets_of (with_now s (option_map_or (λ t. with_losses s.now (with_file_system s.now name (back_to_newest t))) x s.now))
      by_newest None = refl
      by_newest (Some t) = by_system t (get s.now.file_systems name)
  incremental_datasets source Past = by_source (source_of s.now name source)
    where
      by_system : (t : Snap) (x : Option FileSystem)
          → record (datasets_of s) { file_systems = (option_map_or (λ (f : FileSystem). record d { file_systems = insert s.now.file_systems name (back_at f t) }) x d).file_systems }
          ≡ datasets_of (with_now s (option_map_or (λ (f : FileSystem). record s.now { file_systems = insert s.now.file_systems name (back_at f t) }) x s.now))
      by_system t None = refl
      by_system t (Some f) = refl

      by_source : (x : Option (FileSystem × Snap))
          → record (datasets_of s) { file_systems = (option_map_or (λ (p : FileSystem × Snap). with_losses d (with_file_system d name (λ f. back_at f p.1))) x d).file_systems }
          ≡ datasets_of (with_now s (option_map_or (λ (p : FileSystem × Snap). with_losses s.now (with_file_system s.now name (λ f. back_at f p.1))) x s.now))
      by_source None = refl
      by_source (Some p) = by_system p.1 (get s.now.file_systems name)
  incremental_datasets source (Origin origin) = by_snap (snap_named s.now origin)
    where
      by_snap : (x : Option Snap)
          → record (datasets_of s) { file_systems = (option_map_or (λ (t : Snap). with_clone d (id_of t) name) x d).file_systems }
          ≡ datasets_of (with_now s (option_map_or (λ (t : Snap). with_clone s.now (id_of t) name) x s.now))
      by_snap None = refl
      by_snap (Some t) = refl
  incremental_datasets source Replace = refl

pub begun_datasets : (s : State) (name : List ℕ) (sent : Sending) (mode : Receiving)
    → record (datasets_of s) { file_systems = (before_receive (world_of (datasets_of s)) name sent mode).file_systems } ≡ datasets_of (with_now s (before_receive s.now name sent mode))
begun_datasets s name sent mode = by_source (sent.source == 0)
  where
    by_source : (b : Bool)
        → record (datasets_of s) { file_systems = (if b then before_full (world_of (datasets_of s)) name mode else before_incremental (world_of (datasets_of s)) name sent.source mode).file_systems }
        ≡ datasets_of (with_now s (if b then before_full s.now name mode else before_incremental s.now name sent.source mode))
    by_source true = full_datasets s name mode
    by_source false = incremental_datasets s name sent.source mode

-- what joins what is to be freed is what no dataset has any more
module _ (s : State) (steady : IsSteady s) (w : World) (is : IsBegun s w) (old new : Datasets) (after : BlockSet) (was : old.file_systems ≡ s.now.file_systems) (now : new.file_systems ≡ w.file_systems)
    (lost : HasLost old s.now.freeing new after) where
  abbrev F : BlockSet
  F = s.now.freeing

  abbrev U : BlockSet
  U = union_of (world_of old)

  abbrev V : BlockSet
  V = union_of (world_of new)

  before : U ≡ union_of s.now
  before = union-fields (world_of old) s.now was

  later : V ≡ union_of w
  later = union-fields (world_of new) w now

  -- a block that was reached is still reached, and the other way round
  reached : (b : Block) → Has (union_of s.now) b ⊎ Has F b → Has V b ⊎ Has w.freeing b
  reached b h = ⊎_elim (λ k. inl (subst (λ y. Has y b) (sym later) k)) inr
      (from_union o (union_of w) w.freeing b (subst (λ y. Has y b) (sym (reach_is s.now) ∙ sym is.reach ∙ reach_is w)
      (⊎_elim (λ k. in_union_left o (union_of s.now) F b k) (λ k. in_union_right o (union_of s.now) F b k) h)))

  was_reached : (b : Block) → Has w.freeing b → Has U b ⊎ Has F b
  was_reached b h = ⊎_elim (λ k. inl (subst (λ y. Has y b) (sym before) k)) inr
      (from_union o (union_of s.now) F b (subst (λ y. Has y b) (sym (reach_is w) ∙ is.reach ∙ reach_is s.now) (in_union_right o (union_of w) w.freeing b h)))

  joined : (b : Block) → Has (union F (difference U V)) b → Has w.freeing b
  joined b h = ⊎_elim
      (λ k. ⊎_elim
      (λ v. absurd (steady.good.now.freeing_apart b (subst (λ y. Has y b) before (lost.fewer b v)) k))
      (λ i. i)
      (reached b (inr k)))
      (λ k. let d = from_difference o U V b k in ⊎_elim (λ v. absurd (d.1 v)) (λ i. i) (reached b (inl (subst (λ y. Has y b) before d.0))))
      (from_union o F (difference U V) b h)

  kept : (b : Block) → Has w.freeing b → Has (union F (difference U V)) b
  kept b h = ⊎_elim
      (λ k. in_union_right o F (difference U V) b (in_difference o U V b k (λ v. is.good.now.freeing_apart b (subst (λ y. Has y b) later v) h)))
      (λ k. in_union_left o F (difference U V) b k)
      (was_reached b h)

  pub begun_freeing : after ≡ w.freeing
  begun_freeing = lost.joined ∙ same_members o (union F (difference U V)) w.freeing joined kept

-- What a table keeps: at first, once a file system is made, once a snapshot is taken, and once the group is closed.
use Rattle.std.proofs.Common.{◌≡◌, ◌<◌, ◌≤◌, ◌++◌, ◌∷◌, [], ℕ, Bool, true, false, Option, Some, None, Result, Ok, Err, refl, sym, ap, subst, ◌∙◌, inl, inr, ⊎_elim, if◌then◌else◌, map, arith}
use Rattle.std.specs.Prelude.{IsTrue, OnOk, OnErr, nat_le, not}
use Rattle.std.specs.List.{find}
use Rattle.std.specs.Option.{option_map_or}
use Rattle.std.specs.FinMap as finmap
use Rattle.std.specs.FinMap.{get, insert, len, contains_key, entries}
use Rattle.std.proofs.lemmas.Bool.Decides.{nat_tests}
use Rattle.base.specs.declared.refusal.Refusal.{Refusal}
use Rattle.base.specs.declared.refusal.Refusal.TheVariants.{Exists, NoParent, TooMany}
use Rattle.base.specs.Names.{root_name}
use Rattle.model.specs.World.{FileSystem, Snap, Live, id_of, same_id, empty_file_system, map_of}
use Rattle.model.specs.State.{fresh_world, fresh_state}
use Rattle.model.specs.Hierarchy.{has_parent, file_system_limit}
use Rattle.model.specs.requests.Create.{create_refusal}
use Rattle.datasets.specs.Clones.{all_snaps}
use Rattle.file_system.specs.Rows.{live_of, plain_snap, with_snap}
use Rattle.world.specs.Shapes.{Name, name_order, before_live, nothing_before}
use Rattle.world.specs.Worlds.{FileSystems, snap_shape, AreFileSystems, AreMapsFrom, InNow, maps_of_both}
use Rattle.world.specs.Tables.{Datasets, world_of, CanSnap}
use Rattle.world.proofs.lists.Maps.{at_entry}
use Rattle.world.proofs.lists.Finding.{find_none, from_flat, same_id_is}
use Rattle.world.proofs.lineage.Bridge.{no_block, from_entries, start, live_row, live_there}
use Rattle.world.proofs.changes.Drawn.{cells_from, drawn}
use Rattle.world.proofs.lineage.Put.{put_maps}
use Rattle.world.proofs.changes.Creations.{make_systems}
use Rattle.world.proofs.steps.StateSteps.{begun}
use Rattle.world.proofs.removals.Slices.{fresh_keeps}
use Rattle.world.proofs.steps.Groups.{raise_systems, same_maps}
use Rattle.world.proofs.steps.Snapshots.{take_systems, taken_from}
use Rattle.world.proofs.lineage.Dead.{row_base}
use Rattle.datasets.specs.Table.{AreNumbersOne, IsTable}
use Rattle.datasets.proofs.Rows.{none_from}

-- where each map was there before, a number names one block again
pub numbers_from : (t u : Datasets) → AreFileSystems t.file_systems t.group → AreMapsFrom t.file_systems u.file_systems → AreNumbersOne t → AreNumbersOne u
numbers_from t u good from = cells_from (map_of (world_of t)) (map_of (world_of u)) (drawn (world_of t) (world_of u) t.group good.lines from)

-- what it takes to make a file system
pub record CanAdd (ss : FileSystems) (name : Name) : Type 0 where
  pub absent : get ss name ≡ None
  pub parent : IsTrue (has_parent ss name)
  pub room : len ss < file_system_limit

-- nothing refuses it only then
pub can_add : (ss : FileSystems) (name : Name) → create_refusal ss name ≡ None → CanAdd ss name
unfolding create_refusal
can_add ss name e = from (contains_key ss name) (has_parent ss name) (nat_le file_system_limit (len ss)) refl refl refl e
  where
    from : (a b c : Bool) → contains_key ss name ≡ a → has_parent ss name ≡ b → nat_le file_system_limit (len ss) ≡ c
        → ◌≡◌ {A = Option Refusal} (if a then Some Exists else if not b then Some NoParent else if c then Some TooMany else None) None → CanAdd ss name
    from true b c p q r is = absurd (cc)
    from false true true p q r is = absurd (cc)
    from false true false p q r is = record { absent = none_from _ p; parent = q; room = grind (arith, nat_tests) }
    from false false c p q r is = absurd (cc)

-- the same file systems in a later group
pub later_table : (t : Datasets) (h : ℕ) → t.group ≤ h → IsTable t → IsTable (record t { group = h })
later_table t h up sound = record {
  systems = raise_systems t.file_systems t.group h sound.systems up;
  numbers = numbers_from t (record t { group = h }) sound.systems (same_maps t.file_systems) sound.numbers;
}

first : IsTable (record { file_systems = insert finmap.empty root_name empty_file_system; group = 1 })
unfolding fresh_state fresh_world
first =
    let fresh = fresh_keeps 0 0 in
    record {
      systems = fresh.now.systems;
      numbers = cells_from (maps_of_both (fresh_state 0 0).now (fresh_state 0 0).last) (map_of (fresh_state 0 0).now) (λ d. inr (InNow d, refl)) fresh.pair.cells;
    }

-- the root alone, whichever group is open
pub first_table : (g : ℕ) → 1 ≤ g → IsTable (record { file_systems = insert finmap.empty root_name empty_file_system; group = g })
first_table g up = later_table (record { file_systems = insert finmap.empty root_name empty_file_system; group = 1 }) g up first

-- an empty file system more, which nothing refuses
pub created_table : (t : Datasets) → IsTable t → (name : Name) → create_refusal t.file_systems name ≡ None → IsTable (record t { file_systems = insert t.file_systems name empty_file_system })
created_table t sound name can =
    let c = can_add t.file_systems name can in
    record {
      systems = make_systems t.file_systems t.group sound.systems name c.absent c.parent c.room finmap.empty None nothing_before refl (begun t.file_systems t.group sound.systems) (λ b h. absurd (no_block b h));
      numbers = numbers_from t (record t { file_systems = insert t.file_systems name empty_file_system }) sound.systems
          (put_maps t.file_systems name empty_file_system (λ m h. ⊎_elim (λ e. inl e) (λ k. absurd k) h)) sound.numbers;
    }

-- one more, or all as it was
pub added_table : {T E : Type 0} (t : Datasets) → IsTable t → (r : Result T E) (new to : FileSystems) → IsTable (record t { file_systems = to })
    → OnOk r (new ≡ to) → OnErr r (new ≡ t.file_systems) → IsTable (record t { file_systems = new })
added_table t sound (Ok v) new to after ok err = subst (λ ss. IsTable (record t { file_systems = ss })) (sym ok) after
added_table t sound (Err e) new to after ok err = subst (λ ss. IsTable (record t { file_systems = ss })) (sym err) sound

pub is_added : {T E : Type 0} (t : Datasets) (r : Result T E) (new to : FileSystems) → OnOk r (new ≡ to) → OnOk r (record t { file_systems = new } ≡ record t { file_systems = to })
is_added t (Ok v) new to ok = ap (λ ss. record t { file_systems = ss }) ok
is_added t (Err e) new to ok = tt

-- a snapshot of a live map
module _ (t : Datasets) (sound : IsTable t) (name component : Name) (guid group : ℕ)
    (can : CanSnap t name (plain_snap component (live_of t.file_systems name) guid group)) where
  abbrev s : Snap
  s = plain_snap component (live_of t.file_systems name) guid group

  abbrev longer : FileSystem
  longer = record can.system { snaps = can.system.snaps ++ plain_snap component (live_of t.file_systems name) guid group ∷ [] }

  after_is : option_map_or (λ f. insert t.file_systems name (with_snap f component guid group)) (get t.file_systems name) t.file_systems ≡ insert t.file_systems name longer
  after_is =
      ap (λ x. option_map_or (λ f. insert t.file_systems name (with_snap f component guid group)) x t.file_systems) can.there
      ∙ ap (λ m. insert t.file_systems name (record can.system { snaps = can.system.snaps ++ plain_snap component m guid group ∷ [] })) (sym can.map_is)

  above : (before_live (start t.file_systems t.group sound.systems.lines name can.system can.there) (map snap_shape can.system.snaps)).base < group
  above =
      let base = row_base (world_of t) t.group sound.systems.lines (Live name) (live_row t.file_systems t.group sound.systems.lines name can.system can.there)
      (live_there t.file_systems t.group sound.systems.lines name can.system can.there) in
      let l = can.above in
      omega arith

  -- no snapshot has its identity
  pub fresh_in : find (λ (u : Snap). same_id (id_of u) (record { group = group; guid = guid })) (all_snaps t.file_systems) ≡ None
  fresh_in = find_none (λ (u : Snap). same_id (id_of u) (record { group = group; guid = guid })) (all_snaps t.file_systems) (λ u h is.
      let r = from_flat (λ (e : Name × FileSystem). e.1.snaps) (entries t.file_systems) u h in
      can.fresh r.0.0 r.0.1 u (at_entry name_order t.file_systems r.0.0 r.0.1 (from_entries (entries t.file_systems) r.0 r.1)) r.2
      (same_id_is (id_of u) (record { group = group; guid = guid }) is))

  longer_table : IsTable (record t { file_systems = insert t.file_systems name longer })
  longer_table = record {
    systems = take_systems t.file_systems t.group sound.systems name can.system can.there s can.map_is can.fresh can.new_name can.closed above can.opens;
    numbers = numbers_from t (record t { file_systems = insert t.file_systems name longer }) sound.systems
        (taken_from t.file_systems t.group sound.systems name can.system can.there s can.map_is can.fresh can.new_name can.closed above can.opens) sound.numbers;
  }

  pub snapped_table : {T E : Type 0} (r : Result T E) (new : FileSystems)
      → OnOk r (new ≡ option_map_or (λ f. insert t.file_systems name (with_snap f component guid group)) (get t.file_systems name) t.file_systems)
      → OnErr r (new ≡ t.file_systems) → IsTable (record t { file_systems = new })
  snapped_table (Ok v) new ok err = subst (λ ss. IsTable (record t { file_systems = ss })) (sym (ok ∙ after_is)) longer_table
  snapped_table (Err e) new ok err = subst (λ ss. IsTable (record t { file_systems = ss })) (sym err) sound

-- A file system that goes alone: where its origin stays, nothing goes with it.
use Rattle.std.proofs.Common.{◌≡◌, Bool, true, false, not, ◌&&◌, ◌||◌, Option, None, Some, Result, Ok, Err, refl, sym, ap, ◌∙◌, true≢false, ⊎_elim}
use Rattle.std.specs.Prelude.{OnOk}
use Rattle.std.specs.Option.{option_map_or, option_and_then}
use Rattle.std.specs.FinMap.{get, entries}
use Rattle.base.specs.Surveys.{IsIn}
use Rattle.model.specs.World.{FileSystem, Snap, SnapId, id_of, same_id, snap_at, snaps_of}
use Rattle.model.specs.State.{Views}
use Rattle.model.specs.Outcome.{is_needed}
use Rattle.datasets.specs.Rows.{Entry}
use Rattle.world.specs.Shapes.{Name, name_order}
use Rattle.world.specs.Worlds.{AreFileSystems}
use Rattle.world.specs.Tables.{Datasets, world_of, without_system}
use Rattle.world.proofs.lists.Maps.{no_value, key_cases, at_entry, get-remove_same, get-remove_other}
use Rattle.world.proofs.lists.Finding.{found_none, is_same_id}
use Rattle.world.proofs.lineage.Bridge.{from_entries, from_snap_at, in_snaps}
use Rattle.removals.specs.Needs.{has_clone, is_held, is_kept}
use Rattle.removals.specs.Families.{has_deferred_origin}
use Rattle.removals.specs.Requests.{swept, without_family, IsSweptBy}
use Rattle.removals.proofs.Clones.{uncloned_is}
use Rattle.removals.proofs.Needed.{needed_is}
use Rattle.removals.proofs.SystemsGone.{one_gone}
use Rattle.removals.proofs.Swept.{none_without, once_here, some_clone}

-- by what is there
pub origin_marked : (t : Datasets) (name : Name) (f : FileSystem) (id : SnapId) (p : Name × Snap) → get t.file_systems name ≡ Some f → f.origin ≡ Some id → snap_at (world_of t) id ≡ Some p
    → has_deferred_origin t name ≡ p.1.deferred
origin_marked t name f id p at o found =
    ap (λ (x : Option FileSystem). option_map_or (λ (j : SnapId). option_map_or (λ (q : Name × Snap). q.1.deferred) (snap_at (world_of t) j) false) (option_and_then (λ (g : FileSystem). g.origin) x) false) at
    ∙ ap (λ (x : Option SnapId). option_map_or (λ (j : SnapId). option_map_or (λ (q : Name × Snap). q.1.deferred) (snap_at (world_of t) j) false) x false) o
    ∙ ap (λ (x : Option (Name × Snap)). option_map_or (λ (q : Name × Snap). q.1.deferred) x false) found

module _ (t : Datasets) (good : AreFileSystems t.file_systems t.group) (views : Views) (clean : IsSweptBy t views) (name : Name) (stays : has_deferred_origin t name ≡ false) where
  abbrev after : Datasets
  after = without_system t name

  was_there : (n : Name) (f : FileSystem) → get after.file_systems n ≡ Some f → get t.file_systems n ≡ Some f
  was_there n f at = ⊎_elim
      (λ (same : n ≡ name). absurd (no_value f (sym (ap (get after.file_systems) same ∙ get-remove_same name_order t.file_systems name) ∙ at)))
      (λ (other : ¬ (n ≡ name)). sym (get-remove_other name_order t.file_systems name n other) ∙ at)
      (key_cases name_order n name)

  -- a snapshot that is to go isn't the origin of the one that goes
  not_its_origin : (n : Name) (f : FileSystem) (u : Snap) → get t.file_systems n ≡ Some f → IsIn f.snaps u → u.deferred ≡ true → (g : FileSystem) → get t.file_systems name ≡ Some g → g.origin ≡ Some (id_of u) → ⊥
  not_its_origin n f u at i d g there o = by_found (snap_at (world_of t) (id_of u)) refl
    where
      by_found : (x : Option (Name × Snap)) → snap_at (world_of t) (id_of u) ≡ x → ⊥
      by_found None e = found_none (λ (p : Name × Snap). same_id (id_of p.1) (id_of u)) (snaps_of (world_of t)) e (n, u) (in_snaps (world_of t) n f u at i) (is_same_id (id_of u) (id_of u) refl)
      by_found (Some p) e =
          let k = from_snap_at (world_of t) (id_of u) p e in
          let same : p.1 ≡ u = once_here t good p.0 n k.0 f p.1 u k.1 at k.2 i k.3 in
          true≢false (sym (origin_marked t name g (id_of u) p there o e ∙ ap (λ (v : Snap). v.deferred) same ∙ d) ∙ stays)

  -- it has its clones still
  still_cloned : (n : Name) (f : FileSystem) (u : Snap) → get t.file_systems n ≡ Some f → IsIn f.snaps u → u.deferred ≡ true → has_clone t (id_of u) ≡ true → has_clone after (id_of u) ≡ true
  still_cloned n f u at i d cloned = by_test (has_clone after (id_of u)) refl
    where
      no_clone : has_clone after (id_of u) ≡ false → (r : Entry) → IsIn (entries t.file_systems) r → r.1.origin ≡ Some (id_of u) → ⊥
      no_clone none r k o =
          let there : get t.file_systems r.0 ≡ Some r.1 = at_entry name_order t.file_systems r.0 r.1 (from_entries (entries t.file_systems) r k) in
          ⊎_elim
          (λ (same : r.0 ≡ name). not_its_origin n f u at i d r.1 (ap (get t.file_systems) (sym same) ∙ there) o)
          (λ (other : ¬ (r.0 ≡ name)). uncloned_is after (id_of u) none r.0 r.1 (get-remove_other name_order t.file_systems name r.0 other ∙ there) o)
          (key_cases name_order r.0 name)

      by_test : (b : Bool) → has_clone after (id_of u) ≡ b → has_clone after (id_of u) ≡ true
      by_test true e = e
      by_test false e = let clone = some_clone t (id_of u) cloned in absurd (no_clone e clone.0 clone.1 clone.2)

  -- so nothing is to go
  still_needed : (n : Name) (f : FileSystem) (u : Snap) → get after.file_systems n ≡ Some f → IsIn f.snaps u → (u.deferred && not (is_needed (world_of after) views u)) ≡ false
  still_needed n f u at i =
      ap (λ b. u.deferred && not b) (needed_is after views u)
      ∙ by_mark u.deferred refl
    where
      kept : u.deferred ≡ true → is_kept t views u ≡ true
      kept d = sym (needed_is t views u) ∙ clean n f u (was_there n f at) i d

      by_hold : (v c e : Bool) → (c ≡ true → e ≡ true) → (v || c) ≡ true → (v || e) ≡ true
      by_hold true c e h k = refl
      by_hold false c e h k = h k

      by_mark : (d : Bool) → u.deferred ≡ d → (d && not (is_kept after views u)) ≡ false
      by_mark true d = ap not (by_hold (is_held views u) (has_clone t (id_of u)) (has_clone after (id_of u)) (still_cloned n f u (was_there n f at) i d) (kept d))
      by_mark false d = refl

  pub nothing_swept : swept (without_system t name) views ≡ without_system t name
  nothing_swept = none_without after (λ u. u.deferred && not (is_needed (world_of after) views u)) still_needed

  -- what is left then is what a destroy leaves
  pub alone_gone : {T E : Type 0} (r : Result T E) (u : Datasets) → OnOk r (u ≡ without_system t name) → OnOk r (u ≡ swept (without_family t name false) views)
  alone_gone (Ok x) u is = is ∙ sym nothing_swept ∙ ap (λ v. swept v views) (one_gone t name)
  alone_gone (Err e) u is = tt

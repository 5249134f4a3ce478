-- Clones that are outside a family.
use Rattle.std.proofs.Common.{◌≡◌, Bool, true, false, not, ◌&&◌, List, [], ◌∷◌, map, Option, Some, None, refl, sym, ap, subst, ◌∙◌, true≢false, inl, inr, ⊎_elim}
use Rattle.std.specs.List.{filter, list_any}
use Rattle.std.specs.Option.{option_map_or}
use Rattle.std.specs.FinMap.{get, entries, keys}
use Rattle.std.proofs.lemmas.Bool.{and_parts, or_cases}
use Rattle.base.specs.Surveys.{IsIn}
use Rattle.base.specs.Names.{same_name}
use Rattle.model.specs.World.{FileSystem, Snap, SnapId, id_of, same_id, snap_at, clones_of, family_of}
use Rattle.model.specs.requests.Destroy.{snaps_within}
use Rattle.model.specs.requests.Rollback.{has_clone_outside}
use Rattle.datasets.specs.Rows.{Entry}
use Rattle.model.specs.Hierarchy.{is_in_family}
use Rattle.world.specs.Shapes.{Name, name_order}
use Rattle.world.specs.Worlds.{AreFileSystems}
use Rattle.world.specs.Tables.{Datasets, world_of}
use Rattle.world.proofs.lists.Maps.{entry_of, at_entry}
use Rattle.world.proofs.lists.Finding.{in_filter, from_filter, in_flat, from_flat, same_id_is, name_itself, one_name, any_none}
use Rattle.world.proofs.lineage.Bridge.{from_entries, from_snap_at, snap_is_at}
use Rattle.world.proofs.lists.Listed.{in_map, map_in}
use Rattle.world.proofs.steps.States.{in_clones}
use Rattle.removals.specs.Families.{is_outside_clone, is_cloned_outside, AreClonesInside}
use Rattle.removals.proofs.SystemsGone.{in_entries}
use Rattle.removals.proofs.Swept.{any_in}

from_any : {A : Type 0} (p : A → Bool) (xs : List A) → list_any p xs ≡ true → (x : A) × IsIn xs x × (p x ≡ true)
from_any p [] e = absurd (true≢false (sym e))
from_any p (x ∷ xs) e = ⊎_elim
    (λ k. (x, inl refl, k))
    (λ k. let r = from_any p xs k in (r.0, inr r.1, r.2))
    (or_cases (p x) (list_any p xs) e)

not_true : (b : Bool) → not b ≡ true → b ≡ false
not_true true e = absurd (true≢false (sym e))
not_true false e = refl

from_false : (b : Bool) → (b ≡ true → ⊥) → b ≡ false
from_false true f = absurd (f refl)
from_false false f = refl

module _ (t : Datasets) (good : AreFileSystems t.file_systems t.group) (name : Name) where
  abbrev family : List Name
  family = family_of (world_of t) name

  -- a file system that is there
  row_at : (r : Entry) → IsIn (entries t.file_systems) r → get t.file_systems r.0 ≡ Some r.1
  row_at r i = at_entry name_order t.file_systems r.0 r.1 (from_entries (entries t.file_systems) r i)

  at_row : (n : Name) (f : FileSystem) → get t.file_systems n ≡ Some f → IsIn (entries t.file_systems) (n, f)
  at_row n f at = in_entries (entries t.file_systems) n f (entry_of name_order t.file_systems n f at)

  in_family : (n : Name) (f : FileSystem) → get t.file_systems n ≡ Some f → is_in_family name n ≡ true → IsIn family n
  in_family n f at e = in_filter (is_in_family name) (keys t.file_systems) n (map_in (λ (r : Entry). r.0) (entries t.file_systems) (n, f) (at_row n f at)) e

  from_family : (n : Name) → IsIn family n → is_in_family name n ≡ true
  from_family n i = (from_filter (is_in_family name) (keys t.file_systems) n i).1

  -- one that isn't of the family isn't among its names
  outside_names : (n : Name) → is_in_family name n ≡ false → list_any (same_name n) family ≡ false
  outside_names n e = from_false (list_any (same_name n) family) (λ k.
      let m = from_any (same_name n) family k in
      true≢false (sym (ap (is_in_family name) (one_name n m.0 m.2) ∙ from_family m.0 m.1) ∙ e))

  names_outside : (n : Name) (f : FileSystem) → get t.file_systems n ≡ Some f → list_any (same_name n) family ≡ false → is_in_family name n ≡ false
  names_outside n f at e = from_false (is_in_family name n) (λ k. true≢false (sym (any_in (same_name n) family n (in_family n f at k) (name_itself n)) ∙ e))

  abbrev ids : List SnapId
  ids = snaps_within (world_of t) family

  abbrev ids_at : Name → List SnapId
  ids_at n = option_map_or (λ (f : FileSystem). map {A = Snap} id_of f.snaps) (get t.file_systems n) []

  abbrev is_out : Name → Bool
  is_out clone = not (list_any (same_name clone) family)

  -- what the code tests
  abbrev found : Bool
  found = list_any (is_outside_clone t name) (entries t.file_systems)

  abbrev told : Bool
  told = has_clone_outside (world_of t) family ids

  -- a clone outside of a snapshot within
  is_one : (owner clone : Name) (f c : FileSystem) (s : Snap) → get t.file_systems owner ≡ Some f → get t.file_systems clone ≡ Some c → IsIn f.snaps s → c.origin ≡ Some (id_of s)
      → is_in_family name owner ≡ true → is_in_family name clone ≡ false → is_outside_clone t name (clone, c) ≡ true
  is_one owner clone f c s at at' i o within out =
      (λ j. not (out j) && option_map_or (λ id. option_map_or (λ (p : Name × Snap). is_in_family name p.0) (snap_at (world_of t) id) false) (o j) false)
      ∙ ap (λ (x : Option (Name × Snap)). option_map_or (λ (p : Name × Snap). is_in_family name p.0) x false) (snap_is_at (world_of t) t.group good.lines owner f s (id_of s) at i refl)
      ∙ within

  told_found : told ≡ true → found ≡ true
  told_found e =
      let id = from_any (λ id. list_any is_out (clones_of (world_of t) id)) ids e in
      let clone = from_any is_out (clones_of (world_of t) id.0) id.2 in
      let row = in_map (λ (r : Entry). r.0) (filter (λ (r : Entry). option_map_or (same_id id.0) r.1.origin false) (entries t.file_systems)) clone.0 clone.1 in
      let own = from_filter (λ (r : Entry). option_map_or (same_id id.0) r.1.origin false) (entries t.file_systems) row.0 row.1 in
      let owner = from_flat ids_at family id.0 id.1 in
      by_owner id.0 clone.0 clone.2 row.0 row.2 own.0 own.1 owner.0 owner.1 (get t.file_systems owner.0) refl owner.2
    where
      by_origin : (id : SnapId) (o : Option SnapId) → option_map_or (same_id id) o false ≡ true → o ≡ Some id
      by_origin id None h = absurd (true≢false (sym h))
      by_origin id (Some j) h = ap Some (sym (same_id_is id j h))

      by_owner : (id : SnapId) (clone : Name) → is_out clone ≡ true → (row : Entry) → clone ≡ row.0 → IsIn (entries t.file_systems) row → option_map_or (same_id id) row.1.origin false ≡ true
          → (owner : Name) → IsIn family owner → (x : Option FileSystem) → get t.file_systems owner ≡ x → IsIn (option_map_or (λ (f : FileSystem). map {A = Snap} id_of f.snaps) x []) id → found ≡ true
      by_owner id clone out row is k o owner within None at i = absurd i
      by_owner id clone out row is k o owner within (Some f) at i =
          let s = in_map id_of f.snaps id i in
          let out' : list_any (same_name row.0) family ≡ false = ap (λ n. list_any (same_name n) family) (sym is) ∙ not_true (list_any (same_name clone) family) out in
          any_in (is_outside_clone t name) (entries t.file_systems) row k
          (is_one owner row.0 f row.1 s.0 at (row_at row k) s.1 (by_origin id row.1.origin o ∙ ap Some s.2) (from_family owner within) (names_outside row.0 row.1 (row_at row k) out'))

  found_told : found ≡ true → told ≡ true
  found_told e =
      let row = from_any (is_outside_clone t name) (entries t.file_systems) e in
      let parts = and_parts (not (is_in_family name row.0.0)) (option_map_or (λ id. option_map_or (λ (p : Name × Snap). is_in_family name p.0) (snap_at (world_of t) id) false) row.0.1.origin false) row.2 in
      by_origin row.0 row.1 (not_true (is_in_family name row.0.0) parts.0) row.0.1.origin refl parts.1
    where
      by_owner : (r : Entry) → IsIn (entries t.file_systems) r → is_in_family name r.0 ≡ false → (id : SnapId) → r.1.origin ≡ Some id → (x : Option (Name × Snap)) → snap_at (world_of t) id ≡ x
          → option_map_or (λ (p : Name × Snap). is_in_family name p.0) x false ≡ true → told ≡ true
      by_owner r k out id o None at h = absurd (true≢false (sym h))
      by_owner r k out id o (Some p) at h =
          let s = from_snap_at (world_of t) id p at in
          let listed : IsIn (ids_at p.0) id = subst (λ (x : Option FileSystem). IsIn (option_map_or (λ (f : FileSystem). map {A = Snap} id_of f.snaps) x []) id) (sym s.1)
          (subst (IsIn (map {A = Snap} id_of s.0.snaps)) s.3 (map_in id_of s.0.snaps p.1 s.2)) in
          any_in (λ id. list_any is_out (clones_of (world_of t) id)) ids id (in_flat ids_at family p.0 id (in_family p.0 s.0 s.1 h) listed)
          (any_in is_out (clones_of (world_of t) id) r.0 (in_clones (world_of t) id r.0 r.1 (row_at r k) o) (ap not (outside_names r.0 out)))

      by_origin : (r : Entry) → IsIn (entries t.file_systems) r → is_in_family name r.0 ≡ false → (o : Option SnapId) → r.1.origin ≡ o
          → option_map_or (λ id. option_map_or (λ (p : Name × Snap). is_in_family name p.0) (snap_at (world_of t) id) false) o false ≡ true → told ≡ true
      by_origin r k out None o h = absurd (true≢false (sym h))
      by_origin r k out (Some id) o h = by_owner r k out id o (snap_at (world_of t) id) refl h

  -- it is what the model asks
  pub cloned_outside : has_clone_outside (world_of t) (family_of (world_of t) name) (snaps_within (world_of t) (family_of (world_of t) name)) ≡ list_any (is_outside_clone t name) (entries t.file_systems)
  cloned_outside = same_truth told found told_found found_told
    where
      same_truth : (a b : Bool) → (a ≡ true → b ≡ true) → (b ≡ true → a ≡ true) → a ≡ b
      same_truth true b f g = sym (f refl)
      same_truth false true f g = g refl
      same_truth false false f g = refl

  -- where there is none, each clone is inside
  pub clones_inside : list_any (is_outside_clone t name) (entries t.file_systems) ≡ false → AreClonesInside t name
  clones_inside none owner clone f c s at at' i o within = by_test (is_in_family name clone) refl
    where
      by_test : (b : Bool) → is_in_family name clone ≡ b → is_in_family name clone ≡ true
      by_test true e = e
      by_test false e = absurd (true≢false (sym (is_one owner clone f c s at at' i o within e) ∙ any_none (is_outside_clone t name) (entries t.file_systems) none (clone, c) (at_row clone c at')))

  -- what the code tests, of the family's snapshots
  abbrev asked : Bool
  asked = list_any (λ (r : Entry). is_in_family name r.0 && list_any (is_cloned_outside t name) r.1.snaps) (entries t.file_systems)

  abbrev out_name : Name → Bool
  out_name n = not (is_in_family name n)

  asked_found : asked ≡ true → found ≡ true
  asked_found e =
      let owner = from_any (λ (r : Entry). is_in_family name r.0 && list_any (is_cloned_outside t name) r.1.snaps) (entries t.file_systems) e in
      let parts = and_parts (is_in_family name owner.0.0) (list_any (is_cloned_outside t name) owner.0.1.snaps) owner.2 in
      let s = from_any (is_cloned_outside t name) owner.0.1.snaps parts.1 in
      let clone = from_any out_name (clones_of (world_of t) (id_of s.0)) s.2 in
      by_clone owner.0 owner.1 parts.0 s.0 s.1 clone.0 clone.1 clone.2
    where
      by_origin : (id : SnapId) (o : Option SnapId) → option_map_or (same_id id) o false ≡ true → o ≡ Some id
      by_origin id None h = absurd (true≢false (sym h))
      by_origin id (Some j) h = ap Some (sym (same_id_is id j h))

      by_row : (owner : Entry) → IsIn (entries t.file_systems) owner → is_in_family name owner.0 ≡ true → (s : Snap) → IsIn owner.1.snaps s → (row : Entry) → IsIn (entries t.file_systems) row
          → option_map_or (same_id (id_of s)) row.1.origin false ≡ true → is_in_family name row.0 ≡ false → found ≡ true
      by_row owner i within s k row l o out = any_in (is_outside_clone t name) (entries t.file_systems) row l
          (is_one owner.0 row.0 owner.1 row.1 s (row_at owner i) (row_at row l) k (by_origin (id_of s) row.1.origin o) within out)

      by_clone : (owner : Entry) → IsIn (entries t.file_systems) owner → is_in_family name owner.0 ≡ true → (s : Snap) → IsIn owner.1.snaps s → (clone : Name) → IsIn (clones_of (world_of t) (id_of s)) clone
          → not (is_in_family name clone) ≡ true → found ≡ true
      by_clone owner i within s k clone l out =
          let row = in_map (λ (r : Entry). r.0) (filter (λ (r : Entry). option_map_or (same_id (id_of s)) r.1.origin false) (entries t.file_systems)) clone l in
          let own = from_filter (λ (r : Entry). option_map_or (same_id (id_of s)) r.1.origin false) (entries t.file_systems) row.0 row.1 in
          by_row owner i within s k row.0 own.0 own.1 (ap (is_in_family name) (sym row.2) ∙ not_true (is_in_family name clone) out)

  found_asked : found ≡ true → asked ≡ true
  found_asked e =
      let row = from_any (is_outside_clone t name) (entries t.file_systems) e in
      let parts = and_parts (not (is_in_family name row.0.0)) (option_map_or (λ id. option_map_or (λ (p : Name × Snap). is_in_family name p.0) (snap_at (world_of t) id) false) row.0.1.origin false) row.2 in
      by_origin row.0 row.1 parts.0 row.0.1.origin refl parts.1
    where
      by_owner : (r : Entry) → IsIn (entries t.file_systems) r → not (is_in_family name r.0) ≡ true → (id : SnapId) → r.1.origin ≡ Some id → (x : Option (Name × Snap)) → snap_at (world_of t) id ≡ x
          → option_map_or (λ (p : Name × Snap). is_in_family name p.0) x false ≡ true → asked ≡ true
      by_owner r k out id o None at h = absurd (true≢false (sym h))
      by_owner r k out id o (Some p) at h =
          let s = from_snap_at (world_of t) id p at in
          let shown : is_cloned_outside t name p.1 ≡ true = any_in out_name (clones_of (world_of t) (id_of p.1)) r.0 (in_clones (world_of t) (id_of p.1) r.0 r.1 (row_at r k) (o ∙ ap Some (sym s.3))) out in
          any_in (λ (q : Entry). is_in_family name q.0 && list_any (is_cloned_outside t name) q.1.snaps) (entries t.file_systems) (p.0, s.0) (at_row p.0 s.0 s.1)
          (λ i. h i && any_in (is_cloned_outside t name) s.0.snaps p.1 s.2 shown i)

      by_origin : (r : Entry) → IsIn (entries t.file_systems) r → not (is_in_family name r.0) ≡ true → (o : Option SnapId) → r.1.origin ≡ o
          → option_map_or (λ id. option_map_or (λ (p : Name × Snap). is_in_family name p.0) (snap_at (world_of t) id) false) o false ≡ true → asked ≡ true
      by_origin r k out None o h = absurd (true≢false (sym h))
      by_origin r k out (Some id) o h = by_owner r k out id o (snap_at (world_of t) id) refl h

  -- it is whether a clone of a snapshot within is outside
  pub asked_outside : list_any (λ (r : Entry). is_in_family name r.0 && list_any (is_cloned_outside t name) r.1.snaps) (entries t.file_systems) ≡ list_any (is_outside_clone t name) (entries t.file_systems)
  asked_outside = same_test asked found asked_found found_asked
    where
      same_test : (a b : Bool) → (a ≡ true → b ≡ true) → (b ≡ true → a ≡ true) → a ≡ b
      same_test true b f g = sym (f refl)
      same_test false true f g = g refl
      same_test false false f g = refl

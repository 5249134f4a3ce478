-- Where the datasets of names stand.
use Rattle.std.proofs.Common.{◌≡◌, ℕ, ◌+◌, ◌<◌, ◌≤◌, ◌^◌, ◌||◌, true, false, [], ◌∷◌, Option, Some, None, refl, sym, ap, subst, ◌∙◌, arith}
use Rattle.std.specs.Prelude.{IfSome, not, is_some, ◌-◌}
use Rattle.std.specs.List.{find}
use Rattle.std.specs.Option.{option_map, option_map_or, option_and_then}
use Rattle.std.specs.FinMap.{get}
use Rattle.std.specs.FinSet.{len}
use Rattle.base.specs.Map.{blocks}
use Rattle.base.specs.Surveys.{IsIn}
use Rattle.base.specs.declared.refusal.Refusal.TheVariants.{NoDataset, NotAncestor}
use Rattle.base.specs.Names.{same_name}
use Rattle.base.specs.declared.name.member.Member.{Member}
use Rattle.base.specs.declared.name.target.Target.{Target}
use Rattle.base.specs.declared.name.target.Target.TheVariants.{FileSystem as OfFileSystem, Snapshot as OfSnapshot, Bookmark as OfBookmark}
use Rattle.model.specs.Rule.{first_of}
use Rattle.model.specs.Sums.{written_since, referenced_of}
use Rattle.model.specs.World.{FileSystem, Snap, SnapId, Dataset, Live, Snapped, id_of, snap_named, map_of}
use Rattle.world.specs.Blocks.{block_order as o}
use Rattle.world.specs.Dead.{IsThere}
use Rattle.world.specs.Shapes.{Name}
use Rattle.world.specs.Tables.{Datasets, world_of}
use Rattle.world.proofs.lineage.Bridge.{map_of_live, map_of_kept}
use Rattle.world.proofs.lists.Finding.{from_find}
use Rattle.world.proofs.lists.Maps.{same_value, no_value}
use Rattle.world.proofs.lists.SetCounts.{len-difference}
use Rattle.datasets.specs.Rows.{Row}
use Rattle.datasets.specs.Clones.{row_in, below_in}
use Rattle.datasets.specs.Splices.{AreAbove}
use Rattle.datasets.specs.Table.{IsTable}
use Rattle.datasets.proofs.Removed.{are_above}
use Rattle.limits.proofs.Older.{older_has}
use Rattle.limits.proofs.Written.{written_since_is}
use Rattle.lookups.specs.Places.{snapshot_place, place_named, dataset_at, map_at, IsPlace, IsHome}
use Rattle.lookups.specs.Since.{dataset_named, is_named_before, is_before, since_refusal, written_named, IsDeadSince}

-- ---- by a name

-- what was found of a snapshot
pub record IsSnapshot (t : Datasets) (m : Member) (r : Row) (u : Snap) : Type 0 where
  pub row : r ≡ row_in t.file_systems (m.file_system, r.system)
  pub at : get t.file_systems m.file_system ≡ Some r.system
  pub there : IsIn r.system.snaps u
  pub named : snap_named (world_of t) m ≡ Some u

pub snapshot_is : (t : Datasets) (m : Member) (r : Row) (u : Snap) → Some (r, u) ≡ snapshot_place t m → IsSnapshot t m r u
snapshot_is t m r u e = by_system (get t.file_systems m.file_system) refl e
  where
    by_snap : (f : FileSystem) → get t.file_systems m.file_system ≡ Some f → (x : Option Snap) → find (λ (v : Snap). same_name v.name m.component) f.snaps ≡ x
        → Some (r, u) ≡ option_map {T = Snap} {U = Row × Snap} (λ v. (row_in t.file_systems (m.file_system, f), v)) x → IsSnapshot t m r u
    by_snap f at None k h = absurd (no_value (r, u) (sym h))
    by_snap f at (Some v) k h =
        let p = same_value (r, u) (row_in t.file_systems (m.file_system, f), v) h in
        let row_is : r ≡ row_in t.file_systems (m.file_system, f) = ap (λ (x : Row × Snap). x.0) p in
        let snap_is : u ≡ v = ap (λ (x : Row × Snap). x.1) p in
        let system_is : r.system ≡ f = ap (λ (x : Row). x.system) row_is in
        let found = (from_find (λ (v : Snap). same_name v.name m.component) f.snaps v k).0 in
        record {
          row = row_is ∙ ap (λ (f : FileSystem). row_in t.file_systems (m.file_system, f)) (sym system_is);
          at = at ∙ ap Some (sym system_is);
          there = subst (λ (f : FileSystem). IsIn f.snaps u) (sym system_is) (subst (IsIn f.snaps) (sym snap_is) found);
          named = ap (option_and_then (λ (f : FileSystem). find (λ (v : Snap). same_name v.name m.component) f.snaps)) at ∙ k ∙ ap Some (sym snap_is);
        }

    by_system : (x : Option FileSystem) → get t.file_systems m.file_system ≡ x
        → Some (r, u) ≡ option_and_then {T = FileSystem} {U = Row × Snap} (λ f. option_map (λ (u : Snap). (row_in t.file_systems (m.file_system, f), u)) (find (λ (v : Snap). same_name v.name m.component) f.snaps)) x
        → IsSnapshot t m r u
    by_system None at h = absurd (no_value (r, u) (sym h))
    by_system (Some f) at h = by_snap f at (find (λ (v : Snap). same_name v.name m.component) f.snaps) refl h

name_of_row : (t : Datasets) (m : Name) (r : Row) → r ≡ row_in t.file_systems (m, r.system) → r.name ≡ m
name_of_row t m r e = ap (λ (x : Row). x.name) e

-- it is a place
pub snapshot_stands : (t : Datasets) (m : Member) (r : Row) (u : Snap) → IsSnapshot t m r u → IsPlace t r (Some u)
snapshot_stands t m r u s =
    let n = name_of_row t m.file_system r s.row in
    record {
      row = s.row ∙ ap (λ n. row_in t.file_systems (n, r.system)) (sym n);
      at = ap (get t.file_systems) n ∙ s.at;
      snap = s.there;
    }

-- and a home
pub snapshot_home : (t : Datasets) (m : Member) (r : Row) (u : Snap) → IsSnapshot t m r u → (n : Name) → n ≡ r.name → (id : SnapId) → id ≡ id_of u → IsHome t n id
snapshot_home t m r u s n n_is id id_is = record {
  system = r.system;
  at = ap (get t.file_systems) (n_is ∙ name_of_row t m.file_system r s.row) ∙ s.at;
  snap = u;
  there = s.there;
  is = sym id_is;
}

-- what was found of a dataset
pub dataset_is : (t : Datasets) (target : Target) (r : Row) (x : Option Snap) → Some (r, x) ≡ place_named t target → IsPlace t r x × (dataset_named t target ≡ Some (dataset_at r x))
dataset_is t (OfFileSystem name) r x e = by_system (get t.file_systems name) refl e
  where
    by_system : (y : Option FileSystem) → get t.file_systems name ≡ y → Some (r, x) ≡ option_map {T = FileSystem} {U = Row × Option Snap} (λ f. (row_in t.file_systems (name, f), None)) y
        → IsPlace t r x × (option_map {T = FileSystem} {U = Dataset} (λ f. Live name) (get t.file_systems name) ≡ Some (dataset_at r x))
    by_system None at h = absurd (no_value (r, x) (sym h))
    by_system (Some f) at h =
        let p = same_value (r, x) (row_in t.file_systems (name, f), None) h in
        let row_is : r ≡ row_in t.file_systems (name, f) = ap (λ (y : Row × Option Snap). y.0) p in
        let snap_is : x ≡ None = ap (λ (y : Row × Option Snap). y.1) p in
        let name_is : r.name ≡ name = ap (λ (y : Row). y.name) row_is in
        let system_is : r.system ≡ f = ap (λ (y : Row). y.system) row_is in (
          record {
            row = row_is ∙ (λ i. row_in t.file_systems (sym name_is i, sym system_is i));
            at = ap (get t.file_systems) name_is ∙ at ∙ ap Some (sym system_is);
            snap = subst (λ y. IfSome y (IsIn r.system.snaps)) (sym snap_is) tt;
          },
          ap (option_map {T = FileSystem} {U = Dataset} (λ f. Live name)) at ∙ ap (λ n. Some (Live n)) (sym name_is) ∙ ap (λ y. Some (dataset_at r y)) (sym snap_is),
        )
dataset_is t (OfSnapshot m) r x e = by_place (snapshot_place t m) refl e
  where
    by_place : (y : Option (Row × Snap)) → snapshot_place t m ≡ y → Some (r, x) ≡ option_map {T = Row × Snap} {U = Row × Option Snap} (λ p. (p.0, Some p.1)) y
        → IsPlace t r x × (option_map {T = Snap} {U = Dataset} (λ u. Snapped (id_of u)) (snap_named (world_of t) m) ≡ Some (dataset_at r x))
    by_place None at h = absurd (no_value (r, x) (sym h))
    by_place (Some q) at h =
        let p = same_value (r, x) (q.0, Some q.1) h in
        let row_is : r ≡ q.0 = ap (λ (y : Row × Option Snap). y.0) p in
        let snap_is : x ≡ Some q.1 = ap (λ (y : Row × Option Snap). y.1) p in
        let s = snapshot_is t m q.0 q.1 (sym at) in (
          subst (λ y. IsPlace t y x) (sym row_is) (subst (IsPlace t q.0) (sym snap_is) (snapshot_stands t m q.0 q.1 s)),
          ap (option_map {T = Snap} {U = Dataset} (λ u. Snapped (id_of u))) s.named ∙ ap (λ y. Some (dataset_at r y)) (sym snap_is),
        )
dataset_is t (OfBookmark m) r x e = absurd (no_value (r, x) (sym e))

-- ---- in a table

module _ (t : Datasets) (sound : IsTable t) (r : Row) (x : Option Snap) (place : IsPlace t r x) where
  pub stands_above : AreAbove r.below r.system
  stands_above = subst (λ m. AreAbove m r.system) (sym (ap (λ (y : Row). y.below) place.row)) (are_above t sound r.name r.system place.at)

  pub below_row : r.below ≡ below_in t.file_systems r.system.origin
  below_row = ap (λ (y : Row). y.below) place.row

  -- the map that stands there
  map_there : (y : Option Snap) → IfSome y (IsIn r.system.snaps) → map_of (world_of t) (dataset_at r y) ≡ map_at r y
  map_there None k = map_of_live (world_of t) r.name r.system place.at
  map_there (Some u) k = map_of_kept (world_of t) t.group sound.systems.lines r.name r.system u (id_of u) place.at k refl

  pub referenced_is : referenced_of (world_of t) (dataset_at r x) ≡ len (blocks (map_at r x))
  unfolding referenced_of
  referenced_is = ap (λ m. len (blocks m)) (map_there x place.snap)

  module _ (id : SnapId) (there : IsThere (world_of t) (Snapped id)) (gone : ℕ) (has : IsDeadSince t (dataset_at r x) id gone) (few : referenced_of (world_of t) (Snapped id) < 2 ^ 32) where
    written_low : written_since (world_of t) (dataset_at r x) id ≤ referenced_of (world_of t) (dataset_at r x)
    unfolding written_since referenced_of
    written_low = let e = len-difference o (blocks (map_of (world_of t) (dataset_at r x))) (blocks (map_of (world_of t) (Snapped id))) in omega (arith, e)

    -- what is counted gives what was written
    pub written_counted : written_since (world_of t) (dataset_at r x) id + referenced_of (world_of t) (Snapped id) ≡ len (blocks (map_at r x)) + gone
    written_counted =
        let e = written_since_is (world_of t) sound.systems id has.ids (dataset_at r x) there has.path in
        let l = written_low in
        let h = referenced_is in
        let g = has.counted in
        omega (arith, e, l, h, g, few)

    pub written_fits : written_since (world_of t) (dataset_at r x) id ≤ len (blocks (map_at r x))
    written_fits = let l = written_low in let h = referenced_is in omega (arith, l, h)

    pub is_older_there : is_before t (dataset_at r x) id ≡ true
    is_older_there = older_has (world_of t) sound.systems id has.ids (dataset_at r x) has.path

-- ---- the answer by the names

module _ (t : Datasets) (target : Target) (since : Member) (d : Dataset) (u : Snap) (d_is : dataset_named t target ≡ Some d) (u_is : snap_named (world_of t) since ≡ Some u) where
  pub written_is : written_named t target since ≡ Some (written_since (world_of t) d (id_of u))
  written_is =
      ap (option_and_then {T = Dataset} {U = ℕ} (λ d. option_map (λ (u : Snap). written_since (world_of t) d (id_of u)) (snap_named (world_of t) since))) d_is
      ∙ ap (option_map {T = Snap} {U = ℕ} (λ u. written_since (world_of t) d (id_of u))) u_is

  before_is : is_named_before t target since ≡ is_before t d (id_of u)
  before_is =
      ap (λ x. option_map_or (λ (d : Dataset). option_map_or (λ (u : Snap). is_before t d (id_of u)) (snap_named (world_of t) since) false) x false) d_is
      ∙ ap (λ x. option_map_or (λ (u : Snap). is_before t d (id_of u)) x false) u_is

  refusal_is : since_refusal t target since ≡ first_of ((not (is_before t d (id_of u)), NotAncestor) ∷ [])
  refusal_is =
      λ i. first_of ((not (is_some (d_is i)) || not (is_some (u_is i)), NoDataset) ∷ (not (before_is i), NotAncestor) ∷ [])

  pub allowed_is : is_before t d (id_of u) ≡ true → since_refusal t target since ≡ None
  allowed_is e = refusal_is ∙ ap (λ b. first_of ((not b, NotAncestor) ∷ [])) e

-- ---- what the walk down the lineage has counted

pub if_nothing : {A : Type 0} (x : Option A) (P : A → Type 0) → x ≡ None → IfSome x P
if_nothing x P e = subst (λ y. IfSome y P) (sym e) tt

module _ (t : Datasets) (sound : IsTable t) (target : Target) (since : Member) (r : Row) (x : Option Snap) (found : Some (r, x) ≡ place_named t target)
    (owner : Row) (u : Snap) (there : Some (owner, u) ≡ snapshot_place t since) (id : SnapId) (id_is : id ≡ id_of u) (gone : ℕ) (has : IsDeadSince t (dataset_at r x) id gone)
    (cd cs : ℕ) (cd_is : cd ≡ len (blocks (map_at r x))) (cs_is : cs ≡ len (blocks u.map)) (few : cs < 2 ^ 32) where
  its : IsSnapshot t since owner u
  its = snapshot_is t since owner u there

  stands : IsPlace t r x
  stands = (dataset_is t target r x found).0

  has_own : IsDeadSince t (dataset_at r x) (id_of u) gone
  has_own = subst (λ i. IsDeadSince t (dataset_at r x) i gone) id_is has

  own_count : referenced_of (world_of t) (Snapped (id_of u)) ≡ cs
  own_count = referenced_is t sound owner (Some u) (snapshot_stands t since owner u its) ∙ sym cs_is

  u_there : IsThere (world_of t) (Snapped (id_of u))
  u_there = (since.file_system, owner.system, u, its.at, its.there, refl)

  own_few : referenced_of (world_of t) (Snapped (id_of u)) < 2 ^ 32
  own_few = let e = own_count in omega (arith, e, few)

  pub sum_is : written_since (world_of t) (dataset_at r x) (id_of u) + cs ≡ cd + gone
  sum_is =
      let e = written_counted t sound r x stands (id_of u) u_there gone has_own own_few in
      let c = own_count in
      omega (arith, e, c, cd_is)

  pub low : written_since (world_of t) (dataset_at r x) (id_of u) ≤ cd
  low = let l = written_fits t sound r x stands (id_of u) u_there gone has_own own_few in omega (arith, l, cd_is)

  pub answer_is : written_named t target since ≡ Some (cd + gone - cs)
  answer_is =
      let s = sum_is in
      let e : written_since (world_of t) (dataset_at r x) (id_of u) ≡ cd + gone - cs = omega (arith, s) in
      written_is t target since (dataset_at r x) u (dataset_is t target r x found).1 its.named ∙ ap Some e

  pub none_refuses : since_refusal t target since ≡ None
  none_refuses =
      allowed_is t target since (dataset_at r x) u (dataset_is t target r x found).1 its.named (is_older_there t sound r x stands (id_of u) u_there gone has_own own_few)

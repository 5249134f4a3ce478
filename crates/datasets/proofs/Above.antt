-- The datasets of a file system stand each above those before it.
use Rattle.std.proofs.Common.{◌≡◌, ◌≤◌, ◌++◌, ℕ, Bool, true, false, cond, List, [], ◌∷◌, map, Option, Some, None, refl, sym, ap, subst, ◌∙◌, inl, inr, arith}
use Rattle.std.specs.Prelude.{unwrap_or}
use Rattle.std.specs.List.{find, flat_map, last_or}
use Rattle.std.specs.Option.{option_map, option_map_or, option_or, option_and_then}
use Rattle.std.specs.FinMap.{get, entries}
use Rattle.std.specs.FinMap as finmap
use Rattle.base.specs.Map.{Block, BlockSet, blocks}
use Rattle.base.specs.Surveys.{IsIn}
use Rattle.model.specs.World.{World, FileSystem, Snap, SnapId, Dataset, Live, Snapped, id_of, same_id, snap_at, newest_or_origin, previous_of, map_of, map_of_snap}
use Rattle.datasets.specs.Clones.{snap_in, below_in, origin_at, below_at}
use Rattle.file_system.specs.Dead.{newest_blocks, IsAbove}
use Rattle.file_system.specs.Origins.{origin_group}
use Rattle.file_system.specs.Rows.{live_of, snaps_at}
use Rattle.file_system.specs.Writes.{newest_group}
use Rattle.world.specs.Sets.{Has}
use Rattle.world.specs.Shapes.{Name, lineages, IsGood}
use Rattle.world.specs.Worlds.{shapes}
use Rattle.world.specs.Dead.{base_of, below_of, IsThere}
use Rattle.world.specs.Tables.{Datasets, world_of}
use Rattle.world.proofs.lineage.Bridge.{no_block, in_middle, map_of_live, map_of_kept, previous_of_live, previous_of_kept}
use Rattle.world.proofs.lineage.Dead.{in_line, there_row, row_base, row_below}
use Rattle.world.proofs.lists.Finding.{in_left}
use Rattle.world.proofs.lineage.Lineage.{below_born}
use Rattle.datasets.specs.Table.{IsTable}

-- ---- a snapshot by its identity, with the name of its file system or without

find_join : {A : Type 0} (p : A → Bool) (xs ys : List A) → find p (xs ++ ys) ≡ option_or (find p xs) (find p ys)
find_join p [] ys = refl
find_join {A = A} p (x ∷ xs) ys = by_test (p x) (find_join p xs ys)
  where
    by_test : (b : Bool) → find p (xs ++ ys) ≡ option_or (find p xs) (find p ys)
        → ◌≡◌ {A = Option A} (cond b (Some x) (find p (xs ++ ys))) (option_or (cond b (Some x) (find p xs)) (find p ys))
    by_test true ih = refl
    by_test false ih = ih

map_either : {A B : Type 0} (f : A → B) (x y : Option A) → option_map f (option_or x y) ≡ option_or (option_map f x) (option_map f y)
map_either f None y = refl
map_either f (Some a) y = refl

module _ (q : Snap → Bool) where
  abbrev named_snaps : Name × FileSystem → List (Name × Snap)
  named_snaps e = map {A = Snap} {B = Name × Snap} (λ s. (e.0, s)) e.1.snaps

  abbrev its_snap : Name × Snap → Snap
  its_snap p = p.1

  find_named : (n : Name) (ts : List Snap) → option_map its_snap (find (λ (p : Name × Snap). q p.1) (map {A = Snap} {B = Name × Snap} (λ s. (n, s)) ts)) ≡ find q ts
  find_named n [] = refl
  find_named n (t ∷ ts) = by_test (q t) (find_named n ts)
    where
      by_test : (b : Bool) → option_map its_snap (find (λ (p : Name × Snap). q p.1) (map {A = Snap} {B = Name × Snap} (λ s. (n, s)) ts)) ≡ find q ts
          → option_map its_snap (cond b (Some (n, t)) (find (λ (p : Name × Snap). q p.1) (map {A = Snap} {B = Name × Snap} (λ s. (n, s)) ts))) ≡ cond b (Some t) (find q ts)
      by_test true ih = refl
      by_test false ih = ih

  find_alone : (es : List (Name × FileSystem)) → option_map its_snap (find (λ (p : Name × Snap). q p.1) (flat_map named_snaps es)) ≡ find q (flat_map (λ (e : Name × FileSystem). e.1.snaps) es)
  find_alone [] = refl
  find_alone (e ∷ es) =
      ap (option_map its_snap) (find_join (λ (p : Name × Snap). q p.1) (named_snaps e) (flat_map named_snaps es))
      ∙ map_either its_snap (find (λ (p : Name × Snap). q p.1) (named_snaps e)) (find (λ (p : Name × Snap). q p.1) (flat_map named_snaps es))
      ∙ (λ i. option_or (find_named e.0 e.1.snaps i) (find_alone es i))
      ∙ sym (find_join q e.1.snaps (flat_map (λ (x : Name × FileSystem). x.1.snaps) es))

-- the snapshot of an identity is the same among the snapshots alone
pub alone_is : (w : World) (id : SnapId) → option_map {T = Name × Snap} {U = Snap} (λ p. p.1) (snap_at w id) ≡ snap_in w.file_systems id
alone_is w id = find_alone (λ t. same_id (id_of t) id) (entries w.file_systems)

-- what a snapshot's map is in a world is what it is among file systems
pub below_is_map : (w : World) (o : Option SnapId) → map_of_snap w o ≡ below_in w.file_systems o
unfolding map_of
below_is_map w None = refl
below_is_map w (Some id) = by_snap (snap_at w id) ∙ ap (λ (x : Option Snap). unwrap_or (option_map (λ (t : Snap). t.map) x) finmap.empty) (alone_is w id)
  where
    by_snap : (x : Option (Name × Snap))
        → option_map_or (λ (p : Name × Snap). p.1.map) x finmap.empty ≡ unwrap_or (option_map (λ (t : Snap). t.map) (option_map {T = Name × Snap} {U = Snap} (λ p. p.1) x)) finmap.empty
    by_snap None = refl
    by_snap (Some p) = refl

-- ---- what stands before a dataset

module _ (w : World) (g : ℕ) (good : IsGood (shapes w.file_systems) g) (name : Name) (f : FileSystem) (at : get w.file_systems name ≡ Some f) where
  last_blocks : (t : Snap) (ts : List Snap) → IsIn f.snaps t → ((u : Snap) → IsIn ts u → IsIn f.snaps u)
      → blocks (map_of_snap w (option_or (option_map id_of (last_or (Some t) ts)) f.origin)) ≡ newest_blocks (blocks t.map) ts
  last_blocks t [] i each = ap (λ m. blocks m) (map_of_kept w g good name f t (id_of t) at i refl)
  last_blocks t (u ∷ us) i each = last_blocks u us (each u (inl refl)) (λ v k. each v (inr k))

  -- the blocks of what stands before a dataset: those of the newest of the snapshots before it, or else of the origin
  pub newest_is : (ts : List Snap) → ((u : Snap) → IsIn ts u → IsIn f.snaps u)
      → blocks (map_of_snap w (newest_or_origin f ts)) ≡ newest_blocks (blocks (below_in w.file_systems f.origin)) ts
  newest_is [] each = ap (λ m. blocks m) (below_is_map w f.origin)
  newest_is (t ∷ ts) each = last_blocks t ts (each t (inl refl)) (λ u k. each u (inr k))

-- the group of the newest of these snapshots, or else of the origin
pub newest_alone : (x : Option Snap) (y : Option SnapId)
    → option_map_or (λ (i : SnapId). i.group) (option_or (option_map id_of x) y) 0 ≡ option_map_or (λ (t : Snap). t.group) x (origin_group y)
newest_alone None y = refl
newest_alone (Some t) y = refl

module _ (t : Datasets) (sound : IsTable t) (name : Name) (f : FileSystem) (at : get t.file_systems name ≡ Some f) where
  -- the blocks of what stands below its snapshots, and its group
  abbrev below : BlockSet
  below = blocks (below_in t.file_systems f.origin)

  abbrev base : ℕ
  base = origin_group f.origin

  -- a dataset that stands after these of its snapshots
  module _ (d : Dataset) (there : IsThere (world_of t) d) (older : List Snap) (within : (u : Snap) → IsIn older u → IsIn f.snaps u)
      (previous : previous_of (world_of t) d ≡ newest_or_origin f older) where
    pub below_is : below_of (world_of t) d ≡ newest_blocks (blocks (below_in t.file_systems f.origin)) older
    unfolding below_of
    below_is = ap (λ x. blocks (map_of_snap (world_of t) x)) previous ∙ newest_is (world_of t) t.group sound.systems.lines name f at older within

    pub base_at : base_of (world_of t) d ≡ newest_group (origin_group f.origin) older
    unfolding base_of
    base_at = ap (λ x. option_map_or (λ (i : SnapId). i.group) x 0) previous ∙ newest_alone (last_or None older) f.origin

    -- the blocks before it were born by their group
    pub closed : (b : Block) → Has (newest_blocks (blocks (below_in t.file_systems f.origin)) older) b → b.birth ≤ newest_group (origin_group f.origin) older
    closed b h =
        let r = there_row (world_of t) t.group sound.systems.lines d there in
        let l = below_born (lineages (shapes t.file_systems) t.group) sound.systems.lines.facts d r.0 b r.1 (subst (λ s. Has s b) (sym (row_below (world_of t) t.group sound.systems.lines d r.0 r.1 ∙ below_is)) h) in
        let e = row_base (world_of t) t.group sound.systems.lines d r.0 r.1 ∙ base_at in
        omega arith

    -- and are those of its own that were
    pub kept : (b : Block) → Has (blocks (map_of (world_of t) d)) b → b.birth ≤ newest_group (origin_group f.origin) older
        → Has (newest_blocks (blocks (below_in t.file_systems f.origin)) older) b
    kept b h l =
        let e = base_at in
        subst (λ s. Has s b) below_is (((in_line (world_of t) t.group sound.systems.lines refl d there).kept b h).1 (omega arith))

    stands : IsAbove (blocks (below_in t.file_systems f.origin)) (origin_group f.origin) (map_of (world_of t) d) older
    stands = record { closed = closed; kept = kept }

  -- the live map stands above its snapshots
  pub live_above : IsAbove (blocks (below_in t.file_systems f.origin)) (origin_group f.origin) f.live f.snaps
  live_above = subst (λ m. IsAbove below base m f.snaps) (map_of_live (world_of t) name f at)
      (stands (Live name) (f, at) f.snaps (λ u k. k) (previous_of_live (world_of t) t.group sound.systems.lines name f at))

  -- and each of them above those before it
  pub snap_above : (older newer : List Snap) (u : Snap) → f.snaps ≡ older ++ u ∷ newer → IsAbove (blocks (below_in t.file_systems f.origin)) (origin_group f.origin) u.map older
  snap_above older newer u is =
      let here : IsIn f.snaps u = subst (λ l. IsIn l u) (sym is) (in_middle older u newer) in
      subst (λ m. IsAbove below base m older) (map_of_kept (world_of t) t.group sound.systems.lines name f u (id_of u) at here refl)
      (stands (Snapped (id_of u)) (name, f, u, at, here, refl) older (λ v k. subst (λ l. IsIn l v) (sym is) (in_left older (u ∷ newer) v k))
      (previous_of_kept (world_of t) t.group sound.systems.lines name f older u newer at is))

-- the snapshots of a file system and its origin stand below its live map, and where it isn't there, nothing does
module _ (t : Datasets) (sound : IsTable t) (name : Name) where
  pub is_above : IsAbove (blocks (below_at t.file_systems name)) (origin_group (origin_at t.file_systems name)) (live_of t.file_systems name) (snaps_at t.file_systems name)
  is_above = at (get t.file_systems name) refl
    where
      at : (x : Option FileSystem) → get t.file_systems name ≡ x
          → IsAbove (blocks (below_in t.file_systems (option_and_then (λ (f : FileSystem). f.origin) x))) (origin_group (option_and_then (λ (f : FileSystem). f.origin) x))
          (option_map_or (λ (f : FileSystem). f.live) x finmap.empty) (option_map_or (λ (f : FileSystem). f.snaps) x [])
      at None e = record { closed = λ b h. absurd (no_block b h); kept = λ b h. absurd (no_block b h) }
      at (Some f) e = live_above t sound name f e

-- What a snapshot alone has, by what a file system tells of it and by its clones.
use Rattle.std.proofs.Common.{◌≡◌, ◌<◌, ◌≤◌, ℕ, zero, suc, Bool, true, false, cond, List, [], ◌∷◌, ◌++◌, Some, None, map, drop, get_or, length, refl, sym, ap, subst, ◌∙◌, ◌⊎◌, ◌+◌, true≢false, inl, inr, ⊎_elim, arith}
use Rattle.std.specs.Prelude.{◌==◌, IsSome}
use Rattle.std.specs.List.{find}
use Rattle.std.specs.Option.{option_map, option_map_or}
use Rattle.std.specs.FinMap.{get}
use Rattle.std.specs.FinSet.{len, difference}
use Rattle.std.proofs.lemmas.Bool.{cases_lt, eq-eqb}
use Rattle.base.specs.Map.{Map, Block, BlockSet, blocks}
use Rattle.base.specs.Surveys.{IsIn}
use Rattle.model.specs.World.{World, FileSystem, Snap, SnapId, Dataset, Live, Snapped, id_of, same_id, map_of, clones_of}
use Rattle.model.specs.Sums.{used_by_snap, referenced_of, union_without}
use Rattle.world.specs.Sets.{Has}
use Rattle.world.specs.Blocks.{block_order as o, after}
use Rattle.world.specs.Dead.{IsThere, base_of, below_of, dead_of, next_in}
use Rattle.world.specs.Shapes.{Name}
use Rattle.world.specs.Tables.{Datasets, world_of}
use Rattle.world.specs.Worlds.{AreRising}
use Rattle.world.proofs.lineage.Bridge.{map_of_kept, previous_of_kept}
use Rattle.world.proofs.lineage.Dead.{in_line}
use Rattle.world.proofs.lists.Finding.{in_left}
use Rattle.world.proofs.lists.Maps.{same_value, no_value}
use Rattle.world.proofs.lineage.Lineage.{in_after, from_after}
use Rattle.world.proofs.changes.Promotions.{split_at}
use Rattle.world.proofs.steps.States.{from_clones}
use Rattle.world.proofs.lists.SetCounts.{len-difference, same_members, in_difference, from_difference}
use Rattle.datasets.specs.Dead.{newest_blocks}
use Rattle.datasets.specs.Rows.{Row}
use Rattle.datasets.specs.Splices.{lost_from, oldest_blocks}
use Rattle.datasets.specs.Clones.{below_in, row_in}
use Rattle.datasets.specs.Table.{IsTable}
use Rattle.datasets.proofs.Above.{below_is, below_is_map}
use Rattle.datasets.proofs.Removed.{rising_at, older_differ}
use Rattle.snap.proofs.Rests.{next_left}
use Rattle.limits.specs.Space.{oldest_in, next_map}
use Rattle.limits.proofs.Clones.{used_by_snap_struck}
use Rattle.limits.proofs.Next.{next_map_is}
use Rattle.lookups.specs.Alone.{IsCloneAbove, struck}
use Rattle.lookups.specs.Places.{IsPlace}
use Rattle.datasets.proofs.Holders.{found_place}
use Rattle.lookups.proofs.Places.{below_row}
use Rattle.lookups.proofs.Between.{dead_after}

-- ---- one clone after the other

oldest_map : (f : FileSystem) (us : List Snap) → blocks (next_map f us) ≡ oldest_blocks f.live us
oldest_map f [] = refl
oldest_map f (u ∷ us) = refl

module _ (t : Datasets) (sound : IsTable t) where
  -- what the oldest dataset of a file system has
  oldest_is : (name : Name) (f : FileSystem) → get t.file_systems name ≡ Some f → blocks (map_of (world_of t) (oldest_in (world_of t) name)) ≡ oldest_blocks f.live f.snaps
  oldest_is name f at =
      ap (λ x. blocks (map_of (world_of t) (option_map_or (λ (s : FileSystem). next_in name s.snaps) x (Live name)))) at
      ∙ ap blocks (next_map_is (world_of t) sound.systems name f [] f.snaps at refl) ∙ oldest_map f f.snaps

  module _ {A : Type 0} (name_of : A → Name) (xs : List A) (i : ℕ) (x : A) (lt : i < length xs) (is : x ≡ get_or xs i x) (all left bs : BlockSet)
      (so_far : struck t left (map name_of (drop i xs)) ≡ all) where
    -- a clone struck out
    pub strikes : (f : FileSystem) → get t.file_systems (name_of x) ≡ Some f → bs ≡ difference left (oldest_blocks f.live f.snaps) → struck t bs (map name_of (drop (i + 1) xs)) ≡ all
    strikes f at bs_is =
        ap (λ s. struck t s (map name_of (drop (i + 1) xs))) (bs_is ∙ ap (difference left) (sym (oldest_is (name_of x) f at)))
        ∙ ap (λ l. struck t left (map name_of l)) (sym (next_left xs i x lt is)) ∙ so_far

pub item_in : {A : Type 0} (name_of : A → Name) (xs : List A) (i : ℕ) (x : A) → i < length xs → x ≡ get_or xs i x → IsIn (map name_of xs) (name_of x)
item_in name_of [] i x lt is = absurd (omega (arith, lt))
item_in name_of (y ∷ ys) zero x lt is = inl (ap name_of is)
item_in name_of (y ∷ ys) (suc i) x lt is = inr (item_in name_of ys i x (omega (arith, lt)) is)

-- ---- what the file system tells

lost_skips : (bs : BlockSet) (live : Map) (older : List Snap) (u : Snap) (newer : List Snap) → ((v : Snap) → IsIn older v → (v.group == u.group) ≡ false)
    → lost_from bs (older ++ u ∷ newer) live u.group ≡ difference (difference (blocks u.map) (newest_blocks bs older)) (oldest_blocks live newer)
lost_skips bs live [] u newer differ =
    ap (λ b. cond b (difference (difference (blocks u.map) bs) (oldest_blocks live newer)) (lost_from (blocks u.map) newer live u.group)) (eq-eqb u.group u.group refl)
lost_skips bs live (v ∷ vs) u newer differ =
    ap (λ b. cond b (difference (difference (blocks v.map) bs) (oldest_blocks live (vs ++ u ∷ newer))) (lost_from (blocks v.map) (vs ++ u ∷ newer) live u.group)) (differ v (inl refl))
    ∙ lost_skips (blocks v.map) live vs u newer (λ w i. differ w (inr i))

module _ (t : Datasets) (sound : IsTable t) (name : Name) (f : FileSystem) (at : get t.file_systems name ≡ Some f) (u : Snap) (i : IsIn f.snaps u) where
  abbrev w : World
  w = world_of t

  abbrev bs : BlockSet
  bs = blocks (below_in t.file_systems f.origin)

  pub parts : (older : List Snap) × (newer : List Snap) × (f.snaps ≡ older ++ u ∷ newer)
  parts = split_at f.snaps u i

  abbrev older : List Snap
  older = parts.0

  abbrev newer : List Snap
  newer = parts.1

  abbrev here : Dataset
  here = Snapped (id_of u)

  there : IsThere (world_of t) (Snapped (id_of u))
  there = (name, f, u, at, i, refl)

  own : map_of (world_of t) (Snapped (id_of u)) ≡ u.map
  own = map_of_kept (world_of t) t.group sound.systems.lines name f u (id_of u) at i refl

  below : below_of (world_of t) (Snapped (id_of u)) ≡ newest_blocks (blocks (below_in t.file_systems f.origin)) parts.0
  below = below_is t sound name f at here there older (λ v k. subst (λ l. IsIn l v) (sym parts.2) (in_left older (u ∷ newer) v k))
      (previous_of_kept (world_of t) t.group sound.systems.lines name f older u newer at parts.2)

  -- of the snapshot's blocks what stands before it has those that were born by its group
  low : (b : Block) → Has (blocks u.map) b → Has (newest_blocks (blocks (below_in t.file_systems f.origin)) parts.0) b → b.birth ≤ base_of (world_of t) (Snapped (id_of u))
  low b h k = ((in_line (world_of t) t.group sound.systems.lines refl here there).kept b (subst (λ m. Has (blocks m) b) (sym own) h)).0 (subst (λ s. Has s b) (sym below) k)

  high : (b : Block) → Has (blocks u.map) b → ¬ (Has (newest_blocks (blocks (below_in t.file_systems f.origin)) parts.0) b) → base_of (world_of t) (Snapped (id_of u)) < b.birth
  high b h out = ⊎_elim
      (λ l. l)
      (λ l. absurd (out (subst (λ s. Has s b) below (((in_line (world_of t) t.group sound.systems.lines refl here there).kept b (subst (λ m. Has (blocks m) b) (sym own) h)).1 l))))
      (cases_lt (base_of (world_of t) here) b.birth)

  pub alone_is : lost_from (blocks (below_in t.file_systems f.origin)) f.snaps f.live u.group ≡ after (base_of (world_of t) (Snapped (id_of u))) (dead_of (world_of t) (next_in name parts.1))
  alone_is =
      ap (λ l. lost_from bs l f.live u.group) parts.2
      ∙ lost_skips bs f.live older u newer (older_differ 0 older u newer (subst (AreRising 0) parts.2 (rising_at t sound name f at)))
      ∙ cut
      ∙ ap (after (base_of (world_of t) here)) (sym (dead_after t sound name f at older u newer parts.2))
    where
      cut : difference (difference (blocks u.map) (newest_blocks (blocks (below_in t.file_systems f.origin)) parts.0)) (oldest_blocks f.live parts.1)
          ≡ after (base_of (world_of t) (Snapped (id_of u))) (difference (blocks u.map) (oldest_blocks f.live parts.1))
      cut = same_members o _ _
          (λ b h.
          let x = from_difference o (difference (blocks u.map) (newest_blocks bs older)) (oldest_blocks f.live newer) b h in
          let y = from_difference o (blocks u.map) (newest_blocks bs older) b x.0 in
          in_after (base_of (world_of t) here) (difference (blocks u.map) (oldest_blocks f.live newer)) b (in_difference o (blocks u.map) (oldest_blocks f.live newer) b y.0 x.1) (high b y.0 y.1))
          (λ b h.
          let x = from_after (base_of (world_of t) here) (difference (blocks u.map) (oldest_blocks f.live newer)) b h in
          let y = from_difference o (blocks u.map) (oldest_blocks f.live newer) b x.0 in
          in_difference o (difference (blocks u.map) (newest_blocks bs older)) (oldest_blocks f.live newer) b
          (in_difference o (blocks u.map) (newest_blocks bs older) b y.0 (λ k. let l = low b y.0 k in let m = x.1 in absurd (omega (arith, l, m)))) y.1)

  -- what is left of it once all clones are struck out
  pub used_is : used_by_snap (world_of t) (id_of u) ≡ len (struck t (lost_from (blocks (below_in t.file_systems f.origin)) f.snaps f.live u.group) (clones_of (world_of t) (id_of u)))
  used_is =
      used_by_snap_struck (world_of t) sound.systems name f at older u newer parts.2
      ∙ ap (λ s. len (struck t s (clones_of (world_of t) (id_of u)))) (sym alone_is)

  -- it is of the snapshot's blocks
  alone_own : (b : Block) → Has (lost_from (blocks (below_in t.file_systems f.origin)) f.snaps f.live u.group) b → Has (blocks u.map) b
  alone_own b h =
      let x = from_after (base_of (world_of t) here) (dead_of (world_of t) (next_in name newer)) b (subst (λ s. Has s b) alone_is h) in
      (from_difference o (blocks u.map) (oldest_blocks f.live newer) b (subst (λ s. Has s b) (dead_after t sound name f at older u newer parts.2) x.0)).0

  -- which each clone began with
  pub clones_above : (names : List Name) → names ≡ clones_of (world_of t) (id_of u) → (n : Name) → IsIn names n
      → IsCloneAbove t (lost_from (blocks (below_in t.file_systems f.origin)) f.snaps f.live u.group) n
  clones_above names is n k =
      let c = from_clones (world_of t) (id_of u) n (subst (λ l. IsIn l n) is k) in
      record {
        system = c.0;
        at = c.1;
        has = λ b h. subst (λ m. Has (blocks m) b) (sym own ∙ below_is_map (world_of t) (Some (id_of u)) ∙ ap (below_in t.file_systems) (sym c.2)) (alone_own b h);
      }

  -- it is there under its group
  pub group_there : IsSome (find (λ (v : Snap). v.group == u.group) f.snaps)
  group_there = one f.snaps i
    where
      one : (us : List Snap) → IsIn us u → IsSome (find (λ (v : Snap). v.group == u.group) us)
      one [] k = absurd k
      one (v ∷ vs) k = by_test (v.group == u.group) refl
          (⊎_elim (λ (is : u ≡ v). inl (eq-eqb v.group u.group (ap (λ (x : Snap). x.group) (sym is)))) (λ j. inr (one vs j)) k)
        where
          by_test : (b : Bool) → (v.group == u.group) ≡ b → (◌≡◌ (v.group == u.group) true) ⊎ IsSome (find (λ (x : Snap). x.group == u.group) vs) → IsSome (cond b (Some v) (find (λ (x : Snap). x.group == u.group) vs))
          by_test true e h = refl
          by_test false e h = ⊎_elim (λ t. absurd (true≢false (sym t ∙ e))) (λ s. s) h

-- ---- by the rows of a table

-- a clone that was found
pub clone_below : (t : Datasets) (bs : BlockSet) (n m : Name) (r : Row) → Some r ≡ option_map {T = FileSystem} {U = Row} (λ f. row_in t.file_systems (m, f)) (get t.file_systems m)
    → m ≡ n → IsCloneAbove t bs n → (b : Block) → Has bs b → Has (blocks r.below) b
clone_below t all n m r found same clone b h =
    let p = found_place t m r found in
    let system_is : clone.system ≡ r.system = same_value clone.system r.system (sym clone.at ∙ ap (get t.file_systems) (sym same) ∙ p.0) in
    subst (λ x. Has (blocks x) b) (ap (λ (f : FileSystem). below_in t.file_systems f.origin) system_is ∙ sym (ap (λ (x : Row). x.below) p.1)) (clone.has b h)

pub clone_there : (t : Datasets) (bs : BlockSet) (n m : Name) → None ≡ option_map {T = FileSystem} {U = Row} (λ f. row_in t.file_systems (m, f)) (get t.file_systems m) → m ≡ n → IsCloneAbove t bs n → ⊥
clone_there t all n m found same clone =
    no_value (row_in t.file_systems (m, clone.system)) (found ∙ ap (option_map {T = FileSystem} {U = Row} (λ f. row_in t.file_systems (m, f))) (ap (get t.file_systems) same ∙ clone.at))

module _ (t : Datasets) (sound : IsTable t) (r : Row) (u : Snap) (place : IsPlace t r (Some u)) (group : ℕ) (group_is : group ≡ u.group)
    (names : List Name) (id : SnapId) (id_is : id ≡ id_of u) (names_are : names ≡ clones_of (world_of t) id)
    (s : BlockSet) (s_is : s ≡ lost_from (blocks r.below) r.system.snaps r.system.live group) where
  all_clones : names ≡ clones_of (world_of t) (id_of u)
  all_clones = names_are ∙ ap (clones_of (world_of t)) id_is

  s_alone : s ≡ lost_from (blocks (below_in t.file_systems r.system.origin)) r.system.snaps r.system.live u.group
  s_alone = s_is ∙ (λ i. lost_from (blocks (below_row t sound r (Some u) place i)) r.system.snaps r.system.live (group_is i))

  pub alone_counted : (left : BlockSet) → left ≡ struck t s names → (n : ℕ) → n ≡ len left → n ≡ used_by_snap (world_of t) (id_of u)
  alone_counted left left_is n n_is =
      n_is ∙ ap len (left_is ∙ (λ i. struck t (s_alone i) (all_clones i))) ∙ sym (used_is t sound r.name r.system place.at u place.snap)

  pub above_all : (n : Name) → IsIn names n → IsCloneAbove t s n
  above_all n i = subst (λ x. IsCloneAbove t x n) (sym s_alone) (clones_above t sound r.name r.system place.at u place.snap names all_clones n i)

-- no snapshot alone has more than it has
pub used_low : (w : World) (id : SnapId) → used_by_snap w id ≤ referenced_of w (Snapped id)
unfolding used_by_snap referenced_of
used_low w id = let e = len-difference o (blocks (map_of w (Snapped id))) (union_without w (same_id id)) in omega (arith, e)

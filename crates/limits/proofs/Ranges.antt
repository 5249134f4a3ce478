-- What would be freed, were a range of a file system's snapshots to go.
use Rattle.std.proofs.Common.{◌≡◌, ℕ, ◌+◌, ◌<◌, ◌≤◌, Bool, true, false, cond, ◌&&◌, List, [], ◌∷◌, ◌++◌, Some, refl, sym, ap, subst, ◌∙◌, true≢false, inl, inr, ⊎_elim, map, arith}
use Rattle.std.specs.Prelude.{nat_lt, nat_le}
use Rattle.std.specs.List.{filter, list_any}
use Rattle.std.proofs.lemmas.Bool.{ltb-true, lt-ltb, leb-true, le-leb, and_parts, and_from, cases_lt}
use Rattle.std.specs.FinMap.{get}
use Rattle.std.specs.FinSet.{len}
use Rattle.base.specs.Map.{blocks}
use Rattle.base.specs.Surveys.{IsIn}
use Rattle.model.specs.World.{World, FileSystem, Snap, Dataset, Live, Snapped, id_of, same_id, union_of}
use Rattle.model.specs.Sums.{union_without, would_free}
use Rattle.world.specs.Blocks.{after}
use Rattle.world.specs.Lineage.{Row}
use Rattle.world.specs.Space.{dead_after}
use Rattle.world.specs.Shapes.{Name, Shape, SnapShape, Before, before_next, before_live, row, IsTail, lineages}
use Rattle.world.specs.Usage.{up_to_next, IsInRange}
use Rattle.world.specs.Worlds.{FileSystems, snap_shape, shape_of, shapes, AreRising, AreFileSystems}
use Rattle.world.specs.Dead.{HasNoCloneIn}
use Rattle.world.specs.Sums.{dead_since, origin_group}
use Rattle.world.proofs.lists.Listed.{in_map, map_in}
use Rattle.world.proofs.lists.Finding.{filter_no}
use Rattle.world.proofs.lineage.Shapes.{tail_right}
use Rattle.world.proofs.space.Ranges.{would_free_in_world}
use Rattle.world.proofs.removals.WithoutSnaps.{any_in, any_from}
use Rattle.world.proofs.lineage.Bridge.{shape_at, from_shape, from_among, among, shapes-append, start, starts, start_is, own_row, union_is, rising_above}
use Rattle.world.proofs.lineage.Dead.{row_dead}
use Rattle.limits.specs.Space.{with_next, newest_group}
use Rattle.limits.proofs.Snapshots.{Goes, outside_same, without_is}

module _ (w : World) (good : AreFileSystems w.file_systems w.group) where
  abbrev ss : FileSystems
  ss = w.file_systems

  before_base : (q : Before) (ts : List Snap) → (before_live q (map snap_shape ts)).base ≡ newest_group q.base ts
  before_base q [] = refl
  before_base q (t ∷ ts) = before_base (before_next (snap_shape t)) ts

  -- the rows of a range and the one after it
  up_rows : (name : Name) (s : FileSystem) (cut : ℕ) (r : Before) (range newer : List Snap)
      → ((d : Dataset) (n : Row Dataset) → IsTail w.group name (blocks s.live) r (map snap_shape (range ++ newer)) d n → lineages (shapes ss) w.group d n)
      → dead_after cut (up_to_next w.group name (blocks s.live) r (map snap_shape range) (map snap_shape newer)) ≡ dead_since w cut (with_next name range newer)
  up_rows name s cut r [] [] each =
      ap (λ x. len (after cut x) + 0) (row_dead w w.group good.lines (Live name) (row w.group r (blocks s.live)) (each (Live name) (row w.group r (blocks s.live)) (refl, refl)))
  up_rows name s cut r [] (t ∷ ts) each =
      ap (λ x. len (after cut x) + 0) (row_dead w w.group good.lines (Snapped (id_of t)) (row t.group r (blocks t.map)) (each (Snapped (id_of t)) (row t.group r (blocks t.map)) (inl (refl, refl))))
  up_rows name s cut r (t ∷ range) newer each =
      let e = row_dead w w.group good.lines (Snapped (id_of t)) (row t.group r (blocks t.map)) (each (Snapped (id_of t)) (row t.group r (blocks t.map)) (inl (refl, refl))) in
      let k = up_rows name s cut (before_next (snap_shape t)) range newer (λ d n i. each d n (inr i)) in
      λ i. len (after cut (e i)) + k i

  -- what would be freed with a range of snapshots of one file system that have no clones: of their deadlists and of that of the
  -- dataset that comes next, what was born after the group before the range
  pub would_free_is : (name : List ℕ) (s : FileSystem) (older range newer : List Snap) → get w.file_systems name ≡ Some s → s.snaps ≡ older ++ (range ++ newer)
      → ((t : Snap) → IsIn range t → HasNoCloneIn w.file_systems (id_of t))
      → would_free w (map id_of range) ≡ dead_since w (newest_group (origin_group s) older) (with_next name range newer)
  unfolding would_free
  would_free_is name s older range newer at are none =
      let q = start ss w.group good.lines name s at in
      let st = starts ss w.group good.lines name s at in
      let in_order : map snap_shape s.snaps ≡ map snap_shape older ++ (map snap_shape range ++ map snap_shape newer) =
      ap (map snap_shape) are ∙ shapes-append older (range ++ newer) ∙ ap (λ l. map snap_shape older ++ l) (shapes-append range newer) in
      let base : (before_live q (map snap_shape older)).base ≡ newest_group (origin_group s) older =
      before_base q older ∙ ap (λ n. newest_group n older) (start_is w w.group good.lines s.origin q st).1 in
      would_free_in_world (shapes ss) w.group name (shape_of s) q (map snap_shape older) (map snap_shape range) (map snap_shape newer) (union_of w)
      (union_without w (λ id. list_any (same_id id) (map id_of range))) good.lines (shape_at ss name s at) st in_order
      (λ y a other f is o_is.
      let t = from_among range y a in
      let x = from_shape ss other f is in
      none t.0 t.1 other x.0 x.1 (ap (λ (z : Shape). z.origin) (sym x.2) ∙ o_is ∙ ap (λ (z : SnapShape). Some z.id) t.2))
      (union_is w w.group good.lines)
      (outside_same w good (Goes (λ id. list_any (same_id id) (map id_of range))) (IsInRange (map snap_shape range)) (union_without w (λ id. list_any (same_id id) (map id_of range)))
      (λ d (i, e, y).
      let k = in_map id_of range i (any_from (map id_of range) i y) in
      (snap_shape k.0, among range k.0 k.1, e ∙ ap Snapped k.2))
      (λ d (y, a, e).
      let t = from_among range y a in
      (y.id, e, any_in (map id_of range) (id_of t.0) y.id (map_in id_of range t.0 t.1) (ap (λ (z : SnapShape). z.id) t.2)))
      (without_is w good (λ id. list_any (same_id id) (map id_of range))))
      ∙ ap (λ n. dead_after n (up_to_next w.group name (blocks s.live) (before_live q (map snap_shape older)) (map snap_shape range) (map snap_shape newer))) base
      ∙ up_rows name s (newest_group (origin_group s) older) (before_live q (map snap_shape older)) range newer
      (λ d n i. own_row ss w.group good.lines name s at d n (subst (λ l. IsTail w.group name (blocks s.live) q l d n) (sym (in_order ∙ ap (λ l. map snap_shape older ++ l) (sym (shapes-append range newer))))
      (tail_right w.group name (blocks s.live) q (map snap_shape older) (map snap_shape (range ++ newer)) d n i)))

-- ---- a range by its groups

module _ (from to : ℕ) (up : from ≤ to) where
  abbrev is_low : Snap → Bool
  is_low t = nat_lt t.group from

  abbrev is_between : Snap → Bool
  is_between t = nat_le from t.group && nat_le t.group to

  abbrev is_high : Snap → Bool
  is_high t = nat_lt to t.group

  -- what is older than the range, the range, and what is newer
  pub three_parts : (g : ℕ) (ts : List Snap) → AreRising g ts
      → ts ≡ filter (λ t. nat_lt t.group from) ts ++ (filter (λ t. nat_le from t.group && nat_le t.group to) ts ++ filter (λ t. nat_lt to t.group) ts)
  three_parts g [] rises = refl
  three_parts g (t ∷ ts) rises = at (is_low t) refl (is_between t) refl (is_high t) refl (three_parts t.group ts rises.1)
    where
      none_low : from ≤ t.group → filter is_low ts ≡ []
      none_low l = filter_no is_low ts (λ u i e. let b = rising_above t.group ts u rises.1 i in let k = ltb-true u.group from e in absurd (omega (arith, l, b, k)))

      none_between : to < t.group → filter is_between ts ≡ []
      none_between l = filter_no is_between ts (λ u i e.
          let b = rising_above t.group ts u rises.1 i in
          let k = leb-true u.group to (and_parts (nat_le from u.group) (nat_le u.group to) e).1 in
          absurd (omega (arith, l, b, k)))

      at : (x : Bool) → is_low t ≡ x → (y : Bool) → is_between t ≡ y → (z : Bool) → is_high t ≡ z → ts ≡ filter is_low ts ++ (filter is_between ts ++ filter is_high ts)
          → t ∷ ts ≡ cond x (t ∷ filter is_low ts) (filter is_low ts) ++ (cond y (t ∷ filter is_between ts) (filter is_between ts) ++ cond z (t ∷ filter is_high ts) (filter is_high ts))
      at true a false b false c ih = ap (λ l. t ∷ l) ih
      at true a true b z c ih =
          let l = ltb-true t.group from a in
          let k = leb-true from t.group (and_parts (nat_le from t.group) (nat_le t.group to) b).0 in
          absurd (omega (arith, l, k))
      at true a false b true c ih =
          let l = ltb-true t.group from a in
          let k = ltb-true to t.group c in
          absurd (omega (arith, l, k, up))
      at false a true b false c ih =
          let k = leb-true from t.group (and_parts (nat_le from t.group) (nat_le t.group to) b).0 in
          let n = none_low k in
          ap (λ l. t ∷ l) (ih ∙ ap (λ l. l ++ (filter is_between ts ++ filter is_high ts)) n)
          ∙ ap (λ l. l ++ (t ∷ filter is_between ts ++ filter is_high ts)) (sym n)
      at false a true b true c ih =
          let k = leb-true t.group to (and_parts (nat_le from t.group) (nat_le t.group to) b).1 in
          let l = ltb-true to t.group c in
          absurd (omega (arith, l, k))
      at false a false b true c ih =
          let l = ltb-true to t.group c in
          let n = none_low (omega (arith, l, up)) in
          let m = none_between l in
          ap (λ l. t ∷ l) (ih ∙ (λ i. n i ++ (m i ++ filter is_high ts)))
          ∙ (λ i. sym n i ++ (sym m i ++ t ∷ filter is_high ts))
      at false a false b false c ih =
          ⊎_elim
          (λ l. absurd (true≢false (sym (lt-ltb t.group from l) ∙ a)))
          (λ l. ⊎_elim
          (λ k. absurd (true≢false (sym (lt-ltb to t.group k) ∙ c)))
          (λ k. absurd (true≢false (sym (and_from (nat_le from t.group) (nat_le t.group to) (le-leb from t.group l) (le-leb t.group to k)) ∙ b)))
          (cases_lt to t.group))
          (cases_lt t.group from)

-- What has gone with a stretch of the datasets of a file system, by the definitions.
use Rattle.std.proofs.Common.{◌≡◌, ℕ, ◌+◌, Bool, true, false, cond, List, [], ◌∷◌, ◌++◌, ◌&&◌, Option, Some, None, refl, sym, ap, subst, ◌∙◌, inl, inr, append_assoc, append-nil, arith}
use Rattle.std.specs.List.{sum_by, filter}
use Rattle.std.specs.Prelude.{nat_le}
use Rattle.std.specs.Option.{option_map}
use Rattle.std.specs.FinMap.{get}
use Rattle.std.specs.FinSet.{len, difference}
use Rattle.std.proofs.lemmas.List.Sums.{sum_by-cons}
use Rattle.base.specs.Map.{Map, BlockSet, blocks}
use Rattle.base.specs.Surveys.{IsIn}
use Rattle.model.specs.World.{FileSystem, Snap, Dataset, Live, Snapped, id_of}
use Rattle.world.specs.Blocks.{upto, after}
use Rattle.world.specs.Dead.{dead_of, next_in}
use Rattle.world.specs.Shapes.{Name}
use Rattle.world.specs.Sums.{dead_by, dead_since}
use Rattle.world.specs.Trees.{total}
use Rattle.world.specs.Tables.{Datasets, world_of}
use Rattle.std.proofs.lemmas.Bool.{le-leb, lt-leb}
use Rattle.world.specs.Worlds.{AreRising}
use Rattle.world.proofs.lineage.Bridge.{in_middle, rising_above, rising_below, rising_after, map_of_live, map_of_kept, previous_of_live, previous_of_kept}
use Rattle.world.proofs.lists.Finding.{in_left, in_right}
use Rattle.datasets.specs.Dead.{newest_blocks}
use Rattle.datasets.specs.Gone.{Gone, gone_in, dead_between, is_between, is_later, most_reached, lists_reach}
use Rattle.datasets.specs.Splices.{oldest_blocks}
use Rattle.datasets.specs.Clones.{below_in, row_in}
use Rattle.datasets.specs.Table.{IsTable}
use Rattle.datasets.proofs.Above.{below_is}
use Rattle.limits.specs.Space.{with_next}
use Rattle.lookups.specs.Since.{dead_reach}

-- what comes next after a stretch stands between the two, and nothing after it does
abbrev pub IsNextBetween : Option ℕ → Option ℕ → List Snap → Type 0
IsNextBetween from until [] = is_between from until None ≡ true
IsNextBetween from until (y ∷ ys) =
    (is_between from until (Some y.group) ≡ true) × ((x : Snap) → IsIn ys x → is_between from until (Some x.group) ≡ false) × (is_between from until None ≡ false)

-- the snapshots of a stretch, and what comes next, are those that stand between the two
pub record IsStretch (from until : Option ℕ) (older range newer : List Snap) : Type 0 where
  pub before : (x : Snap) → IsIn older x → is_between from until (Some x.group) ≡ false
  pub inside : (x : Snap) → IsIn range x → is_between from until (Some x.group) ≡ true
  pub next : IsNextBetween from until newer

-- the first of some snapshots
abbrev pub first : List Snap → Option Snap
first [] = None
first (u ∷ us) = Some u

-- the group of the first, and none where there is none
abbrev pub first_group : List Snap → Option ℕ
first_group us = option_map (λ (u : Snap). u.group) (first us)

later_live : (from : Option ℕ) → is_later from None ≡ true
later_live None = refl
later_live (Some a) = refl

and_none : (b : Bool) → (b && false) ≡ false
and_none true = refl
and_none false = refl

rising_rest : (g : ℕ) (us vs : List Snap) → AreRising g (us ++ vs) → (h : ℕ) × AreRising h vs
rising_rest g [] vs up = (g, up)
rising_rest g (u ∷ us) vs up = rising_rest u.group us vs up.1

-- a stretch up to the first of the newer ones
pub stretch_until : (g : ℕ) (from until : Option ℕ) (older range newer : List Snap) → AreRising g (older ++ (range ++ newer)) → until ≡ first_group newer
    → ((x : Snap) → IsIn older x → is_later from (Some x.group) ≡ false) → ((x : Snap) → IsIn (range ++ newer) x → is_later from (Some x.group) ≡ true)
    → IsStretch from until older range newer
stretch_until g from until older range newer up is low high =
    subst (λ u. IsStretch from u older range newer) (sym is) (by_newer newer up high)
  where
    by_newer : (ns : List Snap) → AreRising g (older ++ (range ++ ns)) → ((x : Snap) → IsIn (range ++ ns) x → is_later from (Some x.group) ≡ true) → IsStretch from (first_group ns) older range ns
    by_newer [] r h = record {
      before = λ x i. ap (λ b. b && true) (low x i);
      inside = λ x i. ap (λ b. b && true) (h x (in_left range [] x i));
      next = ap (λ b. b && true) (later_live from);
    }
    by_newer (y ∷ ys) r h =
        let rest = rising_rest g older (range ++ y ∷ ys) r in
        record {
          before = λ x i. ap (λ b. b && nat_le x.group y.group) (low x i);
          inside = λ x i. let l = rising_below rest.0 range y ys rest.1 x i in λ j. h x (in_left range (y ∷ ys) x i) j && le-leb x.group y.group (omega (arith, l)) j;
          next = (
            (λ j. h y (in_right range (y ∷ ys) y (inl refl)) j && le-leb y.group y.group (omega arith) j),
            (λ x i. let l = rising_above y.group ys x (rising_after rest.0 range y ys rest.1) i in ap (λ b. is_later from (Some x.group) && b) (lt-leb x.group y.group l) ∙ and_none (is_later from (Some x.group))),
            and_none (is_later from None),
          );
        }

-- the blocks of the newest, with one more
newest_more : (bs : BlockSet) (ts : List Snap) (t : Snap) → newest_blocks bs (ts ++ t ∷ []) ≡ blocks t.map
newest_more bs [] t = refl
newest_more bs (u ∷ us) t = newest_more (blocks u.map) us t

-- ---- sums over what stands between the two

module _ (h : BlockSet → ℕ) (from until : Option ℕ) where
  abbrev size : Gone → ℕ
  size g = h g.blocks

  abbrev test : Gone → Bool
  test g = is_between from until g.group

  abbrev sum_of : List Gone → ℕ
  sum_of gs = sum_by size (filter test gs)

  skipped : (g : Gone) (gs : List Gone) → test g ≡ false → sum_of (g ∷ gs) ≡ sum_of gs
  skipped g gs e = ap (λ b. sum_by size (cond b (g ∷ filter test gs) (filter test gs))) e

  counted : (g : Gone) (gs : List Gone) → test g ≡ true → sum_of (g ∷ gs) ≡ h g.blocks + sum_of gs
  counted g gs e = ap (λ b. sum_by size (cond b (g ∷ filter test gs) (filter test gs))) e ∙ sum_by-cons size g (filter test gs)

  none_later : (bs : BlockSet) (ts : List Snap) (live : Map) → ((x : Snap) → IsIn ts x → is_between from until (Some x.group) ≡ false) → is_between from until None ≡ false
      → sum_of (gone_in bs ts live) ≡ 0
  none_later bs [] live each last = skipped (record { group = None; blocks = difference bs (blocks live) }) [] last
  none_later bs (t ∷ ts) live each last =
      skipped (record { group = Some t.group; blocks = difference bs (blocks t.map) }) (gone_in (blocks t.map) ts live) (each t (inl refl))
      ∙ none_later (blocks t.map) ts live (λ x i. each x (inr i)) last

  none_earlier : (bs : BlockSet) (older ts : List Snap) (live : Map) → ((x : Snap) → IsIn older x → is_between from until (Some x.group) ≡ false)
      → sum_of (gone_in bs (older ++ ts) live) ≡ sum_of (gone_in (newest_blocks bs older) ts live)
  none_earlier bs [] ts live each = refl
  none_earlier bs (t ∷ older) ts live each =
      skipped (record { group = Some t.group; blocks = difference bs (blocks t.map) }) (gone_in (blocks t.map) (older ++ ts) live) (each t (inl refl))
      ∙ none_earlier (blocks t.map) older ts live (λ x i. each x (inr i))

-- ---- in a table

module _ (t : Datasets) (sound : IsTable t) (name : Name) (f : FileSystem) (at : get t.file_systems name ≡ Some f) where
  abbrev bs : BlockSet
  bs = blocks (below_in t.file_systems f.origin)

  dead_live : dead_of (world_of t) (Live name) ≡ difference (newest_blocks (blocks (below_in t.file_systems f.origin)) f.snaps) (blocks f.live)
  unfolding dead_of
  dead_live = λ i. difference
      (below_is t sound name f at (Live name) (f, at) f.snaps (λ u k. k) (previous_of_live (world_of t) t.group sound.systems.lines name f at) i)
      (blocks (map_of_live (world_of t) name f at i))

  pub dead_snap : (older : List Snap) (u : Snap) (newer : List Snap) → f.snaps ≡ older ++ u ∷ newer
      → dead_of (world_of t) (Snapped (id_of u)) ≡ difference (newest_blocks (blocks (below_in t.file_systems f.origin)) older) (blocks u.map)
  unfolding dead_of
  dead_snap older u newer is =
      let here : IsIn f.snaps u = subst (λ l. IsIn l u) (sym is) (in_middle older u newer) in
      λ i. difference
      (below_is t sound name f at (Snapped (id_of u)) (name, f, u, at, here, refl) older (λ v k. subst (λ l. IsIn l v) (sym is) (in_left older (u ∷ newer) v k))
      (previous_of_kept (world_of t) t.group sound.systems.lines name f older u newer at is) i)
      (blocks (map_of_kept (world_of t) t.group sound.systems.lines name f u (id_of u) at here refl i))

  -- of the blocks of a snapshot, those that what comes next hasn't
  pub dead_after : (older : List Snap) (u : Snap) (newer : List Snap) → f.snaps ≡ older ++ u ∷ newer → dead_of (world_of t) (next_in name newer) ≡ difference (blocks u.map) (oldest_blocks f.live newer)
  dead_after older u [] is = dead_live ∙ ap (λ s. difference s (blocks f.live)) (ap (newest_blocks bs) is ∙ newest_more bs older u)
  dead_after older u (n ∷ ns) is = dead_snap (older ++ u ∷ []) n ns (is ∙ sym (append_assoc older (u ∷ []) (n ∷ ns))) ∙ ap (λ s. difference s (blocks n.map)) (newest_more bs older u)

  module _ (h : BlockSet → ℕ) (from until : Option ℕ) where
    last : (older newer : List Snap) → f.snaps ≡ older ++ newer → IsNextBetween from until newer
        → sum_of h from until (gone_in (newest_blocks (blocks (below_in t.file_systems f.origin)) older) newer f.live) ≡ h (dead_of (world_of t) (next_in name newer)) + 0
    last older [] is next =
        let all : f.snaps ≡ older = is ∙ append-nil older in
        counted h from until (record { group = None; blocks = difference (newest_blocks bs older) (blocks f.live) }) [] next
        ∙ ap (λ s. h s + 0) (ap (λ l. difference (newest_blocks bs l) (blocks f.live)) (sym all) ∙ sym dead_live)
    last older (y ∷ ys) is next =
        counted h from until (record { group = Some y.group; blocks = difference (newest_blocks bs older) (blocks y.map) }) (gone_in (blocks y.map) ys f.live) next.0
        ∙ (λ i. h (sym (dead_snap older y ys is) i) + none_later h from until (blocks y.map) ys f.live next.1 next.2 i)

    stretch : (older range newer : List Snap) → f.snaps ≡ older ++ (range ++ newer) → ((x : Snap) → IsIn range x → is_between from until (Some x.group) ≡ true)
        → IsNextBetween from until newer
        → sum_of h from until (gone_in (newest_blocks (blocks (below_in t.file_systems f.origin)) older) (range ++ newer) f.live) ≡ total (λ d. h (dead_of (world_of t) d)) (with_next name range newer)
    stretch older [] newer is inside next = last older newer is next
    stretch older (x ∷ xs) newer is inside next =
        let is' : f.snaps ≡ (older ++ x ∷ []) ++ (xs ++ newer) = is ∙ sym (append_assoc older (x ∷ []) (xs ++ newer)) in
        let rest = stretch (older ++ x ∷ []) xs newer is' (λ y i. inside y (inr i)) next in
        counted h from until (record { group = Some x.group; blocks = difference (newest_blocks bs older) (blocks x.map) }) (gone_in (blocks x.map) (xs ++ newer) f.live) (inside x (inl refl))
        ∙ (λ i. h (sym (dead_snap older x (xs ++ newer) is) i) + sum_of h from until (gone_in (sym (newest_more bs older x) i) (xs ++ newer) f.live))
        ∙ ap (λ n. h (dead_of (world_of t) (Snapped (id_of x))) + n) rest

    -- what has gone with a stretch of the datasets
    pub gone_is : (older range newer : List Snap) → f.snaps ≡ older ++ (range ++ newer) → IsStretch from until older range newer
        → sum_by (λ (g : Gone). h g.blocks) (dead_between from until (row_in t.file_systems (name, f))) ≡ total (λ d. h (dead_of (world_of t) d)) (with_next name range newer)
    gone_is older range newer is s =
        ap (λ l. sum_of h from until (gone_in bs l f.live)) is
        ∙ none_earlier h from until bs older (range ++ newer) f.live s.before
        ∙ stretch older range newer is s.inside s.next

  -- the entries born by a cut
  pub gone_by : (cut : ℕ) (from until : Option ℕ) (older range newer : List Snap) → f.snaps ≡ older ++ (range ++ newer) → IsStretch from until older range newer
      → sum_by (λ (g : Gone). len (upto cut g.blocks)) (dead_between from until (row_in t.file_systems (name, f))) ≡ dead_by (world_of t) cut (with_next name range newer)
  gone_by cut from until older range newer is s = gone_is (λ x. len (upto cut x)) from until older range newer is s ∙ as_sum (with_next name range newer)
    where
      as_sum : (ds : List Dataset) → total (λ d. len (upto cut (dead_of (world_of t) d))) ds ≡ dead_by (world_of t) cut ds
      as_sum [] = refl
      as_sum (d ∷ ds) = ap (λ n. len (upto cut (dead_of (world_of t) d)) + n) (as_sum ds)

  -- and those born after it
  pub gone_since : (cut : ℕ) (from until : Option ℕ) (older range newer : List Snap) → f.snaps ≡ older ++ (range ++ newer) → IsStretch from until older range newer
      → sum_by (λ (g : Gone). len (after cut g.blocks)) (dead_between from until (row_in t.file_systems (name, f))) ≡ dead_since (world_of t) cut (with_next name range newer)
  gone_since cut from until older range newer is s = gone_is (λ x. len (after cut x)) from until older range newer is s ∙ as_sum (with_next name range newer)
    where
      as_sum : (ds : List Dataset) → total (λ d. len (after cut (dead_of (world_of t) d))) ds ≡ dead_since (world_of t) cut ds
      as_sum [] = refl
      as_sum (d ∷ ds) = ap (λ n. len (after cut (dead_of (world_of t) d)) + n) (as_sum ds)

  -- and what their sums add to the count of segments
  pub gone_reach : (from until : Option ℕ) (older range newer : List Snap) → f.snaps ≡ older ++ (range ++ newer) → IsStretch from until older range newer
      → lists_reach (dead_between from until (row_in t.file_systems (name, f))) ≡ dead_reach (world_of t) (with_next name range newer)
  gone_reach from until older range newer is s = gone_is (λ x. most_reached (len x)) from until older range newer is s ∙ as_sum (with_next name range newer)
    where
      as_sum : (ds : List Dataset) → total (λ d. most_reached (len (dead_of (world_of t) d))) ds ≡ dead_reach (world_of t) ds
      as_sum [] = refl
      as_sum (d ∷ ds) = ap (λ n. most_reached (len (dead_of (world_of t) d)) + n) (as_sum ds)

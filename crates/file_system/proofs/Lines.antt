-- Snapshots and then a live map in a line, and what their dead lists count.
use Rattle.std.proofs.Common.{◌≡◌, ◌≤◌, ◌<◌, ◌+◌, ℕ, zero, suc, List, [], ◌∷◌, ◌++◌, map, take, drop, slice_get, Some, None, refl, sym, ap, subst, ◌∙◌, ◌⊎◌, inl, inr, ⊎_elim, arith}
use Rattle.std.specs.List.{last_or, sum_by}
use Rattle.std.specs.Option.{option_map_or}
use Rattle.std.specs.FinSet.{empty, union, difference, len}
use Rattle.base.specs.Map.{Map, Block, BlockSet, blocks}
use Rattle.model.specs.World.{Snap, FileSystem, blocks_of_all}
use Rattle.model.specs.Sums.{size_without}
use Rattle.snapshots.specs.declared.kept.Kept.{Kept}
use Rattle.world.specs.Sets.{Has}
use Rattle.world.specs.Blocks.{block_order as o, after, upto}
use Rattle.world.specs.Lineage.{Row}
use Rattle.world.specs.Space.{AreBornBy, Follow, newest, dead_upto, dead_after, between}
use Rattle.world.specs.Space as space
use Rattle.world.specs.Worlds.{AreRising}
use Rattle.world.proofs.lists.SetCounts.{same_members, no-empty, put_in, equal_keys, set_induction, in_union_left, in_union_right, from_union, in_difference, from_difference}
use Rattle.world.proofs.space.Space.{len_between, written_since, each_reaches_down, reaches_down}
use Rattle.std.proofs.lemmas.Bool.{or_cases}
use Rattle.std.proofs.lemmas.List.Sums.{sum_by-cons}
use Rattle.file_system.specs.Counts.{AreInLine, AreLined, snapshots_count}
use Rattle.file_system.specs.Dead.{snaps_in, newest_blocks, IsAbove}
use Rattle.file_system.specs.Gone.{Gone, gone_in}
use Rattle.file_system.specs.Origins.{origin_group}
use Rattle.file_system.specs.Splices.{AreStacked, AreAbove}
use Rattle.file_system.specs.Writes.{newest_group}
use Rattle.file_system.proofs.Stacks.{no_item}

-- ---- the line of a file system

last_group : (base low : ℕ) (t : Snap) (ts : List Snap) → option_map_or (λ (x : Snap). x.group) (last_or (Some t) ts) base ≡ option_map_or (λ (x : Snap). x.group) (last_or (Some t) ts) low
last_group base low t [] = refl
last_group base low t (u ∷ us) = last_group base low u us

-- the newest of a snapshot and those after it is the newest of those after it, or else it
pub group_behind : (base : ℕ) (t : Snap) (ts : List Snap) → newest_group base (t ∷ ts) ≡ newest_group t.group ts
group_behind base t [] = refl
group_behind base t (u ∷ us) = last_group base t.group u us

above_behind : (bs : BlockSet) (base : ℕ) (t : Snap) (m : Map) (ts : List Snap) → IsAbove bs base m (t ∷ ts) → IsAbove (blocks t.map) t.group m ts
above_behind bs base t m ts above = record {
  closed = λ b h. subst (λ n. b.birth ≤ n) (group_behind base t ts) (above.closed b h);
  kept = λ b h l. above.kept b h (subst (λ n. b.birth ≤ n) (sym (group_behind base t ts)) l);
}

stacked_behind : (bs : BlockSet) (base : ℕ) (t : Snap) (ts : List Snap) → AreStacked bs base (t ∷ ts) → AreStacked (blocks t.map) t.group ts
stacked_behind bs base t ts each = λ older newer u e. above_behind bs base t u.map older (each (t ∷ older) newer u (ap (λ l. t ∷ l) e))

-- what stands below them has no block that was born later
pub closed_below : (bs : BlockSet) (base : ℕ) (ts : List Snap) (live : Map) → AreStacked bs base ts → IsAbove bs base live ts → AreBornBy base bs
closed_below bs base [] live each above = above.closed
closed_below bs base (t ∷ ts) live each above = (each [] ts t refl).closed

in_line : (bs : BlockSet) (base : ℕ) (ts : List Snap) (live : Map) → AreRising base ts → AreStacked bs base ts → IsAbove bs base live ts → AreInLine bs base ts live
in_line bs base [] live up each above = above.kept
in_line bs base (t ∷ ts) live up each above =
    let later = stacked_behind bs base t ts each in
    let last = above_behind bs base t live ts above in
    (up.0, closed_below (blocks t.map) t.group ts live later last, (each [] ts t refl).kept, in_line (blocks t.map) t.group ts live up.1 later last)

-- the snapshots of a file system and its live map
pub line_above : (below : Map) (f : FileSystem) → AreAbove below f → AreLined below (origin_group f.origin) f.snaps f.live
line_above below f above = record {
  born = closed_below (blocks below) (origin_group f.origin) f.snaps f.live above.each above.live;
  line = in_line (blocks below) (origin_group f.origin) f.snaps f.live above.rising above.each above.live;
}

-- with another live map, that of the newest of them
pub line_back : (bs : BlockSet) (base : ℕ) (ts : List Snap) (live m : Map) → AreInLine bs base ts live → blocks m ≡ newest_blocks bs ts → AreInLine bs base ts m
line_back bs base [] live m line is = λ b h l. subst (λ s. Has s b) is h
line_back bs base (t ∷ ts) live m line is = (line.0, line.1, line.2, line_back (blocks t.map) t.group ts live m line.3 is)

-- those after one of them
pub line_rest : (bs : BlockSet) (base i : ℕ) (ks : List Kept) (k : Kept) (live : Map) → slice_get ks i ≡ Some k → AreInLine bs base (snaps_in ks) live
    → AreInLine (blocks k.snapshot.map) k.snapshot.group (snaps_in (drop (suc i) ks)) live
line_rest bs base i [] k live at line = absurd (no_item i k at)
line_rest bs base zero (x ∷ ks) k live at line = let same : x ≡ k = cc in subst (λ (y : Kept). AreInLine (blocks y.snapshot.map) y.snapshot.group (snaps_in ks) live) same line.3
line_rest bs base (suc i) (x ∷ ks) k live at line = line_rest (blocks x.snapshot.map) x.snapshot.group i ks k live at line.3

-- those up to it, and then others that stand after it
pub line_joined : (bs : BlockSet) (base i : ℕ) (ks cs : List Kept) (k : Kept) (live m : Map) → slice_get ks i ≡ Some k → AreInLine bs base (snaps_in ks) live
    → AreInLine (blocks k.snapshot.map) k.snapshot.group (snaps_in cs) m → AreInLine bs base (snaps_in (take (suc i) ks ++ cs)) m
line_joined bs base i [] cs k live m at line more = absurd (no_item i k at)
line_joined bs base zero (x ∷ ks) cs k live m at line more =
    let same : x ≡ k = cc in
    (line.0, line.1, line.2, subst (λ (y : Kept). AreInLine (blocks y.snapshot.map) y.snapshot.group (snaps_in cs) m) (sym same) more)
line_joined bs base (suc i) (x ∷ ks) cs k live m at line more = (line.0, line.1, line.2, line_joined (blocks x.snapshot.map) x.snapshot.group i ks cs k live m at line.3 more)

-- the births at a snapshot
pub born_at : (bs : BlockSet) (base i : ℕ) (ks : List Kept) (k : Kept) (live : Map) → slice_get ks i ≡ Some k → AreInLine bs base (snaps_in ks) live → AreBornBy k.snapshot.group (blocks k.snapshot.map)
born_at bs base i [] k live at line = absurd (no_item i k at)
born_at bs base zero (x ∷ ks) k live at line = let same : x ≡ k = cc in subst (λ (y : Kept). AreBornBy y.snapshot.group (blocks y.snapshot.map)) same line.1
born_at bs base (suc i) (x ∷ ks) k live at line = born_at (blocks x.snapshot.map) x.snapshot.group i ks k live at line.3

-- ---- as rows of a lineage

-- a group after all births of a set, and after this one
last_birth : (base : ℕ) (s : BlockSet) → (g : ℕ) × AreBornBy g s × (base < g)
last_birth base s = set_induction o (λ t. (g : ℕ) × AreBornBy g t × (base < g))
    (base + 1, λ b h. absurd (no-empty o b h), omega arith)
    (λ t k out ih. (
      ih.0 + k.birth,
      λ b h. ⊎_elim
          (λ e. let same = ap (λ (x : Block). x.birth) (equal_keys o b k e) in omega arith)
          (λ i. let l = ih.1 b i in omega arith)
          (or_cases _ _ (sym (put_in o t k b) ∙ h)),
      let l = ih.2 in omega arith,
    ))
    s

row_at : ℕ → BlockSet → ℕ → Map → Row (Unit {0})
row_at base bs g m = record { blocks = blocks m; dead = difference bs (blocks m); group = g; prev = None; base = base; below = bs }

rows_of : ℕ → BlockSet → List Snap → Map → List (Row (Unit {0}))
rows_of base bs [] live = row_at base bs (last_birth base (blocks live)).0 live ∷ []
rows_of base bs (t ∷ ts) live = row_at base bs t.group t.map ∷ rows_of t.group (blocks t.map) ts live

they_follow : (bs : BlockSet) (base : ℕ) (ts : List Snap) (live : Map) → AreInLine bs base ts live → Follow base bs (rows_of base bs ts live)
unfolding rows_of row_at
they_follow bs base [] live line =
    let top = last_birth base (blocks live) in
    (refl, refl, record { born = top.1; falls = top.2; kept = line; gone = refl }, tt)
they_follow bs base (t ∷ ts) live line =
    (refl, refl, record { born = line.1; falls = line.0; kept = line.2; gone = refl }, they_follow (blocks t.map) t.group ts live line.3)

newest_is : (bs s : BlockSet) (base : ℕ) (ts : List Snap) (live : Map) → newest s (rows_of base bs ts live) ≡ blocks live
unfolding rows_of row_at
newest_is bs s base [] live = refl
newest_is bs s base (t ∷ ts) live = newest_is (blocks t.map) (blocks t.map) t.group ts live

rows_upto : (cut base : ℕ) (bs : BlockSet) (ts : List Snap) (live : Map) → dead_upto cut (rows_of base bs ts live) ≡ sum_by (λ (g : Gone). len (upto cut g.blocks)) (gone_in bs ts live)
unfolding rows_of row_at
rows_upto cut base bs [] live = omega arith
rows_upto cut base bs (t ∷ ts) live =
    ap (λ n. len (upto cut (difference bs (blocks t.map))) + n) (rows_upto cut t.group (blocks t.map) ts live)
    ∙ sym (sum_by-cons (λ (g : Gone). len (upto cut g.blocks)) (record { group = Some t.group; blocks = difference bs (blocks t.map) }) (gone_in (blocks t.map) ts live))

rows_after : (cut base : ℕ) (bs : BlockSet) (ts : List Snap) (live : Map) → dead_after cut (rows_of base bs ts live) ≡ sum_by (λ (g : Gone). len (after cut g.blocks)) (gone_in bs ts live)
unfolding rows_of row_at
rows_after cut base bs [] live = omega arith
rows_after cut base bs (t ∷ ts) live =
    ap (λ n. len (after cut (difference bs (blocks t.map))) + n) (rows_after cut t.group (blocks t.map) ts live)
    ∙ sym (sum_by-cons (λ (g : Gone). len (after cut g.blocks)) (record { group = Some t.group; blocks = difference bs (blocks t.map) }) (gone_in (blocks t.map) ts live))

-- the blocks of them all: those of the snapshots, and those of the live map
snaps_among : (base : ℕ) (bs : BlockSet) (ts : List Snap) (live : Map) (b : Block) → Has (blocks_of_all (map (λ (t : Snap). t.map) ts)) b → Has (space.blocks_of_all (rows_of base bs ts live)) b
unfolding rows_of row_at
snaps_among base bs [] live b h = absurd (no-empty o b h)
snaps_among base bs (t ∷ ts) live b h = ⊎_elim
    (λ i. in_union_left o (blocks t.map) _ b i)
    (λ i. in_union_right o (blocks t.map) _ b (snaps_among t.group (blocks t.map) ts live b i))
    (from_union o (blocks t.map) (blocks_of_all (map (λ (t : Snap). t.map) ts)) b h)

among_them : (base : ℕ) (bs : BlockSet) (ts : List Snap) (live : Map) (b : Block) → Has (space.blocks_of_all (rows_of base bs ts live)) b
    → Has (blocks_of_all (map (λ (t : Snap). t.map) ts)) b ⊎ Has (blocks live) b
unfolding rows_of row_at
among_them base bs [] live b h = ⊎_elim inr (λ i. absurd (no-empty o b i)) (from_union o (blocks live) empty b h)
among_them base bs (t ∷ ts) live b h = ⊎_elim
    (λ i. inl (in_union_left o (blocks t.map) _ b i))
    (λ i. ⊎_elim (λ j. inl (in_union_right o (blocks t.map) _ b j)) inr (among_them t.group (blocks t.map) ts live b i))
    (from_union o (blocks t.map) (space.blocks_of_all (rows_of t.group (blocks t.map) ts live)) b h)

-- ---- blocks that come down

-- an old block of the live map is in what stands below
pub live_reaches : (bs : BlockSet) (base : ℕ) (ts : List Snap) (live : Map) (b : Block) → AreInLine bs base ts live → Has (blocks live) b → b.birth ≤ base → Has bs b
live_reaches bs base ts live b line h l =
    reaches_down base bs (rows_of base bs ts live) b (they_follow bs base ts live line) (subst (λ s. Has s b) (sym (newest_is bs bs base ts live)) h) l

-- and so is one of a snapshot
pub snap_reaches : (bs : BlockSet) (base : ℕ) (ts : List Snap) (live : Map) (b : Block) → AreInLine bs base ts live → Has (blocks_of_all (map (λ (t : Snap). t.map) ts)) b → b.birth ≤ base → Has bs b
snap_reaches bs base ts live b line h l = each_reaches_down base bs (rows_of base bs ts live) b (they_follow bs base ts live line) (snaps_among base bs ts live b h) l

-- the newest group is no lower than that of what stands below
pub newest_over : (bs : BlockSet) (base : ℕ) (ts : List Snap) (live : Map) → AreInLine bs base ts live → base ≤ newest_group base ts
newest_over bs base [] live line = omega arith
newest_over bs base (u ∷ us) live line = let l = line.0 in let m = newest_over (blocks u.map) u.group us live line.3 in let e = group_behind base u us in omega arith

-- no snapshot has a block that was born after the newest
pub born_by_newest : (bs : BlockSet) (base : ℕ) (ts : List Snap) (live : Map) (b : Block) → AreInLine bs base ts live → Has (blocks_of_all (map (λ (t : Snap). t.map) ts)) b → b.birth ≤ newest_group base ts
born_by_newest bs base [] live b line h = absurd (no-empty o b h)
born_by_newest bs base (t ∷ ts) live b line h = subst (λ n. b.birth ≤ n) (sym (group_behind base t ts)) (⊎_elim
    (λ i. let l = line.1 b i in let m = newest_over (blocks t.map) t.group ts live line.3 in omega arith)
    (λ i. born_by_newest (blocks t.map) t.group ts live b line.3 i)
    (from_union o (blocks t.map) (blocks_of_all (map (λ (t : Snap). t.map) ts)) b h))

-- ---- the counts

-- what the live map has of its own, by what has gone of the old blocks
pub dataset_is : (below : Map) (base : ℕ) (ts : List Snap) (live : Map) → AreLined below base ts live
    → size_without (blocks live) (blocks below) + len (blocks below) ≡ len (blocks live) + sum_by (λ (g : Gone). len (upto base g.blocks)) (gone_in (blocks below) ts live)
dataset_is below base ts live lined =
    let rows = rows_of base (blocks below) ts live in
    let last = newest_is (blocks below) (blocks below) base ts live in
    let is = written_since base (blocks below) rows (they_follow (blocks below) base ts live lined.line) lined.born in
    subst (λ n. size_without (blocks live) (blocks below) + len (blocks below) ≡ len (blocks live) + n) (rows_upto base base (blocks below) ts live)
    (subst (λ s. len (difference s (blocks below)) + len (blocks below) ≡ len s + dead_upto base rows) last is)

-- what the snapshots have of their own, by what has gone of the others
pub snapshots_are : (below : Map) (base : ℕ) (ts : List Snap) (live : Map) → AreLined below base ts live
    → snapshots_count below ts live ≡ sum_by (λ (g : Gone). len (after base g.blocks)) (gone_in (blocks below) ts live)
snapshots_are below base ts live lined =
    let bs = blocks below in
    let rows = rows_of base bs ts live in
    let last = newest_is bs bs base ts live in
    let all = blocks_of_all (map (λ (t : Snap). t.map) ts) in
    let others = blocks_of_all (live ∷ below ∷ []) in
    let same : difference all others ≡ between bs rows = same_members o (difference all others) (between bs rows)
    (λ b h.
    let d = from_difference o all others b h in
    in_difference o (difference (space.blocks_of_all rows) (newest bs rows)) bs b
    (in_difference o (space.blocks_of_all rows) (newest bs rows) b (snaps_among base bs ts live b d.0) (λ n. d.1 (in_union_left o (blocks live) _ b (subst (λ s. Has s b) last n))))
    (λ n. d.1 (in_union_right o (blocks live) _ b (in_union_left o bs empty b n))))
    (λ b h.
    let d = from_difference o (difference (space.blocks_of_all rows) (newest bs rows)) bs b h in
    let e = from_difference o (space.blocks_of_all rows) (newest bs rows) b d.0 in
    let out : ¬ (Has (blocks live) b) = λ n. e.1 (subst (λ s. Has s b) (sym last) n) in
    in_difference o all others b
    (⊎_elim (λ i. i) (λ i. absurd (out i)) (among_them base bs ts live b e.0))
    (λ n. ⊎_elim out (λ i. ⊎_elim d.1 (λ j. no-empty o b j) (from_union o bs empty b i)) (from_union o (blocks live) (union bs empty) b n))) in
    ap len same ∙ len_between base bs rows (they_follow bs base ts live lined.line) lined.born ∙ rows_after base base bs ts live

-- The counts of a file system after a write.
use Rattle.std.proofs.Common.{◌≡◌, ◌≤◌, ◌<◌, ◌+◌, ℕ, Bool, true, false, cond, List, [], ◌∷◌, ◌++◌, map, length, refl, sym, ap, subst, ◌∙◌, ◌⊎◌, inl, inr, ⊎_elim, true≢false, leb, arith}
use Rattle.std.proofs.lemmas.List.{length-append, length-map}
use Rattle.std.proofs.lemmas.Bool.{le-leb, leb-true}
use Rattle.std.specs.List.{filter}
use Rattle.std.specs.FinSet.{empty, union, intersection, difference, insert, len, from_list}
use Rattle.base.specs.Map.{Map, Block, BlockSet, block_cmp, blocks}
use Rattle.base.specs.Rewrite.{Changes}
use Rattle.base.specs.Surveys.{IsIn, dead_block}
use Rattle.base.specs.declared.number.Dead.{Dead}
use Rattle.zalloc.specs.declared.BlockState.{BlockState}
use Rattle.node.specs.Unique.{IsUnique}
use Rattle.model.specs.World.{Snap, blocks_of_all}
use Rattle.model.specs.Sums.{size_without}
use Rattle.tree.specs.Change.{Shown, IsChange, AreReleased}
use Rattle.world.specs.Sets.{Has}
use Rattle.world.specs.Blocks.{block_order as o}
use Rattle.world.specs.Deadlists.{Lists, entries_upto}
use Rattle.world.specs.Space.{AreBornBy}
use Rattle.world.proofs.lists.SetCounts.{set_induction, Has-cases, len-two_parts, len-subset, len-difference, in_intersection, in_union_left, in_union_right, from_union, in_difference, from_difference, no-empty}
use Rattle.world.proofs.lineage.DeadChanges.{dead_after}
use Rattle.world.proofs.lineage.Deadlists.{dead_counts}
use Rattle.world.proofs.maps.Cells.{in_blocks}
use Rattle.world.proofs.lists.Finding.{from_filter}
use Rattle.world.proofs.lists.Lists.{in_listed, from_listed, len-from_list, once_filter}
use Rattle.world.proofs.lineage.Shuffled.{written_is}
use Rattle.file_system.specs.Counts.{AreLined, dataset_count, snapshots_count, upto_count}
use Rattle.file_system.specs.Dead.{newest_blocks, IsAbove}
use Rattle.file_system.specs.Writes.{newest_group}
use Rattle.file_system.proofs.Lines.{live_reaches, born_by_newest, newest_over}
use Rattle.file_system.proofs.Releases.{map_filter}

-- ---- counts of sets

-- each set has a list
listed : (s : BlockSet) → (ds : List Block) × Lists ds s
listed s = set_induction o (λ t. (ds : List Block) × Lists ds t)
    ([], record { once = tt; is = refl })
    (λ t k out ih. (
      k ∷ ih.0,
      record {
        once = (λ i. true≢false (sym (subst (λ z. Has z k) ih.1.is (in_listed o ih.0 k i)) ∙ out), ih.1.once);
        is = ap (λ z. insert z k) ih.1.is;
      },
    ))
    s

-- what one set has that another hasn't, and the other way round
pub both_ways : (a b : BlockSet) → size_without a b + len b ≡ len a + len (difference b a)
both_ways a b =
    let own = listed (difference b a) in
    let sum = written_is a b own.0 own.1 in
    let count = (dead_counts own.0 (difference b a) 0 own.1).0 in
    omega arith

-- what the snapshots or the origin have and the live map hasn't is the snapshots' alone or the origin's
two_parts : (below : Map) (ts : List Snap) (live : Map)
    → len (difference (union (blocks_of_all (map (λ (t : Snap). t.map) ts)) (blocks below)) (blocks live)) ≡ snapshots_count below ts live + len (difference (blocks below) (blocks live))
two_parts below ts live =
    let all = blocks_of_all (map (λ (t : Snap). t.map) ts) in
    let others = blocks_of_all (live ∷ below ∷ []) in
    len-two_parts o (difference (union all (blocks below)) (blocks live)) (difference all others) (difference (blocks below) (blocks live))
    (λ b h. let d = from_difference o all others b h in in_difference o (union all (blocks below)) (blocks live) b (in_union_left o all (blocks below) b d.0) (λ n. d.1 (in_union_left o (blocks live) _ b n)))
    (λ b h. let d = from_difference o (blocks below) (blocks live) b h in in_difference o (union all (blocks below)) (blocks live) b (in_union_right o all (blocks below) b d.0) d.1)
    (λ b h k. (from_difference o all others b h).1 (in_union_right o (blocks live) _ b (in_union_left o (blocks below) empty b (from_difference o (blocks below) (blocks live) b k).0)))
    (λ b h.
    let d = from_difference o (union all (blocks below)) (blocks live) b h in
    ⊎_elim
    (λ i. inr (in_difference o (blocks below) (blocks live) b i d.1))
    (λ out. inl (in_difference o all others b
    (⊎_elim (λ i. i) (λ i. absurd (out i)) (from_union o all (blocks below) b d.0))
    (λ n. ⊎_elim d.1 (λ i. ⊎_elim out (λ j. no-empty o b j) (from_union o (blocks below) empty b i)) (from_union o (blocks live) _ b n))))
    (Has-cases o (blocks below) b))

-- so many were born by a group
old_many : (base : ℕ) (released : List Dead) → length (entries_upto base (map dead_block released)) ≡ upto_count base released
old_many base released = ap length (sym (map_filter dead_block (λ b. leb b.birth base) released)) ∙ length-map (filter (λ (d : Dead). leb d.birth.0 base) released) dead_block

-- the newest of them is one of them, or what stands below
newest_in : (bs : BlockSet) (ts : List Snap) (b : Block) → Has (newest_blocks bs ts) b → Has (blocks_of_all (map (λ (t : Snap). t.map) ts)) b ⊎ Has bs b
newest_in bs [] b h = inr h
newest_in bs (t ∷ ts) b h = inl (⊎_elim (in_union_right o (blocks t.map) _ b) (in_union_left o (blocks t.map) _ b) (newest_in (blocks t.map) ts b h))

-- no fewer were born by a later group
pub upto_more : (low high : ℕ) (es : List Dead) → low ≤ high → upto_count low es ≤ upto_count high es
upto_more low high [] le = omega arith
upto_more low high (d ∷ es) le = by (leb d.birth.0 low) refl (leb d.birth.0 high) refl (upto_more low high es le)
  where
    by : (a : Bool) → leb d.birth.0 low ≡ a → (b : Bool) → leb d.birth.0 high ≡ b → upto_count low es ≤ upto_count high es
        → length (cond a (d ∷ filter (λ (x : Dead). leb x.birth.0 low) es) (filter (λ (x : Dead). leb x.birth.0 low) es)) ≤ length (cond b (d ∷ filter (λ (x : Dead). leb x.birth.0 high) es) (filter (λ (x : Dead). leb x.birth.0 high) es))
    by true e true f rest = omega arith
    by true e false f rest = let l = leb-true d.birth.0 low e in absurd (true≢false (sym (le-leb d.birth.0 high (omega arith)) ∙ f))
    by false e true f rest = omega arith
    by false e false f rest = rest

-- ---- a change of the live map

-- what the live map has of its own, and what it lets go of the origin's
pub own_many : (below : Map) (base : ℕ) (ts : List Snap) (m : Map) → AreLined below base ts m → (c : Changes) (young : ℕ) (released : List Dead) → AreReleased m c young (map dead_block released)
    → dataset_count below m + upto_count base released ≤ len (blocks m)
own_many below base ts m lined c young released are =
    let old = entries_upto base (map dead_block released) in
    let of_live : (b : Block) → IsIn (map dead_block released) b → Has (blocks m) b = λ b i. let r = (are.each b).0 i in subst (λ y. Has (blocks m) y) r.is (in_blocks m r.key r.cell r.there) in
    let count : len {R = block_cmp} (from_list old) ≡ length old = len-from_list o old (once_filter o (λ b. leb b.birth base) (map dead_block released) are.once) in
    let few = len-subset o (from_list old) (intersection (blocks m) (blocks below)) (λ b h.
    let p = from_filter (λ (x : Block). leb x.birth base) (map dead_block released) b (from_listed o old b h) in
    let l = of_live b p.0 in
    in_intersection o (blocks m) (blocks below) b l (live_reaches (blocks below) base ts m b lined.line l (leb-true b.birth base p.1))) in
    let so_many = old_many base released in
    let parts = len-difference o (blocks m) (blocks below) in
    omega arith

module _ (m new : Map) (c : Changes) (g young : ℕ) (states : List BlockState) (v : Shown) (is : IsChange m c g young states v) (unique : IsUnique m) (to : v.new ≡ new) (early : young ≤ g)
    (released : List Dead) (let_go : v.released ≡ map dead_block released) where
  -- what a set has that the map hasn't, where the set has each older block of the map
  lets_go : (bs : BlockSet) (base : ℕ) → AreBornBy base bs → ((b : Block) → Has (blocks m) b → b.birth ≤ base → Has bs b) → base < young
      → len (difference bs (blocks new)) ≡ len (difference bs (blocks m)) + upto_count base released
  lets_go bs base born kept late =
      let own = listed (difference bs (blocks m)) in
      let after = dead_after m c g young states v is unique.one bs base born kept late early own.0 own.1 in
      let longer = (dead_counts (own.0 ++ entries_upto base v.released) (difference bs (blocks v.new)) 0 after).0 in
      let shorter = (dead_counts own.0 (difference bs (blocks m)) 0 own.1).0 in
      let both = length-append own.0 (entries_upto base v.released) in
      let so_many : length (entries_upto base v.released) ≡ upto_count base released =
      ap (λ l. length (entries_upto base l)) let_go ∙ old_many base released in
      let there = ap (λ (x : Map). len (difference bs (blocks x))) to in
      omega arith

  module _ (below : Map) (base : ℕ) (ts : List Snap) (lined : AreLined below base ts m) (late : newest_group base ts < young) where
    over : base ≤ newest_group base ts
    over = newest_over (blocks below) base ts m lined.line

    origin_lets_go : len (difference (blocks below) (blocks new)) ≡ len (difference (blocks below) (blocks m)) + upto_count base released
    origin_lets_go = let l = over in lets_go (blocks below) base lined.born (λ b h k. live_reaches (blocks below) base ts m b lined.line h k) (omega arith)

    -- what the live map has of its own afterwards
    pub own_after : dataset_count below new + len (blocks m) ≡ dataset_count below m + upto_count base released + len (blocks new)
    own_after =
        let more = origin_lets_go in
        let was = both_ways (blocks m) (blocks below) in
        let is_now = both_ways (blocks new) (blocks below) in
        omega arith

    -- what the snapshots have alone afterwards
    pub alone_after : IsAbove (blocks below) base m ts
        → snapshots_count below ts new + upto_count base released ≡ snapshots_count below ts m + upto_count (newest_group base ts) released
    alone_after above =
        let all = blocks_of_all (map (λ (t : Snap). t.map) ts) in
        let l = over in
        let more = lets_go (union all (blocks below)) (newest_group base ts)
        (λ b h. ⊎_elim (λ i. born_by_newest (blocks below) base ts m b lined.line i) (λ i. let k = lined.born b i in omega arith) (from_union o all (blocks below) b h))
        (λ b h k. ⊎_elim (in_union_left o all (blocks below) b) (in_union_right o all (blocks below) b) (newest_in (blocks below) ts b (above.kept b h k))) late in
        let origin = origin_lets_go in
        let was = two_parts below ts m in
        let is_now = two_parts below ts new in
        omega arith

-- The counts of a file system once a snapshot is gone.
use Rattle.std.proofs.Common.{◌≡◌, ◌≤◌, ◌<◌, ◌+◌, ℕ, Bool, true, false, cond, List, [], ◌∷◌, map, length, refl, sym, subst, ◌⊎◌, inl, inr, ⊎_elim, arith}
use Rattle.std.specs.Prelude.{filter, not, ◌==◌}
use Rattle.std.proofs.lemmas.Bool.{cases_lt}
use Rattle.std.proofs.lemmas.List.{length-map}
use Rattle.std.proofs.lemmas.Bool.Decides.{nat_tests}
use Rattle.std.specs.FinSet.{empty, union, difference, len}
use Rattle.base.specs.Map.{Map, Block, BlockSet, blocks}
use Rattle.base.specs.Surveys.{dead_block}
use Rattle.base.specs.declared.number.Dead.{Dead}
use Rattle.model.specs.World.{Snap, blocks_of_all}
use Rattle.world.specs.Sets.{Has}
use Rattle.world.specs.Blocks.{block_order as o}
use Rattle.world.specs.Deadlists.{Lists}
use Rattle.world.specs.Worlds.{AreRising}
use Rattle.world.proofs.lineage.Deadlists.{dead_counts}
use Rattle.world.proofs.lists.SetCounts.{Has-cases, len-two_parts, in_union_left, in_union_right, from_union, in_difference, from_difference, no-empty}
use Rattle.file_system.specs.Counts.{AreInLine, AreLined, snapshots_count}
use Rattle.file_system.specs.Splices.{oldest_blocks, lost_from}
use Rattle.file_system.proofs.Lines.{live_reaches, snap_reaches}
use Rattle.file_system.proofs.Stacks.{all_above}

-- the snapshots but the one of a group
abbrev others : ℕ → List Snap → List Snap
others g = filter (λ t. not (t.group == g))

abbrev all_of : List Snap → BlockSet
all_of ts = blocks_of_all (map (λ t. t.map) ts)

-- What is lost of all the blocks of some snapshots, which stand above these with a group and below a live map, where others are left
record Losing (bs : BlockSet) (base : ℕ) (all live rest lost : BlockSet) : Type 0 where
  within : (b : Block) → Has lost b → Has all b
  young : (b : Block) → Has lost b → base < b.birth
  gone : (b : Block) → Has lost b → ¬ (Has live b)
  apart : (b : Block) → Has lost b → ¬ (Has rest b)
  fewer : (b : Block) → Has rest b → Has all b
  either : (b : Block) → Has all b → ¬ (Has live b) → ¬ (Has bs b) → Has rest b ⊎ Has lost b

rising_in : (bs : BlockSet) (base : ℕ) (ts : List Snap) (live : Map) → AreInLine bs base ts live → AreRising base ts
rising_in bs base [] live line = tt
rising_in bs base (t ∷ ts) live line = (line.0, rising_in (blocks t.map) t.group ts live line.3)

-- an old block of those that come after is in the first of them
oldest_has : (bs : BlockSet) (base : ℕ) (ts : List Snap) (live : Map) (b : Block) → AreInLine bs base ts live → Has (all_of ts) b ⊎ Has (blocks live) b → b.birth ≤ base → Has (oldest_blocks live ts) b
oldest_has bs base [] live b line h l = ⊎_elim (λ i. absurd (no-empty o b i)) (λ i. i) h
oldest_has bs base (t ∷ ts) live b line h l =
    let up = line.0 in
    ⊎_elim
    (λ i. ⊎_elim (λ j. j) (λ j. snap_reaches (blocks t.map) t.group ts live b line.3 j (omega arith)) (from_union o (blocks t.map) (all_of ts) b i))
    (λ i. live_reaches (blocks t.map) t.group ts live b line.3 i (omega arith))
    h

oldest_of : (live : Map) (ts : List Snap) (b : Block) → Has (oldest_blocks live ts) b → Has (all_of ts) b ⊎ Has (blocks live) b
oldest_of live [] b h = inr h
oldest_of live (t ∷ ts) b h = inl (in_union_left o (blocks t.map) (all_of ts) b h)

-- the first of them goes
first_goes : (bs : BlockSet) (base : ℕ) (t : Snap) (ts : List Snap) (live : Map) → AreInLine bs base (t ∷ ts) live
    → Losing bs base (all_of (t ∷ ts)) (blocks live) (all_of ts) (difference (difference (blocks t.map) bs) (oldest_blocks live ts))
first_goes bs base t ts live line =
    let two = from_difference o (difference (blocks t.map) bs) (oldest_blocks live ts) in
    let one = from_difference o (blocks t.map) bs in
    record {
      within = λ b h. in_union_left o (blocks t.map) (all_of ts) b (one b (two b h).0).0;
      young = λ b h. let k = one b (two b h).0 in ⊎_elim (λ l. l) (λ l. absurd (k.1 (line.2 b k.0 l))) (cases_lt base b.birth);
      gone = λ b h i. (two b h).1 (oldest_has (blocks t.map) t.group ts live b line.3 (inr i) (line.1 b (one b (two b h).0).0));
      apart = λ b h i. (two b h).1 (oldest_has (blocks t.map) t.group ts live b line.3 (inl i) (line.1 b (one b (two b h).0).0));
      fewer = λ b h. in_union_right o (blocks t.map) (all_of ts) b h;
      either = λ b h out low. ⊎_elim
          (λ i. ⊎_elim
          (λ next. ⊎_elim inl (λ j. absurd (out j)) (oldest_of live ts b next))
          (λ no. inr (in_difference o (difference (blocks t.map) bs) (oldest_blocks live ts) b (in_difference o (blocks t.map) bs b i low) no))
          (Has-cases o (oldest_blocks live ts) b))
          inl
          (from_union o (blocks t.map) (all_of ts) b h);
    }

-- one of those after it goes
later_goes : (bs : BlockSet) (base : ℕ) (t : Snap) (all live rest lost : BlockSet) → base < t.group → ((b : Block) → Has (blocks t.map) b → b.birth ≤ t.group)
    → Losing (blocks t.map) t.group all live rest lost → Losing bs base (union (blocks t.map) all) live (union (blocks t.map) rest) lost
later_goes bs base t all live rest lost up born ih = record {
  within = λ b h. in_union_right o (blocks t.map) all b (ih.within b h);
  young = λ b h. let l = ih.young b h in omega arith;
  gone = ih.gone;
  apart = λ b h i. ⊎_elim (λ j. let l = ih.young b h in let m = born b j in absurd (omega arith)) (ih.apart b h) (from_union o (blocks t.map) rest b i);
  fewer = λ b h. ⊎_elim (in_union_left o (blocks t.map) all b) (λ j. in_union_right o (blocks t.map) all b (ih.fewer b j)) (from_union o (blocks t.map) rest b h);
  either = λ b h out low. ⊎_elim
      (λ i. inl (in_union_left o (blocks t.map) rest b i))
      (λ no. ⊎_elim
      (λ i. absurd (no i))
      (λ i. ⊎_elim (λ j. inl (in_union_right o (blocks t.map) rest b j)) inr (ih.either b i out no))
      (from_union o (blocks t.map) all b h))
      (Has-cases o (blocks t.map) b);
}

one_goes : (bs : BlockSet) (base g : ℕ) (ts : List Snap) (live : Map) → AreInLine bs base ts live → Losing bs base (all_of ts) (blocks live) (all_of (others g ts)) (lost_from bs ts live g)
one_goes bs base g [] live line = record {
  within = λ b h. absurd (no-empty o b h);
  young = λ b h. absurd (no-empty o b h);
  gone = λ b h. absurd (no-empty o b h);
  apart = λ b h. absurd (no-empty o b h);
  fewer = λ b h. absurd (no-empty o b h);
  either = λ b h. absurd (no-empty o b h);
}
one_goes bs base g (t ∷ ts) live line = by (t.group == g) refl (one_goes (blocks t.map) t.group g ts live line.3)
  where
    by : (is : Bool) → (t.group == g) ≡ is → Losing (blocks t.map) t.group (all_of ts) (blocks live) (all_of (others g ts)) (lost_from (blocks t.map) ts live g)
        → Losing bs base (all_of (t ∷ ts)) (blocks live) (all_of (cond (not is) (t ∷ others g ts) (others g ts)))
        (cond is (difference (difference (blocks t.map) bs) (oldest_blocks live ts)) (lost_from (blocks t.map) ts live g))
    by true e rest =
        let same : t.group ≡ g = grind (arith, nat_tests) in
        let stay = all_above t.group g ts (rising_in (blocks t.map) t.group ts live line.3) (omega arith) in
        subst (λ l. Losing bs base (all_of (t ∷ ts)) (blocks live) (all_of l) (difference (difference (blocks t.map) bs) (oldest_blocks live ts))) (sym stay) (first_goes bs base t ts live line)
    by false e rest = later_goes bs base t (all_of ts) (blocks live) (all_of (others g ts)) (lost_from (blocks t.map) ts live g) line.0 line.1 rest

-- the snapshots have so many fewer
pub fewer_alone : (below : Map) (base g : ℕ) (ts : List Snap) (live : Map) → AreLined below base ts live
    → snapshots_count below ts live ≡ snapshots_count below (filter (λ (t : Snap). not (t.group == g)) ts) live + len (lost_from (blocks below) ts live g)
fewer_alone below base g ts live lined =
    let bs = blocks below in
    let beside = blocks_of_all (live ∷ below ∷ []) in
    let lost = lost_from bs ts live g in
    let it = one_goes bs base g ts live lined.line in
    let from_beside : (b : Block) → Has beside b → Has (blocks live) b ⊎ Has bs b =
    λ b h. ⊎_elim inl (λ i. ⊎_elim inr (λ j. absurd (no-empty o b j)) (from_union o bs empty b i)) (from_union o (blocks live) (union bs empty) b h) in
    len-two_parts o (difference (all_of ts) beside) (difference (all_of (others g ts)) beside) lost
    (λ b h. let d = from_difference o (all_of (others g ts)) beside b h in in_difference o (all_of ts) beside b (it.fewer b d.0) d.1)
    (λ b h. in_difference o (all_of ts) beside b (it.within b h) (λ n. ⊎_elim (it.gone b h) (λ i. let l = lined.born b i in let m = it.young b h in absurd (omega arith)) (from_beside b n)))
    (λ b h k. it.apart b k (from_difference o (all_of (others g ts)) beside b h).0)
    (λ b h.
    let d = from_difference o (all_of ts) beside b h in
    ⊎_elim
    (λ i. inl (in_difference o (all_of (others g ts)) beside b i d.1))
    inr
    (it.either b d.0 (λ n. d.1 (in_union_left o (blocks live) (union bs empty) b n)) (λ n. d.1 (in_union_right o (blocks live) (union bs empty) b (in_union_left o bs empty b n)))))

-- by the list of what is lost
pub fewer_listed : (below : Map) (base g : ℕ) (ts : List Snap) (live : Map) → AreLined below base ts live → (lost : List Dead) → Lists (map dead_block lost) (lost_from (blocks below) ts live g)
    → snapshots_count below ts live ≡ snapshots_count below (filter (λ (t : Snap). not (t.group == g)) ts) live + length lost
fewer_listed below base g ts live lined lost own =
    let fewer = fewer_alone below base g ts live lined in
    let count = (dead_counts (map dead_block lost) (lost_from (blocks below) ts live g) 0 own).0 in
    let long = length-map lost dead_block in
    omega arith

-- The counts of a file system, where no block comes or goes.
use Rattle.std.proofs.Common.{◌≡◌, List, [], ◌∷◌, ◌++◌, map, sym, ap, subst, ◌∙◌, ◌⊎◌, inl, inr, ⊎_elim, arith}
use Rattle.std.specs.FinSet.{empty, union, difference, len, len-empty}
use Rattle.base.specs.Map.{Map, Block, block_cmp, blocks}
use Rattle.model.specs.World.{Snap, blocks_of_all}
use Rattle.model.specs.Sums.{size_without}
use Rattle.snapshots.specs.declared.kept.Kept.{Kept}
use Rattle.world.specs.Sets.{Has}
use Rattle.world.specs.Blocks.{block_order as o}
use Rattle.world.proofs.lineage.Deadlists.{dead_counts}
use Rattle.world.proofs.lists.SetCounts.{same_members, in_union_left, in_union_right, from_union, in_difference, from_difference, no-empty}
use Rattle.world.proofs.lineage.Shuffled.{written_few}
use Rattle.file_system.specs.Counts.{IsCounted, dataset_count, snapshots_count}
use Rattle.file_system.specs.Dead.{snaps_in}
use Rattle.file_system.specs.declared.counts.UsedBlocks.{UsedBlocks}
use Rattle.file_system.proofs.Accounts.{nothing_dead}

-- ---- a file system without a snapshot

-- which has nothing alone
none_alone : (below live : Map) → snapshots_count below [] live ≡ 0
none_alone below live =
    let few = written_few empty (blocks_of_all (live ∷ below ∷ [])) in
    let none = len-empty block_cmp in
    omega arith

-- a live map has nothing that itself hasn't
pub same_own : (below live : Map) → below ≡ live → dataset_count below live ≡ 0
same_own below live same = ap (λ (m : Map). dataset_count m live) same ∙ sym (dead_counts [] (difference (blocks live) (blocks live)) 0 (nothing_dead (blocks live))).0

pub fresh_counted : (below : Map) (ks : List Kept) (live : Map) (c : UsedBlocks) → ks ≡ [] → below ≡ live → c.by_dataset ≡ 0 → c.by_snapshots ≡ 0 → IsCounted below (snaps_in ks) live c
fresh_counted below ks live c bare same own alone = record {
  by_dataset = own ∙ sym (same_own below live same);
  by_snapshots = alone ∙ sym (ap (λ (l : List Kept). snapshots_count below (snaps_in l) live) bare ∙ none_alone below live);
}

-- ---- the same maps

pub same_counted : (below : Map) (xs ys : List Snap) (live : Map) (c : UsedBlocks) → map (λ (t : Snap). t.map) xs ≡ map (λ (t : Snap). t.map) ys → IsCounted below xs live c → IsCounted below ys live c
same_counted below xs ys live c same is = record {
  by_dataset = is.by_dataset;
  by_snapshots = is.by_snapshots ∙ ap (λ ms. size_without (blocks_of_all ms) (blocks_of_all (live ∷ below ∷ []))) same;
}

-- ---- a snapshot of the live map

all_more : (ts : List Snap) (t : Snap) (b : Block) → Has (blocks_of_all (map (λ (x : Snap). x.map) (ts ++ t ∷ []))) b → Has (blocks_of_all (map (λ (x : Snap). x.map) ts)) b ⊎ Has (blocks t.map) b
all_more [] t b h = ⊎_elim inr (λ i. absurd (no-empty o b i)) (from_union o (blocks t.map) empty b h)
all_more (x ∷ ts) t b h = ⊎_elim
    (λ i. inl (in_union_left o (blocks x.map) (blocks_of_all (map (λ (y : Snap). y.map) ts)) b i))
    (λ i. ⊎_elim (λ j. inl (in_union_right o (blocks x.map) (blocks_of_all (map (λ (y : Snap). y.map) ts)) b j)) inr (all_more ts t b i))
    (from_union o (blocks x.map) (blocks_of_all (map (λ (y : Snap). y.map) (ts ++ t ∷ []))) b h)

still_all : (ts : List Snap) (t : Snap) (b : Block) → Has (blocks_of_all (map (λ (x : Snap). x.map) ts)) b → Has (blocks_of_all (map (λ (x : Snap). x.map) (ts ++ t ∷ []))) b
still_all [] t b h = absurd (no-empty o b h)
still_all (x ∷ ts) t b h = ⊎_elim
    (in_union_left o (blocks x.map) (blocks_of_all (map (λ (y : Snap). y.map) (ts ++ t ∷ []))) b)
    (λ i. in_union_right o (blocks x.map) (blocks_of_all (map (λ (y : Snap). y.map) (ts ++ t ∷ []))) b (still_all ts t b i))
    (from_union o (blocks x.map) (blocks_of_all (map (λ (y : Snap). y.map) ts)) b h)

-- the live map has all that it has
pub taken_counted : (below : Map) (ts : List Snap) (t : Snap) (live : Map) (c : UsedBlocks) → t.map ≡ live → IsCounted below ts live c → IsCounted below (ts ++ t ∷ []) live c
taken_counted below ts t live c is counted =
    let beside = blocks_of_all (live ∷ below ∷ []) in
    let before = blocks_of_all (map (λ (x : Snap). x.map) ts) in
    let later = blocks_of_all (map (λ (x : Snap). x.map) (ts ++ t ∷ [])) in
    let same : difference before beside ≡ difference later beside = same_members o (difference before beside) (difference later beside)
    (λ b h. let d = from_difference o before beside b h in in_difference o later beside b (still_all ts t b d.0) d.1)
    (λ b h.
    let d = from_difference o later beside b h in
    in_difference o before beside b
    (⊎_elim (λ i. i) (λ i. absurd (d.1 (in_union_left o (blocks live) (union (blocks below) empty) b (subst (λ (m : Map). Has (blocks m) b) is i)))) (all_more ts t b d.0)) d.1) in
    record { by_dataset = counted.by_dataset; by_snapshots = counted.by_snapshots ∙ ap len same }

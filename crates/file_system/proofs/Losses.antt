-- What is lost where a live map goes, and the newest snapshot's map.
use Rattle.std.proofs.Common.{◌≡◌, ◌-◌, ℕ, List, [], ◌∷◌, length, slice_get, Some, None, sym, ap, ◌∙◌, ⊎_elim, arith}
use Rattle.std.proofs.lemmas.Bool.{cases_lt}
use Rattle.std.specs.List.{last_or}
use Rattle.std.specs.FinSet.{difference}
use Rattle.base.specs.Map.{Map, BlockSet, blocks}
use Rattle.model.specs.World.{Snap}
use Rattle.snapshots.specs.declared.kept.Kept.{Kept}
use Rattle.world.specs.Blocks.{block_order as o, after}
use Rattle.world.proofs.lists.SetCounts.{same_members, in_difference, from_difference}
use Rattle.world.proofs.lineage.Lineage.{in_after, from_after}
use Rattle.file_system.specs.Dead.{snaps_in, newest_blocks, IsAbove}
use Rattle.file_system.specs.Losses.{newest_map}
use Rattle.file_system.specs.Writes.{newest_group}
use Rattle.file_system.proofs.Newest.{last_is}

-- what was born after the newest snapshot is what that hasn't
pub born_since : (bs : BlockSet) (base : ℕ) (m : Map) (snaps : List Snap) → IsAbove bs base m snaps → after (newest_group base snaps) (blocks m) ≡ difference (blocks m) (newest_blocks bs snaps)
born_since bs base m snaps above = same_members o (after (newest_group base snaps) (blocks m)) (difference (blocks m) (newest_blocks bs snaps))
    (λ b h.
    let a = from_after (newest_group base snaps) (blocks m) b h in
    let l = a.1 in
    in_difference o (blocks m) (newest_blocks bs snaps) b a.0 (λ n. let c = above.closed b n in absurd (omega arith)))
    (λ b h.
    let d = from_difference o (blocks m) (newest_blocks bs snaps) b h in
    in_after (newest_group base snaps) (blocks m) b d.0 (⊎_elim (λ l. l) (λ l. absurd (d.1 (above.kept b d.0 l))) (cases_lt (newest_group base snaps) b.birth)))

map_from : (m : Map) (x k : Kept) (ks : List Kept) → last_or (Some x) ks ≡ Some k → newest_map x.snapshot.map (snaps_in ks) ≡ k.snapshot.map
map_from m x k [] e = let same : x ≡ k = cc in ap (λ (y : Kept). y.snapshot.map) same
map_from m x k (y ∷ ks) e = map_from m y k ks e

-- the map of the one at the last place
pub newest_map_is : (m : Map) (ks : List Kept) (k : Kept) → slice_get ks (length ks - 1) ≡ Some k → newest_map m (snaps_in ks) ≡ k.snapshot.map
newest_map_is m ks k e = by ks (sym (last_is ks) ∙ e)
  where
    by : (l : List Kept) → last_or None l ≡ Some k → newest_map m (snaps_in l) ≡ k.snapshot.map
    by [] e = absurd (cc)
    by (x ∷ l) e = map_from m x k l e

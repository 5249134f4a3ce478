-- The newest snapshot of a file system.
use Rattle.std.proofs.Common.{◌≡◌, ℕ, ◌-◌, List, [], ◌∷◌, ◌++◌, Option, Some, None, refl, sym, ap, subst, ◌∙◌, map, length, slice_get}
use Rattle.std.specs.List.{last_or}
use Rattle.std.specs.Option.{option_map}
use Rattle.std.specs.FinMap.{get}
use Rattle.base.specs.declared.number.Key.{Key}
use Rattle.base.specs.Map.{Map, Cell, BlockSet, blocks}
use Rattle.base.specs.Surveys.{IsIn}
use Rattle.model.specs.World.{FileSystem, Snap, Live, Snapped, id_of}
use Rattle.snapshots.specs.declared.kept.Kept.{Kept}
use Rattle.datasets.specs.Dead.{newest_blocks}
use Rattle.datasets.proofs.Newest.{last_is}
use Rattle.world.specs.Worlds.{AreFileSystems}
use Rattle.world.specs.Tables.{Datasets, world_of}
use Rattle.world.proofs.lineage.Bridge.{map_of_live, map_of_kept, in_middle}
use Rattle.world.proofs.lists.Maps.{same_value, no_value}
use Rattle.datasets.specs.Table.{AreNumbersOne}

last_snap : (p : Option Kept) (ks : List Kept) → option_map (λ (k : Kept). k.snapshot) (last_or p ks) ≡ last_or (option_map (λ (k : Kept). k.snapshot) p) (map (λ (k : Kept). k.snapshot) ks)
last_snap p [] = refl
last_snap p (k ∷ ks) = last_snap (Some k) ks

-- by what a look at the last place of those that are kept gave
pub newest_kept : (ks : List Kept) (snaps : List Snap) (r : Option Kept) → r ≡ slice_get ks (length ks - 1) → map (λ (k : Kept). k.snapshot) ks ≡ snaps
    → option_map (λ (k : Kept). k.snapshot) r ≡ last_or None snaps
newest_kept ks snaps r is all = ap (option_map (λ (k : Kept). k.snapshot)) (is ∙ last_is ks) ∙ last_snap None ks ∙ ap (last_or None) all

later : (bs : BlockSet) (s : Snap) (ts : List Snap) (t : Snap) → last_or (Some s) ts ≡ Some t → newest_blocks (blocks s.map) ts ≡ blocks t.map
later bs s [] t e = ap (λ (x : Snap). blocks x.map) (same_value s t e)
later bs s (x ∷ xs) t e = later bs x xs t e

-- it has the blocks that stand before the live map
pub newest_has : (bs : BlockSet) (ts : List Snap) (t : Snap) → last_or None ts ≡ Some t → newest_blocks bs ts ≡ blocks t.map
newest_has bs [] t e = absurd (no_value t e)
newest_has bs (s ∷ ts) t e = later bs s ts t e

split_last : (s : Snap) (ts : List Snap) (t : Snap) → last_or (Some s) ts ≡ Some t → (older : List Snap) × (s ∷ ts ≡ older ++ t ∷ [])
split_last s [] t e = ([], ap (λ (x : Snap). x ∷ []) (same_value s t e))
split_last s (x ∷ xs) t e = let k = split_last x xs t e in (s ∷ k.0, ap (λ l. s ∷ l) k.1)

-- all others stand before it
pub newest_last : (ts : List Snap) (t : Snap) → last_or None ts ≡ Some t → (older : List Snap) × (ts ≡ older ++ t ∷ [])
newest_last [] t e = absurd (no_value t e)
newest_last (s ∷ ts) t e = split_last s ts t e

pub newest_there : (ts : List Snap) (t : Snap) → last_or None ts ≡ Some t → IsIn ts t
newest_there ts t e = let k = newest_last ts t e in subst (λ l. IsIn l t) (sym k.1) (in_middle k.0 t [])

-- a number of both maps names one block
pub one_of_both : (t : Datasets) → AreFileSystems t.file_systems t.group → AreNumbersOne t → (name : List ℕ) (f : FileSystem) → get t.file_systems name ≡ Some f
    → (s : Snap) → IsIn f.snaps s → (j k : Key) (a b : Cell) → get f.live j ≡ Some a → get s.map k ≡ Some b → a.number ≡ b.number → (j ≡ k) × (a ≡ b)
one_of_both t good numbers name f at s i j k a b h g e =
    let w = world_of t in
    let one = numbers (Live name) (Snapped (id_of s)) j k a b (ap (λ (m : Map). get m j) (map_of_live w name f at) ∙ h) (ap (λ (m : Map). get m k) (map_of_kept w t.group good.lines name f s (id_of s) at i refl) ∙ g) e in
    (one.0, one.1)

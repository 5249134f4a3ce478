-- The dead lists of a file system's snapshots, and what they say was written.
use Rattle.std.proofs.Common.{◌≡◌, ◌≤◌, ◌<◌, ◌+◌, ◌-◌, ℕ, Bool, true, false, cond, List, [], ◌∷◌, ◌++◌, map, length, Option, Some, None, refl, sym, ap, subst, ◌∙◌, arith, leb}
use Rattle.std.proofs.lemmas.List.{length-map, map-append}
use Rattle.std.specs.Prelude.{filter}
use Rattle.std.specs.List.{find, last_or, slice_get}
use Rattle.std.specs.Option.{option_map, option_map_or}
use Rattle.std.specs.FinSet.{empty, difference, from_list}
use Rattle.std.specs.FinSet as set
use Rattle.std.specs.FinMap as finmap
use Rattle.std.specs.Arc.{arc_value}
use Rattle.std.specs.List.Sorted.{IsPermutation}
use Rattle.std.proofs.lemmas.List.Sorted.{IsPermutation-refl}
use Rattle.std.proofs.lemmas.List.{append-nil}
use Rattle.base.specs.Map.{Map, BlockSet, blocks}
use Rattle.base.specs.Surveys.{dead_block}
use Rattle.base.specs.Rewrite.{Changes}
use Rattle.base.specs.declared.number.Dead.{Dead}
use Rattle.zalloc.specs.declared.BlockState.{BlockState}
use Rattle.deadlist.specs.Entries.{is_upto}
use Rattle.base.specs.Names.{same_name}
use Rattle.node.specs.Unique.{IsUnique}
use Rattle.model.specs.World.{Snap}
use Rattle.model.specs.Sums.{size_without}
use Rattle.snapshots.specs.declared.kept.Kept.{Kept}
use Rattle.tree.specs.Change.{Shown, IsChange}
use Rattle.world.specs.Blocks.{block_order as o}
use Rattle.world.specs.Deadlists.{Lists, entries_upto}
use Rattle.world.proofs.lists.SetCounts.{same_members, from_difference, no-empty}
use Rattle.world.proofs.maps.BlockCounts.{len-blocks}
use Rattle.world.proofs.lineage.DeadChanges.{dead_after}
use Rattle.world.proofs.lineage.Shuffled.{lists_shuffled, written_is, written_few}
use Rattle.file_system.specs.Dead.{blocks_kept, group_kept, newest_blocks, written_from, snaps_in, IsAccounted, AreAccounted, IsAbove, HasGained, IsPlain}
use Rattle.file_system.specs.Writes.{newest_group}
use Rattle.file_system.proofs.Newest.{last_is}
use Rattle.file_system.proofs.Releases.{map_filter}

-- ---- a snapshot more

-- it is the newest one
pub newest_more : (bs : BlockSet) (ks : List Kept) (k : Kept) → newest_blocks bs (snaps_in (ks ++ k ∷ [])) ≡ blocks k.snapshot.map
newest_more bs [] k = refl
newest_more bs (x ∷ ks) k = newest_more (blocks x.snapshot.map) ks k

-- and it is accounted, above those that are
pub accounted_more : (bs : BlockSet) (ks : List Kept) (k : Kept) → AreAccounted bs ks → IsAccounted (newest_blocks bs (snaps_in ks)) k → AreAccounted bs (ks ++ k ∷ [])
accounted_more bs [] k each it = (it, tt)
accounted_more bs (x ∷ ks) k each it = (each.0, accounted_more (blocks x.snapshot.map) ks k each.1 it)

-- the snapshots with it
pub snaps_more : (ks : List Kept) (k : Kept) → snaps_in (ks ++ k ∷ []) ≡ snaps_in ks ++ k.snapshot ∷ []
snaps_more [] k = refl
snaps_more (x ∷ ks) k = ap (λ l. x.snapshot ∷ l) (snaps_more ks k)

-- a map has nothing that itself hasn't
pub nothing_dead : (s : BlockSet) → Lists [] (difference s s)
nothing_dead s = record {
  once = tt;
  is = same_members o (from_list []) (difference s s) (λ b h. absurd (no-empty o b h)) (λ b h. let d = from_difference o s s b h in absurd (d.1 d.0));
}

-- nor has nothing
pub nothing_before : (s : BlockSet) → Lists [] (difference empty s)
nothing_before s = record {
  once = tt;
  is = same_members o (from_list []) (difference empty s) (λ b h. absurd (no-empty o b h)) (λ b h. absurd (no-empty o b (from_difference o empty s b h).0));
}

-- a file system without a snapshot, which has what stands below it
pub fresh_dead : (bs : BlockSet) (es : List Dead) (ks : List Kept) (s : BlockSet) → es ≡ [] → ks ≡ [] → Lists [] (difference bs s) → Lists (map dead_block es) (difference (newest_blocks bs (snaps_in ks)) s)
fresh_dead bs es ks s e k none = subst (λ x. Lists (map dead_block x) (difference (newest_blocks bs (snaps_in ks)) s)) (sym e)
    (subst (λ x. Lists [] (difference (newest_blocks bs (snaps_in x)) s)) (sym k) none)

-- its live map kept as a snapshot, with its dead list
module _ (bs : BlockSet) (ks later : List Kept) (k : Kept) (live : Map) (fresh : List Dead) (each : AreAccounted bs ks)
    (own : Lists (map dead_block (arc_value k.dead).entries) (difference (newest_blocks bs (snaps_in ks)) (blocks live))) (map_is : k.snapshot.map ≡ live)
    (written : k.written ≡ size_without (blocks live) (newest_blocks bs (snaps_in ks))) (is : later ≡ ks ++ k ∷ []) (bare : fresh ≡ []) (plain : IsPlain (arc_value k.dead)) where
  pub taken_accounted : AreAccounted bs later
  taken_accounted = subst (AreAccounted bs) (sym is)
      (accounted_more bs ks k each (record {
        dead = subst (λ m. Lists (map dead_block (arc_value k.dead).entries) (difference (newest_blocks bs (snaps_in ks)) (blocks m))) (sym map_is) own;
        plain = plain;
        written = written ∙ ap (λ m. size_without (blocks m) (newest_blocks bs (snaps_in ks))) (sym map_is);
      }))

  newest_it : newest_blocks bs (snaps_in later) ≡ blocks live
  newest_it = ap (λ l. newest_blocks bs (snaps_in l)) is ∙ newest_more bs ks k ∙ ap (λ m. blocks m) map_is

  pub taken_dead : Lists (map dead_block fresh) (difference (newest_blocks bs (snaps_in later)) (blocks live))
  taken_dead = subst (λ s. Lists (map dead_block fresh) (difference s (blocks live))) (sym newest_it)
      (subst (λ x. Lists (map dead_block x) (difference (blocks live) (blocks live))) (sym bare) (nothing_dead (blocks live)))

-- ---- by name

-- the snapshot of a name, among what is kept
pub find_snaps : (q : List ℕ) (ks : List Kept) → option_map (λ (k : Kept). k.snapshot) (find (λ k. same_name k.snapshot.name q) ks) ≡ find (λ t. same_name t.name q) (snaps_in ks)
find_snaps q [] = refl
find_snaps q (k ∷ ks) = by (same_name k.snapshot.name q) (find_snaps q ks)
  where
    by : (b : Bool) → option_map (λ (x : Kept). x.snapshot) (find (λ x. same_name x.snapshot.name q) ks) ≡ find (λ t. same_name t.name q) (snaps_in ks)
        → option_map (λ (x : Kept). x.snapshot) (cond b (Some k) (find (λ x. same_name x.snapshot.name q) ks)) ≡ cond b (Some k.snapshot) (find (λ t. same_name t.name q) (snaps_in ks))
    by true rest = refl
    by false rest = rest

-- how many blocks it has that the one before hasn't
pub written_named : (q : List ℕ) (bs : BlockSet) (ks : List Kept) → AreAccounted bs ks → option_map (λ (k : Kept). k.written) (find (λ k. same_name k.snapshot.name q) ks) ≡ written_from bs (snaps_in ks) q
written_named q bs [] each = refl
written_named q bs (k ∷ ks) each = by (same_name k.snapshot.name q) (written_named q (blocks k.snapshot.map) ks each.1)
  where
    by : (b : Bool) → option_map (λ (x : Kept). x.written) (find (λ x. same_name x.snapshot.name q) ks) ≡ written_from (blocks k.snapshot.map) (snaps_in ks) q
        → option_map (λ (x : Kept). x.written) (cond b (Some k) (find (λ x. same_name x.snapshot.name q) ks)) ≡ cond b (Some (size_without (blocks k.snapshot.map) bs)) (written_from (blocks k.snapshot.map) (snaps_in ks) q)
    by true rest = ap Some each.0.written
    by false rest = rest

-- ---- the newest

last_snap : (p : Option Kept) (ks : List Kept) → option_map (λ (k : Kept). k.snapshot) (last_or p ks) ≡ last_or (option_map (λ (k : Kept). k.snapshot) p) (snaps_in ks)
last_snap p [] = refl
last_snap p (k ∷ ks) = last_snap (Some k) ks

-- its group, by what a look at the last place gave
pub newest_group_is : (base : ℕ) (ks : List Kept) (p : Option Kept) → p ≡ slice_get ks (length ks - 1) → group_kept base p ≡ newest_group base (snaps_in ks)
newest_group_is base ks p is = ap (group_kept base) (is ∙ last_is ks) ∙ by (last_or None ks) ∙ ap (λ l. option_map_or (λ (t : Snap). t.group) l base) (last_snap None ks)
  where
    by : (l : Option Kept) → group_kept base l ≡ option_map_or (λ (t : Snap). t.group) (option_map (λ (k : Kept). k.snapshot) l) base
    by None = refl
    by (Some k) = refl

last_blocks : (bs : BlockSet) (k : Kept) (ks : List Kept) → newest_blocks (blocks k.snapshot.map) (snaps_in ks) ≡ blocks_kept bs (last_or (Some k) ks)
last_blocks bs k [] = refl
last_blocks bs k (x ∷ ks) = last_blocks bs x ks

-- its blocks
pub newest_blocks_are : (bs : BlockSet) (ks : List Kept) (p : Option Kept) → p ≡ slice_get ks (length ks - 1) → blocks_kept bs p ≡ newest_blocks bs (snaps_in ks)
newest_blocks_are bs ks p is = ap (blocks_kept bs) (is ∙ last_is ks) ∙ by ks
  where
    by : (l : List Kept) → blocks_kept bs (last_or None l) ≡ newest_blocks bs (snaps_in l)
    by [] = refl
    by (k ∷ l) = sym (last_blocks bs k l)

-- ---- what was written to the live map, by counts

-- a map's cells are as many as its blocks
pub count_is : (m : Map) → IsUnique m → set.len (blocks m) ≡ finmap.len m
count_is m u = len-blocks m u.one

-- by the counts of the map, of its dead list and of what stands before
pub written_counted : (live : Map) (below : BlockSet) (ds : List Dead) (n nodes long : ℕ) → IsUnique live → nodes ≡ finmap.len live
    → Lists (map dead_block ds) (difference below (blocks live)) → n ≡ set.len below → long ≡ length ds
    → (size_without (blocks live) below + n ≡ nodes + long) × (size_without (blocks live) below ≤ nodes)
written_counted live below ds n nodes long unique all own before many =
    let count = count_is live unique in
    let sum = written_is (blocks live) below (map dead_block ds) own in
    let few = written_few (blocks live) below in
    let listed = length-map ds dead_block in
    (omega arith, omega arith)

-- ---- a change of the live map

-- the dead list after it
pub dead_changed : (bs : BlockSet) (base : ℕ) (m new : Map) (c : Changes) (g young : ℕ) (states : List BlockState) (v : Shown) (is : IsChange m c g young states v) (unique : IsUnique m) (snaps : List Snap)
    (above : IsAbove bs base m snaps) (late : newest_group base snaps < young) (early : young ≤ g) (old later released : List Dead) (gained : HasGained old later released (newest_group base snaps))
    → v.released ≡ map dead_block released → v.new ≡ new
    → Lists (map dead_block old) (difference (newest_blocks bs snaps) (blocks m)) → Lists (map dead_block later) (difference (newest_blocks bs snaps) (blocks new))
dead_changed bs base m new c g young states v is unique snaps above late early old later released gained let_go to own =
    let newest = newest_group base snaps in
    let after = dead_after m c g young states v is unique.one (newest_blocks bs snaps) newest above.closed above.kept late early (map dead_block old) own in
    let same : map dead_block (old ++ filter (is_upto newest) released) ≡ map dead_block old ++ entries_upto newest v.released =
    map-append dead_block old (filter (is_upto newest) released)
    ∙ ap (λ l. map dead_block old ++ l) (map_filter dead_block (λ b. leb b.birth newest) released ∙ ap (entries_upto newest) (sym let_go)) in
    let longer : Lists (map dead_block (old ++ filter (is_upto newest) released)) (difference (newest_blocks bs snaps) (blocks new)) =
    subst (λ l. Lists l (difference (newest_blocks bs snaps) (blocks new))) (sym same)
    (subst (λ x. Lists (map dead_block old ++ entries_upto newest v.released) (difference (newest_blocks bs snaps) (blocks x))) to after) in
    lists_shuffled dead_block (old ++ filter (is_upto newest) released) later (difference (newest_blocks bs snaps) (blocks new)) gained longer

-- a list that gains nothing
pub none_gained : (es rs : List Dead) (newest : ℕ) → length (filter (is_upto newest) rs) ≡ 0 → HasGained es es rs newest
none_gained es rs newest none =
    let same : es ++ filter (is_upto newest) rs ≡ es = ap (λ l. es ++ l) (no_length (filter (is_upto newest) rs) none) ∙ append-nil es in
    subst (λ l. IsPermutation l es) (sym same) (IsPermutation-refl es)
  where
    no_length : (l : List Dead) → length l ≡ 0 → l ≡ []
    no_length [] e = refl
    no_length (x ∷ l) e = absurd (omega arith)

-- The snapshots of a file system, where one of them is changed but for its map.
use Rattle.std.proofs.Common.{◌≡◌, ◌≤◌, ℕ, zero, suc, Bool, true, false, cond, true≢false, None, List, [], ◌∷◌, map, set, Some, refl, sym, ap, subst, ◌∙◌, arith}
use Rattle.std.specs.Arc.{arc_value}
use Rattle.std.specs.FinSet.{difference}
use Rattle.std.specs.List.{find}
use Rattle.std.specs.Option.{option_map}
use Rattle.base.specs.Names.{same_name}
use Rattle.base.specs.Map.{BlockSet, blocks}
use Rattle.base.specs.Surveys.{dead_block}
use Rattle.deadlist.specs.Held.{Held}
use Rattle.model.specs.World.{Snap}
use Rattle.model.specs.Sums.{size_without}
use Rattle.snapshots.specs.declared.kept.Kept.{Kept}
use Rattle.world.specs.Deadlists.{Lists}
use Rattle.world.specs.Worlds.{AreRising}
use Rattle.file_system.specs.Dead.{snaps_in, newest_blocks, IsAccounted, AreAccounted, IsPlain}
use Rattle.file_system.specs.Deferred.{edited_if, IsEdited, edit_of, is_rename}
use Rattle.file_system.specs.declared.mark.SnapshotEdit.{SnapshotEdit}
use Rattle.file_system.specs.declared.mark.SnapshotEdit.TheVariants.{Defer, SetTags, SetName}
use Rattle.file_system.proofs.Stacks.{is_it, is_other, group_above}

-- ---- what an edit leaves

pub same_name_of : (e : SnapshotEdit) (t : Snap) → is_rename e ≡ false → (edit_of e t).name ≡ t.name
same_name_of Defer t same = refl
same_name_of (SetTags tags) t same = refl
same_name_of (SetName name) t same = absurd (true≢false same)

-- a name that it gives is nobody's
pub free_name_of : (e : SnapshotEdit) (ts : List Snap) (t : Snap) → ((name : List ℕ) → e ≡ SetName name → find (λ (t : Snap). same_name t.name name) ts ≡ None)
    → is_rename e ≡ true → find (λ (u : Snap). same_name u.name (edit_of e t).name) ts ≡ None
free_name_of Defer ts t free is = absurd (true≢false (sym is))
free_name_of (SetTags tags) ts t free is = absurd (true≢false (sym is))
free_name_of (SetName name) ts t free is = free name refl

-- so it is with what is kept of them
pub none_kept : (ks : List Kept) (name : List ℕ) → find (λ (t : Snap). same_name t.name name) (snaps_in ks) ≡ None → find (λ (k : Kept). same_name k.snapshot.name name) ks ≡ None
none_kept [] name e = refl
none_kept (k ∷ ks) name e = by_test (same_name k.snapshot.name name) e (none_kept ks name)
  where
    by_test : (b : Bool) → cond b (Some k.snapshot) (find (λ (t : Snap). same_name t.name name) (snaps_in ks)) ≡ None
        → (find (λ (t : Snap). same_name t.name name) (snaps_in ks) ≡ None → find (λ (k : Kept). same_name k.snapshot.name name) ks ≡ None)
        → cond b (Some k) (find (λ (k : Kept). same_name k.snapshot.name name) ks) ≡ None
    by_test true e rest = absurd cc
    by_test false e rest = rest e

pub same_map_of : (e : SnapshotEdit) (t : Snap) → (edit_of e t).map ≡ t.map
same_map_of Defer t = refl
same_map_of (SetTags tags) t = refl
same_map_of (SetName name) t = refl

-- ---- any change of one snapshot

-- the first of these, and what stands behind it
abbrev behind : (change : Snap → Snap) (k : Kept) (ks : List Kept) (i : ℕ) (next : Kept) → IsEdited change (k ∷ ks) (suc i) next → IsEdited change ks i next
behind change k ks i next is = record { now = is.now; there = is.there; snapshot = is.snapshot; dead = is.dead; written = is.written }

first_is : (change : Snap → Snap) (k : Kept) (ks : List Kept) (next : Kept) (is : IsEdited change (k ∷ ks) 0 next) → k ≡ is.now
first_is change k ks next is = cc

nothing_there : (change : Snap → Snap) (i : ℕ) (next : Kept) → IsEdited change [] i next → ⊥
nothing_there change zero next is = let e = is.there in cc
nothing_there change (suc i) next is = let e = is.there in cc

-- all stay as they are above a group
none_edited : (change : Snap → Snap) (low g : ℕ) (ts : List Snap) → AreRising low ts → g ≤ low → map (edited_if change g) ts ≡ ts
none_edited change low g [] up le = refl
none_edited change low g (t ∷ ts) up le =
    let l = up.0 in
    let it : edited_if change g t ≡ t = ap (λ b. cond b (change t) t) (is_other t.group g (λ e. absurd (omega arith))) in
    let rest = none_edited change t.group g ts up.1 (omega arith) in
    λ i. it i ∷ rest i

-- the snapshots, where the one that is changed has this group
pub edited_snaps : (change : Snap → Snap) (low g i : ℕ) (ks : List Kept) (next : Kept) (is : IsEdited change ks i next) → AreRising low (snaps_in ks) → is.now.snapshot.group ≡ g
    → snaps_in (set ks i next) ≡ map (edited_if change g) (snaps_in ks)
edited_snaps change low g i [] next is up at = absurd (nothing_there change i next is)
edited_snaps change low g zero (k ∷ ks) next is up at =
    let first = first_is change k ks next is in
    let same : k.snapshot.group ≡ g = ap (λ (x : Kept). x.snapshot.group) first ∙ at in
    let it : next.snapshot ≡ edited_if change g k.snapshot =
    is.snapshot ∙ ap (λ (x : Kept). change x.snapshot) (sym first)
    ∙ sym (ap (λ b. cond b (change k.snapshot) k.snapshot) (is_it k.snapshot.group g same)) in
    let rest = none_edited change k.snapshot.group g (snaps_in ks) up.1 (omega arith) in
    λ j. it j ∷ sym rest j
edited_snaps change low g (suc i) (k ∷ ks) next is up at =
    let l = group_above k.snapshot.group g i ks up.1 (ap (λ o. option_map (λ (x : Kept). x.snapshot.group) o) is.there ∙ ap Some at) in
    let other : k.snapshot ≡ edited_if change g k.snapshot =
    sym (ap (λ b. cond b (change k.snapshot) k.snapshot) (is_other k.snapshot.group g (λ e. absurd (omega arith)))) in
    let rest = edited_snaps change k.snapshot.group g i ks next (behind change k ks i next is) up.1 at in
    λ j. other j ∷ rest j

-- ---- a change that leaves the map

-- what is the same is accounted for as before
it_accounted : (bs : BlockSet) (now next : Kept) → next.snapshot.map ≡ now.snapshot.map → arc_value next.dead ≡ arc_value now.dead → next.written ≡ now.written → IsAccounted bs now → IsAccounted bs next
it_accounted bs now next map_is dead written a = record {
  dead = subst (λ m. Lists (map dead_block (arc_value next.dead).entries) (difference bs (blocks m))) (sym map_is)
      (subst (λ (h : Held). Lists (map dead_block h.entries) (difference bs (blocks now.snapshot.map))) (sym dead) a.dead);
  plain = subst IsPlain (sym dead) a.plain;
  written = written ∙ a.written ∙ ap (λ m. size_without (blocks m) bs) (sym map_is);
}

module _ (change : Snap → Snap) (same_map : (t : Snap) → (change t).map ≡ t.map) where
  its_map : (ks : List Kept) (i : ℕ) (next : Kept) (is : IsEdited change ks i next) → next.snapshot.map ≡ is.now.snapshot.map
  its_map ks i next is = ap (λ (t : Snap). t.map) is.snapshot ∙ same_map is.now.snapshot

  first_map : (k : Kept) (ks : List Kept) (next : Kept) → IsEdited change (k ∷ ks) 0 next → next.snapshot.map ≡ k.snapshot.map
  first_map k ks next is = its_map (k ∷ ks) 0 next is ∙ ap (λ (x : Kept). x.snapshot.map) (sym (first_is change k ks next is))

  -- each is accounted for as before
  pub edited_accounted : (bs : BlockSet) (ks : List Kept) (i : ℕ) (next : Kept) → IsEdited change ks i next → AreAccounted bs ks → AreAccounted bs (set ks i next)
  edited_accounted bs [] i next is each = absurd (nothing_there change i next is)
  edited_accounted bs (k ∷ ks) zero next is each = (
    it_accounted bs is.now next (its_map (k ∷ ks) 0 next is) is.dead is.written (subst (IsAccounted bs) (first_is change k ks next is) each.0),
    subst (λ m. AreAccounted (blocks m) ks) (sym (first_map k ks next is)) each.1,
  )
  edited_accounted bs (k ∷ ks) (suc i) next is each = (each.0, edited_accounted (blocks k.snapshot.map) ks i next (behind change k ks i next is) each.1)

  -- and the newest has the blocks that it had
  pub edited_newest : (bs : BlockSet) (ks : List Kept) (i : ℕ) (next : Kept) → IsEdited change ks i next → newest_blocks bs (snaps_in (set ks i next)) ≡ newest_blocks bs (snaps_in ks)
  edited_newest bs [] i next is = absurd (nothing_there change i next is)
  edited_newest bs (k ∷ ks) zero next is = ap (λ m. newest_blocks (blocks m) (snaps_in ks)) (first_map k ks next is)
  edited_newest bs (k ∷ ks) (suc i) next is = edited_newest (blocks k.snapshot.map) ks i next (behind change k ks i next is)

  -- nor does any map change
  pub edited_maps : (ks : List Kept) (i : ℕ) (next : Kept) → IsEdited change ks i next → map (λ (t : Snap). t.map) (snaps_in ks) ≡ map (λ (t : Snap). t.map) (snaps_in (set ks i next))
  edited_maps [] i next is = absurd (nothing_there change i next is)
  edited_maps (k ∷ ks) zero next is = ap (λ m. m ∷ map (λ (t : Snap). t.map) (snaps_in ks)) (sym (first_map k ks next is))
  edited_maps (k ∷ ks) (suc i) next is = ap (λ l. k.snapshot.map ∷ l) (edited_maps ks i next (behind change k ks i next is))

-- The snapshots of a file system with one of them gone.
use Rattle.std.proofs.Common.{◌≡◌, ◌≤◌, ◌<◌, ◌+◌, ℕ, zero, suc, Bool, true, false, cond, List, [], ◌∷◌, ◌++◌, map, length, take, drop, set, slice_get, Option, Some, None, is_some, true≢false, refl, sym, ap, subst, ◌∙◌, inl, inr, arith, add-one, get_or, leb, ltb}
use Rattle.std.specs.Prelude.{filter, not, remove, ◌==◌, ◌&&◌, nat_lt}
use Rattle.std.specs.Cmp.Lexicographic.{same_text}
use Rattle.std.specs.List.{find, last_or}
use Rattle.std.specs.List.Sorted.{IsPartitionedBy, IsPartitionPoint}
use Rattle.std.specs.Option.{option_map, option_map_or}
use Rattle.std.specs.FinSet.{difference}
use Rattle.std.specs.Arc.{arc_value}
use Rattle.std.proofs.lemmas.Bool.Decides.{nat_tests}
use Rattle.std.proofs.lemmas.List.{map-append}
use Rattle.base.specs.Map.{Map, Block, BlockSet, blocks}
use Rattle.base.specs.Surveys.{IsIn, dead_block}
use Rattle.base.specs.declared.number.Dead.{Dead}
use Rattle.deadlist.specs.Entries.{is_upto}
use Rattle.base.specs.Names.{same_name}
use Rattle.model.specs.World.{Snap, SnapId, FileSystem, id_of, same_id}
use Rattle.snapshots.specs.declared.kept.Kept.{Kept}
use Rattle.snapshots.specs.Index.{AreNamesOnce}
use Rattle.world.specs.Sets.{Has}
use Rattle.world.specs.Deadlists.{Lists, entries_upto}
use Rattle.world.specs.Worlds.{AreRising}
use Rattle.world.proofs.lineage.Shuffled.{lists_shuffled}
use Rattle.file_system.specs.Dead.{snaps_in, newest_blocks, blocks_kept, group_kept, IsAbove, IsAccounted, AreAccounted, AreUncut}
use Rattle.file_system.specs.Splices.{oldest_blocks, lost_from, blocks_before, AreStacked, AreAbove, AreJoined, CanJoin, IsNext}
use Rattle.file_system.specs.Origins.{origin_group}
use Rattle.file_system.specs.Writes.{newest_group}
use Rattle.snapshots.proofs.Splices.{after_it}
use Rattle.file_system.proofs.Newest.{last_is}
use Rattle.file_system.proofs.Accounts.{newest_group_is, newest_blocks_are}
use Rattle.file_system.proofs.Releases.{map_filter}
use Rattle.file_system.proofs.Splices.{dead_joined, dead_lost}

-- ---- groups that rise

pub is_it : (n m : ℕ) → n ≡ m → (n == m) ≡ true
is_it n m e = grind (arith, nat_tests)

pub is_other : (n m : ℕ) → (n ≡ m → ⊥) → (n == m) ≡ false
is_other n m e = grind (arith, nat_tests)

-- above a lower group too
pub rising_from : (low base : ℕ) (ts : List Snap) → low ≤ base → AreRising base ts → AreRising low ts
rising_from low base [] le up = tt
rising_from low base (t ∷ ts) le up = let l = up.0 in (omega arith, up.1)

-- none has a group below them
none_above : (low g : ℕ) (ts : List Snap) → AreRising low ts → g ≤ low → find (λ (t : Snap). t.group == g) ts ≡ None
none_above low g [] up le = refl
none_above low g (t ∷ ts) up le =
    let l = up.0 in
    ap (λ b. cond b (Some t) (find (λ (u : Snap). u.group == g) ts)) (is_other t.group g (λ e. absurd (omega arith))) ∙ none_above t.group g ts up.1 (omega arith)

-- all stay where one of a lower group goes
pub all_above : (low g : ℕ) (ts : List Snap) → AreRising low ts → g ≤ low → filter (λ (t : Snap). not (t.group == g)) ts ≡ ts
all_above low g [] up le = refl
all_above low g (t ∷ ts) up le =
    let l = up.0 in
    ap (λ b. cond (not b) (t ∷ filter (λ (u : Snap). not (u.group == g)) ts) (filter (λ (u : Snap). not (u.group == g)) ts)) (is_other t.group g (λ e. absurd (omega arith)))
    ∙ ap (λ l. t ∷ l) (all_above t.group g ts up.1 (omega arith))

pub nothing_at : (i g : ℕ) → option_map (λ (k : Kept). k.snapshot.group) (slice_get [] i) ≡ Some g → ⊥
nothing_at zero g e = cc
nothing_at (suc i) g e = cc

-- the group at a place is above what they are above
pub group_above : (low g i : ℕ) (ks : List Kept) → AreRising low (snaps_in ks) → option_map (λ (k : Kept). k.snapshot.group) (slice_get ks i) ≡ Some g → low < g
group_above low g i [] up e = absurd (nothing_at i g e)
group_above low g zero (k ∷ ks) up e = let same : k.snapshot.group ≡ g = cc in let l = up.0 in omega arith
group_above low g (suc i) (k ∷ ks) up e = let l = up.0 in let m = group_above k.snapshot.group g i ks up.1 e in omega arith

-- the others, where the one at a place goes
pub others_stay : (low g i : ℕ) (ks : List Kept) → AreRising low (snaps_in ks) → option_map (λ (k : Kept). k.snapshot.group) (slice_get ks i) ≡ Some g
    → snaps_in (remove ks i) ≡ filter (λ (t : Snap). not (t.group == g)) (snaps_in ks)
others_stay low g i [] up e = absurd (nothing_at i g e)
others_stay low g zero (k ∷ ks) up e =
    let same : k.snapshot.group ≡ g = cc in
    sym (ap (λ b. cond (not b) (k.snapshot ∷ filter (λ (u : Snap). not (u.group == g)) (snaps_in ks)) (filter (λ (u : Snap). not (u.group == g)) (snaps_in ks))) (is_it k.snapshot.group g same)
    ∙ all_above k.snapshot.group g (snaps_in ks) up.1 (omega arith))
others_stay low g (suc i) (k ∷ ks) up e =
    let l = group_above k.snapshot.group g i ks up.1 e in
    ap (λ l. k.snapshot ∷ l) (others_stay k.snapshot.group g i ks up.1 e)
    ∙ sym (ap (λ b. cond (not b) (k.snapshot ∷ filter (λ (u : Snap). not (u.group == g)) (snaps_in ks)) (filter (λ (u : Snap). not (u.group == g)) (snaps_in ks))) (is_other k.snapshot.group g (λ e. absurd (omega arith))))

-- where a search by the group ends
pub place_found : (low g i : ℕ) (ks : List Kept) → AreRising low (snaps_in ks)
    → IsPartitionPoint (λ (k : Kept). nat_lt k.snapshot.group g ≡ true) (λ (k : Kept). nat_lt k.snapshot.group g ≡ false) ks i
    → is_some (find (λ (t : Snap). t.group == g) (snaps_in ks)) ≡ true → option_map (λ (k : Kept). k.snapshot.group) (slice_get ks i) ≡ Some g
place_found low g i [] up point there = absurd (true≢false (sym there))
place_found low g zero (k ∷ ks) up point there =
    let high : nat_lt k.snapshot.group g ≡ false = point.1 zero k (omega arith) (omega arith) in
    by (k.snapshot.group == g) refl high there
  where
    by : (b : Bool) → (k.snapshot.group == g) ≡ b → nat_lt k.snapshot.group g ≡ false → is_some (cond b (Some k.snapshot) (find (λ (t : Snap). t.group == g) (snaps_in ks))) ≡ true → Some k.snapshot.group ≡ Some g
    by true e high h = ap Some (grind (arith, nat_tests))
    by false e high h =
        let over : g ≤ k.snapshot.group = grind (arith, nat_tests) in
        absurd (true≢false (sym h ∙ ap is_some (none_above k.snapshot.group g (snaps_in ks) up.1 over)))
place_found low g (suc i) (k ∷ ks) up point there =
    let under : nat_lt k.snapshot.group g ≡ true = point.0 zero k (omega arith) (omega arith) in
    let other : (k.snapshot.group == g) ≡ false = grind (arith, nat_tests) in
    place_found k.snapshot.group g i ks up.1 (λ j d l m. point.0 (suc j) d (omega arith) (omega arith), λ j d l m. point.1 (suc j) d (omega arith) (omega arith))
    (subst (λ b. is_some (cond b (Some k.snapshot) (find (λ (t : Snap). t.group == g) (snaps_in ks))) ≡ true) other there)

-- those of lower groups come first
pub parted : (low g : ℕ) (ks : List Kept) → AreRising low (snaps_in ks) → IsPartitionedBy (λ (k : Kept). nat_lt k.snapshot.group g) ks
parted low g [] up i j d le lt e = absurd (omega arith)
parted low g (k ∷ ks) up zero zero d le lt e = e
parted low g (k ∷ ks) up zero (suc j) d le lt e =
    let l = at_place k.snapshot.group j ks up.1 d (omega arith) in
    grind (arith, nat_tests)
  where
    at_place : (low j : ℕ) (ks : List Kept) → AreRising low (snaps_in ks) → (d : Kept) → j < length ks → low < (get_or ks j d).snapshot.group
    at_place low j [] up d lt = absurd (omega arith)
    at_place low zero (x ∷ ks) up d lt = up.0
    at_place low (suc j) (x ∷ ks) up d lt = let l = up.0 in let m = at_place x.snapshot.group j ks up.1 d (omega arith) in omega arith
parted low g (k ∷ ks) up (suc i) zero d le lt e = absurd (omega arith)
parted low g (k ∷ ks) up (suc i) (suc j) d le lt e = parted k.snapshot.group g ks up.1 i j d (omega arith) (omega arith) e

-- a snapshot of another group has another identity
other_group : (t : Snap) (id : SnapId) → (t.group ≡ id.group → ⊥) → same_id (id_of t) id ≡ false
other_group t id ne = ap (λ b. b && (t.guid == id.guid)) (is_other t.group id.group ne)

none_of_id : (low : ℕ) (id : SnapId) (ts : List Snap) → AreRising low ts → id.group ≤ low → find (λ (t : Snap). same_id (id_of t) id) ts ≡ None
none_of_id low id [] up le = refl
none_of_id low id (t ∷ ts) up le =
    let l = up.0 in
    ap (λ b. cond b (Some t) (find (λ (u : Snap). same_id (id_of u) id) ts)) (other_group t id (λ e. absurd (omega arith))) ∙ none_of_id t.group id ts up.1 (omega arith)

-- what the place of a group tells of an identity
unfoldable pub id_at : SnapId → Option Kept → Option Snap
id_at id None = None
id_at id (Some k) = cond (same_id (id_of k.snapshot) id) (Some k.snapshot) None

-- where the groups are no longer below it, the snapshot of an identity stands, or it isn't there
pub id_found : (low i : ℕ) (id : SnapId) (ks : List Kept) → AreRising low (snaps_in ks)
    → IsPartitionPoint (λ (k : Kept). nat_lt k.snapshot.group id.group ≡ true) (λ (k : Kept). nat_lt k.snapshot.group id.group ≡ false) ks i
    → find (λ (t : Snap). same_id (id_of t) id) (snaps_in ks) ≡ id_at id (slice_get ks i)
unfolding id_at
id_found low zero id [] up point = refl
id_found low (suc i) id [] up point = refl
id_found low zero id (k ∷ ks) up point =
    let high : nat_lt k.snapshot.group id.group ≡ false = point.1 zero k (omega arith) (omega arith) in
    let over : id.group ≤ k.snapshot.group = grind (arith, nat_tests) in
    ap (λ l. cond (same_id (id_of k.snapshot) id) (Some k.snapshot) l) (none_of_id k.snapshot.group id (snaps_in ks) up.1 over)
id_found low (suc i) id (k ∷ ks) up point =
    let under : nat_lt k.snapshot.group id.group ≡ true = point.0 zero k (omega arith) (omega arith) in
    let below : k.snapshot.group < id.group = grind (arith, nat_tests) in
    ap (λ b. cond b (Some k.snapshot) (find (λ (t : Snap). same_id (id_of t) id) (snaps_in ks))) (other_group k.snapshot id (λ e. absurd (omega arith)))
    ∙ id_found k.snapshot.group i id ks up.1 (λ j d l m. point.0 (suc j) d (omega arith) (omega arith), λ j d l m. point.1 (suc j) d (omega arith) (omega arith))

-- ---- names

none_named : (low : ℕ) (q : List ℕ) (ks : List Kept) → AreRising low (snaps_in ks) → ((t : Snap) → IsIn (snaps_in ks) t → t.name ≡ q → t.group ≡ low)
    → find (λ (k : Kept). same_name k.snapshot.name q) ks ≡ None
none_named low q ks up each = by ks low up each (λ t i l. l)
  where
    by : (ks : List Kept) (g : ℕ) → AreRising g (snaps_in ks) → ((t : Snap) → IsIn (snaps_in ks) t → t.name ≡ q → t.group ≡ low) → ((t : Snap) → IsIn (snaps_in ks) t → g < t.group → low < t.group)
        → find (λ (k : Kept). same_name k.snapshot.name q) ks ≡ None
    by [] g up each over = refl
    by (k ∷ ks) g up each over =
        let first = over k.snapshot (inl refl) up.0 in
        named (same_name k.snapshot.name q) refl (by ks k.snapshot.group up.1 (λ t i. each t (inr i)) (λ t i l. omega arith))
      where
        named : (b : Bool) → same_name k.snapshot.name q ≡ b → find (λ (x : Kept). same_name x.snapshot.name q) ks ≡ None → cond b (Some k) (find (λ (x : Kept). same_name x.snapshot.name q) ks) ≡ None
        named true e rest =
            let same = each k.snapshot (inl refl) (same_text k.snapshot.name q (sym e)) in
            let first = over k.snapshot (inl refl) up.0 in
            absurd (omega arith)
        named false e rest = rest

-- a name is one snapshot's
pub names_once : (low : ℕ) (ks : List Kept) → AreRising low (snaps_in ks) → ((t u : Snap) → IsIn (snaps_in ks) t → IsIn (snaps_in ks) u → t.name ≡ u.name → t ≡ u) → AreNamesOnce ks
names_once low [] up names = tt
names_once low (k ∷ ks) up names = (
  none_named k.snapshot.group k.snapshot.name ks up.1 (λ t i e. ap (λ (x : Snap). x.group) (names t k.snapshot (inr i) (inl refl) e)),
  names_once k.snapshot.group ks up.1 (λ t u i j. names t u (inr i) (inr j)),
)

-- ---- a place among them

pub no_item : (i : ℕ) (k : Kept) → slice_get {X = Kept} [] i ≡ Some k → ⊥
no_item i k e = cc

-- what stands there has what is told of its place
pub some_group : (o : Option Kept) (g : ℕ) → option_map (λ (k : Kept). k.snapshot.group) o ≡ Some g → (k : Kept) × (o ≡ Some k) × (k.snapshot.group ≡ g)
some_group None g e = absurd (cc)
some_group (Some k) g e = (k, refl, cc)

pub inside_at : (ks : List Kept) (i : ℕ) (k : Kept) → slice_get ks i ≡ Some k → i < length ks
inside_at [] i k e = absurd (no_item i k e)
inside_at (x ∷ ks) zero k e = omega arith
inside_at (x ∷ ks) (suc i) k e = let l = inside_at ks i k e in omega arith

pub some_at : (ks : List Kept) (i : ℕ) → i < length ks → (k : Kept) × (slice_get ks i ≡ Some k)
some_at [] i lt = absurd (omega arith)
some_at (x ∷ ks) zero lt = (x, refl)
some_at (x ∷ ks) (suc i) lt = some_at ks i (omega arith)

snaps_split : (ks : List Kept) (i : ℕ) (t : Kept) → slice_get ks i ≡ Some t → snaps_in ks ≡ snaps_in (take i ks) ++ t.snapshot ∷ snaps_in (drop (suc i) ks)
snaps_split [] i t e = absurd (no_item i t e)
snaps_split (k ∷ ks) zero t e = let same : k ≡ t = cc in ap (λ (x : Kept). x.snapshot ∷ snaps_in ks) same
snaps_split (k ∷ ks) (suc i) t e = ap (λ l. k.snapshot ∷ l) (snaps_split ks i t e)

-- its group is above that of what stands before it
base_below : (base : ℕ) (p : Option Snap) (ks : List Kept) (i : ℕ) (t : Kept) → AreRising (option_map_or (λ (x : Snap). x.group) p base) (snaps_in ks) → slice_get ks i ≡ Some t
    → option_map_or (λ (x : Snap). x.group) (last_or p (snaps_in (take i ks))) base < t.snapshot.group
base_below base p [] i t up e = absurd (no_item i t e)
base_below base p (k ∷ ks) zero t up e = let same : k ≡ t = cc in subst (λ (x : Kept). option_map_or (λ (x : Snap). x.group) p base < x.snapshot.group) same up.0
base_below base p (k ∷ ks) (suc i) t up e = base_below base (Some k.snapshot) ks i t up.1 e

-- it is the newest of those up to it
pub newest_taken : (bs : BlockSet) (ks : List Kept) (i : ℕ) (t : Kept) → slice_get ks i ≡ Some t → newest_blocks bs (snaps_in (take (suc i) ks)) ≡ blocks t.snapshot.map
newest_taken bs [] i t e = absurd (no_item i t e)
newest_taken bs (k ∷ ks) zero t e = let same : k ≡ t = cc in ap (λ (x : Kept). blocks x.snapshot.map) same
newest_taken bs (k ∷ ks) (suc i) t e = newest_taken (blocks k.snapshot.map) ks i t e

group_taken : (base : ℕ) (p : Option Snap) (ks : List Kept) (i : ℕ) (t : Kept) → slice_get ks i ≡ Some t → option_map_or (λ (x : Snap). x.group) (last_or p (snaps_in (take (suc i) ks))) base ≡ t.snapshot.group
group_taken base p [] i t e = absurd (no_item i t e)
group_taken base p (k ∷ ks) zero t e = let same : k ≡ t = cc in ap (λ (x : Kept). x.snapshot.group) same
group_taken base p (k ∷ ks) (suc i) t e = group_taken base (Some k.snapshot) ks i t e

taken_all : (ks : List Kept) (i : ℕ) → suc i ≡ length ks → take (suc i) ks ≡ ks
taken_all [] i e = absurd (omega arith)
taken_all (k ∷ []) zero e = refl
taken_all (k ∷ x ∷ ks) zero e = absurd (omega arith)
taken_all (k ∷ ks) (suc i) e = ap (λ l. k ∷ l) (taken_all ks i (omega arith))

-- none of their dead lists is cut
pub are_uncut : (bs : BlockSet) (ks : List Kept) → AreAccounted bs ks → AreUncut ks
are_uncut bs [] each = tt
are_uncut bs (k ∷ ks) each = (each.0.plain.uncut, are_uncut (blocks k.snapshot.map) ks each.1)

pub uncut_at : (ks : List Kept) (i : ℕ) (k : Kept) → AreUncut ks → slice_get ks i ≡ Some k → (arc_value k.dead).cuts ≡ []
uncut_at [] i k each e = absurd (no_item i k e)
uncut_at (j ∷ ks) zero k each e = let same : j ≡ k = cc in subst (λ (x : Kept). (arc_value x.dead).cuts ≡ []) same each.0
uncut_at (j ∷ ks) (suc i) k each e = uncut_at ks i k each.1 e

accounted_at : (bs : BlockSet) (ks : List Kept) (i : ℕ) (t : Kept) → AreAccounted bs ks → slice_get ks i ≡ Some t → IsAccounted (newest_blocks bs (snaps_in (take i ks))) t
accounted_at bs [] i t each e = absurd (no_item i t e)
accounted_at bs (k ∷ ks) zero t each e = let same : k ≡ t = cc in subst (IsAccounted bs) same each.0
accounted_at bs (k ∷ ks) (suc i) t each e = accounted_at (blocks k.snapshot.map) ks i t each.1 e

-- ---- without it

-- the one after it has the snapshot that it had
pub same_snaps : (ks : List Kept) (i : ℕ) (n later : Kept) → slice_get ks i ≡ Some n → later.snapshot ≡ n.snapshot → snaps_in (set ks i later) ≡ snaps_in ks
same_snaps [] i n later e s = absurd (no_item i n e)
same_snaps (k ∷ ks) zero n later e s = let same : k ≡ n = cc in ap (λ t. t ∷ snaps_in ks) (s ∙ ap (λ (x : Kept). x.snapshot) (sym same))
same_snaps (k ∷ ks) (suc i) n later e s = ap (λ l. k.snapshot ∷ l) (same_snaps ks i n later e s)

accounted_next : (bs : BlockSet) (ks : List Kept) (i : ℕ) (n later : Kept) → AreAccounted bs ks → slice_get ks (suc i) ≡ Some n → later.snapshot ≡ n.snapshot
    → IsAccounted (newest_blocks bs (snaps_in (take i ks))) later → AreAccounted bs (set (remove ks i) i later)
accounted_next bs [] i n later each e s own = absurd (no_item (suc i) n e)
accounted_next bs (k ∷ []) zero n later each e s own = absurd (no_item zero n e)
accounted_next bs (k ∷ x ∷ ks) zero n later each e s own =
    let same : x ≡ n = cc in
    (own, subst (λ (t : Snap). AreAccounted (blocks t.map) ks) (ap (λ (y : Kept). y.snapshot) same ∙ sym s) each.1.1)
accounted_next bs (k ∷ ks) (suc i) n later each e s own = (each.0, accounted_next (blocks k.snapshot.map) ks i n later each.1 e s own)

newest_stays : (bs : BlockSet) (ks : List Kept) (i : ℕ) → suc i < length ks → newest_blocks bs (snaps_in (remove ks i)) ≡ newest_blocks bs (snaps_in ks)
newest_stays bs [] i lt = absurd (omega arith)
newest_stays bs (k ∷ []) zero lt = absurd (omega arith)
newest_stays bs (k ∷ x ∷ ks) zero lt = refl
newest_stays bs (k ∷ ks) (suc i) lt = newest_stays (blocks k.snapshot.map) ks i (omega arith)

removed_last : (ks : List Kept) (i : ℕ) → suc i ≡ length ks → remove ks i ≡ take i ks
removed_last [] i e = absurd (omega arith)
removed_last (k ∷ []) zero e = refl
removed_last (k ∷ x ∷ ks) zero e = absurd (omega arith)
removed_last (k ∷ ks) (suc i) e = ap (λ l. k ∷ l) (removed_last ks i (omega arith))

accounted_taken : (bs : BlockSet) (ks : List Kept) (i : ℕ) → AreAccounted bs ks → AreAccounted bs (take i ks)
accounted_taken bs ks zero each = tt
accounted_taken bs [] (suc i) each = tt
accounted_taken bs (k ∷ ks) (suc i) each = (each.0, accounted_taken (blocks k.snapshot.map) ks i each.1)

-- ---- what is lost

pub lost_at : (low g : ℕ) (bs : BlockSet) (ks : List Kept) (i : ℕ) (t : Kept) (live : Map) → AreRising low (snaps_in ks) → slice_get ks i ≡ Some t → t.snapshot.group ≡ g
    → lost_from bs (snaps_in ks) live g ≡ difference (difference (blocks t.snapshot.map) (newest_blocks bs (snaps_in (take i ks)))) (oldest_blocks live (snaps_in (drop (suc i) ks)))
lost_at low g bs [] i t live up e is = absurd (no_item i t e)
lost_at low g bs (k ∷ ks) zero t live up e is =
    let same : k ≡ t = cc in
    ap (λ b. cond b (difference (difference (blocks k.snapshot.map) bs) (oldest_blocks live (snaps_in ks))) (lost_from (blocks k.snapshot.map) (snaps_in ks) live g))
    (is_it k.snapshot.group g (ap (λ (x : Kept). x.snapshot.group) same ∙ is))
    ∙ ap (λ (x : Kept). difference (difference (blocks x.snapshot.map) bs) (oldest_blocks live (snaps_in ks))) same
lost_at low g bs (k ∷ ks) (suc i) t live up e is =
    let l = group_above k.snapshot.group g i ks up.1 (ap (option_map (λ (x : Kept). x.snapshot.group)) e ∙ ap Some is) in
    ap (λ b. cond b (difference (difference (blocks k.snapshot.map) bs) (oldest_blocks live (snaps_in ks))) (lost_from (blocks k.snapshot.map) (snaps_in ks) live g))
    (is_other k.snapshot.group g (λ x. absurd (omega arith)))
    ∙ lost_at k.snapshot.group g (blocks k.snapshot.map) ks i t live up.1 e is

pub oldest_next : (live : Map) (ks : List Kept) (i : ℕ) (n : Kept) → slice_get ks (suc i) ≡ Some n → oldest_blocks live (snaps_in (drop (suc i) ks)) ≡ blocks n.snapshot.map
oldest_next live [] i n e = absurd (no_item (suc i) n e)
oldest_next live (k ∷ []) zero n e = absurd (no_item zero n e)
oldest_next live (k ∷ x ∷ ks) zero n e = let same : x ≡ n = cc in ap (λ (y : Kept). blocks y.snapshot.map) same
oldest_next live (k ∷ ks) (suc i) n e = oldest_next live ks i n e

oldest_live : (live : Map) (ks : List Kept) (i : ℕ) → suc i ≡ length ks → oldest_blocks live (snaps_in (drop (suc i) ks)) ≡ blocks live
oldest_live live [] i e = absurd (omega arith)
oldest_live live (k ∷ []) zero e = refl
oldest_live live (k ∷ x ∷ ks) zero e = absurd (omega arith)
oldest_live live (k ∷ ks) (suc i) e = oldest_live live ks i (omega arith)

-- ---- the dead lists

-- of what comes after the snapshot at a place
module _ (bs : BlockSet) (bottom : ℕ) (ks : List Kept) (i : ℕ) (next new lost : List Dead) (j : AreJoined bottom ks i next new lost) (accounted : AreAccounted bs ks)
    (rising : AreRising bottom (snaps_in ks)) (each : AreStacked bs bottom (snaps_in ks))
    (after : BlockSet) (kept : (b : Block) → Has after b → b.birth ≤ j.gone.snapshot.group → Has (blocks j.gone.snapshot.map) b)
    (its : Lists (map dead_block next) (difference (blocks j.gone.snapshot.map) after)) where
  abbrev base : ℕ
  base = newest_group bottom (snaps_in (take i ks))

  above : IsAbove bs bottom j.gone.snapshot.map (snaps_in (take i ks))
  above = each (snaps_in (take i ks)) (snaps_in (drop (suc i) ks)) j.gone.snapshot (snaps_split ks i j.gone j.there)

  own : Lists (map dead_block (arc_value j.gone.dead).entries) (difference (blocks_before bs ks i) (blocks j.gone.snapshot.map))
  own = (accounted_at bs ks i j.gone accounted j.there).dead

  rises : base < j.gone.snapshot.group
  rises = base_below bottom None ks i j.gone rising j.there

  spelled : map dead_block ((arc_value j.gone.dead).entries ++ filter (is_upto base) next) ≡ map dead_block (arc_value j.gone.dead).entries ++ entries_upto base (map dead_block next)
  spelled =
      map-append dead_block (arc_value j.gone.dead).entries (filter (is_upto base) next)
      ∙ ap (λ l. map dead_block (arc_value j.gone.dead).entries ++ l) (map_filter dead_block (λ b. leb b.birth base) next)

  pub joined_dead : Lists (map dead_block new) (difference (blocks_before bs ks i) after)
  joined_dead = lists_shuffled dead_block ((arc_value j.gone.dead).entries ++ filter (is_upto base) next) new (difference (blocks_before bs ks i) after) j.joined
      (subst (λ l. Lists l (difference (blocks_before bs ks i) after)) (sym spelled)
      (dead_joined (blocks_before bs ks i) (blocks j.gone.snapshot.map) after base j.gone.snapshot.group above.closed rises above.kept kept (map dead_block (arc_value j.gone.dead).entries) (map dead_block next) own its))

  pub joined_lost : Lists (map dead_block lost) (difference (difference (blocks j.gone.snapshot.map) (blocks_before bs ks i)) after)
  joined_lost = subst (λ l. Lists l (difference (difference (blocks j.gone.snapshot.map) (blocks_before bs ks i)) after))
      (sym (ap (map dead_block) j.rest ∙ map_filter dead_block (λ b. ltb base b.birth) next))
      (dead_lost (blocks_before bs ks i) (blocks j.gone.snapshot.map) after base j.gone.snapshot.group above.closed rises above.kept kept (map dead_block (arc_value j.gone.dead).entries) (map dead_block next) own its)

-- what stands before a place
pub before_is : (p : Option Kept) (ks : List Kept) (i : ℕ) → i < length ks → slice_get ks i ≡ last_or p (take (suc i) ks)
before_is p [] i lt = absurd (omega arith)
before_is p (k ∷ ks) zero lt = refl
before_is p (k ∷ ks) (suc i) lt = before_is (Some k) ks i (omega arith)

-- ---- the groups, the counts

-- one goes
pub one_fewer : (low g : ℕ) (ts : List Snap) → AreRising low ts → is_some (find (λ (t : Snap). t.group == g) ts) ≡ true → length (filter (λ (t : Snap). not (t.group == g)) ts) + 1 ≡ length ts
one_fewer low g [] up there = absurd (true≢false (sym there))
one_fewer low g (t ∷ ts) up there = by (t.group == g) refl there (one_fewer t.group g ts up.1)
  where
    by : (b : Bool) → (t.group == g) ≡ b → is_some (cond b (Some t) (find (λ (u : Snap). u.group == g) ts)) ≡ true
        → (is_some (find (λ (u : Snap). u.group == g) ts) ≡ true → length (filter (λ (u : Snap). not (u.group == g)) ts) + 1 ≡ length ts)
        → length (cond (not b) (t ∷ filter (λ (u : Snap). not (u.group == g)) ts) (filter (λ (u : Snap). not (u.group == g)) ts)) + 1 ≡ length (t ∷ ts)
    by true e h rest_of =
        let same : t.group ≡ g = grind (arith, nat_tests) in
        let rest = ap length (all_above t.group g ts up.1 (omega arith)) in
        omega arith
    by false e h rest_of = let rest = rest_of h in omega arith

-- its group, as told of it and of its snapshot
pub base_is : (base : ℕ) (ks : List Kept) → group_kept base (last_or None ks) ≡ newest_group base (snaps_in ks)
base_is base ks = newest_group_is base ks (last_or None ks) (sym (last_is ks))

-- its blocks
pub before_blocks : (bs : BlockSet) (ks : List Kept) (i : ℕ) → blocks_kept bs (last_or None (take i ks)) ≡ blocks_before bs ks i
before_blocks bs ks i = newest_blocks_are bs (take i ks) (last_or None (take i ks)) (sym (last_is (take i ks)))

-- ---- between two snapshots

module _ (bs : BlockSet) (bottom : ℕ) (ks : List Kept) (i : ℕ) (can : CanJoin bs bottom ks i) (n : Kept) (at : slice_get ks (i + 1) ≡ Some n) (next new lost : List Dead)
    (is : next ≡ (arc_value n.dead).entries) (j : AreJoined bottom ks i next new lost) where
  n_at : slice_get ks (suc i) ≡ Some n
  n_at = ap (slice_get ks) (sym (add-one i)) ∙ at

  n_above : IsAbove bs bottom n.snapshot.map (snaps_in (take (suc i) ks))
  n_above = can.each (snaps_in (take (suc i) ks)) (snaps_in (drop (suc (suc i)) ks)) n.snapshot (snaps_split ks (suc i) n n_at)

  n_kept : (b : Block) → Has (blocks n.snapshot.map) b → b.birth ≤ j.gone.snapshot.group → Has (blocks j.gone.snapshot.map) b
  n_kept b h le = subst (λ (s : BlockSet). Has s b) (newest_taken bs ks i j.gone j.there) (n_above.kept b h (subst (λ m. b.birth ≤ m) (sym (group_taken bottom None ks i j.gone j.there)) le))

  n_dead : Lists (map dead_block next) (difference (blocks j.gone.snapshot.map) (blocks n.snapshot.map))
  n_dead = subst (λ l. Lists (map dead_block l) (difference (blocks j.gone.snapshot.map) (blocks n.snapshot.map))) (sym is)
      (subst (λ (s : BlockSet). Lists (map dead_block (arc_value n.dead).entries) (difference s (blocks n.snapshot.map))) (newest_taken bs ks i j.gone j.there)
      (accounted_at bs ks (suc i) n can.accounted n_at).dead)

  pub between_dead : Lists (map dead_block new) (difference (blocks_before bs ks i) (blocks n.snapshot.map))
  between_dead = joined_dead bs bottom ks i next new lost j can.accounted can.rising can.each (blocks n.snapshot.map) n_kept n_dead

  pub between_lost : Lists (map dead_block lost) (difference (difference (blocks j.gone.snapshot.map) (blocks_before bs ks i)) (blocks n.snapshot.map))
  between_lost = joined_lost bs bottom ks i next new lost j can.accounted can.rising can.each (blocks n.snapshot.map) n_kept n_dead

-- ---- a snapshot that isn't the last goes

module _ (bs : BlockSet) (bottom : ℕ) (ks : List Kept) (i g : ℕ) (live : Map) (next : Kept) (lost : List Dead) (is : IsNext bs ks i next lost) (rising : AreRising bottom (snaps_in ks))
    (at : option_map (λ (k : Kept). k.snapshot.group) (slice_get ks i) ≡ Some g) where
  after_at : slice_get ks (suc i) ≡ Some is.after
  after_at = ap (slice_get ks) (sym (add-one i)) ∙ is.after_is

  gone_group : is.gone.snapshot.group ≡ g
  gone_group = let both = some_group (slice_get ks i) g at in let same : is.gone ≡ both.0 = cc (is.there, both.1) in ap (λ (k : Kept). k.snapshot.group) same ∙ both.2

  same_there : snaps_in (set (remove ks i) i next) ≡ snaps_in (remove ks i)
  same_there = same_snaps (remove ks i) i is.after next (after_it ks i ∙ after_at) is.snapshot

  pub next_snaps : snaps_in (set (remove ks i) i next) ≡ filter (λ (t : Snap). not (t.group == g)) (snaps_in ks)
  next_snaps = same_there ∙ others_stay bottom g i ks rising at

  pub next_accounted : AreAccounted bs ks → AreAccounted bs (set (remove ks i) i next)
  next_accounted each = accounted_next bs ks i is.after next each after_at is.snapshot is.accounted

  pub next_dead : (ds : List Dead) → Lists (map dead_block ds) (difference (newest_blocks bs (snaps_in ks)) (blocks live))
      → Lists (map dead_block ds) (difference (newest_blocks bs (snaps_in (set (remove ks i) i next))) (blocks live))
  next_dead ds own = subst (λ (s : BlockSet). Lists (map dead_block ds) (difference s (blocks live)))
      (sym (ap (newest_blocks bs) same_there ∙ newest_stays bs ks i (inside_at ks (suc i) is.after after_at))) own

  pub next_lost : Lists (map dead_block lost) (lost_from bs (snaps_in ks) live g)
  next_lost = subst (Lists (map dead_block lost))
      (sym (lost_at bottom g bs ks i is.gone live rising is.there gone_group
      ∙ ap (difference (difference (blocks is.gone.snapshot.map) (blocks_before bs ks i))) (oldest_next live ks i is.after after_at)))
      is.lost_is

-- ---- the last one goes

module _ (bs : BlockSet) (bottom : ℕ) (ks : List Kept) (i g : ℕ) (live : Map) (dead new lost : List Dead) (j : AreJoined bottom ks i dead new lost) (accounted : AreAccounted bs ks)
    (own : Lists (map dead_block dead) (difference (newest_blocks bs (snaps_in ks)) (blocks live))) (rising : AreRising bottom (snaps_in ks)) (each : AreStacked bs bottom (snaps_in ks))
    (above : IsAbove bs bottom live (snaps_in ks)) (at : option_map (λ (k : Kept). k.snapshot.group) (slice_get ks i) ≡ Some g) (last : suc i ≡ length ks) where
  last_group : j.gone.snapshot.group ≡ g
  last_group = let both = some_group (slice_get ks i) g at in let same : j.gone ≡ both.0 = cc (j.there, both.1) in ap (λ (k : Kept). k.snapshot.group) same ∙ both.2

  its_group : newest_group bottom (snaps_in ks) ≡ j.gone.snapshot.group
  its_group = ap (λ l. newest_group bottom (snaps_in l)) (sym (taken_all ks i last)) ∙ group_taken bottom None ks i j.gone j.there

  its_blocks : newest_blocks bs (snaps_in ks) ≡ blocks j.gone.snapshot.map
  its_blocks = ap (λ l. newest_blocks bs (snaps_in l)) (sym (taken_all ks i last)) ∙ newest_taken bs ks i j.gone j.there

  live_kept : (b : Block) → Has (blocks live) b → b.birth ≤ j.gone.snapshot.group → Has (blocks j.gone.snapshot.map) b
  live_kept b h le = subst (λ (s : BlockSet). Has s b) its_blocks (above.kept b h (subst (λ n. b.birth ≤ n) (sym its_group) le))

  live_dead : Lists (map dead_block dead) (difference (blocks j.gone.snapshot.map) (blocks live))
  live_dead = subst (λ (s : BlockSet). Lists (map dead_block dead) (difference s (blocks live))) its_blocks own

  pub last_accounted : AreAccounted bs (remove ks i)
  last_accounted = subst (AreAccounted bs) (sym (removed_last ks i last)) (accounted_taken bs ks i accounted)

  pub last_dead : Lists (map dead_block new) (difference (newest_blocks bs (snaps_in (remove ks i))) (blocks live))
  last_dead = subst (λ l. Lists (map dead_block new) (difference (newest_blocks bs (snaps_in l)) (blocks live))) (sym (removed_last ks i last))
      (joined_dead bs bottom ks i dead new lost j accounted rising each (blocks live) live_kept live_dead)

  pub last_lost : Lists (map dead_block lost) (lost_from bs (snaps_in ks) live g)
  last_lost = subst (Lists (map dead_block lost))
      (sym (lost_at bottom g bs ks i j.gone live rising j.there last_group
      ∙ ap (difference (difference (blocks j.gone.snapshot.map) (blocks_before bs ks i))) (oldest_live live ks i last)))
      (joined_lost bs bottom ks i dead new lost j accounted rising each (blocks live) live_kept live_dead)

-- ---- by the file system

pub above_names : (below : Map) (f : FileSystem) (ks : List Kept) → AreAbove below f → snaps_in ks ≡ f.snaps → AreNamesOnce ks
above_names below f ks above is = names_once (origin_group f.origin) ks (subst (AreRising (origin_group f.origin)) (sym is) above.rising)
    (subst (λ (l : List Snap). (t u : Snap) → IsIn l t → IsIn l u → t.name ≡ u.name → t ≡ u) (sym is) above.names)

pub inside_group : (ks : List Kept) (i g : ℕ) → option_map (λ (k : Kept). k.snapshot.group) (slice_get ks i) ≡ Some g → i < length ks
inside_group ks i g e = let both = some_group (slice_get ks i) g e in inside_at ks i both.0 both.1

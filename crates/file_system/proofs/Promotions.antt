-- The snapshots of a clone and of the file system of its origin after a promote.
use Rattle.std.proofs.Common.{◌≡◌, ◌≤◌, ◌<◌, ℕ, zero, suc, Bool, true, false, cond, List, [], ◌∷◌, ◌++◌, take, drop, slice_get, Option, None, Some, is_some, true≢false, ◌⊎◌, refl, sym, ap, subst, ◌∙◌, inl, inr, ⊎_elim, arith}
use Rattle.std.specs.Prelude.{filter, ◌==◌, nat_le, nat_lt}
use Rattle.std.specs.List.{find, last_or}
use Rattle.std.specs.Option.{option_map, option_map_or}
use Rattle.std.proofs.lemmas.Bool.Decides.{nat_tests}
use Rattle.std.proofs.lemmas.List.{map-append}
use Rattle.base.specs.Map.{Map, BlockSet, blocks}
use Rattle.base.specs.Surveys.{IsIn}
use Rattle.model.specs.World.{Snap, SnapId}
use Rattle.snapshots.specs.declared.kept.Kept.{Kept}
use Rattle.snapshots.specs.Index.{AreNamesOnce}
use Rattle.world.specs.Outcomes.{snaps_upto, snaps_after}
use Rattle.world.specs.Worlds.{AreRising}
use Rattle.world.proofs.lists.Finding.{in_either, from_filter}
use Rattle.file_system.specs.Dead.{snaps_in, newest_blocks, AreAccounted}
use Rattle.file_system.specs.Origins.{origin_group}
use Rattle.file_system.specs.Promotions.{CanPromote}
use Rattle.file_system.specs.Rows.{Row}
use Rattle.file_system.specs.Writes.{newest_group}
use Rattle.file_system.specs.Counts.{AreInLine, AreLined}
use Rattle.file_system.proofs.Lines.{line_above, line_joined, line_rest, born_at}
use Rattle.file_system.proofs.Stacks.{is_it, nothing_at, group_above, some_group, newest_taken, above_names, names_once, rising_from}

-- ---- groups that rise

-- each is above what they are above
pub in_above : (low : ℕ) (ts : List Snap) (t : Snap) → AreRising low ts → IsIn ts t → low < t.group
in_above low [] t up h = absurd h
in_above low (x ∷ ts) t up h =
    let l = up.0 in
    ⊎_elim (λ e. subst (λ (y : Snap). low < y.group) (sym e) l) (λ i. let m = in_above x.group ts t up.1 i in omega arith) h

-- the one of a group is the one at the place of the group
pub one_at : (low g i : ℕ) (ks : List Kept) (k : Kept) (t : Snap) → AreRising low (snaps_in ks) → slice_get ks i ≡ Some k → k.snapshot.group ≡ g → IsIn (snaps_in ks) t → t.group ≡ g → k.snapshot ≡ t
one_at low g i [] k t up at is h e = absurd h
one_at low g zero (x ∷ ks) k t up at is h e =
    let same : x ≡ k = cc in
    let group : x.snapshot.group ≡ g = ap (λ (y : Kept). y.snapshot.group) same ∙ is in
    ⊎_elim (λ m. sym (m ∙ ap (λ (y : Kept). y.snapshot) same)) (λ m. let l = in_above x.snapshot.group (snaps_in ks) t up.1 m in absurd (omega arith)) h
one_at low g (suc i) (x ∷ ks) k t up at is h e =
    let l = group_above x.snapshot.group g i ks up.1 (ap (option_map (λ (y : Kept). y.snapshot.group)) at ∙ ap Some is) in
    ⊎_elim (λ m. let same = ap (λ (y : Snap). y.group) m in absurd (omega arith)) (λ m. one_at x.snapshot.group g i ks k t up.1 at is m e) h

-- it is found by its group
found_at : (g : ℕ) (ts : List Snap) (t : Snap) → IsIn ts t → t.group ≡ g → is_some (find (λ (x : Snap). x.group == g) ts) ≡ true
found_at g [] t h e = absurd h
found_at g (x ∷ ts) t h e = by (x.group == g) refl (⊎_elim (λ m. inl (sym (ap (λ (y : Snap). y.group) m) ∙ e)) (λ m. inr (found_at g ts t m e)) h)
  where
    by : (b : Bool) → (x.group == g) ≡ b → (x.group ≡ g) ⊎ (is_some (find (λ (y : Snap). y.group == g) ts) ≡ true) → is_some (cond b (Some x) (find (λ (y : Snap). y.group == g) ts)) ≡ true
    by true s either = refl
    by false s either = ⊎_elim (λ k. absurd (true≢false (sym (is_it x.group g k) ∙ s))) (λ found. found) either

-- those behind others rise above them
rising_joined : (low : ℕ) (xs ys : List Snap) → AreRising low xs → AreRising (newest_group low xs) ys → AreRising low (xs ++ ys)
rising_joined low [] ys up more = more
rising_joined low (x ∷ xs) ys up more = (up.0, by x xs up.1 more)
  where
    by : (x : Snap) (xs : List Snap) → AreRising x.group xs → AreRising (option_map_or (λ (t : Snap). t.group) (last_or (Some x) xs) low) ys → AreRising x.group (xs ++ ys)
    by x [] up more = more
    by x (z ∷ zs) up more = (up.0, by z zs up.1 more)

none_upto : (low g : ℕ) (ts : List Snap) → AreRising low ts → g ≤ low → filter (λ (t : Snap). nat_le t.group g) ts ≡ []
none_upto low g [] up le = refl
none_upto low g (t ∷ ts) up le =
    let l = up.0 in
    let later : nat_le t.group g ≡ false = grind (arith, nat_tests) in
    ap (λ b. cond b (t ∷ filter (λ (u : Snap). nat_le u.group g) ts) (filter (λ (u : Snap). nat_le u.group g) ts)) later ∙ none_upto t.group g ts up.1 (omega arith)

all_after : (low g : ℕ) (ts : List Snap) → AreRising low ts → g ≤ low → filter (λ (t : Snap). nat_lt g t.group) ts ≡ ts
all_after low g [] up le = refl
all_after low g (t ∷ ts) up le =
    let l = up.0 in
    let later : nat_lt g t.group ≡ true = grind (arith, nat_tests) in
    ap (λ b. cond b (t ∷ filter (λ (u : Snap). nat_lt g u.group) ts) (filter (λ (u : Snap). nat_lt g u.group) ts)) later ∙ ap (λ l. t ∷ l) (all_after t.group g ts up.1 (omega arith))

-- those up to the place of a group
upto_taken : (low g i : ℕ) (ks : List Kept) → AreRising low (snaps_in ks) → option_map (λ (k : Kept). k.snapshot.group) (slice_get ks i) ≡ Some g
    → snaps_in (take (suc i) ks) ≡ filter (λ (t : Snap). nat_le t.group g) (snaps_in ks)
upto_taken low g i [] up at = absurd (nothing_at i g at)
upto_taken low g zero (k ∷ ks) up at =
    let same : k.snapshot.group ≡ g = cc in
    let early : nat_le k.snapshot.group g ≡ true = grind (arith, nat_tests) in
    sym (ap (λ b. cond b (k.snapshot ∷ filter (λ (u : Snap). nat_le u.group g) (snaps_in ks)) (filter (λ (u : Snap). nat_le u.group g) (snaps_in ks))) early
    ∙ ap (λ l. k.snapshot ∷ l) (none_upto k.snapshot.group g (snaps_in ks) up.1 (omega arith)))
upto_taken low g (suc i) (k ∷ ks) up at =
    let l = group_above k.snapshot.group g i ks up.1 at in
    let early : nat_le k.snapshot.group g ≡ true = grind (arith, nat_tests) in
    ap (λ l. k.snapshot ∷ l) (upto_taken k.snapshot.group g i ks up.1 at)
    ∙ sym (ap (λ b. cond b (k.snapshot ∷ filter (λ (u : Snap). nat_le u.group g) (snaps_in ks)) (filter (λ (u : Snap). nat_le u.group g) (snaps_in ks))) early)

-- and those after it
after_dropped : (low g i : ℕ) (ks : List Kept) → AreRising low (snaps_in ks) → option_map (λ (k : Kept). k.snapshot.group) (slice_get ks i) ≡ Some g
    → snaps_in (drop (suc i) ks) ≡ filter (λ (t : Snap). nat_lt g t.group) (snaps_in ks)
after_dropped low g i [] up at = absurd (nothing_at i g at)
after_dropped low g zero (k ∷ ks) up at =
    let same : k.snapshot.group ≡ g = cc in
    let early : nat_lt g k.snapshot.group ≡ false = grind (arith, nat_tests) in
    sym (ap (λ b. cond b (k.snapshot ∷ filter (λ (u : Snap). nat_lt g u.group) (snaps_in ks)) (filter (λ (u : Snap). nat_lt g u.group) (snaps_in ks))) early
    ∙ all_after k.snapshot.group g (snaps_in ks) up.1 (omega arith))
after_dropped low g (suc i) (k ∷ ks) up at =
    let l = group_above k.snapshot.group g i ks up.1 at in
    let early : nat_lt g k.snapshot.group ≡ false = grind (arith, nat_tests) in
    after_dropped k.snapshot.group g i ks up.1 at
    ∙ sym (ap (λ b. cond b (k.snapshot ∷ filter (λ (u : Snap). nat_lt g u.group) (snaps_in ks)) (filter (λ (u : Snap). nat_lt g u.group) (snaps_in ks))) early)

rising_taken : (low i : ℕ) (ks : List Kept) → AreRising low (snaps_in ks) → AreRising low (snaps_in (take i ks))
rising_taken low zero ks up = tt
rising_taken low (suc i) [] up = tt
rising_taken low (suc i) (k ∷ ks) up = (up.0, rising_taken k.snapshot.group i ks up.1)

-- ---- what is kept of them

-- those of one above those of another
accounted_joined : (bs : BlockSet) (xs ys : List Kept) → AreAccounted bs xs → AreAccounted (newest_blocks bs (snaps_in xs)) ys → AreAccounted bs (xs ++ ys)
accounted_joined bs [] ys each more = more
accounted_joined bs (x ∷ xs) ys each more = (each.0, accounted_joined (blocks x.snapshot.map) xs ys each.1 more)

newest_joined : (bs : BlockSet) (xs ys : List Kept) → newest_blocks bs (snaps_in (xs ++ ys)) ≡ newest_blocks (newest_blocks bs (snaps_in xs)) (snaps_in ys)
newest_joined bs [] ys = refl
newest_joined bs (x ∷ xs) ys = newest_joined (blocks x.snapshot.map) xs ys

accounted_first : (bs : BlockSet) (i : ℕ) (ks : List Kept) → AreAccounted bs ks → AreAccounted bs (take i ks)
accounted_first bs zero ks each = tt
accounted_first bs (suc i) [] each = tt
accounted_first bs (suc i) (k ∷ ks) each = (each.0, accounted_first (blocks k.snapshot.map) i ks each.1)

accounted_rest : (bs : BlockSet) (i : ℕ) (ks : List Kept) → AreAccounted bs ks → AreAccounted (newest_blocks bs (snaps_in (take i ks))) (drop i ks)
accounted_rest bs zero ks each = each
accounted_rest bs (suc i) [] each = tt
accounted_rest bs (suc i) (k ∷ ks) each = accounted_rest (blocks k.snapshot.map) i ks each.1

newest_rest : (bs : BlockSet) (i : ℕ) (ks : List Kept) → newest_blocks (newest_blocks bs (snaps_in (take i ks))) (snaps_in (drop i ks)) ≡ newest_blocks bs (snaps_in ks)
newest_rest bs zero ks = refl
newest_rest bs (suc i) [] = refl
newest_rest bs (suc i) (k ∷ ks) = newest_rest (blocks k.snapshot.map) i ks

group_first : (base i : ℕ) (p : Option Snap) (ks : List Kept) (k : Kept) → slice_get ks i ≡ Some k → option_map_or (λ (t : Snap). t.group) (last_or p (snaps_in (take (suc i) ks))) base ≡ k.snapshot.group
group_first base i p [] k e = absurd (no_such i k e)
  where
    no_such : (i : ℕ) (k : Kept) → slice_get {X = Kept} [] i ≡ Some k → ⊥
    no_such i k e = cc
group_first base zero p (x ∷ ks) k e = let same : x ≡ k = cc in ap (λ (y : Kept). y.snapshot.group) same
group_first base (suc i) p (x ∷ ks) k e = group_first base i (Some x.snapshot) ks k e

-- ---- a promote

-- the owner of the origin keeps `ks` and the clone `cs`; the origin stands at place i
module _ (clone owner : Row) (id : SnapId) (can : CanPromote clone owner id) (ks : List Kept) (ks_are : snaps_in ks ≡ owner.system.snaps) where
  owner_rises : AreRising (origin_group owner.system.origin) (snaps_in ks)
  owner_rises = subst (AreRising (origin_group owner.system.origin)) (sym ks_are) can.others.rising

  pub owner_rising : AreRising 0 (snaps_in ks)
  owner_rising = rising_from 0 (origin_group owner.system.origin) (snaps_in ks) (omega arith) owner_rises

  pub owner_once : AreNamesOnce ks
  owner_once = above_names owner.below owner.system ks can.others ks_are

  in_owner : IsIn (snaps_in ks) can.origin
  in_owner = subst (λ (l : List Snap). IsIn l can.origin) (sym ks_are) can.there

  its_group : can.origin.group ≡ id.group
  its_group = ap (λ (x : SnapId). x.group) can.named

  pub origin_there : is_some (find (λ (t : Snap). t.group == id.group) (snaps_in ks)) ≡ true
  origin_there = found_at id.group (snaps_in ks) can.origin in_owner its_group

  module _ (cs : List Kept) (cs_are : snaps_in cs ≡ clone.system.snaps) (i : ℕ) (at : option_map (λ (k : Kept). k.snapshot.group) (slice_get ks i) ≡ Some id.group) where
    both : (k : Kept) × (slice_get ks i ≡ Some k) × (k.snapshot.group ≡ id.group)
    both = some_group (slice_get ks i) id.group at

    it : both.0.snapshot ≡ can.origin
    it = one_at 0 id.group i ks both.0 can.origin owner_rising both.1 both.2 in_owner its_group

    between : newest_blocks (blocks owner.below) (snaps_in (take (suc i) ks)) ≡ blocks clone.below
    between = newest_taken (blocks owner.below) ks i both.0 both.1 ∙ ap (λ (t : Snap). blocks t.map) it ∙ ap (λ (m : Map). blocks m) (sym can.map)

    first_are : snaps_in (take (suc i) ks) ≡ snaps_upto owner.system id.group
    first_are = upto_taken 0 id.group i ks owner_rising at ∙ ap (filter (λ (t : Snap). nat_le t.group id.group)) ks_are

    pub joined_snaps : snaps_in (take (suc i) ks ++ cs) ≡ snaps_upto owner.system id.group ++ clone.system.snaps
    joined_snaps = map-append (λ (k : Kept). k.snapshot) (take (suc i) ks) cs ∙ (λ j. first_are j ++ cs_are j)

    pub rest_snaps : snaps_in (drop (suc i) ks) ≡ snaps_after owner.system id.group
    rest_snaps = after_dropped 0 id.group i ks owner_rising at ∙ ap (filter (λ (t : Snap). nat_lt id.group t.group)) ks_are

    pub joined_accounted : AreAccounted (blocks owner.below) ks → AreAccounted (blocks clone.below) cs → AreAccounted (blocks owner.below) (take (suc i) ks ++ cs)
    joined_accounted each own =
        accounted_joined (blocks owner.below) (take (suc i) ks) cs (accounted_first (blocks owner.below) (suc i) ks each) (subst (λ s. AreAccounted s cs) (sym between) own)

    pub joined_newest : newest_blocks (blocks owner.below) (snaps_in (take (suc i) ks ++ cs)) ≡ newest_blocks (blocks clone.below) clone.system.snaps
    joined_newest = newest_joined (blocks owner.below) (take (suc i) ks) cs ∙ (λ j. newest_blocks (between j) (cs_are j))

    pub rest_accounted : AreAccounted (blocks owner.below) ks → AreAccounted (blocks clone.below) (drop (suc i) ks)
    rest_accounted each = subst (λ s. AreAccounted s (drop (suc i) ks)) between (accounted_rest (blocks owner.below) (suc i) ks each)

    pub rest_newest : newest_blocks (blocks clone.below) (snaps_in (drop (suc i) ks)) ≡ newest_blocks (blocks owner.below) owner.system.snaps
    rest_newest = ap (λ s. newest_blocks s (snaps_in (drop (suc i) ks))) (sym between) ∙ newest_rest (blocks owner.below) (suc i) ks ∙ ap (newest_blocks (blocks owner.below)) ks_are

    above_first : AreRising (newest_group 0 (snaps_in (take (suc i) ks))) (snaps_in cs)
    above_first =
        let group : newest_group 0 (snaps_in (take (suc i) ks)) ≡ origin_group clone.system.origin =
        group_first 0 i None ks both.0 both.1 ∙ both.2 ∙ sym (ap origin_group can.is) in
        subst (λ n. AreRising n (snaps_in cs)) (sym group) (subst (AreRising (origin_group clone.system.origin)) (sym cs_are) can.own.rising)

    all_rise : AreRising 0 (snaps_in (take (suc i) ks ++ cs))
    all_rise = subst (AreRising 0) (sym (map-append (λ (k : Kept). k.snapshot) (take (suc i) ks) cs))
        (rising_joined 0 (snaps_in (take (suc i) ks)) (snaps_in cs) (rising_taken 0 (suc i) ks owner_rising) above_first)

    of_owner : (t : Snap) → IsIn (snaps_upto owner.system id.group) t → IsIn owner.system.snaps t
    of_owner t h = (from_filter (λ (u : Snap). nat_le u.group id.group) owner.system.snaps t h).0

    all_named : (t u : Snap) → IsIn (snaps_upto owner.system id.group ++ clone.system.snaps) t → IsIn (snaps_upto owner.system id.group ++ clone.system.snaps) u → t.name ≡ u.name → t ≡ u
    all_named t u h k e =
        let one = in_either (snaps_upto owner.system id.group) clone.system.snaps t h in
        let other = in_either (snaps_upto owner.system id.group) clone.system.snaps u k in
        ⊎_elim
        (λ a. ⊎_elim (λ b. can.others.names t u (of_owner t a) (of_owner u b) e) (λ b. absurd (can.names t u a b e)) other)
        (λ a. ⊎_elim (λ b. absurd (can.names u t b a (sym e))) (λ b. can.own.names t u a b e) other)
        one

    pub joined_once : AreNamesOnce (take (suc i) ks ++ cs)
    joined_once = names_once 0 (take (suc i) ks ++ cs) all_rise
        (subst (λ (l : List Snap). (t u : Snap) → IsIn l t → IsIn l u → t.name ≡ u.name → t ≡ u) (sym joined_snaps) all_named)

    -- ---- the lines of both

    owner_line : AreLined owner.below (origin_group owner.system.origin) (snaps_in ks) owner.system.live
    owner_line = subst (λ (l : List Snap). AreLined owner.below (origin_group owner.system.origin) l owner.system.live) (sym ks_are) (line_above owner.below owner.system can.others)

    clone_line : AreLined clone.below (origin_group clone.system.origin) (snaps_in cs) clone.system.live
    clone_line = subst (λ (l : List Snap). AreLined clone.below (origin_group clone.system.origin) l clone.system.live) (sym cs_are) (line_above clone.below clone.system can.own)

    same_map : both.0.snapshot.map ≡ clone.below
    same_map = ap (λ (t : Snap). t.map) it ∙ sym can.map

    same_group : both.0.snapshot.group ≡ origin_group clone.system.origin
    same_group = both.2 ∙ sym (ap origin_group can.is)

    pub joined_line : AreLined owner.below (origin_group owner.system.origin) (snaps_in (take (suc i) ks ++ cs)) clone.system.live
    joined_line = record {
      born = owner_line.born;
      line = line_joined (blocks owner.below) (origin_group owner.system.origin) i ks cs both.0 owner.system.live clone.system.live both.1 owner_line.line
          (subst (λ (n : ℕ). AreInLine (blocks both.0.snapshot.map) n (snaps_in cs) clone.system.live) (sym same_group)
          (subst (λ (m : Map). AreInLine (blocks m) (origin_group clone.system.origin) (snaps_in cs) clone.system.live) (sym same_map) clone_line.line));
    }

    pub rest_line : AreLined clone.below (origin_group clone.system.origin) (snaps_in (drop (suc i) ks)) owner.system.live
    rest_line = subst (λ (n : ℕ). AreLined clone.below n (snaps_in (drop (suc i) ks)) owner.system.live) same_group
        (subst (λ (m : Map). AreLined m both.0.snapshot.group (snaps_in (drop (suc i) ks)) owner.system.live) same_map (record {
          born = born_at (blocks owner.below) (origin_group owner.system.origin) i ks both.0 owner.system.live both.1 owner_line.line;
          line = line_rest (blocks owner.below) (origin_group owner.system.origin) i ks both.0 owner.system.live both.1 owner_line.line;
        }))

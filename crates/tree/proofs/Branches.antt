-- The map of a part that stands at a key, and those of the parts directly below.
use Rattle.std.proofs.Common.{◌≡◌, ℕ, zero, suc, ◌+◌, ◌*◌, ◌/◌, ◌%◌, ◌-◌, ◌^◌, ◌<◌, ◌≤◌, Bool, true, false, cond, List, [], ◌∷◌, ◌++◌, length, get_or, reverse, Option, Some, None, refl, sym, ap, subst, ◌∙◌, arith, ⊎_elim, true≢false, length-append}
use Rattle.std.specs.Prelude.{◌==◌, ◌&&◌, IfSome, nat_le, nat_lt, is_some}
use Rattle.std.specs.Borrow.{Bor}
use Rattle.std.specs.declared.alloc.Global.{Global}
use Rattle.std.specs.declared.sync.Arc.{Arc}
use Rattle.std.specs.List.{cons_option, filter_map, range_with_len}
use Rattle.std.specs.Option.{option_map, option_and_then}
use Rattle.std.proofs.lemmas.List.{length-reverse}
use Rattle.std.proofs.lemmas.List.FromFn.{length-range_with_len}
use Rattle.std.specs.FinMap as fin
use Rattle.std.specs.FinMap.{get, retain_keys}
use Rattle.std.proofs.lemmas.Bool.{cases_lt, eqb-true, eq-eqb, leb-true, le-leb, lt-ltb}
use Rattle.std.proofs.Math.Nat.{div-lt_iff_lt-mul, pow-suc, mod-lt, mul-le-mul_left}
use Rattle.std.proofs.lemmas.Nat.{pow-add}
use Rattle.std.proofs.Math.Arith.{mod-mul}
use Rattle.base.specs.declared.number.Key.{Key}
use Rattle.base.specs.Key.{key_cmp, key_cmp_total, key_cmp-IsAntisymmetric, is_at_or_below, IsKey}
use Rattle.base.specs.Map.{Map, Cell}
use Rattle.tree.specs.Branch.{Branch, map_below, child_key, child_of, branches_below}
use Rattle.tree.specs.BranchParts.{branch_at}
use Rattle.node.specs.Entries.{key_at, entries_from, width, IsWell, map_of}
use Rattle.node.specs.Kid.{IsSound, IsKid, places}
use Rattle.node.specs.declared.pair.Pair.{Pair}
use Rattle.node.specs.Node.{part_of_owner, part_of_slot, shared_part}
use Rattle.node.specs.Pairs.{places_in}
use Rattle.node.specs.Shape.{Part, grown, done, forest_of, part_at, cell_below}
use Rattle.node.proofs.Digits.{high_digits, low_digits, eq_not}
use Rattle.node.proofs.Find.{not_before, not_above, scale_lt, found, cell_in-past, cell_in-root}
use Rattle.node.proofs.Options.{same_value, twice}
use Rattle.node.proofs.Order.{entries_sorted, placed, span_positive}
use Rattle.node.proofs.Places.{AreKids-at, kids_of, part_at-places, places-forest_of}
use Rattle.node.proofs.Sameness.{place_in, rest_in}

-- the map of a part at a key
pub map_at : ℕ → ℕ → Part → Map
map_at l j p = fin.from_sorted (entries_from l j (grown p.cell p.below done))

well : (l : ℕ) (p : Part) → IsSound l p → IsWell l p.cell.birth (grown p.cell p.below done)
well l p s = (omega arith, s.0, s.1, tt)

by_find : (l j : ℕ) (p : Part) (k : Key) → IsSound l p → get (map_at l j p) k ≡ fin.find key_cmp k (entries_from l j (grown p.cell p.below done))
unfolding map_at
by_find l j p k s = fin.get-from_sorted key_cmp (entries_from l j (grown p.cell p.below done)) k (entries_sorted l j p.cell.birth (grown p.cell p.below done) (well l p s))

-- an index before a place, within it, or past it
before_place : (idx s j : ℕ) → 0 < s → idx < j * s → (idx / s == j) ≡ false
before_place idx s j p h = let d = (div-lt_iff_lt-mul p).1 h in eq_not _ _ (omega (arith, d))

past_place : (idx s j : ℕ) → 0 < s → j * s + s ≤ idx → (idx / s == j) ≡ false
past_place idx s j p h =
    let not : (idx / s < j + 1) → ⊥ = λ l. let b = (div-lt_iff_lt-mul p).0 l in omega (arith, b, h) in
    eq_not _ _ (λ e. not (omega (arith, e)))

-- the lower digits of the lower digits
pub low_rest : (r d : ℕ) → (r % 16 ^ suc d) % 16 ^ d ≡ r % 16 ^ d
low_rest r d =
    let c = span_positive d in
    let w : 16 ^ suc d ≡ 16 * 16 ^ d = pow-suc 16 d ∙ (let z : 16 ^ d * 16 ≡ 16 * 16 ^ d = omega arith in z) in
    let split : r % (16 * 16 ^ d) ≡ (r / 16 ^ d % 16) * 16 ^ d + r % 16 ^ d = mod-mul r {m = 16} {c = 16 ^ d} (omega arith) c in
    ap (λ n. (r % n) % 16 ^ d) w ∙ ap (λ n. n % 16 ^ d) split ∙ rest_in (r / 16 ^ d % 16) (r % 16 ^ d) (16 ^ d) (mod-lt r c)

-- what the map has d levels below the key
level_at : (lv d j idx : ℕ) (p : Part) → IsSound (lv + d) p → fin.find key_cmp (key_at lv idx) (entries_from (lv + d) j (grown p.cell p.below done)) ≡ cond (idx / 16 ^ d == j) (cell_below d p (idx % 16 ^ d)) None
level_at lv d j idx p s =
    let positive = span_positive d in
    let w = well (lv + d) p s in
    let answer : Bool → Option Cell = λ b. cond b (cell_below d p (idx % 16 ^ d)) None in
    ⊎_elim
    (λ lt. not_before (key_at lv idx) _ ((j + width (grown p.cell p.below done)) * 16 ^ (lv + d)) (lv + d) (entries_from (lv + d) j (grown p.cell p.below done)) (scale_lt idx j lv d lt) (placed (lv + d) j p.cell.birth (grown p.cell p.below done) w) ∙ ap answer (sym (before_place idx (16 ^ d) j positive lt)))
    (λ le.
    let at = found lv d j p.cell.birth idx (grown p.cell p.below done) w le in
    ⊎_elim
    (λ lt. let q : idx - j * 16 ^ d < 16 ^ d = omega (arith, lt) in
    let sum : j * 16 ^ d + (idx - j * 16 ^ d) ≡ idx = omega (arith, le) in
    let place : idx / 16 ^ d ≡ j = ap (λ n. n / 16 ^ d) (sym sum) ∙ place_in j (idx - j * 16 ^ d) (16 ^ d) q in
    let rest : idx % 16 ^ d ≡ idx - j * 16 ^ d = ap (λ n. n % 16 ^ d) (sym sum) ∙ rest_in j (idx - j * 16 ^ d) (16 ^ d) q in
    at ∙ cell_in-root d (idx - j * 16 ^ d) (λ p. p) p q ∙ ap (cell_below d p) (sym rest) ∙ ap answer (sym (eq-eqb _ _ place)))
    (λ ge. at ∙ cell_in-past d (idx - j * 16 ^ d) (λ p. p) (Some p) (omega (arith, ge)) ∙ ap answer (sym (past_place idx (16 ^ d) j positive ge)))
    (cases_lt idx (j * 16 ^ d + 16 ^ d)))
    (cases_lt idx (j * 16 ^ d))

not_over : (a b : ℕ) → b < a → nat_le a b ≡ false
not_over a b h = elim (nat_le a b) as (λ t. nat_le a b ≡ t → t ≡ false) [ true ↦ λ e. let l = leb-true a b e in absurd (omega arith) | false ↦ λ e. refl ] refl

-- what the map has at any key
pub get-at : (l j : ℕ) (p : Part) (k : Key) → IsSound l p → get (map_at l j p) k ≡ cond (is_at_or_below (key_at l j) k) (cell_below (l - k.level) p (k.index % 16 ^ (l - k.level))) None
get-at l j p k s = by_find l j p k s ∙ ⊎_elim
    (λ lt. not_above k (j * 16 ^ l) ((j + width (grown p.cell p.below done)) * 16 ^ l) l (entries_from l j (grown p.cell p.below done)) lt (placed l j p.cell.birth (grown p.cell p.below done) (well l p s)) ∙ ap answer (sym (ap (λ t. t && (k.index / 16 ^ (l - k.level) == j)) (not_over k.level l lt))))
    (λ le.
    let d : ℕ = l - k.level in
    let sum : k.level + (l - k.level) ≡ l = omega (arith, le) in
    ap (λ n. fin.find key_cmp k (entries_from n j (grown p.cell p.below done))) (sym sum)
    ∙ level_at k.level (l - k.level) j k.index p (subst (λ n. IsSound n p) (sym sum) s)
    ∙ ap answer (sym (ap (λ t. t && (k.index / 16 ^ (l - k.level) == j)) (le-leb k.level l le))))
    (cases_lt l k.level)
  where
    answer : Bool → Option Cell
    answer b = cond b (cell_below (l - k.level) p (k.index % 16 ^ (l - k.level))) None

-- the part at a place below
pub kid_at : (l x : ℕ) (p q : Part) → IsSound (suc l) p → part_at p.below x ≡ Some q → (q.cell.birth ≤ p.cell.birth) × IsSound l q
kid_at l x p q s e =
    let kids = kids_of l p.cell.birth (Some p) (omega arith, s) in
    subst (IsKid l p.cell.birth) (sym (part_at-places p.below x) ∙ e) (AreKids-at l p.cell.birth (places p.below) x kids.1)

both_true : (a b : Bool) → (a && b) ≡ true → (a ≡ true) × (b ≡ true)
both_true true b e = (refl, e)
both_true false b e = absurd (true≢false (sym e))

-- the map of the part at a place below is that of the keys at and below it
pub below-at : (l j i : ℕ) (p q : Part) → IsSound (suc l) p → i < 16 → part_at p.below i ≡ Some q → map_at l (16 * j + i) q ≡ retain_keys (map_at (suc l) j p) (is_at_or_below (key_at l (16 * j + i)))
below-at l j i p q s h e = fin.same_map key_cmp_total key_cmp-IsAntisymmetric _ _ (λ k.
    get-at l (16 * j + i) q k (kid_at l i p q s e).1
    ∙ same k (is_at_or_below (key_at l (16 * j + i)) k) refl
    ∙ sym (fin.get-retain_keys (map_at (suc l) j p) (is_at_or_below (key_at l (16 * j + i))) k (λ x t. ap (is_at_or_below (key_at l (16 * j + i))) (sym (key_cmp-IsAntisymmetric k x t)))))
  where
    cell : (k : Key) → k.level ≤ l → k.index / 16 ^ (l - k.level) ≡ 16 * j + i → cell_below (l - k.level) q (k.index % 16 ^ (l - k.level)) ≡ get (map_at (suc l) j p) k
    cell k le at =
        let d : ℕ = l - k.level in
        let r : ℕ = k.index in
        let deep : suc l - k.level ≡ suc (l - k.level) = omega (arith, le) in
        let up : r / 16 ^ suc (l - k.level) ≡ j = sym (high_digits r (l - k.level) 1 (suc (l - k.level)) (let z : (l - k.level) + 1 ≡ suc (l - k.level) = omega arith in z)) ∙ ap (λ n. n / 16) at ∙ (omega (arith, h)) in
        let place : (r % 16 ^ suc (l - k.level)) / 16 ^ (l - k.level) ≡ i = sym (low_digits r (l - k.level) 1 (suc (l - k.level)) (let z : (l - k.level) + 1 ≡ suc (l - k.level) = omega arith in z)) ∙ ap (λ n. n % 16) at ∙ (omega (arith, h)) in
        let rest : (r % 16 ^ suc (l - k.level)) % 16 ^ (l - k.level) ≡ r % 16 ^ (l - k.level) = low_rest r (l - k.level) in
        let over : is_at_or_below (key_at (suc l) j) k ≡ true = ap (λ t. t && (r / 16 ^ (suc l - k.level) == j)) (le-leb k.level (suc l) (omega (arith, le))) ∙ eq-eqb _ _ (ap (λ n. r / 16 ^ n) deep ∙ up) in
        let below : cell_below (suc (l - k.level)) p (r % 16 ^ suc (l - k.level)) ≡ cell_below (l - k.level) q (r % 16 ^ (l - k.level)) =
        (λ z. option_and_then (λ (x : Part). cell_below (l - k.level) x (rest z)) (part_at p.below (place z)))
        ∙ ap (option_and_then (λ (x : Part). cell_below (l - k.level) x (r % 16 ^ (l - k.level)))) e in
        sym (get-at (suc l) j p k s ∙ ap (λ b. cond b (cell_below (suc l - k.level) p (r % 16 ^ (suc l - k.level))) None) over ∙ ap (λ n. cell_below n p (r % 16 ^ n)) deep ∙ below)

    same : (k : Key) (b : Bool) → is_at_or_below (key_at l (16 * j + i)) k ≡ b → cond b (cell_below (l - k.level) q (k.index % 16 ^ (l - k.level))) None ≡ cond b (get (map_at (suc l) j p) k) None
    same k false t = refl
    same k true t = let two = both_true _ _ t in cell k (leb-true _ _ two.0) (eqb-true _ _ two.1)

-- what stands at the key itself
pub own-at : (l j : ℕ) (p : Part) → IsSound l p → get (map_at l j p) (key_at l j) ≡ Some p.cell
own-at l j p s =
    let zero_deep : l - l ≡ 0 = omega arith in
    let one : j / 1 ≡ j = omega arith in
    let over : is_at_or_below (key_at l j) (key_at l j) ≡ true = ap (λ t. t && (j / 16 ^ (l - l) == j)) (le-leb l l (omega arith)) ∙ eq-eqb _ _ (ap (λ n. j / 16 ^ n) zero_deep ∙ one) in
    get-at l j p (key_at l j) s ∙ ap (λ b. cond b (cell_below (l - l) p (j % 16 ^ (l - l))) None) over ∙ ap (λ n. cell_below n p (j % 16 ^ n)) zero_deep

-- what stands directly below
pub next-at : (l j i : ℕ) (p : Part) → IsSound (suc l) p → i < 16 → get (map_at (suc l) j p) (key_at l (16 * j + i)) ≡ option_map (λ (q : Part). q.cell) (part_at p.below i)
next-at l j i p s h =
    let deep : suc l - l ≡ 1 = omega arith in
    let up : (16 * j + i) / 16 ≡ j = omega (arith, h) in
    let rest : ((16 * j + i) % 16) / 1 ≡ i = omega (arith, h) in
    let over : is_at_or_below (key_at (suc l) j) (key_at l (16 * j + i)) ≡ true = ap (λ t. t && ((16 * j + i) / 16 ^ (suc l - l) == j)) (le-leb l (suc l) (omega arith)) ∙ eq-eqb _ _ (ap (λ n. (16 * j + i) / 16 ^ n) deep ∙ up) in
    get-at (suc l) j p (key_at l (16 * j + i)) s ∙ ap (λ b. cond b (cell_below (suc l - l) p ((16 * j + i) % 16 ^ (suc l - l))) None) over ∙ ap (λ n. cell_below n p ((16 * j + i) % 16 ^ n)) deep
    ∙ own_of (part_at p.below (((16 * j + i) % 16) / 1)) (((16 * j + i) % 16) % 1)
    ∙ ap (λ n. option_map (λ (q : Part). q.cell) (part_at p.below n)) rest
  where
    own_of : (o : Option Part) (q : ℕ) → option_and_then (λ (x : Part). cell_below 0 x q) o ≡ option_map (λ (q : Part). q.cell) o
    own_of None q = refl
    own_of (Some x) q = refl

-- a branch by its key and its map
pub branch_is : (l j : ℕ) (p : Part) → branch_at (key_at l j) p ≡ record { key = key_at l j; map = map_at l j p }
unfolding branch_at map_at
branch_is l j p = refl

below_is : (m : Map) (k : Key) → map_below m k ≡ retain_keys m (is_at_or_below k)
unfolding map_below
below_is m k = refl

-- the branches directly below a part
children_at : (l i j : ℕ) (p : Part) → IsSound l p → i < 16 → child_of (record { key = key_at l j; map = map_at l j p }) i ≡ option_map (branch_at (child_key (key_at l j) i)) (part_at p.below i)
children_at zero i j p s h = ap (λ f. option_map (branch_at (child_key (key_at 0 j) i)) (part_at f i)) (sym s.0.0)
children_at (suc l) i j p s h =
    let lower : suc l - 1 ≡ l = omega arith in
    let child : child_key (key_at (suc l) j) i ≡ key_at l (16 * j + i) = λ z. record { level = lower z; index = 16 * j + i } in
    let m : Map = map_at (suc l) j p in
    (λ z. cond (nat_lt 0 (suc l) && is_some (get m (child z))) (Some (record { key = child z; map = map_below m (child z) })) None)
    ∙ ap (λ b. cond (b && is_some (get m (key_at l (16 * j + i)))) (Some (record { key = key_at l (16 * j + i); map = map_below m (key_at l (16 * j + i)) })) None) (lt-ltb 0 (suc l) (omega arith))
    ∙ ap (λ o. cond (is_some o) (Some (record { key = key_at l (16 * j + i); map = map_below m (key_at l (16 * j + i)) })) None) (next-at l j i p s h)
    ∙ by (part_at p.below i) refl
    ∙ ap (λ k. option_map (branch_at k) (part_at p.below i)) (sym child)
  where
    by : (o : Option Part) → part_at p.below i ≡ o
        → cond (is_some (option_map (λ (q : Part). q.cell) o)) (Some (record { key = key_at l (16 * j + i); map = map_below (map_at (suc l) j p) (key_at l (16 * j + i)) })) None ≡ option_map (branch_at (key_at l (16 * j + i))) o
    by None is = refl
    by (Some q) is =
        ap Some ((λ z. record { key = key_at l (16 * j + i); map = (below_is (map_at (suc l) j p) (key_at l (16 * j + i)) ∙ sym (below-at l j i p q s h is)) z }) ∙ sym (branch_is l (16 * j + i) q))

pub children : (l i : ℕ) (k : Key) (p : Part) → k.level ≡ l → IsSound l p → i < 16 → child_of (branch_at k p) i ≡ option_map (branch_at (child_key k i)) (part_at p.below i)
children l i k p e s h =
    let is : k ≡ key_at l k.index = λ z. record { level = e z; index = k.index } in
    ap (λ x. child_of (branch_at x p) i) is ∙ ap (λ b. child_of b i) (branch_is l k.index p) ∙ children_at l i k.index p s h ∙ ap (λ x. option_map (branch_at (child_key x i)) (part_at p.below i)) (sym is)

-- the branch of a part has its key, its cell there, and nothing younger
pub key-branch_at : (k : Key) (p : Part) → (branch_at k p).key ≡ k
unfolding branch_at
key-branch_at k p = refl

pub own-branch_at : (l : ℕ) (k : Key) (p : Part) → k.level ≡ l → IsSound l p → get (branch_at k p).map (branch_at k p).key ≡ Some p.cell
own-branch_at l k p e s =
    let is : k ≡ key_at l k.index = λ z. record { level = e z; index = k.index } in
    ap (λ (b : Branch). get b.map b.key) (ap (λ x. branch_at x p) is ∙ branch_is l k.index p) ∙ own-at l k.index p s

-- nothing is younger than the part's own cell
cell_birth : (d l q : ℕ) (p : Part) (c : Cell) → d ≤ l → IsSound l p → cell_below d p q ≡ Some c → c.birth ≤ p.cell.birth
cell_birth zero l q p c h s e = let b = ap (λ (x : Cell). x.birth) (same_value _ _ e) in omega (arith, b)
cell_birth (suc d) zero q p c h s e = absurd (omega (arith, h))
cell_birth (suc d) (suc l) q p c h s e = by (part_at p.below (q / 16 ^ d)) refl e (λ x k w. cell_birth d l (q % 16 ^ d) x c (omega (arith, h)) k w)
  where
    by : (o : Option Part) → part_at p.below (q / 16 ^ d) ≡ o → option_and_then (λ (x : Part). cell_below d x (q % 16 ^ d)) o ≡ Some c
        → ((x : Part) → IsSound l x → cell_below d x (q % 16 ^ d) ≡ Some c → c.birth ≤ x.cell.birth) → c.birth ≤ p.cell.birth
    by None is e next = cc
    by (Some x) is e next = let kid = kid_at l (q / 16 ^ d) p x s is in let r = next x kid.1 e in let b = kid.0 in omega (arith, r, b)

pub none_younger : (l j : ℕ) (p : Part) (k : Key) (c : Cell) → IsSound l p → get (map_at l j p) k ≡ Some c → c.birth ≤ p.cell.birth
none_younger l j p k c s e = by (is_at_or_below (key_at l j) k) (sym (get-at l j p k s) ∙ e)
  where
    by : (b : Bool) → cond b (cell_below (l - k.level) p (k.index % 16 ^ (l - k.level))) None ≡ Some c → c.birth ≤ p.cell.birth
    by true e = cell_birth (l - k.level) l _ p c (omega arith) s e
    by false e = cc

pub branch_birth : (l : ℕ) (k : Key) (p : Part) (x : Key) (c : Cell) → k.level ≡ l → IsSound l p → get (branch_at k p).map x ≡ Some c → c.birth ≤ p.cell.birth
branch_birth l k p x c e s g =
    let is : k ≡ key_at l k.index = λ z. record { level = e z; index = k.index } in
    none_younger l k.index p x c s (ap (λ (b : Branch). get b.map x) (sym (ap (λ x. branch_at x p) is ∙ branch_is l k.index p)) ∙ g)

-- the branch of a root is all of the map
pub root-branch : (p : Part) → (branch_at (key_at 5 0) p).map ≡ map_of (grown p.cell p.below done)
unfolding branch_at map_of
root-branch p = refl

-- an index of a level above the leaves is small
pub small_index : (l i : ℕ) → 0 < l → l ≤ 5 → i < 16 ^ (5 - l) → i < 65536
small_index l i a b h =
    let sum : (5 - l) + (l - 1) ≡ 4 = omega arith in
    let power : 65536 ≡ 16 ^ (5 - l) * 16 ^ (l - 1) = ap (λ n. 16 ^ n) (sym sum) ∙ pow-add 16 (5 - l) (l - 1) in
    let p = span_positive (l - 1) in
    let m = mul-le-mul_left {m = 1} {n = 16 ^ (l - 1)} (16 ^ (5 - l)) p in
    omega (arith, power, m, h)

pub child_is_key : (k : Key) (i : ℕ) → IsKey k → 0 < k.level → i < 16 → IsKey (child_key k i)
child_is_key k i is a h =
    let low = is.level in
    let within = is.index in
    let deep : 5 - (k.level - 1) ≡ suc (5 - k.level) = omega (arith, low) in
    let power : 16 ^ (5 - (k.level - 1)) ≡ 16 ^ (5 - k.level) * 16 = ap (λ n. 16 ^ n) deep ∙ pow-suc 16 (5 - k.level) in
    record { level = omega (arith, low); index = omega (arith, power, within, h) }

-- what stands directly below from a place on
unfoldable pub branches_from : Branch → ℕ → List Branch
branches_from b n = filter_map (child_of b) (range_with_len n (16 - n))

pub from_first : (b : Branch) → branches_from b 0 ≡ branches_below b
unfolding branches_from branches_below
from_first b = refl

pub from_last : (b : Branch) → branches_from b 16 ≡ []
unfolding branches_from
from_last b = refl

from_next : (b : Branch) (n : ℕ) → n < 16 → branches_from b n ≡ cons_option (child_of b n) (branches_from b (n + 1))
unfolding branches_from
from_next b n h = let e : 16 - n ≡ suc (16 - (n + 1)) = omega arith in ap (λ k. filter_map (child_of b) (range_with_len n k)) e

cons-append : (o : Option Branch) (xs ys : List Branch) → cons_option o (xs ++ ys) ≡ cons_option o xs ++ ys
cons-append None xs ys = refl
cons-append (Some x) xs ys = refl

-- one place more is put onto others
pub one_put : (b : Branch) (n : ℕ) (o : Option Branch) (new mid old : List Branch) → 0 < n → n ≤ 16 → o ≡ child_of b (n - 1) → new ≡ cons_option o mid → mid ≡ branches_from b n ++ old → new ≡ branches_from b (n - 1) ++ old
one_put b n o new mid old some few is put e =
    let next : n - 1 + 1 ≡ n = omega arith in
    put
    ∙ (λ z. cons_option (is z) (e z))
    ∙ cons-append (child_of b (n - 1)) (branches_from b n) old
    ∙ ap (λ k. cons_option (child_of b (n - 1)) (branches_from b k) ++ old) (sym next)
    ∙ ap (λ xs. xs ++ old) (sym (from_next b (n - 1) (omega arith)))

-- all places are put onto others
pub all_put : (b : Branch) (n : ℕ) (new old : List Branch) → ¬ (0 < n) → new ≡ branches_from b n ++ old → new ≡ branches_below b ++ old
all_put b n new old none e = let first : n ≡ 0 = omega (arith, none) in e ∙ ap (λ k. branches_from b k ++ old) first ∙ ap (λ xs. xs ++ old) (from_first b)

-- sixteen at most
few_of : (f : ℕ → Option Branch) (xs : List ℕ) → length (filter_map f xs) ≤ length xs
few_of f [] = omega arith
few_of f (x ∷ xs) = by (f x) (few_of f xs)
  where
    by : (o : Option Branch) → length (filter_map f xs) ≤ length xs → length (cons_option o (filter_map f xs)) ≤ suc (length xs)
    by None h = omega (arith, h)
    by (Some b) h = omega (arith, h)

few_branches : (b : Branch) → length (branches_below b) ≤ 16
unfolding branches_below
few_branches b = let few = few_of (child_of b) (range_with_len 0 16) in let all = length-range_with_len 0 16 in omega (arith, few, all)

pub few_put : (b : Branch) (new old : List Branch) → reverse new ≡ branches_below b ++ reverse old → length new ≤ length old + 16
few_put b new old e =
    let few = few_branches b in
    let all = sym (length-reverse new) ∙ ap length e ∙ length-append (branches_below b) (reverse old) in
    let rest = length-reverse old in
    omega (arith, few, all, rest)

-- none below a leaf
none_of : (f : ℕ → Option Branch) (xs : List ℕ) → ((i : ℕ) → f i ≡ None) → filter_map f xs ≡ []
none_of f [] h = refl
none_of f (x ∷ xs) h = ap (λ o. cons_option o (filter_map f xs)) (h x) ∙ none_of f xs h

no_child : (b : Branch) (i : ℕ) → b.key.level ≡ 0 → child_of b i ≡ None
no_child b i e = ap (λ n. cond (nat_lt 0 n && is_some (get b.map (child_key b.key i))) (Some (record { key = child_key b.key i; map = map_below b.map (child_key b.key i) })) None) e

pub leaf_child : (k : Key) (p : Part) (i : ℕ) → k.level ≡ 0 → child_of (branch_at k p) i ≡ None
leaf_child k p i e = no_child (branch_at k p) i (ap (λ (x : Key). x.level) (key-branch_at k p) ∙ e)

pub leaf_below : (k : Key) (p : Part) → k.level ≡ 0 → branches_below (branch_at k p) ≡ []
unfolding branches_below
leaf_below k p e = none_of (child_of (branch_at k p)) (range_with_len 0 16) (λ i. leaf_child k p i e)

-- the part at a place, by one more owner of it
pub kept_kid : {C : Type 0} (f : C → Part) (ps : List (Pair C)) (i : ℕ) (r : Option (Bor (Arc C Global))) (o : Option (Arc C Global)) → option_map (λ a. a.now) r ≡ get_or (places_in ps) i None → part_of_slot f o ≡ part_of_owner f r
    → part_of_slot f o ≡ part_at (forest_of (shared_part f) (places_in ps)) i
kept_kid f ps i r o e k =
    k
    ∙ twice (λ b. b.now) (shared_part f) r
    ∙ ap (option_map (shared_part f)) e
    ∙ sym (places-forest_of (shared_part f) (places_in ps) i)
    ∙ sym (part_at-places (forest_of (shared_part f) (places_in ps)) i)

pub sound_kid : (l i : ℕ) (p : Part) (o : Option Part) → IsSound (suc l) p → o ≡ part_at p.below i → IfSome o (IsSound l)
sound_kid l i p None s e = tt
sound_kid l i p (Some q) s e = (kid_at l i p q s (sym e)).1

-- The entries of a well-shaped forest stand in the keys' order.
use Rattle.std.proofs.Common.{◌≡◌, ℕ, zero, suc, ◌+◌, ◌*◌, ◌-◌, ◌^◌, ◌<◌, ◌≤◌, List, [], ◌∷◌, ◌++◌, Bool, true, false, ap, arith, T, sub-one, ⊎_elim}
use Rattle.std.proofs.lemmas.Bool.{cases_lt}
use Rattle.std.proofs.Math.Nat.{pow-suc}
use Rattle.std.specs.Prelude.{◌&&◌}
use Rattle.std.specs.Ordering.{nat_cmp, is_lt}
use Rattle.std.specs.Cmp.{nat_cmp_is}
use Rattle.std.specs.declared.cmp.Ordering.TheVariants.{Less, Equal}
use Rattle.std.specs.FinMap as fin
use Rattle.base.specs.declared.number.Key.{Key}
use Rattle.base.specs.Map.{Cell}
use Rattle.node.specs.Shape.{Forest, done, gap, grown}
use Rattle.base.specs.Key.{first_leaf, key_cmp}
use Rattle.node.specs.Entries.{key_at, entries_from, width, IsWell, IsShaped}

pub less_by_leaf : (x y : Key) → first_leaf x < first_leaf y → T (is_lt (key_cmp x y))
less_by_leaf x y h = let e : Less ≡ nat_cmp (first_leaf x) (first_leaf y) = nat_cmp_is _ _ Less h in rw (← e) tt

pub less_by_level : (x y : Key) → first_leaf x ≡ first_leaf y → y.level < x.level → T (is_lt (key_cmp x y))
less_by_level x y e h =
    let a : Equal ≡ nat_cmp (first_leaf x) (first_leaf y) = nat_cmp_is _ _ Equal e in
    let b : Less ≡ nat_cmp y.level x.level = nat_cmp_is _ _ Less h in
    rw (← a, ← b) tt

-- each entry lies between two leaves, at most so high
abbrev pub Placed : ℕ → ℕ → ℕ → List (Key × Cell) → Type 0
Placed low high top [] = Unit {0}
Placed low high top (e ∷ es) = (low ≤ first_leaf e.0) × (first_leaf e.0 < high) × (e.0.level ≤ top) × Placed low high top es

Placed-append : (low high top : ℕ) (xs ys : List (Key × Cell)) → Placed low high top xs → Placed low high top ys → Placed low high top (xs ++ ys)
Placed-append low high top [] ys p q = q
Placed-append low high top (x ∷ xs) ys p q = (p.0, p.1, p.2, Placed-append low high top xs ys p.3 q)

Placed-wider : (low high top low' high' top' : ℕ) (xs : List (Key × Cell)) → low' ≤ low → high ≤ high' → top ≤ top' → Placed low high top xs → Placed low' high' top' xs
Placed-wider low high top low' high' top' [] a b c p = tt
Placed-wider low high top low' high' top' (x ∷ xs) a b c p = (omega arith, omega arith, omega arith, Placed-wider low high top low' high' top' xs a b c p.3)

both : (a b : Bool) → T a → T b → T (a && b)
both true b p q = q
both false b p q = p

first : (a b : Bool) → T (a && b) → T a
first true b p = tt
first false b p = p

second : (a b : Bool) → T (a && b) → T b
second true b p = p
second false b p = absurd p

-- a key is below entries that begin at a later leaf
below_later : (k : Key) (low high top : ℕ) (es : List (Key × Cell)) → first_leaf k < low → Placed low high top es → T (fin.Entries.below_all key_cmp k es)
below_later k low high top [] h p = tt
below_later k low high top (e ∷ es) h p = both _ _ (less_by_leaf k e.0 (omega arith)) (below_later k low high top es h p.3)

-- and below entries of lower levels that begin no earlier
below_lower : (k : Key) (low high top : ℕ) (es : List (Key × Cell)) → first_leaf k ≤ low → top < k.level → Placed low high top es → T (fin.Entries.below_all key_cmp k es)
below_lower k low high top [] h t p = tt
below_lower k low high top (e ∷ es) h t p = both _ _
    (⊎_elim (λ lt. less_by_leaf k e.0 lt) (λ le. less_by_level k e.0 (omega arith) (omega arith)) (cases_lt (first_leaf k) (first_leaf e.0)))
    (below_lower k low high top es h t p.3)

below_all-append : (k : Key) (xs ys : List (Key × Cell)) → T (fin.Entries.below_all key_cmp k xs) → T (fin.Entries.below_all key_cmp k ys) → T (fin.Entries.below_all key_cmp k (xs ++ ys))
below_all-append k [] ys p q = q
below_all-append k (x ∷ xs) ys p q = both _ _ (first _ _ p) (below_all-append k xs ys (second _ _ p) q)

is_sorted-append : (m a b c d : ℕ) (xs ys : List (Key × Cell)) → T (fin.is_sorted key_cmp xs) → T (fin.is_sorted key_cmp ys) → Placed a m b xs → Placed m c d ys → T (fin.is_sorted key_cmp (xs ++ ys))
is_sorted-append m a b c d [] ys p q placed later = q
is_sorted-append m a b c d (x ∷ xs) ys p q placed later =
    both _ _ (below_all-append x.0 xs ys (first _ _ p) (below_later x.0 m c d ys placed.1 later)) (is_sorted-append m a b c d xs ys (second _ _ p) q placed.3 later)

pub span_positive : (l : ℕ) → 0 < 16 ^ l
span_positive zero = omega arith
span_positive (suc l) = let e = pow-suc 16 l in let p = span_positive l in omega (arith, e, p)

-- where the entries below a cell of a level lie
pub below_placed : (l j : ℕ) (c : Cell) (b : Forest) → IsShaped l c b → Placed (16 * j * 16 ^ (l - 1)) ((16 * j + width b) * 16 ^ (l - 1)) (l - 1) (entries_from (l - 1) (16 * j) b) → Placed (j * 16 ^ l) ((j + 1) * 16 ^ l) (l - 1) (entries_from (l - 1) (16 * j) b)
below_placed zero j c b shape p = rw shape.0 tt
below_placed (suc l) j c b shape p =
    let e : j * 16 ^ suc l ≡ j * (16 ^ l * 16) = ap (λ x. j * x) (pow-suc 16 l) in
    let e1 : 16 ^ suc l ≡ 16 ^ l * 16 = pow-suc 16 l in
    let w : width b ≡ 16 = shape.0 in
    let q = rw (sub-one, w) at p in
    rw sub-one (Placed-wider _ _ _ _ _ _ _ (omega (arith, e)) (omega (arith, e, e1)) (omega arith) q)

-- where the entries of places lie
pub placed : (l j g : ℕ) (f : Forest) → IsWell l g f → Placed (j * 16 ^ l) ((j + width f) * 16 ^ l) l (entries_from l j f)
placed l j g done w = tt
placed l j g (gap r) w = Placed-wider _ _ _ _ _ _ _ (omega arith) (omega arith) (omega arith) (placed l (j + 1) g r w)
placed l j g (grown c b r) w =
    let below = below_placed l j c b w.1 (placed (l - 1) (16 * j) c.birth b w.2) in
    let positive = span_positive l in
    let n = width r in (
      omega arith,
      omega (arith, positive),
      omega arith,
      Placed-append _ _ _ (entries_from (l - 1) (16 * j) b) _
          (Placed-wider _ _ _ _ _ _ _ (omega arith) (omega arith) (omega arith) below)
          (Placed-wider _ _ _ _ _ _ _ (omega arith) (omega arith) (omega arith) (placed l (j + 1) g r w.3)),
    )

lower_than_cell : (l j : ℕ) (c : Cell) (b : Forest) → IsShaped l c b → Placed (j * 16 ^ l) ((j + 1) * 16 ^ l) (l - 1) (entries_from (l - 1) (16 * j) b) → T (fin.Entries.below_all key_cmp (key_at l j) (entries_from (l - 1) (16 * j) b))
lower_than_cell zero j c b shape p = rw shape.0 tt
lower_than_cell (suc l) j c b shape p = below_lower (key_at (suc l) j) _ _ (suc l - 1) _ (omega arith) (omega arith) p

pub entries_sorted : (l j g : ℕ) (f : Forest) → IsWell l g f → T (fin.is_sorted key_cmp (entries_from l j f))
entries_sorted l j g done w = tt
entries_sorted l j g (gap r) w = entries_sorted l (j + 1) g r w
entries_sorted l j g (grown c b r) w =
    let below = below_placed l j c b w.1 (placed (l - 1) (16 * j) c.birth b w.2) in
    let positive = span_positive l in
    both _ _
    (below_all-append (key_at l j) (entries_from (l - 1) (16 * j) b) _ (lower_than_cell l j c b w.1 below) (below_later (key_at l j) _ _ _ _ (omega (arith, positive)) (placed l (j + 1) g r w.3)))
    (is_sorted-append ((j + 1) * 16 ^ l) _ _ _ _ (entries_from (l - 1) (16 * j) b) _ (entries_sorted (l - 1) (16 * j) c.birth b w.2) (entries_sorted l (j + 1) g r w.3) below (placed l (j + 1) g r w.3))

-- Names in the order of their heads.
use Rattle.std.proofs.Common.{◌≡◌, ℕ, zero, suc, ◌+◌, ◌*◌, ◌^◌, ◌<◌, ◌≤◌, Bool, true, false, cond, List, [], ◌∷◌, length, get_or, ◌⊎◌, inl, inr, ⊎_elim, refl, sym, ap, subst, ◌∙◌, arith}
use Rattle.std.proofs.lemmas.Bool.{cases_lt, lt-ltb, le-ltb}
use Rattle.std.proofs.Math.Nat.{mul-le-mul_right, pow-succ'}
use Rattle.std.specs.Prelude.{nat_lt, ◌==◌}
use Rattle.std.specs.Ordering.{is_lt, is_eq, nat_cmp, ordering_then, ordering_reverse}
use Rattle.std.specs.Cmp.Lexicographic.{nat_list_cmp_total, texts_ties}
use Rattle.std.specs.Cmp.{nat_cmp_is}
use Rattle.std.specs.declared.cmp.Ordering.TheVariants.{Less, Equal, Greater}
use Rattle.base.specs.Names.{name_cmp, same_name}
use Rattle.snapshots.specs.Heads.{name_head}

abbrev AreBytes : List ℕ → Type 0
AreBytes bs = (i : ℕ) → get_or bs i 0 < 256

-- so many bytes from place i on as a number, the first one highest
worth : ℕ → ℕ → List ℕ → ℕ
worth zero i bs = 0
worth (suc n) i bs = get_or bs i 0 * 256 ^ n + worth n (suc i) bs

-- a place later, of a byte more
shifted : (n i x : ℕ) (bs : List ℕ) → worth n (suc i) (x ∷ bs) ≡ worth n i bs
unfolding worth
shifted zero i x bs = refl
shifted (suc n) i x bs = ap (λ w. get_or bs i 0 * 256 ^ n + w) (shifted n (suc i) x bs)

no_worth : (n i : ℕ) → worth n i [] ≡ 0
unfolding worth
no_worth zero i = refl
no_worth (suc n) i = let rest = no_worth n (suc i) in omega (arith, rest)

-- such a number stays below what one at the place before is worth
bounded : (n i : ℕ) (bs : List ℕ) → AreBytes bs → worth n i bs < 256 ^ n
unfolding worth
bounded zero i bs bytes = omega arith
bounded (suc n) i bs bytes =
    let rest = bounded n (suc i) bs bytes in
    let byte = bytes i in
    let first : get_or bs i 0 * 256 ^ n ≤ 255 * 256 ^ n = mul-le-mul_right (256 ^ n) (omega (arith, byte)) in
    omega (arith, rest, first, pow-succ' 256 n)

-- a lower first byte makes a lower number
lower_first : (p x y a b : ℕ) → a < p → x < y → x * p + a < y * p + b
lower_first p x y a b low lt = let first : suc x * p ≤ y * p = mul-le-mul_right p (omega (arith, lt)) in omega (arith, first, low)

-- where the second number is higher its first byte isn't lower, and the rest decides if it is the same
below_by : (n : ℕ) (xs ys : List ℕ) → AreBytes ys → worth n 0 xs < worth n 0 ys → name_cmp xs ys ≡ Less
unfolding worth
below_by zero xs ys bytes lt = absurd (omega (arith, lt))
below_by (suc n) xs [] bytes lt = let none = no_worth (suc n) 0 in absurd (omega (arith, lt, none))
below_by (suc n) [] (y ∷ ys) bytes lt = refl
below_by (suc n) (x ∷ xs) (y ∷ ys) bytes lt =
    let high = bounded n 0 ys (λ i. bytes (suc i)) in
    let one = shifted n 0 x xs in
    let two = shifted n 0 y ys in
    by (cases_lt x y) (cases_lt y x) high (omega (arith, lt, one, two)) (below_by n xs ys (λ i. bytes (suc i)))
  where
    by : (x < y) ⊎ (y ≤ x) → (y < x) ⊎ (x ≤ y) → worth n 0 ys < 256 ^ n → x * 256 ^ n + worth n 0 xs < y * 256 ^ n + worth n 0 ys → (worth n 0 xs < worth n 0 ys → name_cmp xs ys ≡ Less) → ordering_then (nat_cmp x y) (name_cmp xs ys) ≡ Less
    by (inl lower) other high lt rest = ap (λ r. ordering_then r (name_cmp xs ys)) (sym (nat_cmp_is x y Less lower))
    by (inr least) (inl higher) high lt rest =
        let other = lower_first (256 ^ n) y x (worth n 0 ys) (worth n 0 xs) high higher in absurd (omega (arith, other, lt))
    by (inr least) (inr most) high lt rest =
        let same : x ≡ y = omega (arith, least, most) in
        let lower : worth n 0 xs < worth n 0 ys = subst (λ z. z * 256 ^ n + worth n 0 xs < y * 256 ^ n + worth n 0 ys → worth n 0 xs < worth n 0 ys) (sym same) (λ h. omega (arith, h)) lt in
        ap (λ r. ordering_then r (name_cmp xs ys)) (sym (nat_cmp_is x y Equal same)) ∙ rest lower

lengths_on : (m n : ℕ) → nat_cmp m n ≡ nat_cmp (suc m) (suc n)
lengths_on m n = by (cases_lt m n) (cases_lt n m)
  where
    by : (m < n) ⊎ (n ≤ m) → (n < m) ⊎ (m ≤ n) → nat_cmp m n ≡ nat_cmp (suc m) (suc n)
    by (inl lt) other = sym (nat_cmp_is m n Less lt) ∙ nat_cmp_is (suc m) (suc n) Less (omega (arith, lt))
    by (inr le) (inl lt) = sym (nat_cmp_is m n Greater lt) ∙ nat_cmp_is (suc m) (suc n) Greater (omega (arith, lt))
    by (inr le) (inr other) = sym (nat_cmp_is m n Equal (omega (arith, le, other))) ∙ nat_cmp_is (suc m) (suc n) Equal (omega (arith, le, other))

-- where the numbers of all their bytes are the same, names are in the order of their lengths
level_by : (n : ℕ) (xs ys : List ℕ) → AreBytes xs → AreBytes ys → length xs ≤ n → length ys ≤ n → worth n 0 xs ≡ worth n 0 ys → name_cmp xs ys ≡ nat_cmp (length xs) (length ys)
unfolding worth
level_by n [] [] one two few some is = nat_cmp_is 0 0 Equal refl
level_by n [] (y ∷ ys) one two few some is = nat_cmp_is 0 (suc (length ys)) Less (omega arith)
level_by n (x ∷ xs) [] one two few some is = nat_cmp_is (suc (length xs)) 0 Greater (omega arith)
level_by zero (x ∷ xs) (y ∷ ys) one two few some is = absurd (omega (arith, few))
level_by (suc n) (x ∷ xs) (y ∷ ys) one two few some is =
    let first = shifted n 0 x xs in
    let second = shifted n 0 y ys in
    by (cases_lt x y) (cases_lt y x) (bounded n 0 xs (λ i. one (suc i))) (bounded n 0 ys (λ i. two (suc i))) (omega (arith, is, first, second)) (level_by n xs ys (λ i. one (suc i)) (λ i. two (suc i)) (omega (arith, few)) (omega (arith, some)))
  where
    by : (x < y) ⊎ (y ≤ x) → (y < x) ⊎ (x ≤ y) → worth n 0 xs < 256 ^ n → worth n 0 ys < 256 ^ n → x * 256 ^ n + worth n 0 xs ≡ y * 256 ^ n + worth n 0 ys → (worth n 0 xs ≡ worth n 0 ys → name_cmp xs ys ≡ nat_cmp (length xs) (length ys)) → ordering_then (nat_cmp x y) (name_cmp xs ys) ≡ nat_cmp (suc (length xs)) (suc (length ys))
    by (inl lower) other low high is rest =
        let differ = lower_first (256 ^ n) x y (worth n 0 xs) (worth n 0 ys) low lower in absurd (omega (arith, differ, is))
    by (inr least) (inl higher) low high is rest =
        let differ = lower_first (256 ^ n) y x (worth n 0 ys) (worth n 0 xs) high higher in absurd (omega (arith, differ, is))
    by (inr least) (inr most) low high is rest =
        let same : x ≡ y = omega (arith, least, most) in
        let level : worth n 0 xs ≡ worth n 0 ys = subst (λ z. z * 256 ^ n + worth n 0 xs ≡ y * 256 ^ n + worth n 0 ys → worth n 0 xs ≡ worth n 0 ys) (sym same) (λ h. omega (arith, h)) is in
        ap (λ r. ordering_then r (name_cmp xs ys)) (sym (nat_cmp_is x y Equal same)) ∙ rest level ∙ lengths_on (length xs) (length ys)

head_is : (xs : List ℕ) → name_head xs ≡ worth 8 0 xs
unfolding worth name_head
head_is xs = omega arith

below_by_heads : (xs ys : List ℕ) → AreBytes ys → name_head xs < name_head ys → name_cmp xs ys ≡ Less
below_by_heads xs ys bytes lt = let one = head_is xs in let two = head_is ys in below_by 8 xs ys bytes (omega (arith, lt, one, two))

-- names whose heads differ are in the order of these
pub by_heads : (xs ys : List ℕ) → AreBytes xs → AreBytes ys → (name_head xs ≡ name_head ys → ⊥) → nat_lt (name_head xs) (name_head ys) ≡ is_lt (name_cmp xs ys)
by_heads xs ys one two differ = by (cases_lt (name_head xs) (name_head ys))
  where
    by : (name_head xs < name_head ys) ⊎ (name_head ys ≤ name_head xs) → nat_lt (name_head xs) (name_head ys) ≡ is_lt (name_cmp xs ys)
    by (inl lower) =
        let this : nat_lt (name_head xs) (name_head ys) ≡ true = lt-ltb (name_head xs) (name_head ys) lower in
        this ∙ sym (ap is_lt (below_by_heads xs ys two lower))
    by (inr least) =
        let this : nat_lt (name_head xs) (name_head ys) ≡ false = le-ltb (name_head xs) (name_head ys) least in
        let higher : name_head ys < name_head xs = ⊎_elim (λ lt. lt) (λ le. absurd (differ (omega (arith, least, le)))) (cases_lt (name_head ys) (name_head xs)) in
        let other : name_cmp xs ys ≡ Greater = nat_list_cmp_total.antisymm xs ys ∙ ap ordering_reverse (below_by_heads ys xs one higher) in
        this ∙ sym (ap is_lt other)

is_lt_of : (b c : Bool) → is_lt (cond b Less (cond c Equal Greater)) ≡ b
is_lt_of true c = refl
is_lt_of false true = refl
is_lt_of false false = refl

-- short names of one head are in the order of their lengths
module _ (xs ys : List ℕ) (one : AreBytes xs) (two : AreBytes ys) (few : length xs ≤ 8) (some : length ys ≤ 8) (level : name_head xs ≡ name_head ys) where
  by_length : name_cmp xs ys ≡ nat_cmp (length xs) (length ys)
  by_length = level_by 8 xs ys one two few some (sym (head_is xs) ∙ level ∙ head_is ys)

  pub lower_by_length : nat_lt (length xs) (length ys) ≡ is_lt (name_cmp xs ys)
  lower_by_length = sym (ap is_lt by_length ∙ is_lt_of (nat_lt (length xs) (length ys)) (length xs == length ys))

  pub same_by_length : length xs ≡ length ys → same_name xs ys ≡ true
  same_by_length alike = texts_ties xs ys ∙ ap is_eq (by_length ∙ sym (nat_cmp_is (length xs) (length ys) Equal alike))

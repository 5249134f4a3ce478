-- What the keys of a root give, each at its place.
use Rattle.std.proofs.Common.{◌≡◌, ℕ, zero, suc, ◌+◌, ◌*◌, ◌-◌, ◌/◌, ◌%◌, ◌^◌, ◌<◌, ◌≤◌, Bool, cond, List, [], ◌∷◌, ◌++◌, length, get_or, map, Option, None, refl, sym, ap, subst, ◌∙◌, arith, inl, inr, ⊎_elim}
use Rattle.std.specs.Prelude.{count_by}
use Rattle.std.proofs.lemmas.List.{map-append}
use Rattle.std.proofs.lemmas.List.Sums.{sum_by-append}
use Rattle.std.proofs.Math.Nat.{pow-suc, mul-le-mul_right}
use Rattle.base.specs.declared.number.Key.{Key}
use Rattle.std.specs.declared.cmp.Ordering.TheVariants.{Less}
use Rattle.base.specs.Key.{first_leaf, key_cmp}
use Rattle.base.specs.Map.{Map}
use Rattle.base.specs.Surveys.{IsIn, AreDifferent}
use Rattle.node.specs.Entries.{key_at}
use Rattle.node.specs.Kid.{places_of}
use Rattle.node.specs.Shape.{Part}
use Rattle.batch.specs.Touch.{later_first, listing}
use Rattle.node.proofs.Order.{span_positive}
use Rattle.node.proofs.Places.{kids_of}
use Rattle.batch.proofs.NumberLaws.{in_append, in_left, in_right}
use Rattle.batch.proofs.Falling.{Falls, falls_append, before_leaf, before_below}
use Rattle.batch.proofs.TouchLaws.{listing_down, listing_at_leaf}
use Rattle.batch.proofs.Heres.{kid_of}
use Rattle.batch.proofs.Standing.{Stands, IsPlace, part_at_key, place_up, place_down, at_kid, at_sound}

-- members of mapped lists
pub in_map : {A B : Type 0} (f : A → B) (xs : List A) (x : A) → IsIn xs x → IsIn (map f xs) (f x)
in_map f [] x h = absurd h
in_map f (y ∷ xs) x h = ⊎_elim (λ e. inl (ap f e)) (λ r. inr (in_map f xs x r)) h

pub from_map : {A B : Type 0} (f : A → B) (xs : List A) (b : B) → IsIn (map f xs) b → (x : A) × IsIn xs x × (f x ≡ b)
from_map f [] b h = absurd h
from_map f (y ∷ xs) b h = ⊎_elim (λ e. (y, inl refl, sym e)) (λ r. let x = from_map f xs b r in (x.0, inr x.1, x.2)) h

-- where a map is one to one, its values differ
pub one_to_one : {A B : Type 0} (f : A → B) (xs : List A) (x y : A) → AreDifferent (map f xs) → IsIn xs x → IsIn xs y → f x ≡ f y → x ≡ y
one_to_one f [] x y d a b e = absurd a
one_to_one f (z ∷ xs) x y d a b e = ⊎_elim
    (λ p. ⊎_elim (λ q. p ∙ sym q) (λ q. absurd (d.0 (subst (IsIn (map f xs)) (sym e ∙ ap f p) (in_map f xs y q)))) b)
    (λ p. ⊎_elim (λ q. absurd (d.0 (subst (IsIn (map f xs)) (e ∙ ap f q) (in_map f xs x p)))) (λ q. one_to_one f xs x y d.1 p q e) b)
    a

pub different_by : {A B C : Type 0} (f : A → B) (h : A → C) (xs : List A) → AreDifferent (map f xs) → ((x y : A) → IsIn xs x → IsIn xs y → h x ≡ h y → f x ≡ f y) → AreDifferent (map h xs)
different_by f h [] d e = tt
different_by f h (x ∷ xs) d e = (
  λ t. let y = from_map h xs (h x) t in d.0 (subst (IsIn (map f xs)) (e y.0 x (inr y.1) (inl refl) y.2) (in_map f xs y.0 y.1)),
  different_by f h xs d.1 (λ a b p q. e a b (inr p) (inr q)),
)

-- members of the places' lists
pub later_in : {A : Type 0} (f : ℕ → Option Part → List A) (j : ℕ) (os : List (Option Part)) (x : A) → IsIn (later_first f j os) x → (i : ℕ) × (i < length os) × IsIn (f (j + i) (get_or os i None)) x
later_in f j [] x h = absurd h
later_in f j (o ∷ os) x h = ⊎_elim
    (λ r. let p = later_in f (j + 1) os x r in let l = p.1 in let s : j + 1 + p.0 ≡ j + suc p.0 = omega arith in (suc p.0, omega arith, subst (λ n. IsIn (f n (get_or os p.0 None)) x) s p.2))
    (λ r. let s : j ≡ j + 0 = omega arith in (zero, omega arith, subst (λ n. IsIn (f n o) x) s r))
    (in_append (later_first f (j + 1) os) (f j o) x h)

pub in_later : {A : Type 0} (f : ℕ → Option Part → List A) (j i : ℕ) (os : List (Option Part)) (x : A) → i < length os → IsIn (f (j + i) (get_or os i None)) x → IsIn (later_first f j os) x
in_later f j i [] x l h = absurd (omega arith)
in_later f j zero (o ∷ os) x l h = let s : j + 0 ≡ j = omega arith in in_right (later_first f (j + 1) os) (f j o) x (subst (λ n. IsIn (f n o) x) s h)
in_later f j (suc i) (o ∷ os) x l h = let s : j + suc i ≡ j + 1 + i = omega arith in in_left (later_first f (j + 1) os) (f j o) x (in_later f (j + 1) i os x (omega arith) (subst (λ n. IsIn (f n (get_or os i None)) x) s h))

-- a key at or below another, by its leaves
pub record IsUnder (l j : ℕ) (k : Key) : Type 0 where
  pub level : k.level ≤ l
  pub from : j * 16 ^ l ≤ first_leaf k
  pub to : first_leaf k < (j + 1) * 16 ^ l

under_up : (l j i : ℕ) (k : Key) → i < 16 → IsUnder l (16 * j + i) k → IsUnder (suc l) j k
under_up l j i k h u =
    let a = u.level in let b = u.from in let c = u.to in
    let w : 16 ^ suc l ≡ 16 ^ l * 16 = pow-suc 16 l in
    let low : j * 16 ^ suc l ≡ j * (16 ^ l * 16) = ap (λ z. j * z) w in
    let high : (j + 1) * 16 ^ suc l ≡ (j + 1) * (16 ^ l * 16) = ap (λ z. (j + 1) * z) w in
    let m = mul-le-mul_right {m = 16 * j} {n = 16 * j + i} (16 ^ l) (omega arith) in
    let n = mul-le-mul_right {m = 16 * j + i + 1} {n = 16 * j + 16} (16 ^ l) (omega arith) in
    record { level = omega arith; from = omega (arith, low, m, b); to = omega (arith, high, n, c) }

under_self : (l j : ℕ) → IsUnder l j (key_at l j)
under_self l j = let p = span_positive l in record { level = omega arith; from = omega arith; to = omega (arith, p) }

-- the lists of places under rising keys, the last of them first
later_falls : {A : Type 0} (f : ℕ → Option Part → List A) (g : A → Key) (l j : ℕ) (os : List (Option Part))
    → ((i : ℕ) → i < length os → Falls (map g (f (j + i) (get_or os i None))))
    → ((i : ℕ) (x : A) → i < length os → IsIn (f (j + i) (get_or os i None)) x → IsUnder l (j + i) (g x)) → Falls (map g (later_first f j os))
later_falls f g l j [] each under = tt
later_falls f g l j (o ∷ os) each under =
    let z : j + 0 ≡ j = omega arith in
    subst Falls (sym (map-append g (later_first f (j + 1) os) (f j o)))
    (falls_append (map g (later_first f (j + 1) os)) (map g (f j o))
    (later_falls f g l (j + 1) os
    (λ i h. let s : j + suc i ≡ j + 1 + i = omega arith in subst (λ n. Falls (map g (f n (get_or os i None)))) s (each (suc i) (omega arith)))
    (λ i x h m. let s : j + suc i ≡ j + 1 + i = omega arith in subst (λ n. IsUnder l n (g x)) s (under (suc i) x (omega arith) (subst (λ n. IsIn (f n (get_or os i None)) x) (sym s) m))))
    (subst (λ n. Falls (map g (f n o))) z (each 0 (omega arith)))
    (λ k q a b.
    let x = from_map g (later_first f (j + 1) os) k a in
    let y = from_map g (f j o) q b in
    let p = later_in f (j + 1) os x.0 x.1 in
    let s : j + suc p.0 ≡ j + 1 + p.0 = omega arith in
    let u = under (suc p.0) x.0 (let q = p.1 in omega arith) (subst (λ n. IsIn (f n (get_or os p.0 None)) x.0) (sym s) p.2) in
    let v = under 0 y.0 (omega arith) (subst (λ n. IsIn (f n o) y.0) (sym z) y.1) in
    let e = ap first_leaf x.2 in
    let w = ap first_leaf y.2 in
    let m = mul-le-mul_right {m = j + 0 + 1} {n = j + suc p.0} (16 ^ l) (omega arith) in
    let c = u.from in let d = v.to in
    before_leaf q k (omega (arith, e, w, m, c, d))))

module _ (m : Map) (o : Option Part) (h : ℕ) (st : Stands m o h) {A : Type 0} (own : ℕ → ℕ → Option Part → List A) where
  abbrev at : ℕ → ℕ → Option Part
  at = part_at_key o

  wide : (l j : ℕ) → l < 5 → length (places_of (at (suc l) j)) ≡ 16
  wide l j a = (kids_of l h (at (suc l) j) (at_sound m o h (suc l) j st (omega arith))).0

  -- what is listed is some key's own
  pub listing_in : (l j : ℕ) (x : A) → IsPlace l j → IsIn (listing own l j (at l j)) x → (k : Key) × IsPlace k.level k.index × IsUnder l j k × IsIn (own k.level k.index (at k.level k.index)) x
  listing_in zero j x p i = (key_at 0 j, p, under_self 0 j, subst (λ xs. IsIn xs x) (listing_at_leaf own j (at 0 j)) i)
  listing_in (suc l) j x p i = ⊎_elim
      (λ r.
      let a = p.level in
      let w = wide l j (omega arith) in
      let q = later_in (listing own l) (16 * j) (places_of (at (suc l) j)) x r in
      let b : q.0 < 16 = let z = q.1 in omega arith in
      let k = listing_in l (16 * j + q.0) x (place_up l j q.0 p b) (subst (λ t. IsIn (listing own l (16 * j + q.0) t) x) (sym (at_kid o l j q.0 p b)) q.2) in
      (k.0, k.1, under_up l j q.0 k.0 b k.2, k.3))
      (λ r. (key_at (suc l) j, p, under_self (suc l) j, r))
      (in_append (later_first (listing own l) (16 * j) (places_of (at (suc l) j))) (own (suc l) j (at (suc l) j)) x (subst (λ xs. IsIn xs x) (listing_down own l j (at (suc l) j)) i))

  own_in : (l j : ℕ) (x : A) → IsIn (own l j (at l j)) x → IsIn (listing own l j (at l j)) x
  own_in zero j x i = subst (λ xs. IsIn xs x) (sym (listing_at_leaf own j (at 0 j))) i
  own_in (suc l) j x i = subst (λ xs. IsIn xs x) (sym (listing_down own l j (at (suc l) j))) (in_right (later_first (listing own l) (16 * j) (places_of (at (suc l) j))) _ x i)

  step_up : (l j : ℕ) (x : A) → l < 5 → IsPlace l j → IsIn (listing own l j (at l j)) x → IsIn (listing own (suc l) (j / 16) (at (suc l) (j / 16))) x
  step_up l j x b p i =
      let up = place_down l j b p in
      let split : j ≡ 16 * (j / 16) + j % 16 = omega arith in
      let r : j % 16 < 16 = omega arith in
      let w = wide l (j / 16) b in
      let P : ℕ → Type 0 = λ n. IsIn (listing own l n (at l n)) x in
      let here : IsIn (listing own l (16 * (j / 16) + j % 16) (kid_of (at (suc l) (j / 16)) (j % 16))) x = subst (λ t. IsIn (listing own l (16 * (j / 16) + j % 16) t) x) (at_kid o l (j / 16) (j % 16) up r) (subst P split i) in
      subst (λ xs. IsIn xs x) (sym (listing_down own l (j / 16) (at (suc l) (j / 16))))
      (in_left _ (own (suc l) (j / 16) (at (suc l) (j / 16))) x (in_later (listing own l) (16 * (j / 16)) (j % 16) (places_of (at (suc l) (j / 16))) x (omega arith) here))

  climb : (d l j : ℕ) (x : A) → l + d ≡ 5 → IsPlace l j → IsIn (listing own l j (at l j)) x → IsIn (listing own 5 0 o) x
  climb zero l j x e p i =
      let five : l ≡ 5 = omega arith in
      let b = p.index in
      let one : 16 ^ (5 - l) ≡ 1 = ap (λ n. 16 ^ (5 - n)) five in
      let z : j ≡ 0 = omega (arith, one, b) in
      let P : ℕ → ℕ → Type 0 = λ l j. IsIn (listing own l j (at l j)) x in
      subst (P 5) z (subst (λ l. P l j) five i)
  climb (suc d) l j x e p i = let a : l < 5 = omega arith in climb d (suc l) (j / 16) x (omega arith) (place_down l j a p) (step_up l j x a p i)

  -- and each key's own is listed
  pub in_listing : (k : Key) (x : A) → IsPlace k.level k.index → IsIn (own k.level k.index (at k.level k.index)) x → IsIn (listing own 5 0 o) x
  in_listing k x p i = let a = p.level in climb (5 - k.level) k.level k.index x (omega arith) p (own_in k.level k.index x i)

  -- the keys fall
  pub listing_falls : (g : A → Key) → ((l j : ℕ) (q : Option Part) → Falls (map g (own l j q))) → ((l j : ℕ) (q : Option Part) (x : A) → IsIn (own l j q) x → g x ≡ key_at l j)
      → (l j : ℕ) → IsPlace l j → Falls (map g (listing own l j (at l j)))
  listing_falls g one is zero j p = subst (λ xs. Falls (map g xs)) (sym (listing_at_leaf own j (at 0 j))) (one 0 j (at 0 j))
  listing_falls g one is (suc l) j p =
      let a = p.level in
      let os = places_of (at (suc l) j) in
      let w = wide l j (omega arith) in
      subst (λ xs. Falls (map g xs)) (sym (listing_down own l j (at (suc l) j)))
      (subst Falls (sym (map-append g (later_first (listing own l) (16 * j) os) (own (suc l) j (at (suc l) j))))
      (falls_append _ (map g (own (suc l) j (at (suc l) j)))
      (later_falls (listing own l) g l (16 * j) os
      (λ i b. let q : i < 16 = omega arith in subst (λ t. Falls (map g (listing own l (16 * j + i) t))) (at_kid o l j i p q) (listing_falls g one is l (16 * j + i) (place_up l j i p q)))
      (λ i x b r. let q : i < 16 = omega arith in below l (16 * j + i) x (place_up l j i p q) (subst (λ t. IsIn (listing own l (16 * j + i) t) x) (sym (at_kid o l j i p q)) r)))
      (one (suc l) j (at (suc l) j))
      (λ k r b d.
      let x = from_map g _ k b in
      let y = from_map g _ r d in
      let q = later_in (listing own l) (16 * j) os x.0 x.1 in
      let z : q.0 < 16 = let t = q.1 in omega arith in
      let u = below l (16 * j + q.0) x.0 (place_up l j q.0 p z) (subst (λ t. IsIn (listing own l (16 * j + q.0) t) x.0) (sym (at_kid o l j q.0 p z)) q.2) in
      let v = (under_up l j q.0 (g x.0) z u).from in
      let n = u.level in
      let own_key : key_at (suc l) j ≡ r = sym (is (suc l) j (at (suc l) j) y.0 y.1) ∙ y.2 in
      subst (λ (k : Key). key_cmp r k ≡ Less) x.2 (subst (λ (t : Key). key_cmp t (g x.0) ≡ Less) own_key (before_below (key_at (suc l) j) (g x.0) (omega (arith, v)) (omega (arith, n)))))))
    where
      below : (l j : ℕ) (x : A) → IsPlace l j → IsIn (listing own l j (at l j)) x → IsUnder l j (g x)
      below l j x p i = let k = listing_in l j x p i in subst (IsUnder l j) (sym (is k.0.level k.0.index (at k.0.level k.0.index) x k.3)) k.2

-- the lists of keys, mapped
pub later_map : {A B : Type 0} (g : A → B) (f : ℕ → Option Part → List A) (f' : ℕ → Option Part → List B) (j : ℕ) (os : List (Option Part)) → ((k : ℕ) (q : Option Part) → map g (f k q) ≡ f' k q) → map g (later_first f j os) ≡ later_first f' j os
later_map g f f' j [] e = refl
later_map g f f' j (o ∷ os) e = map-append g (later_first f (j + 1) os) (f j o) ∙ (λ i. later_map g f f' (j + 1) os e i ++ e j o i)

pub listing_map : {A B : Type 0} (g : A → B) (own : ℕ → ℕ → Option Part → List A) (own' : ℕ → ℕ → Option Part → List B) → ((l j : ℕ) (q : Option Part) → map g (own l j q) ≡ own' l j q)
    → (l j : ℕ) (q : Option Part) → map g (listing own l j q) ≡ listing own' l j q
unfolding listing
listing_map g own own' e zero j q = e 0 j q
listing_map g own own' e (suc l) j q =
    map-append g (later_first (listing own l) (16 * j) (places_of q)) (own (suc l) j q)
    ∙ (λ i. later_map g (listing own l) (listing own' l) (16 * j) (places_of q) (λ k x. listing_map g own own' e l k x) i ++ e (suc l) j q i)

-- counts of three lists
count_append : {A : Type 0} (p : A → Bool) (xs ys : List A) → count_by p (xs ++ ys) ≡ count_by p xs + count_by p ys
count_append p xs ys = sum_by-append (λ z. cond (p z) 1 0) xs ys

abbrev IsSum : {A B C : Type 0} → (A → Bool) → (B → Bool) → (C → Bool) → List A → List B → List C → Type 0
IsSum p q r xs ys zs = count_by p xs ≡ count_by q ys + count_by r zs

later_count : {A B C : Type 0} (p : A → Bool) (q : B → Bool) (r : C → Bool) (f : ℕ → Option Part → List A) (g : ℕ → Option Part → List B) (h : ℕ → Option Part → List C) (j : ℕ) (os : List (Option Part))
    → ((k : ℕ) (o : Option Part) → IsSum p q r (f k o) (g k o) (h k o)) → IsSum p q r (later_first f j os) (later_first g j os) (later_first h j os)
later_count p q r f g h j [] e = refl
later_count p q r f g h j (o ∷ os) e =
    let a = count_append p (later_first f (j + 1) os) (f j o) in
    let b = count_append q (later_first g (j + 1) os) (g j o) in
    let c = count_append r (later_first h (j + 1) os) (h j o) in
    let d = later_count p q r f g h (j + 1) os e in
    let k = e j o in
    omega (arith, a, b, c, d, k)

pub listing_count : {A B C : Type 0} (p : A → Bool) (q : B → Bool) (r : C → Bool) (f : ℕ → ℕ → Option Part → List A) (g : ℕ → ℕ → Option Part → List B) (h : ℕ → ℕ → Option Part → List C)
    → ((l j : ℕ) (o : Option Part) → IsSum p q r (f l j o) (g l j o) (h l j o)) → (l j : ℕ) (o : Option Part) → IsSum p q r (listing f l j o) (listing g l j o) (listing h l j o)
unfolding listing
listing_count p q r f g h e zero j o = e 0 j o
listing_count p q r f g h e (suc l) j o =
    let a = count_append p (later_first (listing f l) (16 * j) (places_of o)) (f (suc l) j o) in
    let b = count_append q (later_first (listing g l) (16 * j) (places_of o)) (g (suc l) j o) in
    let c = count_append r (later_first (listing h l) (16 * j) (places_of o)) (h (suc l) j o) in
    let d = later_count p q r (listing f l) (listing g l) (listing h l) (16 * j) (places_of o) (λ k x. listing_count p q r f g h e l k x) in
    let k = e (suc l) j o in
    omega (arith, a, b, c, d, k)

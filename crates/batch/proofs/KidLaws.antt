-- What the places of a part give together.
use Rattle.std.proofs.Common.{◌≡◌, ℕ, zero, suc, ◌+◌, ◌*◌, ◌-◌, ◌^◌, ◌<◌, ◌≤◌, Bool, true, false, List, [], ◌∷◌, ◌++◌, length, get_or, take, drop, set, Option, Some, None, refl, sym, ap, ◌∙◌, arith, append_assoc, append-nil, drop-cons}
use Rattle.std.specs.Prelude.{◌||◌}
use Rattle.std.proofs.lemmas.List.{take_more, length-take}
use Rattle.std.proofs.Math.Nat.{pow-suc, mul-le-mul_right}
use Rattle.node.specs.Kid.{IsKid, birth_of, places_of}
use Rattle.node.specs.Shape.{Part}
use Rattle.batch.specs.Said.{Said}
use Rattle.batch.specs.Touch.{over_kids, any_kid, later_first}
use Rattle.batch.specs.Build.{parts}
use Rattle.node.proofs.Places.{AreKids, AreKids-at, kids_of}

pub or_false : (b : Bool) → (b || false) ≡ b
or_false true = refl
or_false false = refl

pub or_assoc : (a b c : Bool) → (a || (b || c)) ≡ ((a || b) || c)
or_assoc true b c = refl
or_assoc false b c = refl

or_swap : (a b c : Bool) → ((a || c) || b) ≡ (a || (b || c))
or_swap true b c = refl
or_swap false true true = refl
or_swap false true false = refl
or_swap false false true = refl
or_swap false false false = refl

any_push : (f : ℕ → Option Part → Bool) (j : ℕ) (os : List (Option Part)) (o : Option Part) → any_kid f j (os ++ o ∷ []) ≡ (any_kid f j os || f (j + length os) o)
any_push f j [] o = or_false (f j o) ∙ ap (λ n. f n o) (let e : j ≡ j + 0 = omega arith in e)
any_push f j (x ∷ os) o =
    let e : j + 1 + length os ≡ j + suc (length os) = omega arith in
    ap (λ b. f j x || b) (any_push f (j + 1) os o) ∙ or_assoc (f j x) (any_kid f (j + 1) os) (f (j + 1 + length os) o) ∙ ap (λ n. (f j x || any_kid f (j + 1) os) || f n o) e

later_push : {A : Type 0} (f : ℕ → Option Part → List A) (j : ℕ) (os : List (Option Part)) (o : Option Part) → later_first f j (os ++ o ∷ []) ≡ f (j + length os) o ++ later_first f j os
later_push f j [] o = ap (λ n. f n o) (let e : j ≡ j + 0 = omega arith in e) ∙ sym (append-nil (f (j + 0) o))
later_push f j (x ∷ os) o =
    let e : j + 1 + length os ≡ j + suc (length os) = omega arith in
    ap (λ xs. xs ++ f j x) (later_push f (j + 1) os o) ∙ append_assoc (f (j + 1 + length os) o) (later_first f (j + 1) os) (f j x) ∙ ap (λ n. f n o ++ (later_first f (j + 1) os ++ f j x)) e

front : (os : List (Option Part)) (i : ℕ) → i < length os → length (take i os) ≡ i
front os i h = let n = length-take i os in omega (arith, n)

-- one place more
pub any_more : (f : ℕ → Option Part → Bool) (j : ℕ) (os : List (Option Part)) (i : ℕ) → i < length os → any_kid f j (take (i + 1) os) ≡ (any_kid f j (take i os) || f (j + i) (get_or os i None))
any_more f j os i h = ap (any_kid f j) (take_more os i None h) ∙ any_push f j (take i os) (get_or os i None) ∙ ap (λ n. any_kid f j (take i os) || f (j + n) (get_or os i None)) (front os i h)

pub later_more : {A : Type 0} (f : ℕ → Option Part → List A) (j : ℕ) (os : List (Option Part)) (i : ℕ) → i < length os → later_first f j (take (i + 1) os) ≡ f (j + i) (get_or os i None) ++ later_first f j (take i os)
later_more f j os i h = ap (later_first f j) (take_more os i None h) ∙ later_push f j (take i os) (get_or os i None) ∙ ap (λ n. f (j + n) (get_or os i None) ++ later_first f j (take i os)) (front os i h)

-- those of a place, and those of the places before it
pub later_split : {A : Type 0} (f : ℕ → Option Part → List A) (j back : ℕ) (os : List (Option Part)) → back < 16 → length os ≡ 16
    → later_first f j (take (16 - back) os) ≡ f (j + (15 - back)) (get_or os (15 - back) None) ++ later_first f j (take (16 - (back + 1)) os)
later_split f j back os h n =
    let now : 16 - back ≡ 15 - back + 1 = omega arith in
    let next : 15 - back ≡ 16 - (back + 1) = omega arith in
    ap (λ k. later_first f j (take k os)) now ∙ later_more f j os (15 - back) (omega arith) ∙ ap (λ k. f (j + (15 - back)) (get_or os (15 - back) None) ++ later_first f j (take k os)) next

-- a step of the walk over the places from the last to the first
pub any_step : (f : ℕ → Option Part → Bool) (j i : ℕ) (os : List (Option Part)) (a b all : Bool) → i < length os → (a || any_kid f j (take (i + 1) os)) ≡ all → b ≡ f (j + i) (get_or os i None) → ((a || b) || any_kid f j (take i os)) ≡ all
any_step f j i os a b all h e s = or_swap a (any_kid f j (take i os)) b ∙ ap (λ x. a || (any_kid f j (take i os) || x)) s ∙ ap (λ x. a || x) (sym (any_more f j os i h)) ∙ e

pub later_step : {A : Type 0} (f : ℕ → Option Part → List A) (j i : ℕ) (os : List (Option Part)) (xs ys here all : List A) → i < length os → xs ++ later_first f j (take (i + 1) os) ≡ all → ys ≡ xs ++ here → here ≡ f (j + i) (get_or os i None) → ys ++ later_first f j (take i os) ≡ all
later_step f j i os xs ys here all h e y s =
    ap (λ zs. zs ++ later_first f j (take i os)) (y ∙ ap (λ zs. xs ++ zs) s) ∙ append_assoc xs (f (j + i) (get_or os i None)) (later_first f j (take i os)) ∙ ap (λ zs. xs ++ zs) (sym (later_more f j os i h)) ∙ e

-- a place's index and leaves, within those of the part
pub kid_within : (first place p : ℕ) → place < 16 → (first + 16) * p ≤ 1048576 → ((first + place) * p ≤ 1048576) × ((first + place + 1) * p ≤ 1048576)
kid_within first place p h b =
    let m = mul-le-mul_right {m = first + place + 1} {n = first + 16} p (omega arith) in
    (omega (arith, m, b), omega (arith, m, b))

pub kid_own : (l g : ℕ) (o : Option Part) → IsKid l g o → IsKid l (birth_of o) o
kid_own l g None k = tt
kid_own l g (Some p) k = (omega arith, k.1)

pub kid_sound : (l g i : ℕ) (old kid : Option Part) → IsKid (suc l) g old → kid ≡ get_or (places_of old) i None → IsKid l (birth_of kid) kid
kid_sound l g i old kid k e =
    let kids = kids_of l g old k in
    let P : Option Part → Type 0 = λ o. IsKid l (birth_of o) o in
    Rattle.std.proofs.Common.subst P (sym e) (kid_own l g _ (AreKids-at l g (places_of old) i kids.1))

-- the same for each place
pub kids_same : {A : Type 0} (join : A → A → A) (none : A) (l g : ℕ) (f h : ℕ → Option Part → A) (j : ℕ) (os : List (Option Part)) → AreKids l g os
    → ((k : ℕ) (o : Option Part) → j ≤ k → k < j + length os → IsKid l g o → f k o ≡ h k o) → over_kids join none f j os ≡ over_kids join none h j os
kids_same join none l g f h j [] a e = refl
kids_same join none l g f h j (o ∷ os) a e = λ i. join (e j o (omega arith) (omega arith) a.0 i) (kids_same join none l g f h (j + 1) os a.1 (λ k q b c w. e k q (omega arith) (omega arith) w) i)

-- two batches say the same of the leaves of a key
abbrev pub AgreeOn : (ℕ → Said) → (ℕ → Said) → ℕ → ℕ → Type 0
AgreeOn s t l j = (n : ℕ) → j * 16 ^ l ≤ n → n < (j + 1) * 16 ^ l → s n ≡ t n

pub kid_agrees : (s t : ℕ → Said) (l j k : ℕ) → 16 * j ≤ k → k < 16 * j + 16 → AgreeOn s t (suc l) j → AgreeOn s t l k
kid_agrees s t l j k a b h n x y =
    let w : 16 ^ suc l ≡ 16 ^ l * 16 = pow-suc 16 l in
    let low : j * 16 ^ suc l ≡ j * (16 ^ l * 16) = ap (λ z. j * z) w in
    let high : (j + 1) * 16 ^ suc l ≡ (j + 1) * (16 ^ l * 16) = ap (λ z. (j + 1) * z) w in
    let m = mul-le-mul_right {m = 16 * j} {n = k} (16 ^ l) a in
    let q = mul-le-mul_right {m = k + 1} {n = 16 * j + 16} (16 ^ l) (omega arith) in
    h n (omega (arith, low, m, x)) (omega (arith, high, q, y))

-- the places of a part after a batch
pub length-parts : (f : ℕ → Option Part → Option Part) (j : ℕ) (os : List (Option Part)) → length (parts f j os) ≡ length os
length-parts f j [] = refl
length-parts f j (o ∷ os) = ap suc (length-parts f (j + 1) os)

pub part_of_parts : (f : ℕ → Option Part → Option Part) (j i : ℕ) (os : List (Option Part)) → i < length os → get_or (parts f j os) i None ≡ f (j + i) (get_or os i None)
part_of_parts f j i [] h = absurd (omega arith)
part_of_parts f j zero (o ∷ os) h = ap (λ n. f n o) (let e : j ≡ j + 0 = omega arith in e)
part_of_parts f j (suc i) (o ∷ os) h = let e : j + 1 + i ≡ j + suc i = omega arith in part_of_parts f (j + 1) i os (omega arith) ∙ ap (λ n. f n (get_or os i None)) e

drop_set : {A : Type 0} (xs : List A) (i : ℕ) (y : A) → i < length xs → drop i (set xs i y) ≡ y ∷ drop (i + 1) xs
drop_set [] i y h = absurd (omega arith)
drop_set (x ∷ xs) zero y h = refl
drop_set (x ∷ xs) (suc i) y h = let e : suc i + 1 ≡ suc (i + 1) = omega arith in drop_set xs i y (omega arith) ∙ ap (λ k. y ∷ drop k (x ∷ xs)) (sym e)

pub parts_step : (f : ℕ → Option Part → Option Part) (j i : ℕ) (os kids : List (Option Part)) (new : Option Part) → i < length os → length kids ≡ length os
    → drop (i + 1) kids ≡ drop (i + 1) (parts f j os) → new ≡ f (j + i) (get_or os i None) → drop i (set kids i new) ≡ drop i (parts f j os)
parts_step f j i os kids new h n e s =
    let m = length-parts f j os in
    let c : drop i (parts f j os) ≡ get_or (parts f j os) i None ∷ drop (suc i) (parts f j os) = drop-cons (parts f j os) i None (omega arith) in
    let one : i + 1 ≡ suc i = omega arith in
    drop_set kids i new (omega arith) ∙ ap (λ xs. new ∷ xs) (e ∙ ap (λ k. drop k (parts f j os)) one) ∙ ap (λ x. x ∷ drop (suc i) (parts f j os)) (s ∙ sym (part_of_parts f j i os h)) ∙ sym c

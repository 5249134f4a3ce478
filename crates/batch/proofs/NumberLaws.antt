-- Numbers for new blocks: those of young blocks, and then Free ones in turn.
use Rattle.std.proofs.Common.{◌≡◌, ℕ, zero, suc, ◌+◌, ◌-◌, ◌<◌, ◌≤◌, Bool, true, false, cond, List, [], ◌∷◌, ◌++◌, length, get_or, take, drop, map, filter, Option, Some, refl, sym, ap, subst, ◌∙◌, arith, inl, inr, ◌⊎◌, ⊎_elim, append_assoc, append-nil, length-append, drop-cons}
use Rattle.std.specs.Prelude.{slice_get, count_by, not, is_some}
use Rattle.std.proofs.lemmas.Bool.{cases_lt, leb-true}
use Rattle.std.proofs.lemmas.List.{length-take, length-map, map-append}
use Rattle.std.proofs.lemmas.List.Sums.{sum_by-cons}
use Rattle.std.proofs.lemmas.Option.{slice_get-get_or, slice_get_within}
use Rattle.base.specs.declared.number.Dead.{Dead}
use Rattle.base.specs.declared.number.BlockNo.{BlockNo}
use Rattle.batch.specs.declared.findings.Claim.{Claim}
use Rattle.batch.specs.declared.numbers.NewBlock.{NewBlock}
use Rattle.batch.specs.Build.{filled, is_fresh, first_number, number_for, numbers_after}
use Rattle.base.specs.Surveys.{IsIn, AreDifferent}
use Rattle.zalloc.specs.declared.BlockState.{BlockState}
use Rattle.zalloc.specs.declared.BlockState.TheVariants.{Free, Allocated, Waiting}
use Rattle.zalloc.specs.States.{is_free}
use Rattle.zalloc.specs.Tallies.{IsTaken}
use Rattle.batch.specs.Numbers.{numbers, frees, frees_from, is_young, young_numbers, IsAtHand}
use Rattle.node.proofs.Options.{same_value}
use Rattle.batch.proofs.Lists.{drop_past}

-- one number more of those wanted
pub take_step : (need k n : ℕ) (xs ys : List ℕ) → k < need → xs ++ take (need - k) (n ∷ ys) ≡ (xs ++ n ∷ []) ++ take (need - (k + 1)) ys
take_step need k n xs ys h = let e : need - k ≡ suc (need - (k + 1)) = omega arith in ap (λ m. xs ++ take m (n ∷ ys)) e ∙ sym (append_assoc xs (n ∷ []) (take (need - (k + 1)) ys))

pub take_full : (need k : ℕ) (xs ys : List ℕ) → need ≤ k → xs ++ take (need - k) ys ≡ xs
take_full need k xs ys h = let e : need - k ≡ 0 = omega arith in ap (λ m. xs ++ take m ys) e ∙ append-nil xs

none_taken : (n : ℕ) → take n (let xs : List ℕ = [] in xs) ≡ []
none_taken zero = refl
none_taken (suc n) = refl

pub take_none : (n : ℕ) (xs ys : List ℕ) → ys ≡ [] → xs ++ take n ys ≡ xs
take_none n xs ys e = ap (λ zs. xs ++ take n zs) e ∙ ap (λ zs. xs ++ zs) (none_taken n) ∙ append-nil xs

-- young blocks, one after another
pub young_here : (y i : ℕ) (ds : List Dead) (d : Dead) → i < length ds → y ≤ (get_or ds i d).birth.0 → young_numbers y (drop i ds) ≡ (get_or ds i d).block.0 ∷ young_numbers y (drop (i + 1) ds)
unfolding young_numbers
young_here y i ds d h b =
    let t : is_young y (get_or ds i d) ≡ true = Rattle.std.proofs.lemmas.Bool.le-leb y (get_or ds i d).birth.0 b in
    let s : i + 1 ≡ suc i = omega arith in
    rw (drop-cons ds i d h, t, s) refl

pub young_skip : (y i : ℕ) (ds : List Dead) (d : Dead) → i < length ds → (get_or ds i d).birth.0 < y → young_numbers y (drop i ds) ≡ young_numbers y (drop (i + 1) ds)
unfolding young_numbers
young_skip y i ds d h b =
    let t : is_young y (get_or ds i d) ≡ false = elim (is_young y (get_or ds i d)) as (λ v. is_young y (get_or ds i d) ≡ v → v ≡ false) [ true ↦ λ e. let le = leb-true y (get_or ds i d).birth.0 e in absurd (omega arith) | false ↦ λ e. refl ] refl in
    let s : i + 1 ≡ suc i = omega arith in
    rw (drop-cons ds i d h, t, s) refl

pub young_over : (y i : ℕ) (ds : List Dead) → length ds ≤ i → young_numbers y (drop i ds) ≡ []
unfolding young_numbers
young_over y i ds h = ap (λ xs. map (λ (d : Dead). d.block.0) (filter (is_young y) xs)) (drop_past i ds h)

pub young_all : (y : ℕ) (ds : List Dead) → length (young_numbers y ds) ≡ count_by (is_young y) ds
unfolding young_numbers
young_all y [] = refl
young_all y (d ∷ ds) = by (is_young y d) refl (young_all y ds)
  where
    by : (b : Bool) → is_young y d ≡ b → length (map (λ (d : Dead). d.block.0) (filter (is_young y) ds)) ≡ count_by (is_young y) ds
        → length (map (λ (d : Dead). d.block.0) (filter (is_young y) (d ∷ ds))) ≡ count_by (is_young y) (d ∷ ds)
    by true e h = let c = sum_by-cons (λ z. cond (is_young y z) 1 0) d ds in let o : ◌≡◌ {A = ℕ} (cond (is_young y d) 1 0) 1 = rw e refl in let l : length (map (λ (d : Dead). d.block.0) (filter (is_young y) (d ∷ ds))) ≡ suc (length (map (λ (d : Dead). d.block.0) (filter (is_young y) ds))) = rw e refl in omega (arith, c, o, l, h)
    by false e h = let c = sum_by-cons (λ z. cond (is_young y z) 1 0) d ds in let o : ◌≡◌ {A = ℕ} (cond (is_young y d) 1 0) 0 = rw e refl in let l : length (map (λ (d : Dead). d.block.0) (filter (is_young y) (d ∷ ds))) ≡ length (map (λ (d : Dead). d.block.0) (filter (is_young y) ds)) = rw e refl in omega (arith, c, o, l, h)

abbrev IsYoungIn : ℕ → ℕ → List Dead → Type 0
IsYoungIn y n ds = (e : Dead) × IsIn ds e × (y ≤ e.birth.0) × (e.block.0 ≡ n)

young_one_in : (y n : ℕ) (d : Dead) (ds : List Dead) (b : Bool) → is_young y d ≡ b → (IsIn (map (λ (d : Dead). d.block.0) (filter (is_young y) ds)) n → IsYoungIn y n ds)
    → IsIn (map (λ (d : Dead). d.block.0) (cond b (d ∷ filter (is_young y) ds) (filter (is_young y) ds))) n → IsYoungIn y n (d ∷ ds)
young_one_in y n d ds true e ih h = ⊎_elim (λ s. (d, inl refl, leb-true y d.birth.0 e, sym s)) (λ r. let k = ih r in (k.0, inr k.1, k.2, k.3)) h
young_one_in y n d ds false e ih h = let k = ih h in (k.0, inr k.1, k.2, k.3)

pub young_in : (y n : ℕ) (ds : List Dead) → IsIn (young_numbers y ds) n → (d : Dead) × IsIn ds d × (y ≤ d.birth.0) × (d.block.0 ≡ n)
unfolding young_numbers
young_in y n [] h = absurd h
young_in y n (d ∷ ds) h = young_one_in y n d ds (is_young y d) refl (young_in y n ds) h

one_in_young : (y n : ℕ) (d : Dead) (ds : List Dead) (b : Bool) → (IsIn (map (λ (d : Dead). d.block.0) (filter (is_young y) ds)) n → IsIn (map (λ (d : Dead). d.block.0) ds) n)
    → IsIn (map (λ (d : Dead). d.block.0) (cond b (d ∷ filter (is_young y) ds) (filter (is_young y) ds))) n → IsIn (map (λ (d : Dead). d.block.0) (d ∷ ds)) n
one_in_young y n d ds true ih h = ⊎_elim (λ s. inl s) (λ r. inr (ih r)) h
one_in_young y n d ds false ih h = inr (ih h)

in_young : (y n : ℕ) (ds : List Dead) → IsIn (young_numbers y ds) n → IsIn (map (λ (d : Dead). d.block.0) ds) n
unfolding young_numbers
in_young y n [] h = absurd h
in_young y n (d ∷ ds) h = one_in_young y n d ds (is_young y d) (in_young y n ds) h

one_young_once : (y : ℕ) (d : Dead) (ds : List Dead) (b : Bool) → (IsIn (map (λ (d : Dead). d.block.0) (filter (is_young y) ds)) d.block.0 → ⊥) → AreDifferent (map (λ (d : Dead). d.block.0) (filter (is_young y) ds))
    → AreDifferent (map (λ (d : Dead). d.block.0) (cond b (d ∷ filter (is_young y) ds) (filter (is_young y) ds)))
one_young_once y d ds true n a = (n, a)
one_young_once y d ds false n a = a

young_once : (y : ℕ) (ds : List Dead) → AreDifferent (map (λ (d : Dead). d.block.0) ds) → AreDifferent (young_numbers y ds)
unfolding young_numbers
young_once y [] a = tt
young_once y (d ∷ ds) a = one_young_once y d ds (is_young y d) (λ h. a.0 (in_young y d.block.0 ds h)) (young_once y ds a.1)

-- Free numbers, one after another
free_at : (states : List BlockState) (i : ℕ) → i < length states → slice_get states i ≡ Some Free → drop i states ≡ Free ∷ drop (suc i) states
free_at states i h e = let g : get_or states i Allocated ≡ Free = same_value _ _ (sym (slice_get-get_or states i Allocated h) ∙ e) in drop-cons states i Allocated h ∙ ap (λ s. s ∷ drop (suc i) states) g

pub frees_here : (states : List BlockState) (i : ℕ) → slice_get states i ≡ Some Free → frees_from i states ≡ i ∷ frees_from (i + 1) states
unfolding frees_from
frees_here states i e =
    let s : i + 1 ≡ suc i = omega arith in
    ap (frees i) (free_at states i (slice_get_within states i Free e) e) ∙ ap (λ k. i ∷ frees (i + 1) (drop k states)) (sym s)

not_free : (s : BlockState) → (s ≡ Free → ⊥) → is_free s ≡ false
not_free Free h = absurd (h refl)
not_free Allocated h = refl
not_free Waiting h = refl

frees_skip : (states : List BlockState) (i : ℕ) → (slice_get states i ≡ Some Free → ⊥) → frees_from i states ≡ frees_from (i + 1) states
unfolding frees_from
frees_skip states i h =
    let s : i + 1 ≡ suc i = omega arith in
    ⊎_elim
    (λ (l : i < length states).
    let n : is_free (get_or states i Allocated) ≡ false = not_free _ (λ e. h (slice_get-get_or states i Allocated l ∙ ap Some e)) in
    ap (frees i) (drop-cons states i Allocated l) ∙ (rw n (ap (λ k. frees (i + 1) (drop k states)) (sym s))))
    (λ (l : length states ≤ i). ap (frees i) (drop_past i states l) ∙ sym (ap (frees (i + 1)) (drop_past (i + 1) states (omega arith))))
    (cases_lt i (length states))

frees_to : (states : List BlockState) (i n : ℕ) → IsTaken states i (i + n) → frees_from i states ≡ frees_from (i + n) states
frees_to states i zero h = let e : i ≡ i + 0 = omega arith in ap (λ k. frees_from k states) e
frees_to states i (suc n) h =
    let e : i + 1 + n ≡ i + suc n = omega arith in
    frees_skip states i (h i (omega arith) (omega arith)) ∙ frees_to states (i + 1) n (λ k a b. h k (omega arith) (omega arith)) ∙ ap (λ k. frees_from k states) e

-- what a search for the least one gives
pub frees_found : (states : List BlockState) (from b : ℕ) → from ≤ b → slice_get states b ≡ Some Free → IsTaken states from b → frees_from from states ≡ b ∷ frees_from (b + 1) states
frees_found states from b le f t =
    let e : from + (b - from) ≡ b = omega arith in
    frees_to states from (b - from) (λ k a c. t k a (omega arith)) ∙ ap (λ k. frees_from k states) e ∙ frees_here states b f

pub frees_none : (states : List BlockState) (from : ℕ) → ((k : ℕ) → from ≤ k → slice_get states k ≡ Some Free → ⊥) → frees_from from states ≡ []
unfolding frees_from
frees_none states from h =
    frees_to states from (length states) (λ k a b. h k a) ∙ ap (frees (from + length states)) (drop_past (from + length states) states (omega arith))

abbrev IsFreeIn : ℕ → ℕ → List BlockState → Type 0
IsFreeIn i n xs = (i ≤ n) × (n < i + length xs) × (slice_get xs (n - i) ≡ Some Free)

free_later : (i n : ℕ) (x : BlockState) (xs : List BlockState) → IsFreeIn (i + 1) n xs → IsFreeIn i n (x ∷ xs)
free_later i n x xs p = let a = p.0 in let b = p.1 in let e : n - i ≡ suc (n - (i + 1)) = omega arith in (omega arith, omega arith, ap (slice_get (x ∷ xs)) e ∙ p.2)

free_one : (i n : ℕ) (s : BlockState) (xs : List BlockState) → (IsIn (frees (i + 1) xs) n → IsFreeIn (i + 1) n xs) → IsIn (cond (is_free s) (i ∷ frees (i + 1) xs) (frees (i + 1) xs)) n → IsFreeIn i n (s ∷ xs)
free_one i n Free xs ih h = ⊎_elim (λ e. let z : n - i ≡ 0 = omega arith in (omega arith, omega arith, ap (slice_get (Free ∷ xs)) z)) (λ r. free_later i n Free xs (ih r)) h
free_one i n Allocated xs ih h = free_later i n Allocated xs (ih h)
free_one i n Waiting xs ih h = free_later i n Waiting xs (ih h)

pub frees_in : (i n : ℕ) (xs : List BlockState) → IsIn (frees i xs) n → IsFreeIn i n xs
frees_in i n [] h = absurd h
frees_in i n (x ∷ xs) h = free_one i n x xs (frees_in (i + 1) n xs) h

one_once : (i : ℕ) (xs : List BlockState) (b : Bool) → AreDifferent (frees (i + 1) xs) → AreDifferent (cond b (i ∷ frees (i + 1) xs) (frees (i + 1) xs))
one_once i xs true a = ((λ h. let p = (frees_in (i + 1) i xs h).0 in absurd (omega arith)), a)
one_once i xs false a = a

pub frees_once : (i : ℕ) (xs : List BlockState) → AreDifferent (frees i xs)
frees_once i [] = tt
frees_once i (x ∷ xs) = one_once i xs (is_free x) (frees_once (i + 1) xs)

pub frees_count : (i : ℕ) (xs : List BlockState) → length (frees i xs) ≡ count_by is_free xs
frees_count i [] = refl
frees_count i (x ∷ xs) = by x (frees_count (i + 1) xs)
  where
    by : (s : BlockState) → length (frees (i + 1) xs) ≡ count_by is_free xs → length (frees i (s ∷ xs)) ≡ count_by is_free (s ∷ xs)
    by Free h = let c = sum_by-cons (λ z. cond (is_free z) 1 0) Free xs in omega (arith, c, h)
    by Allocated h = let c = sum_by-cons (λ z. cond (is_free z) 1 0) Allocated xs in omega (arith, c, h)
    by Waiting h = let c = sum_by-cons (λ z. cond (is_free z) 1 0) Waiting xs in omega (arith, c, h)

-- lists of different numbers
pub in_append : {A : Type 0} (xs ys : List A) (a : A) → IsIn (xs ++ ys) a → IsIn xs a ⊎ IsIn ys a
in_append [] ys a h = inr h
in_append (x ∷ xs) ys a h = ⊎_elim (λ e. inl (inl e)) (λ r. ⊎_elim (λ l. inl (inr l)) (λ k. inr k) (in_append xs ys a r)) h

pub in_left : {A : Type 0} (xs ys : List A) (a : A) → IsIn xs a → IsIn (xs ++ ys) a
in_left [] ys a h = absurd h
in_left (x ∷ xs) ys a h = ⊎_elim (λ e. inl e) (λ r. inr (in_left xs ys a r)) h

pub in_right : {A : Type 0} (xs ys : List A) (a : A) → IsIn ys a → IsIn (xs ++ ys) a
in_right [] ys a h = h
in_right (x ∷ xs) ys a h = inr (in_right xs ys a h)

pub different_append : {A : Type 0} (xs ys : List A) → AreDifferent xs → AreDifferent ys → ((a : A) → IsIn xs a → IsIn ys a → ⊥) → AreDifferent (xs ++ ys)
different_append [] ys p q h = q
different_append (x ∷ xs) ys p q h = ((λ k. ⊎_elim p.0 (h x (inl refl)) (in_append xs ys x k)), different_append xs ys p.1 q (λ a i j. h a (inr i) j))

in_take : {A : Type 0} (n : ℕ) (xs : List A) (a : A) → IsIn (take n xs) a → IsIn xs a
in_take zero [] a h = h
in_take zero (x ∷ xs) a h = absurd h
in_take (suc n) [] a h = h
in_take (suc n) (x ∷ xs) a h = ⊎_elim (λ e. inl e) (λ r. inr (in_take n xs a r)) h

different_take : {A : Type 0} (n : ℕ) (xs : List A) → AreDifferent xs → AreDifferent (take n xs)
different_take zero [] h = tt
different_take zero (x ∷ xs) h = tt
different_take (suc n) [] h = tt
different_take (suc n) (x ∷ xs) h = ((λ k. h.0 (in_take n xs x k)), different_take n xs h.1)

-- so many Free numbers, from the first on
pub record AreFree (states : List BlockState) (r : ℕ) (ns : List ℕ) : Type 0 where
  pub len : length ns ≡ r
  pub free : (n : ℕ) → IsIn ns n → slice_get states n ≡ Some Free
  pub once : AreDifferent ns

pub chosen_free : (states : List BlockState) (r : ℕ) → r ≤ count_by is_free states → AreFree states r (take r (frees_from 0 states))
unfolding frees_from
chosen_free states r enough = record {
  len = let k = length-take r (frees 0 states) in let n = frees_count 0 states in omega (arith, k, n, enough);
  free = λ n h. let z : n ≡ n - 0 = omega arith in ap (slice_get states) z ∙ (frees_in 0 n states (in_take r (frees 0 states) n h)).2;
  once = different_take r (frees 0 states) (frees_once 0 states);
}

-- the numbers of young blocks, and then Free ones
pub record AreChosen (states : List BlockState) (y need : ℕ) (ds : List Dead) (ns : List ℕ) : Type 0 where
  pub len : length ns ≡ need
  pub at_hand : (n : ℕ) → IsIn ns n → IsAtHand states y ds n
  pub once : AreDifferent ns

-- no number is Free and Allocated
pub free_apart : (s : Option BlockState) → s ≡ Some Free → s ≡ Some Allocated → ⊥
free_apart s a b = let e : Free ≡ Allocated = same_value Free Allocated (sym a ∙ b) in cc

pub all_chosen : (states : List BlockState) (y need : ℕ) (ds : List Dead) (fs : List ℕ) → ((d : Dead) → IsIn ds d → slice_get states d.block.0 ≡ Some Allocated) → AreDifferent (map (λ (d : Dead). d.block.0) ds)
    → AreFree states (need - length (take need (young_numbers y ds))) fs → AreChosen states y need ds (take need (young_numbers y ds) ++ fs)
all_chosen states y need ds fs allocated once f = record {
  len = let k = length-take need (young_numbers y ds) in let m = length-append (take need (young_numbers y ds)) fs in let l = f.len in omega (arith, k, m, l);
  at_hand = λ n h. ⊎_elim (λ i. inr (young_in y n ds (in_take need _ n i))) (λ j. inl (f.free n j)) (in_append (take need (young_numbers y ds)) fs n h);
  once = different_append (take need (young_numbers y ds)) fs (different_take need _ (young_once y ds once)) f.once
      (λ n i j. let d = young_in y n ds (in_take need _ n i) in free_apart (slice_get states n) (f.free n j) (ap (slice_get states) (sym d.3) ∙ allocated d.0 d.1));
}

pub length-numbers : (xs : List BlockNo) → length (numbers xs) ≡ length xs
length-numbers xs = length-map xs (λ (b : BlockNo). b.0)

-- what the two steps give
pub choose_all : (states : List BlockState) (y need : ℕ) (ds : List Dead) (none first second : List BlockNo) → ((d : Dead) → IsIn ds d → slice_get states d.block.0 ≡ Some Allocated) → AreDifferent (map (λ (d : Dead). d.block.0) ds)
    → need - length first ≤ count_by is_free states → none ≡ []
    → numbers first ≡ numbers none ++ take (need - length none) (young_numbers y ds)
    → numbers second ≡ numbers first ++ take (need - length first) (frees_from 0 states)
    → AreChosen states y need ds (numbers second)
choose_all states y need ds none first second allocated once enough e a b =
    let ys = take need (young_numbers y ds) in
    let one : numbers first ≡ ys = a ∙ ap (λ (xs : List BlockNo). numbers xs ++ take (need - length xs) (young_numbers y ds)) e ∙ ap (λ n. take n (young_numbers y ds)) (let z : need - 0 ≡ need = omega arith in z) in
    let n1 : length first ≡ length ys = sym (length-numbers first) ∙ ap length one in
    let r : need - length first ≡ need - length ys = ap (λ n. need - n) n1 in
    let two : numbers second ≡ ys ++ take (need - length ys) (frees_from 0 states) = b ∙ (λ i. one i ++ take (r i) (frees_from 0 states)) in
    subst (AreChosen states y need ds) (sym two) (all_chosen states y need ds _ allocated once (chosen_free states (need - length ys) (omega (arith, r, enough))))

pub young_first : (y need : ℕ) (ds : List Dead) (none first : List BlockNo) → none ≡ [] → numbers first ≡ numbers none ++ take (need - length none) (young_numbers y ds) → (length first ≤ need) × (length first ≤ count_by (is_young y) ds) × (length first < need → length first ≡ count_by (is_young y) ds)
young_first y need ds none first e a =
    let one : numbers first ≡ take need (young_numbers y ds) = a ∙ ap (λ (xs : List BlockNo). numbers xs ++ take (need - length xs) (young_numbers y ds)) e ∙ ap (λ n. take n (young_numbers y ds)) (let z : need - 0 ≡ need = omega arith in z) in
    let n = length-numbers first in
    let l = ap length one in
    let k = length-take need (young_numbers y ds) in
    let c = young_all y ds in
    (omega (arith, n, l, k), omega (arith, n, l, k, c), λ h. omega (arith, n, l, k, c))

pub push_number : (old new : List BlockNo) (b : BlockNo) → new ≡ old ++ b ∷ [] → numbers new ≡ numbers old ++ b.0 ∷ []
push_number old new b e = ap numbers e ∙ map-append (λ (b : BlockNo). b.0) old (b ∷ [])

-- the claims with their numbers, one after another
pub filled_step : (cs : List Claim) (ts : List BlockNo) (i next to : ℕ) (d : Claim) (k : Option Dead) (block : BlockNo) (out new all : List NewBlock) → i < length cs → (get_or cs i d).kept ≡ k → block ≡ number_for k (drop next ts) → drop to ts ≡ numbers_after k (drop next ts)
    → new ≡ out ++ record { key = (get_or cs i d).key; block = block } ∷ [] → out ++ filled (drop i cs) (drop next ts) ≡ all → new ++ filled (drop (i + 1) cs) (drop to ts) ≡ all
unfolding filled
filled_step cs ts i next to d k block out new all h e b a n g =
    let s : i + 1 ≡ suc i = omega arith in
    let x = get_or cs i d in
    let here : filled (drop i cs) (drop next ts) ≡ record { key = x.key; block = block } ∷ filled (drop (i + 1) cs) (drop to ts) =
    ap (λ zs. filled zs (drop next ts)) (drop-cons cs i d h)
    ∙ (λ j. record { key = x.key; block = number_for (e j) (drop next ts) } ∷ filled (drop (suc i) cs) (numbers_after (e j) (drop next ts)))
    ∙ (λ j. record { key = x.key; block = sym b j } ∷ filled (drop (sym s j) cs) (sym a j)) in
    ap (λ zs. zs ++ filled (drop (i + 1) cs) (drop to ts)) n ∙ append_assoc out (record { key = x.key; block = block } ∷ []) (filled (drop (i + 1) cs) (drop to ts)) ∙ ap (λ zs. out ++ zs) (sym here) ∙ g

pub filled_end : (cs : List Claim) (ts : List BlockNo) (i : ℕ) (out all : List NewBlock) → length cs ≤ i → out ++ filled (drop i cs) ts ≡ all → out ≡ all
unfolding filled
filled_end cs ts i out all h g = sym (append-nil out) ∙ ap (λ zs. out ++ filled zs ts) (sym (drop_past i cs h)) ∙ g

pub fresh_step : (cs : List Claim) (i : ℕ) (d : Claim) (k : Option Dead) → i < length cs → (get_or cs i d).kept ≡ k → count_by is_fresh (drop i cs) ≡ cond (not (is_some k)) 1 0 + count_by is_fresh (drop (i + 1) cs)
fresh_step cs i d k h e =
    let s : suc i ≡ i + 1 = omega arith in
    ap (count_by is_fresh) (drop-cons cs i d h) ∙ sum_by-cons (λ z. cond (is_fresh z) 1 0) (get_or cs i d) (drop (suc i) cs) ∙ (λ j. cond (not (is_some (e j))) 1 0 + count_by is_fresh (drop (s j) cs))

pub first_here : (ts : List BlockNo) (n : ℕ) (d : BlockNo) → n < length ts → get_or ts n d ≡ first_number (drop n ts)
first_here ts n d h = ap first_number (sym (drop-cons ts n d h))

pub drop_one : (ts : List BlockNo) (n : ℕ) → drop (n + 1) ts ≡ drop 1 (drop n ts)
drop_one [] zero = refl
drop_one [] (suc n) = drop_past (suc n + 1) [] (omega arith)
drop_one (t ∷ ts) zero = refl
drop_one (t ∷ ts) (suc n) = let e : suc n + 1 ≡ suc (n + 1) = omega arith in ap (λ k. drop k (t ∷ ts)) e ∙ drop_one ts n

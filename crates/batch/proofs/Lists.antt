-- Members of lists, by their places.
use Rattle.std.proofs.Common.{◌≡◌, ℕ, zero, suc, ◌+◌, ◌<◌, ◌∙◌, ◌≤◌, List, [], ◌∷◌, length, get_or, drop, Some, refl, sym, ap, subst, arith, ⊎_elim}
use Rattle.std.specs.Prelude.{slice_get}
use Rattle.std.proofs.lemmas.Option.{get_or_from_slice_get, slice_get-get_or}
use Rattle.std.proofs.lemmas.Bool.{cases_lt}
use Rattle.std.specs.List.{All}
use Rattle.base.specs.Surveys.{IsIn}

pub in_at : {A : Type 0} (xs : List A) (a : A) → IsIn xs a → (i : ℕ) × (slice_get xs i ≡ Some a)
in_at [] a h = absurd h
in_at (x ∷ xs) a h = ⊎_elim (λ e. (zero, ap Some (sym e))) (λ r. let i = in_at xs a r in (suc i.0, i.1)) h

pub at_drop : {A : Type 0} (n i : ℕ) (xs : List A) → slice_get (drop n xs) i ≡ slice_get xs (n + i)
at_drop zero i xs = let e : 0 + i ≡ i = omega arith in rw e refl
at_drop (suc n) i [] = refl
at_drop (suc n) i (x ∷ xs) = let e : suc n + i ≡ suc (n + i) = omega arith in rw e (at_drop n i xs)

pub all_bytes : (xs : List ℕ) → ((i : ℕ) → get_or xs i 0 < 256) → All (λ b. b < 256) xs
all_bytes xs h = λ k d l.
    let e : get_or xs k d ≡ get_or xs k 0 = get_or_from_slice_get xs k (get_or xs k 0) d (slice_get-get_or xs k 0 l) in
    subst (λ n. n < 256) (sym e) (h k)

-- what holds of each one so far, and of one more
pub one_more : {A : Type 0} (P : A → Type 0) (xs : List A) (n : ℕ) (d : A) → ((i : ℕ) (x : A) → i < n → slice_get xs i ≡ Some x → P x) → P (get_or xs n d) → (i : ℕ) (x : A) → i < n + 1 → slice_get xs i ≡ Some x → P x
one_more P xs n d below here i x h e =
    ⊎_elim (λ l. below i x l e) (λ l. let s : i ≡ n = omega arith in
    let same : get_or xs n d ≡ x = get_or_from_slice_get xs n x d (ap (slice_get xs) (sym s) ∙ e) in
    subst P same here) (cases_lt i n)

-- nothing is left past the end
pub drop_past : {A : Type 0} (n : ℕ) (xs : List A) → length xs ≤ n → drop n xs ≡ []
drop_past zero [] h = refl
drop_past (suc n) [] h = refl
drop_past zero (x ∷ xs) h = absurd (omega arith)
drop_past (suc n) (x ∷ xs) h = drop_past n xs (omega arith)

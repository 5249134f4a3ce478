-- Elements that pass a test, one after the other.
use Rattle.std.proofs.Common.{◌≡◌, ℕ, zero, suc, ◌+◌, ◌<◌, ◌≤◌, Bool, true, false, cond, List, [], ◌∷◌, length, take, get_or, ap, arith}
use Rattle.std.specs.Prelude.{filter}
use Rattle.std.proofs.lemmas.List.Filters.{length-filter_more}

-- those before a place that pass are no more than all that do
before_le : {A : Type 0} (p : A → Bool) (xs : List A) (i : ℕ) → length (filter p (take i xs)) ≤ length (filter p xs)
before_le p [] zero = omega arith
before_le p [] (suc i) = omega arith
before_le p (x ∷ xs) zero = omega arith
before_le p (x ∷ xs) (suc i) = elim (p x) as (λ b. length (cond b (x ∷ filter p (take i xs)) (filter p (take i xs))) ≤ length (cond b (x ∷ filter p xs) (filter p xs))) [
  | true ↦ omega (arith, before_le p xs i)
  | false ↦ before_le p xs i
]

-- one that passes at a place is still to come after those before it
pub one_to_come : {A : Type 0} (p : A → Bool) (xs : List A) (i : ℕ) (d : A) → i < length xs → p (get_or xs i d) ≡ true → length (filter p (take i xs)) < length (filter p xs)
one_to_come p xs i d lt passes =
    let e = length-filter_more p xs i d lt in
    let l = before_le p xs (i + 1) in
    let c : cond {A = ℕ} (p (get_or xs i d)) 1 0 ≡ 1 = ap (λ (b : Bool). cond {A = ℕ} b 1 0) passes in
    omega arith

-- What stands before and after a place.
use Rattle.std.proofs.Common.{◌≡◌, ℕ, zero, suc, ◌+◌, ◌-◌, ◌<◌, ◌≤◌, List, [], ◌∷◌, length, take, slice_get, Option, None, Some, refl, sym, ap, ◌∙◌, arith}
use Rattle.std.specs.List.{last_or}
use Rattle.std.proofs.lemmas.Option.{slice_get_within}

-- an element is the last of those up to it
last_taken : {X : Type 0} (o : Option X) (xs : List X) (i : ℕ) → i < length xs → slice_get xs i ≡ last_or o (take (suc i) xs)
last_taken o [] i lt = absurd (omega arith)
last_taken o (x ∷ xs) zero lt = refl
last_taken o (x ∷ xs) (suc i) lt = last_taken (Some x) xs i (omega arith)

pub none_behind : {X : Type 0} (xs : List X) (i : ℕ) → length xs ≤ i → slice_get xs i ≡ None
none_behind [] i le = refl
none_behind (x ∷ xs) zero le = absurd (omega arith)
none_behind (x ∷ xs) (suc i) le = none_behind xs i (omega arith)

-- what stands at a place is the last before the next one
pub before_next : {X : Type 0} (all : List X) (i n : ℕ) (y : X) → slice_get all i ≡ Some y → n ≡ i + 1 → Some y ≡ last_or None (take n all)
before_next all i n y is next =
    let at : suc i ≡ n = omega arith in
    sym is ∙ last_taken None all i (slice_get_within all i y is) ∙ ap (λ m. last_or None (take m all)) at

-- the last of all is the last before the place behind them
pub before_end : {X : Type 0} (all : List X) (o : Option X) → o ≡ slice_get all (length all - 1) → o ≡ last_or None (take (length all) all)
before_end [] o is = is
before_end (x ∷ xs) o is =
    let last : length (x ∷ xs) - 1 ≡ length xs = omega arith in
    is ∙ ap (slice_get (x ∷ xs)) last ∙ last_taken None (x ∷ xs) (length xs) (omega arith)

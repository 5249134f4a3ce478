-- Two lists where one of them ends: their lengths tell how they compare.
use Rattle.std.proofs.Common.{◌≡◌, ◌<◌, ◌≤◌, ℕ, List, [], ◌∷◌, length, drop, refl, arith, length-drop}
use Rattle.std.specs.Prelude.{min}
use Rattle.std.specs.declared.cmp.Ordering.{Ordering}
use Rattle.std.specs.declared.cmp.Ordering.TheVariants.{Less, Equal, Greater}
use Rattle.std.specs.Ordering.{nat_cmp, MatchOrdering}
use Rattle.std.proofs.lemmas.Cmp.{ranked}
use Rattle.base.specs.Names.{name_cmp}

by_lengths : (us vs : List ℕ) (r : Ordering) → min (length us) (length vs) ≡ 0 → MatchOrdering r (length us < length vs) (length us ≡ length vs) (length vs < length us) → r ≡ name_cmp us vs
by_lengths [] [] Less m h = absurd (omega arith)
by_lengths [] [] Equal m h = refl
by_lengths [] [] Greater m h = absurd (omega arith)
by_lengths [] (v ∷ vs) Less m h = refl
by_lengths [] (v ∷ vs) Equal m h = absurd (omega arith)
by_lengths [] (v ∷ vs) Greater m h = absurd (omega arith)
by_lengths (u ∷ us) [] Less m h = absurd (omega arith)
by_lengths (u ∷ us) [] Equal m h = absurd (omega arith)
by_lengths (u ∷ us) [] Greater m h = refl
by_lengths (u ∷ us) (v ∷ vs) r m h = absurd (omega arith)

shifted : (xs ys : List ℕ) (i : ℕ) (r : Ordering) → i ≤ length xs → i ≤ length ys → MatchOrdering r (length xs < length ys) (length xs ≡ length ys) (length ys < length xs)
    → MatchOrdering r (length (drop i xs) < length (drop i ys)) (length (drop i xs) ≡ length (drop i ys)) (length (drop i ys) < length (drop i xs))
shifted xs ys i Less p q h = let m = length-drop i xs in let n = length-drop i ys in let l : length xs < length ys = h in omega arith
shifted xs ys i Equal p q h = let m = length-drop i xs in let n = length-drop i ys in let l : length xs ≡ length ys = h in omega arith
shifted xs ys i Greater p q h = let m = length-drop i xs in let n = length-drop i ys in let l : length ys < length xs = h in omega arith

pub ended : (xs ys : List ℕ) (i : ℕ) (r : Ordering) → i ≡ min (length xs) (length ys) → r ≡ nat_cmp (length xs) (length ys) → r ≡ name_cmp (drop i xs) (drop i ys)
ended xs ys i r m h =
    let p = length-drop i xs in
    let q = length-drop i ys in
    by_lengths (drop i xs) (drop i ys) r (omega arith) (shifted xs ys i r (omega arith) (omega arith) (ranked (length xs) (length ys) r h))

-- The last of a list's elements.
use Rattle.std.proofs.Common.{◌≡◌, ◌-◌, List, [], ◌∷◌, length, Option, Some, None, refl}
use native.Mathlib.Numerals.{unary_clauses}
use Rattle.std.specs.List.{last_or, slice_get}

last_at : {A : Type 0} (o : Option A) (x : A) (xs : List A) → slice_get (x ∷ xs) (length xs) ≡ last_or o (x ∷ xs)
last_at o x [] = refl
last_at o x (y ∷ ys) = last_at (Some x) y ys

-- the last element is the one at the last place
pub last_is : {A : Type 0} (xs : List A) → slice_get xs (length xs - 1) ≡ last_or None xs
last_is [] = refl
last_is (x ∷ xs) = simp unary_clauses (last_at None x xs)

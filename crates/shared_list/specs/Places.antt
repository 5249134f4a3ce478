-- Places among chunks, each of which has elements by f (profile).
use Rattle.std.specs.Prelude.{ℕ, ◌+◌, ◌<◌, ◌≤◌, Bool, false, List, [], ◌∷◌, Option, None, Some, length, take, slice_index_or}
use Rattle.std.specs.List.{flat_map}
use Rattle.shared_list.specs.declared.place.Place.{Place}

-- place i of chunk k is one of its elements' or the one behind them
pub record IsPlace {A X : Type 0} (f : A → List X) (xs : List A) (k i : ℕ) : Type 0 where
  pub chunk : k < length xs
  pub within : (c : A) → i ≤ length (f (slice_index_or xs k c))

-- place i of chunk k is one of its elements'
pub record IsItem {A X : Type 0} (f : A → List X) (xs : List A) (k i : ℕ) : Type 0 where
  pub chunk : k < length xs
  pub within : (c : A) → i < length (f (slice_index_or xs k c))

-- how many elements stand before a place, or all of them
abbrev pub place_index : {A X : Type 0} → (A → List X) → List A → Option Place → ℕ
place_index f xs None = length (flat_map f xs)
place_index f xs (Some c) = length (flat_map f (take c.k xs)) + c.at

-- there is a last element, which passes
abbrev pub ends : {X : Type 0} → (X → Bool) → List X → Bool
ends p [] = false
ends p (x ∷ []) = p x
ends p (x ∷ (y ∷ ys)) = ends p (y ∷ ys)

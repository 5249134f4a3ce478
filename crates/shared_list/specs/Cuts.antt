-- Where the elements that pass a test end (profile).
use Rattle.std.specs.Prelude.{◌≡◌, ℕ, ◌+◌, ◌<◌, ◌≤◌, Bool, true, false, List, length, slice_index_or}

-- place i of a list: the element before it passes, and the one that stands there doesn't
pub record IsCut {A : Type 0} (p : A → Bool) (xs : List A) (i : ℕ) : Type 0 where
  pub within : i ≤ length xs
  pub before : (j : ℕ) (d : A) → i ≡ j + 1 → p (slice_index_or xs j d) ≡ true
  pub after : (d : A) → i < length xs → p (slice_index_or xs i d) ≡ false

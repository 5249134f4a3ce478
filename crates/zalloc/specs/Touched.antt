-- Which windows were touched.
use Rattle.std.specs.Prelude.{◌≡◌, ℕ, ◌<◌, ◌≤◌, Bool, true, Some, slice_get, slice_index, length, count_by, vec_capacity}
use Rattle.std.specs.List.{Contains}
use Rattle.zalloc.specs.declared.touched.Touched.TheInside.{Inside}

abbrev pub itself : Bool → Bool
itself b = b

-- each window that has its flag is listed, there are as many listed, and the list has room for all windows [profile]
pub record IsNoted (t : Inside) : Type 0 where
  pub count : length t.noted.items ≡ count_by itself t.flags.items
  pub listed : (w : ℕ) → slice_get t.flags.items w ≡ Some true → Contains t.noted.items w
  pub within : (i : ℕ) → i < length t.noted.items → slice_index t.noted.items i < length t.flags.items
  pub room : length t.flags.items ≤ vec_capacity t.noted

-- Where a name stands among file systems in byte order.
use Rattle.std.specs.Prelude.{◌≡◌, ◌<◌, ◌≤◌, ℕ, List, length, slice_index_or}
use Rattle.std.specs.declared.cmp.Ordering.TheVariants.{Less, Greater}
use Rattle.base.specs.Names.{name_cmp}
use Rattle.file_system.specs.Rows.{Entry}

-- the name stands at place i (profile)
pub record IsAt (rows : List Entry) (name : List ℕ) (i : ℕ) : Type 0 where
  pub within : i < length rows
  pub named : (d : Entry) → (slice_index_or rows i d).0 ≡ name

-- the name would stand at place i: names below it before, and names above it from there on (profile)
pub record IsGapFor (rows : List Entry) (name : List ℕ) (i : ℕ) : Type 0 where
  pub within : i ≤ length rows
  pub below : (j : ℕ) (d : Entry) → j < i → name_cmp (slice_index_or rows j d).0 name ≡ Less
  pub above : (j : ℕ) (d : Entry) → i ≤ j → j < length rows → name_cmp (slice_index_or rows j d).0 name ≡ Greater

-- Where a key stands among entries in order.
use Rattle.std.specs.Prelude.{◌≡◌, ◌<◌, ◌≤◌, ℕ, List, length, slice_index_or}
use Rattle.std.specs.declared.cmp.Ordering.{Ordering}
use Rattle.std.specs.declared.cmp.Ordering.TheVariants.{Less, Greater}

-- the key stands at place i (profile)
pub record IsAt {K X : Type 0} (es : List (K × X)) (k : K) (i : ℕ) : Type 0 where
  pub within : i < length es
  pub named : (d : K × X) → (slice_index_or es i d).0 ≡ k

-- the key would stand at place i: lower ones before it, and higher ones from there on (profile)
pub record IsGapFor {K X : Type 0} (R : K → K → Ordering) (es : List (K × X)) (k : K) (i : ℕ) : Type 0 where
  pub within : i ≤ length es
  pub below : (j : ℕ) (d : K × X) → j < i → R (slice_index_or es j d).0 k ≡ Less
  pub above : (j : ℕ) (d : K × X) → i ≤ j → j < length es → R (slice_index_or es j d).0 k ≡ Greater

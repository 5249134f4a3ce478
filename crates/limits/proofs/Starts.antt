-- Where a file system was found, its key stands.
use Rattle.std.proofs.Common.{◌≡◌, ℕ, ◌<◌, List, [], length, get_or, ◌∙◌, arith}
use Rattle.std.specs.FinMap.{entries, keys}
use Rattle.model.specs.Hierarchy.{FileSystems}
use Rattle.datasets.specs.Places.{IsAt}
use Rattle.limits.proofs.Order.{no_entry, keys_long, key_is}

module _ (m : FileSystems) (name : List ℕ) (i : ℕ) (found : IsAt (entries m) name i) where
  pub start_within : i < length (keys m)
  start_within = let l = keys_long m in let w = found.within in omega (arith, l, w)

  pub start_named : get_or (keys m) i [] ≡ name
  start_named = key_is m i start_within ∙ found.named no_entry

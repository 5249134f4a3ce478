-- What a change of a tree names, and what holds of it.
use Rattle.std.specs.Prelude.{◌≡◌, ◌<◌, ◌≤◌, ◌↔◌, ◌⊎◌, ℕ, List, Some, map, slice_get}
use Rattle.std.specs.FinMap.{get}
use Rattle.std.specs.List.Sorted.{IsStrictlySortedBy}
use Rattle.base.specs.declared.number.Key.{Key}
use Rattle.base.specs.Key.{key_cmp}
use Rattle.base.specs.Map.{Map, Cell, Block, IsTree}
use Rattle.base.specs.Rewrite.{Changes, rewrite}
use Rattle.base.specs.Surveys.{IsIn, AreDifferent, IsMadeKey}
use Rattle.zalloc.specs.declared.BlockState.{BlockState}
use Rattle.zalloc.specs.declared.BlockState.TheVariants.{Free}
pub use Rattle.batch.specs.Room.{IsKept, IsReleased, young_count, HasRoom, LacksRoom}
pub use Rattle.batch.specs.Cost.{CountsDropped}

-- what contracts see of a change: the map before it, the map that it leads to, the numbers that it takes, the blocks that it drops without keeping their numbers in place, and its new blocks in the order of their keys, each with its number (profile)
pub record Shown : Type 0 where
  pub old : Map
  pub new : Map
  pub taken : List ℕ
  pub released : List Block
  pub made : List (Key × ℕ)

-- The change is the rewrite in group g: a touched key whose block is young keeps its number, each other key that is made has a number of its own, which is Free or that of a young block that is released; the new blocks stand in the order of their keys, each once (profile, after the births of chapter 2 of the On-Disk Specification)
pub record IsChange (m : Map) (c : Changes) (g young : ℕ) (states : List BlockState) (v : Shown) : Type 0 where
  pub old_is : v.old ≡ m
  pub number : Key → ℕ
  pub new_is : v.new ≡ rewrite m c g number
  pub kept : (k : Key) (cell : Cell) → IsMadeKey m c k → get m k ≡ Some cell → young ≤ cell.birth → number k ≡ cell.number
  pub fresh : (k : Key) → IsMadeKey m c k → ¬ (IsKept m c young k) → IsIn v.taken (number k)
  pub used : (n : ℕ) → IsIn v.taken n → (k : Key) × IsMadeKey m c k × (¬ (IsKept m c young k)) × (number k ≡ n)
  pub once : (j k : Key) → IsMadeKey m c j → IsMadeKey m c k → ¬ (IsKept m c young j) → ¬ (IsKept m c young k) → number j ≡ number k → j ≡ k
  pub taken_free : (n : ℕ) → IsIn v.taken n → (slice_get states n ≡ Some Free) ⊎ ((b : Block) × IsIn v.released b × (young ≤ b.birth) × (b.number ≡ n))
  pub taken_once : AreDifferent v.taken
  pub released : (b : Block) → IsIn v.released b ↔ IsReleased m c young b
  pub released_once : AreDifferent v.released
  pub made : (k : Key) (n : ℕ) → IsIn v.made (k, n) ↔ (IsMadeKey m c k × (number k ≡ n))
  pub made_order : IsStrictlySortedBy key_cmp (map (λ e. e.0) v.made)
  pub tree : (n : ℕ) → IsTree n m → ((k : ℕ) → IsIn v.taken k → k < n) → IsTree n v.new

-- these are the blocks that touched keys had which don't keep their numbers, each once (profile)
pub record AreReleased (m : Map) (c : Changes) (young : ℕ) (bs : List Block) : Type 0 where
  pub each : (b : Block) → IsIn bs b ↔ IsReleased m c young b
  pub once : AreDifferent bs

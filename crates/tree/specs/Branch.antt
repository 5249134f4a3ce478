-- What stands at and below one key of a map.
use Rattle.std.specs.Prelude.{◌≡◌, ◌<◌, ◌⊎◌, ℕ, ◌+◌, ◌*◌, ◌-◌, ◌&&◌, cond, nat_lt, is_some, IsSome, Option, Some, None, List}
use Rattle.std.specs.List.{filter_map, range_with_len}
use Rattle.std.specs.FinMap.{get, retain_keys}
use Rattle.base.specs.declared.number.Key.{Key}
use Rattle.base.specs.Key.{is_at_or_below}
use Rattle.base.specs.Map.{Map, Block}
use Rattle.node.specs.Walk.{blocks_of}

-- a key, and the map of the keys at and below it (On-Disk Specification, chapter 3: the blocks below an indirect block)
pub record Branch : Type 0 where
  pub key : Key
  pub map : Map

-- the keys of a map at and below one (On-Disk Specification, chapter 3)
unfoldable pub map_below : Map → Key → Map
map_below m k = retain_keys m (is_at_or_below k)

-- the key at one of the sixteen places below another (On-Disk Specification, chapter 3; the number of places is profile)
abbrev pub child_key : Key → ℕ → Key
child_key k i = record { level = k.level - 1; index = 16 * k.index + i }

-- what stands at a place directly below, if the map has that key; below a leaf is nothing (profile)
abbrev pub child_of : Branch → ℕ → Option Branch
child_of b i = cond (nat_lt 0 b.key.level && is_some (get b.map (child_key b.key i))) (Some (record { key = child_key b.key i; map = map_below b.map (child_key b.key i) })) None

-- what stands directly below, in the order of the places (On-Disk Specification, chapter 3)
unfoldable pub branches_below : Branch → List Branch
branches_below b = filter_map (child_of b) (range_with_len 0 16)

-- its blocks, in the order of its keys (On-Disk Specification, chapter 2)
unfoldable pub branch_blocks : Branch → List Block
branch_blocks b = blocks_of b.map

-- a key of what stands at a place directly below (On-Disk Specification, chapter 3)
pub record IsKeyBelow (b : Branch) (k : Key) : Type 0 where
  pub place : ℕ
  pub small : place < 16
  pub child : Branch
  pub there : child_of b place ≡ Some child
  pub has : IsSome (get child.map k)

-- each key is the branch's own, or one of what stands directly below (On-Disk Specification, chapter 3)
abbrev pub AreOwnOrBelow : Branch → Type 0
AreOwnOrBelow b = (k : Key) → IsSome (get b.map k) → (k ≡ b.key) ⊎ IsKeyBelow b k

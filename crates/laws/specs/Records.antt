-- Which records a send has, by the map that it is made from, and what two maps share.
use Rattle.std.specs.Prelude.{◌≡◌, ◌<◌, ◌≤◌, ◌⊎◌, ℕ, List, Some, None, IsTrue}
use Rattle.std.specs.FinMap.{get}
use Rattle.std.specs.Option.{option_map}
use Rattle.base.specs.declared.number.Key.{Key}
use Rattle.base.specs.Key.{parent, is_at_or_below}
use Rattle.base.specs.Map.{Map, Cell, block_of}
use Rattle.stream.specs.declared.record.Record.{Record}
use Rattle.stream.specs.declared.record.Record.TheVariants.{Write, Free}
use Rattle.stream.specs.Records.{start_of, end_of}
pub use Rattle.laws.specs.Lineages.{SharesUntil, AreBirthsRising}

-- the key of a leaf (On-Disk Specification, chapter 3)
abbrev pub leaf_key : ℕ → Key
leaf_key leaf = record { level = 0; index = leaf }

-- the key of the whole tree (On-Disk Specification, chapter 3)
abbrev pub root_key : Key
root_key = record { level = 5; index = 0 }

-- a leaf of the map, born after t, has these bytes (zfs-send(8), -i)
pub record IsWritten (m : Map) (t leaf : ℕ) (bytes : List ℕ) : Type 0 where
  pub cell : Cell
  pub there : get m (leaf_key leaf) ≡ Some cell
  pub young : t < cell.birth
  pub bytes_are : cell.bytes ≡ bytes

-- an absent key whose parent is present and born after t (zfs-send(8), -i; profile)
pub record IsGap (m : Map) (t : ℕ) (k : Key) : Type 0 where
  pub above : Cell
  pub there : get m (parent k) ≡ Some above
  pub young : t < above.birth
  pub absent : get m k ≡ None

-- the root of a map that has nothing (profile)
pub record IsAll (m : Map) (k : Key) : Type 0 where
  pub nothing : (q : Key) → get m q ≡ None
  pub is : k ≡ root_key

-- a record that a send of the map from group t has (zfs-send(8), -i; profile)
abbrev pub IsSent : Map → ℕ → Record → Type 0
IsSent m t (Write leaf bytes) = IsWritten m t leaf bytes
IsSent m t (Free k) = IsGap m t k ⊎ IsAll m k

-- a record covers a leaf (profile)
pub record IsOver (r : Record) (leaf : ℕ) : Type 0 where
  pub from : start_of r ≤ leaf
  pub upto : leaf < end_of r

-- the block of t is one of s at the same key, with the same bytes and the same blocks below (On-Disk Specification, chapters 2 and 3)
pub record IsBlockOf (s t : Map) (k : Key) (c : Cell) : Type 0 where
  pub cell : Cell
  pub there : get s k ≡ Some cell
  pub block : block_of cell ≡ block_of c
  pub bytes : cell.bytes ≡ c.bytes
  pub below : (q : Key) → IsTrue (is_at_or_below k q) → option_map block_of (get s q) ≡ option_map block_of (get t q)

-- each block of t that was born by g is one of s (On-Disk Specification, chapter 2)
abbrev pub SharesBlocks : ℕ → Map → Map → Type 0
SharesBlocks g s t = (k : Key) (c : Cell) → get t k ≡ Some c → c.birth ≤ g → IsBlockOf s t k c

-- each block was born by this group (On-Disk Specification, chapter 2)
abbrev pub AreBornBy : ℕ → Map → Type 0
AreBornBy g s = (k : Key) (c : Cell) → get s k ≡ Some c → c.birth ≤ g

-- each block was born in a group, and groups begin at 1 (On-Disk Specification, chapter 2)
abbrev pub AreBorn : Map → Type 0
AreBorn t = (k : Key) (c : Cell) → get t k ≡ Some c → 0 < c.birth

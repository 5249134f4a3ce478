-- An image that holds the blocks of a map.
use Rattle.std.specs.Prelude.{◌≡◌, ◌<◌, ◌^◌, ℕ, List, Some}
use Rattle.std.specs.FinMap.{get}
use Rattle.base.specs.declared.number.Key.{Key}
use Rattle.base.specs.Map.{Map, Cell, IsTree}
use Rattle.image.specs.ImageBlocks.{bytes_of}
pub use Rattle.image.specs.ImageBlocks.{root_key, root_of, AreBirthsRising}

-- each block of the map stands at its number (On-Disk Specification, chapter 2)
abbrev pub HasBlocks : (ℕ → List ℕ) → Map → Type 0
HasBlocks image m = (k : Key) (c : Cell) → get m k ≡ Some c → image c.number ≡ bytes_of m k c

-- a map that an image of n blocks can have: a tree in which births rise upward, and each birth and each number plus 1 has eight bytes (profile)
pub record IsWritable (n : ℕ) (m : Map) : Type 0 where
  pub tree : IsTree n m
  pub rising : AreBirthsRising m
  pub few : n < 2 ^ 64
  pub births : (k : Key) (c : Cell) → get m k ≡ Some c → c.birth < 2 ^ 64

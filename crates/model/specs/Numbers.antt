-- One number names one block (On-Disk Specification, chapter 2: a block pointer's address names one allocated block).
use Rattle.std.specs.Prelude.{◌≡◌, ◌<◌, ℕ, List, Some, IsTrue, false, length, slice_get}
use Rattle.std.specs.FinMap.{get}
use Rattle.base.specs.declared.number.Key.{Key}
use Rattle.base.specs.Key.{is_at_or_below}
use Rattle.base.specs.Map.{Map, Cell, IsTree}
use Rattle.model.specs.World.{World, Dataset, map_of, reach_of, union_of}
use Rattle.zalloc.specs.declared.BlockState.{BlockState}
use Rattle.model.specs.State.{State, waiting_of, is_number_of, block_state}

-- two cells with one number: one key, one cell, and the same cells below (On-Disk Specification, chapter 2)
abbrev pub IsOneBlock : Map → Map → Key → Key → Cell → Cell → Type 0
IsOneBlock m n j k a b = (j ≡ k) × (a ≡ b) × ((below : Key) → IsTrue (is_at_or_below k below) → get m below ≡ get n below)

-- the numbers of one world, in a pool of so many blocks: each names one block of its maps, and no block that is being freed
-- (On-Disk Specification, chapter 2; zpool-features(7), async_destroy)
pub record IsWorldNumbered (size : ℕ) (w : World) : Type 0 where
  pub trees : (d : Dataset) → IsTree size (map_of w d)
  pub one_block :
      (d e : Dataset) (j k : Key) (a b : Cell) → get (map_of w d) j ≡ Some a → get (map_of w e) k ≡ Some b → a.number ≡ b.number
      → IsOneBlock (map_of w d) (map_of w e) j k a b
  pub freeing_apart : (n : ℕ) → IsTrue (is_number_of w.freeing n) → is_number_of (union_of w) n ≡ false

-- what holds of the numbers after each step: those of the present world, and none of them waits (profile)
pub record IsNumbered (s : State) : Type 0 where
  pub world : IsWorldNumbered s.size s.now
  pub waiting_apart : (n : ℕ) → IsTrue (is_number_of (waiting_of s) n) → is_number_of (reach_of s.now) n ≡ false

-- each number of the pool is in the state that the worlds give it (zpoolprops(7): allocated, free; waiting is profile)
pub record HasStates (s : State) (numbers : List BlockState) : Type 0 where
  pub count : length numbers ≡ s.size
  pub each : (n : ℕ) → n < s.size → slice_get numbers n ≡ Some (block_state s n)

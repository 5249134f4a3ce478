-- What becomes of the numbers of touched keys, and when there is room for the new ones.
use Rattle.std.specs.Prelude.{◌≡◌, ◌+◌, ◌<◌, ◌≤◌, ◌⊎◌, ℕ, true, List, Some, IfSome, length, count_by, nat_le, slice_get}
use Rattle.std.specs.FinMap.{get}
use Rattle.base.specs.declared.number.Key.{Key}
use Rattle.base.specs.declared.refusal.Refusal.{Refusal}
use Rattle.base.specs.declared.refusal.Refusal.TheVariants.{NoSpace, NoMemory}
use Rattle.base.specs.Map.{Map, Cell, Block, block_of}
use Rattle.base.specs.Rewrite.{Changes, is_touched}
use Rattle.base.specs.Surveys.{IsMadeKey, IsSurvey}
use Rattle.zalloc.specs.declared.BlockState.{BlockState}
use Rattle.zalloc.specs.declared.BlockState.TheVariants.{Allocated}
use Rattle.zalloc.specs.States.{is_free}

-- the number of each block of a map is Allocated (profile)
abbrev pub AreAllocated : Map → List BlockState → Type 0
AreAllocated m states = (k : Key) → IfSome (get m k) (λ c. slice_get states c.number ≡ Some Allocated)

-- a touched key that keeps its number: it is there before and after, and its block was born from the group `young` on (profile)
pub record IsKept (m : Map) (c : Changes) (young : ℕ) (k : Key) : Type 0 where
  pub made : IsMadeKey m c k
  pub cell : Cell
  pub there : get m k ≡ Some cell
  pub born : young ≤ cell.birth

-- the block that a touched key had, where the key doesn't keep its number (profile)
pub record IsReleased (m : Map) (c : Changes) (young : ℕ) (b : Block) : Type 0 where
  pub key : Key
  pub cell : Cell
  pub there : get m key ≡ Some cell
  pub is : block_of cell ≡ b
  pub touched : is_touched m c key ≡ true
  pub goes : ¬ (IsKept m c young key)

-- how many of these blocks were born from a group on (profile)
abbrev pub young_count : ℕ → List Block → ℕ
young_count young = count_by (λ b. nat_le young b.birth)

-- the Free numbers and the dropped young blocks are enough for the keys that the change makes (profile)
pub record HasRoom (m : Map) (c : Changes) (young : ℕ) (states : List BlockState) : Type 0 where
  pub dropped : List Block
  pub made : List Key
  pub survey : IsSurvey m c dropped made
  pub enough : length made ≤ count_by is_free states + young_count young dropped

-- they are not enough (profile)
pub record LacksRoom (m : Map) (c : Changes) (young : ℕ) (states : List BlockState) : Type 0 where
  pub dropped : List Block
  pub made : List Key
  pub survey : IsSurvey m c dropped made
  pub short : count_by is_free states + young_count young dropped < length made

-- there are too few numbers, or there is no memory (profile)
abbrev pub IsNoSpaceOrNoMemory : Refusal → Type 0
IsNoSpaceOrNoMemory e = (e ≡ NoSpace) ⊎ (e ≡ NoMemory)

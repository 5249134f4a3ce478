-- What a change of a map drops and makes, as lists of blocks and keys.
use Rattle.std.specs.Prelude.{◌≡◌, ◌⊎◌, ◌↔◌, ◌≤◌, true, List, [], ◌∷◌, IsSome, Some}
use Rattle.std.specs.FinMap.{get}
use Rattle.base.specs.declared.number.Key.{Key}
use Rattle.base.specs.declared.number.Dead.{Dead}
use Rattle.base.specs.Map.{Map, Cell, Block, block_of}
use Rattle.base.specs.Rewrite.{Changes, rewrite, is_touched}

-- the value is an element of the list
abbrev pub IsIn : {A : Type 0} → List A → A → Type 0
IsIn [] a = ⊥
IsIn (x ∷ xs) a = (a ≡ x) ⊎ IsIn xs a

-- no element stands twice in the list
abbrev pub AreDifferent : {A : Type 0} → List A → Type 0
AreDifferent [] = Unit {0}
AreDifferent (x ∷ xs) = (¬ (IsIn xs x)) × AreDifferent xs

-- a block that was let go, as a block
abbrev pub dead_block : Dead → Block
dead_block d = record { number = d.block.0; birth = d.birth.0 }

-- the block that a touched key had before
pub record IsDropped (m : Map) (c : Changes) (b : Block) : Type 0 where
  pub key : Key
  pub cell : Cell
  pub there : get m key ≡ Some cell
  pub is : block_of cell ≡ b
  pub touched : is_touched m c key ≡ true

-- a touched key that is there afterwards; which keys these are doesn't hang on the numbers or the group
abbrev pub IsMadeKey : Map → Changes → Key → Type 0
IsMadeKey m c k = (is_touched m c k ≡ true) × IsSome (get (rewrite m c 0 (λ _. 0)) k)

-- the blocks that a change drops, each once, and the keys that it makes, each once
pub record IsSurvey (m : Map) (c : Changes) (dropped : List Block) (made : List Key) : Type 0 where
  pub gone : (b : Block) → IsIn dropped b ↔ IsDropped m c b
  pub gone_once : AreDifferent dropped
  pub each : (k : Key) → IsIn made k ↔ IsMadeKey m c k
  pub levels : (k : Key) → IsIn made k → k.level ≤ 5
  pub made_once : AreDifferent made

-- A change of one live map, among the blocks that both worlds reach.
use Rattle.std.specs.Prelude.{◌≡◌, ◌<◌, ℕ, Bool, true, Some}
use Rattle.std.specs.FinMap.{get}
use Rattle.std.specs.FinSet.{union}
use Rattle.base.specs.declared.number.Key.{Key}
use Rattle.base.specs.Map.{Map, Cell, Block, BlockSet, block_of}
use Rattle.world.specs.Sets.{Has}

-- A block of a key that a change touches, which the map alone has and the last synced world hasn't: its number may be taken again (profile)
pub record IsReusable (m : Map) (own last : BlockSet) (touched : Key → Bool) (b : Block) : Type 0 where
  pub alone : Has own b
  pub new : ¬ (Has last b)
  pub key : Key
  pub cell : Cell
  pub there : get m key ≡ Some cell
  pub is : block_of cell ≡ b
  pub leaves : touched key ≡ true

-- The numbers of the keys that a change makes: those that no block has, or those of reusable blocks, each one key's (profile)
pub record IsChosen (m new : Map) (own now last : BlockSet) (size : ℕ) (touched : Key → Bool) (number : Key → ℕ) : Type 0 where
  pub small : (q : Key) (x : Cell) → touched q ≡ true → get new q ≡ Some x → number q < size
  pub allowed :
      (q : Key) (x : Cell) (b : Block) → touched q ≡ true → get new q ≡ Some x
      → Has (union now last) b → b.number ≡ number q → IsReusable m own last touched b
  pub once :
      (j k : Key) (a b : Cell) → touched j ≡ true → touched k ≡ true → get new j ≡ Some a → get new k ≡ Some b
      → number j ≡ number k → j ≡ k

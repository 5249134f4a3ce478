-- What a change of one live map is to the blocks that are reached.
use Rattle.std.specs.Prelude.{◌≡◌, ◌⊎◌, Some}
use Rattle.std.specs.FinMap.{get}
use Rattle.base.specs.declared.number.Key.{Key}
use Rattle.base.specs.Map.{Map, Cell, Block, BlockSet}
use Rattle.world.specs.Sets.{Has, IsSubset}

-- each number of a map is one key's (profile)
abbrev pub AreKeysOne : Map → Type 0
AreKeysOne m = (j k : Key) (a b : Cell) → get m j ≡ Some a → get m k ≡ Some b → a.number ≡ b.number → j ≡ k

-- Some of the blocks that are reached, which one map alone has, give way to others, and no other block comes or goes (profile)
pub record GivesWay (own new now after : BlockSet) : Type 0 where
  pub inside : IsSubset own now
  pub there : IsSubset new after
  pub stays : (b : Block) → Has now b → ¬ (Has own b) → Has after b
  pub comes : (b : Block) → Has after b → Has new b ⊎ (Has now b × ¬ (Has own b))

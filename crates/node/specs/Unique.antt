-- One number stands at one key.
use Rattle.std.specs.Prelude.{◌≡◌, Some}
use Rattle.std.specs.FinMap.{get}
use Rattle.base.specs.declared.number.Key.{Key}
use Rattle.base.specs.Map.{Map, Cell}

-- no two keys of a map have one number (profile)
pub record IsUnique (m : Map) : Type 0 where
  pub one : (j k : Key) (a b : Cell) → get m j ≡ Some a → get m k ≡ Some b → a.number ≡ b.number → j ≡ k

-- What a pile of entries holds (profile).
use Rattle.std.specs.Prelude.{ℕ, List}
use Rattle.base.specs.declared.number.Dead.{Dead}

-- its entries, and how many of them a sum looks at, at most
pub record Piled : Type 0 where
  pub entries : List Dead
  pub steps : ℕ

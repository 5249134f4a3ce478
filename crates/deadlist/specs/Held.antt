-- What a dead list holds (profile).
use Rattle.std.specs.Prelude.{ℕ, List}
use Rattle.base.specs.declared.number.Dead.{Dead}

-- its entries, segment by segment and then those put in last; its cuts, which rise; and for how many pushes it has room; how many entries wait
-- behind the segments; and how many a sum looks at besides these, at most
pub record Held : Type 0 where
  pub entries : List Dead
  pub cuts : List ℕ
  pub room : ℕ
  pub waiting : ℕ
  pub steps : ℕ

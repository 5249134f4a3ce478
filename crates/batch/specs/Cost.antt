-- What a change costs, as its meter shows it.
use Rattle.std.specs.Prelude.{◌≤◌, ◌↔◌, ℕ, List, length}
use Rattle.base.specs.Counting.{counted}
use Rattle.base.specs.Map.{Map, Block}
use Rattle.base.specs.Rewrite.{Changes}
use Rattle.base.specs.Surveys.{IsIn, AreDifferent, IsDropped}

-- the meter has risen by at least one for each block that a change drops: each block that a touched key had is listed once, and counted (profile)
pub record CountsDropped (m : Map) (c : Changes) (before after : ℕ) : Type 0 where
  pub dropped : List Block
  pub each : (b : Block) → IsIn dropped b ↔ IsDropped m c b
  pub once : AreDifferent dropped
  pub metered : counted before (length dropped) ≤ after

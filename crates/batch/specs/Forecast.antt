-- What a batch would drop and make, without the numbers of new blocks.
use Rattle.std.specs.Prelude.{◌≡◌, List, length, map}
use Rattle.std.specs.List.{filter_map}
use Rattle.base.specs.declared.number.Dead.{Dead}
use Rattle.base.specs.declared.number.Key.{Key}
use Rattle.base.specs.Map.{Map}
use Rattle.base.specs.Rewrite.{Changes}
use Rattle.base.specs.Surveys.{IsSurvey, dead_block}
use Rattle.batch.specs.declared.findings.Claim.{Claim}
use Rattle.batch.specs.declared.forecast.Forecast.{Forecast}

-- the blocks that claims keep in place (profile)
abbrev pub kept_of : List Claim → List Dead
kept_of = filter_map (λ c. c.kept)

-- these are the blocks that touched keys have, each once, and so many keys are made (On-Disk Specification, chapter 3)
pub record IsForecast (m : Map) (c : Changes) (f : Forecast) : Type 0 where
  pub made : List Key
  pub survey : IsSurvey m c (map dead_block f.dropped.items) made
  pub count : f.made ≡ length made

-- What an open view shows.
use Rattle.std.specs.Prelude.{ℕ, List, refl}
use Rattle.std.specs.Coded.{Coded, code_by, coded×, coded_ℕ, coded_list}
use Rattle.base.specs.Map.{Map}
use Rattle.base.specs.Codes.{map_code}
use Rattle.model.specs.declared.source.Source.{Source}
use Rattle.model.specs.contracts.source.Source.{the_row}

-- a snapshot as it was when the view was opened, with what a send of it may start from (zfs-send(8), -i; views are profile)
pub record Seen : Type 0 where
  pub map : Map
  pub guid : ℕ
  pub group : ℕ
  pub sources : List Source

-- its code, that of the tuple of the fields
abbrev pub seen_code : Coded Seen
seen_code =
    code_by (Map × (ℕ × (ℕ × List Source))) (coded× map_code (coded× coded_ℕ (coded× coded_ℕ (coded_list the_row.coded))))
    (λ s. (s.map, (s.guid, (s.group, s.sources))))
    (λ p. record { map = p.0; guid = p.1.0; group = p.1.1.0; sources = p.1.1.1 })
    (λ _. refl)

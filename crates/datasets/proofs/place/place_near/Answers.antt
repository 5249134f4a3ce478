use Rattle.std.proofs.Common.{sym, ap, ◌∙◌}
use Rattle.file_system.specs.Rows.{Row, entry_in}
use Rattle.datasets.proofs.Rows.{at_looked_up}
use Rattle.datasets.proofs.place.place_near.Goals as goal

-- the row that was looked at has the name
pub returns-clause-found : goal.returns-clause-found
returns-clause-found c =
    let named = ap (λ (r : Row). r.name) (sym c.deref.ensures) ∙ c.is_named.ensures.0 c.if-is_named.true in
    at_looked_up entry_in c.args.file_systems.now c.args.near c.get.result c.in-Some.file_system c.args.name.now c.get.ensures.lookup c.in-Some.is named

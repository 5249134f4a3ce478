use Rattle.std.proofs.Common.{sym, ap, ◌∙◌}
use Rattle.datasets.specs.Rows.{Row}
use Rattle.limits.proofs.Places.{near_at}
use Rattle.limits.proofs.place.place_near.Goals as goal

pub returns-in-Some-clause-some : goal.returns-in-Some-clause-some
returns-in-Some-clause-some c =
    let named = ap (λ (r : Row). r.name) (sym c.deref.ensures) ∙ c.is_named.ensures.0 c.if-is_named.true in
    near_at c.args.table.now.file_systems c.file_systems.result.now c.file_systems.ensures c.args.name.now c.args.near c.in-Some.file_system.now
    c.in-Some.ensures.lookup.3.0 c.in-Some.ensures.lookup.1 named

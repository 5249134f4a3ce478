use Rattle.std.proofs.Common.{◌≡◌, [], sym, subst}
use Rattle.std.specs.Prelude.{IfOk, IsSome}
use Rattle.std.specs.FinMap.{get}
use Rattle.file_system.specs.Rows.{snaps_at}
use Rattle.world.specs.Tables.{Datasets}
use Rattle.datasets.specs.Rollbacks.{Loses}
use Rattle.datasets.proofs.Above.{is_above}
use Rattle.datasets.proofs.Emptied.{vacated_table, vacated_loses}
use Rattle.datasets.proofs.table.Table.vacate.Goals as goal

pub vacate-requires-clause-there : goal.vacate-requires-clause-there
vacate-requires-clause-there c = subst (λ (t : Datasets). IsSome (get t.file_systems c.args.name.now)) (sym c.self.view_is) c.requires.there

pub vacate-requires-clause-bare : goal.vacate-requires-clause-bare
vacate-requires-clause-bare c = subst (λ (t : Datasets). snaps_at t.file_systems c.args.name.now ≡ []) (sym c.self.view_is) c.requires.bare

pub vacate-requires-clause-above : goal.vacate-requires-clause-above
vacate-requires-clause-above c = is_above (record { file_systems = c.self.inside.systems; group = c.self.inside.group.0 }) c.self.invariant c.args.name.now

pub invariant_of-self : goal.invariant_of-self
invariant_of-self c =
    vacated_table (record { file_systems = c.self.inside.systems; group = c.self.inside.group.0 }) c.self.invariant c.args.name.now
    (subst (λ (t : Datasets). IsSome (get t.file_systems c.args.name.now)) (sym c.self.view_is) c.requires.there)
    (subst (λ (t : Datasets). snaps_at t.file_systems c.args.name.now ≡ []) (sym c.self.view_is) c.requires.bare)
    c.vacate.result c.vacate.new.self c.vacate.ensures.ok c.vacate.ensures.err

pub returns-clause-lost : goal.returns-clause-lost
returns-clause-lost c =
    subst (λ (t : Datasets). IfOk c.vacate.result (Loses t (record { file_systems = c.vacate.new.self; group = c.self.inside.group.0 }))) c.self.view_is
    (vacated_loses (record { file_systems = c.self.inside.systems; group = c.self.inside.group.0 }) c.self.invariant c.args.name.now
    (subst (λ (t : Datasets). IsSome (get t.file_systems c.args.name.now)) (sym c.self.view_is) c.requires.there)
    (subst (λ (t : Datasets). snaps_at t.file_systems c.args.name.now ≡ []) (sym c.self.view_is) c.requires.bare)
    c.vacate.result c.vacate.new.self c.vacate.ensures.ok c.vacate.ensures.lost)

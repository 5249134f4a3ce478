use Rattle.std.proofs.Common.{sym, subst}
use Rattle.world.specs.Worlds.{FileSystems}
use Rattle.world.specs.Tables.{Datasets, CanRemoveFileSystem}
use Rattle.datasets.specs.Table.{IsTable}
use Rattle.datasets.proofs.SystemGone.{system_there, system_bare, left_table}
use Rattle.datasets.proofs.table.Table.remove.Goals as goal

pub take_out-requires-clause-there : goal.take_out-requires-clause-there
take_out-requires-clause-there c =
    system_there (record { file_systems = c.self.inside.systems; group = c.self.inside.group.0 }) c.self.invariant c.args.name.now
    (subst (λ (t : Datasets). CanRemoveFileSystem t c.args.name.now) (sym c.self.view_is) c.requires.there)

pub take_out-requires-clause-bare : goal.take_out-requires-clause-bare
take_out-requires-clause-bare c =
    system_bare (record { file_systems = c.self.inside.systems; group = c.self.inside.group.0 }) c.self.invariant c.args.name.now
    (subst (λ (t : Datasets). CanRemoveFileSystem t c.args.name.now) (sym c.self.view_is) c.requires.there)

-- it is gone
pub invariant_of-self : goal.invariant_of-self
invariant_of-self c =
    subst (λ (ss : FileSystems). IsTable (record { file_systems = ss; group = c.self.inside.group.0 })) (sym c.take_out.ensures)
    (left_table (record { file_systems = c.self.inside.systems; group = c.self.inside.group.0 }) c.self.invariant c.args.name.now
    (subst (λ (t : Datasets). CanRemoveFileSystem t c.args.name.now) (sym c.self.view_is) c.requires.there))

use Rattle.std.proofs.Common.{sym, subst}
use Rattle.std.specs.Prelude.{IfOk}
use Rattle.world.specs.Tables.{Datasets, without_system, CanRemoveFileSystem}
use Rattle.datasets.specs.Rollbacks.{Loses}
use Rattle.datasets.proofs.Above.{is_above}
use Rattle.datasets.proofs.SystemGone.{system_there, system_bare, system_gone_loses}
use Rattle.datasets.proofs.table.Table.lost_with.Goals as goal

pub lost-requires-clause-there : goal.lost-requires-clause-there
lost-requires-clause-there c =
    system_there (record { file_systems = c.self.inside.systems; group = c.self.inside.group.0 }) c.self.invariant c.args.name.now
    (subst (λ (t : Datasets). CanRemoveFileSystem t c.args.name.now) (sym c.self.view_is) c.requires.there)

pub lost-requires-clause-bare : goal.lost-requires-clause-bare
lost-requires-clause-bare c =
    system_bare (record { file_systems = c.self.inside.systems; group = c.self.inside.group.0 }) c.self.invariant c.args.name.now
    (subst (λ (t : Datasets). CanRemoveFileSystem t c.args.name.now) (sym c.self.view_is) c.requires.there)

pub lost-requires-clause-above : goal.lost-requires-clause-above
lost-requires-clause-above c = is_above (record { file_systems = c.self.inside.systems; group = c.self.inside.group.0 }) c.self.invariant c.args.name.now

pub returns-clause-lost : goal.returns-clause-lost
returns-clause-lost c =
    subst (λ (t : Datasets). IfOk c.lost.result (Loses t (without_system t c.args.name.now))) c.self.view_is
    (system_gone_loses (record { file_systems = c.self.inside.systems; group = c.self.inside.group.0 }) c.self.invariant c.args.name.now
    (subst (λ (t : Datasets). CanRemoveFileSystem t c.args.name.now) (sym c.self.view_is) c.requires.there) c.lost.result c.lost.ensures.lost)

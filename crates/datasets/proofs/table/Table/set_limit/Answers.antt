use Rattle.std.proofs.Common.{◌≡◌, subst}
use Rattle.std.specs.Prelude.{OnOk}
use Rattle.model.specs.Limits.{limited}
use Rattle.datasets.specs.Limited.{limited_of}
use Rattle.world.specs.Tables.{Datasets}
use Rattle.datasets.specs.Limits.{with_limit_of}
use Rattle.datasets.proofs.Kept.{added_table}
use Rattle.datasets.proofs.Changed.{is_changed}
use Rattle.datasets.proofs.Bookmarked.{limited_table}
use Rattle.datasets.proofs.table.Table.set_limit.Goals as goal

-- a limit is no part of what a table keeps
pub invariant_of-self : goal.invariant_of-self
invariant_of-self c =
    added_table (record { file_systems = c.self.inside.systems; group = c.self.inside.group.0 }) c.self.invariant c.set_limit.result c.set_limit.new.self
    (limited_of c.self.inside.systems c.args.name.now c.args.limit c.args.amount)
    (limited_table (record { file_systems = c.self.inside.systems; group = c.self.inside.group.0 }) c.self.invariant c.args.name.now c.args.limit c.args.amount)
    c.set_limit.ensures.ok c.set_limit.ensures.err

pub returns-clause-ok : goal.returns-clause-ok
returns-clause-ok c =
    subst (λ (t : Datasets). OnOk c.set_limit.result (record { file_systems = c.set_limit.new.self; group = c.self.inside.group.0 } ≡ with_limit_of t c.args.name.now c.args.limit c.args.amount)) c.self.view_is
    (is_changed (record { file_systems = c.self.inside.systems; group = c.self.inside.group.0 }) c.args.name.now (λ f. limited f c.args.limit c.args.amount)
    c.set_limit.result c.set_limit.new.self c.set_limit.ensures.ok)

use Rattle.std.proofs.Common.{sym, ap, ◌∙◌}
use Rattle.base.specs.Map.{blocks}
use Rattle.lookups.specs.Named.{snapshot_value}
use Rattle.lookups.proofs.Written.{written_there}
use Rattle.lookups.proofs.values.value_within.Goals as goal

pub returns-in-Written-clause-ok : goal.returns-in-Written-clause-ok
returns-in-Written-clause-ok c =
    let r = c.args.file_system.now in
    c.written_within.ensures
    ∙ written_there (blocks r.below) r.system.snaps c.args.component.now
    ∙ ap (snapshot_value c.args.table.now r c.args.component.now) (sym c.in-Written.is)

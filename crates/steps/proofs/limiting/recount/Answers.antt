use Rattle.std.proofs.Common.{sym, subst}
use Rattle.world.specs.Tables.{world_of}
use Rattle.lookups.specs.Accounted.{IsAccounted}
use Rattle.steps.specs.Limiting.{CanRecount}
use Rattle.steps.proofs.limiting.recount.Goals as goal

pub recount-requires-clause-own : goal.recount-requires-clause-own
recount-requires-clause-own c =
    let b = c.requires.before in
    let can = subst (λ l. CanRecount b.0 c.args.table.now c.args.name.now l) c.in-Some.is b.1 in
    (world_of b.0, can.hierarchy, can.kept, can.differs)

pub returns-in_default : goal.returns-in_default
returns-in_default c = subst (IsAccounted c.args.table.now) (sym c.in_default.is) (c.requires.unlimited c.in_default.is)

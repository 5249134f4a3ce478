use Rattle.world.specs.Tables.{world_of}
use Rattle.steps.proofs.asked.Settled.{ledger_before}
use Rattle.steps.proofs.limiting.settle_kept.Goals as goal

pub settle-requires-clause-own : goal.settle-requires-clause-own
settle-requires-clause-own c =
    let b = c.requires.before in
    (world_of b.0, ledger_before b.0 c.args.table.now c.args.name.now c.args.ledger.now _ b.1 c.in-Some.outlook c.in-Some.is)

pub returns-in-Some : goal.returns-in-Some
returns-in-Some c =
    let b = c.requires.before in
    let l = ledger_before b.0 c.args.table.now c.args.name.now c.args.ledger.now _ b.1 c.in-Some.outlook c.in-Some.is in
    c.settle.ensures (world_of b.0) (world_of c.args.table.now) l.hierarchy l.named l.own (b.1.differs c.in-Some.outlook c.in-Some.is).1

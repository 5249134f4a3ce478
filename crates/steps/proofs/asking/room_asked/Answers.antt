use Rattle.std.proofs.Common.{◌∙◌}
use Rattle.steps.proofs.asked.Asked.{nothing_kept, free_told}
use Rattle.steps.proofs.asking.room_asked.Goals as goal

pub returns-in_default-ledger-clause-room : goal.returns-in_default-ledger-clause-room
returns-in_default-ledger-clause-room c s is free name named property there =
    free_told s c.args.table.now c.args.space is (nothing_kept c.args.table.now c.args.ledger.now c.requires.own c.in_default-ledger.is) c.from.result (c.from.ensures ∙ free) name there

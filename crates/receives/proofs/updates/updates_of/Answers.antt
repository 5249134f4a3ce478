use Rattle.std.proofs.Common.{arith, ◌∙◌}
use Rattle.std.proofs.lemmas.List.{take_all}
use Rattle.receives.proofs.Sames.{batch_of, changes_are}
use Rattle.receives.proofs.updates.updates_of.Goals as goal

pub returns-clause-batch : goal.returns-clause-batch
returns-clause-batch c =
    let rs = c.args.records.now in
    batch_of c.loop-record.updates.items rs (c.loop-record.invariant ∙ take_all c.loop-record.record-index rs (Prim.omega arith)) c.requires.each c.requires.apart

pub returns-clause-changes : goal.returns-clause-changes
returns-clause-changes c =
    let rs = c.args.records.now in
    changes_are c.loop-record.updates.items rs (c.loop-record.invariant ∙ take_all c.loop-record.record-index rs (Prim.omega arith))

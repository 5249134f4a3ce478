use Rattle.std.proofs.Common.{arith}
use Rattle.std.proofs.lemmas.Bool.{le-leb}
use Rattle.deadlist.specs.Entries.{is_upto}
use Rattle.deadlist.proofs.Pushes.{one_to_come}
use Rattle.deadlist.proofs.deadlist.Deadlist.push_upto.Goals as goal

-- what is still to come has room
pub push_reserved-requires : goal.push_reserved-requires
push_reserved-requires c =
    let more = one_to_come (is_upto c.args.cut.0) c.args.entries.now c.loop-dead.dead-index (record { block = record { 0 = 0 }; birth = record { 0 = 0 } }) c.loop-dead-test.true
    (le-leb _ _ c.if-dead-cut.true) in
    let room = c.loop-dead.invariant.room in
    let asked = c.requires in
    omega arith

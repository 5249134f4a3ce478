use Rattle.std.proofs.Common.{◌++◌, take, drop}
use Rattle.deadlist.specs.Left.{left}
use Rattle.snap.proofs.Pieces.{one_more}
use Rattle.snap.proofs.piece.take_entries.Goals as goal

pub loop-preserved : goal.loop-preserved
loop-preserved c = one_more (left c.loop.entries) c.loop.taken.items c.push.new.self.items (left c.next.new.self) c.in-Some.dead (c.args.taken.now.items ++ take c.args.count (drop c.args.first c.args.list.now.entries)) c.args.count c.loop.counter c.loop-test.true c.in_ok-push.ensures.items c.in-Some.ensures.steps c.loop.invariant

use Rattle.std.proofs.Common.{arith}
use Rattle.layers_tests.proofs.sent.put.Goals as goal

pub put-requires : goal.put-requires
put-requires c = record {
  young = c.args.group.0;
  states = c.args.numbers.now;
  asks = record {
    batch = c.is_batch.ensures c.if-not-is_batch.false;
    born = c.in_ok-is_ready.ensures.born c.if-not-branch.false;
    allocated = c.in_ok-is_ready.ensures.allocated c.if-not-branch.false;
    young = omega arith;
  };
  is = c.in_ok-draft.ensures.ok;
}

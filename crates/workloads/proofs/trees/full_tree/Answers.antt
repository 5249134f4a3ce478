use Rattle.std.proofs.Common.{arith}
use Rattle.workloads.proofs.trees.full_tree.Goals as goal

pub draft-requires-clause-allocated : goal.draft-requires-clause-allocated
draft-requires-clause-allocated c = c.in_ok-is_ready.ensures.allocated c.if-not-branch.false

pub put-requires : goal.put-requires
put-requires c = record {
  young = 1;
  states = c.in_ok-allocator.allocator;
  asks = record {
    batch = c.is_batch.ensures c.if-not-is_batch.false;
    young = omega arith;
    born = c.in_ok-is_ready.ensures.born c.if-not-branch.false;
    allocated = c.in_ok-is_ready.ensures.allocated c.if-not-branch.false;
  };
  is = c.in_ok-draft.ensures.ok;
}

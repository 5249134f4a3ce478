use Rattle.std.proofs.Common.{◌≤◌}
use Rattle.pool.proofs.ahead.blocks_in.Given as goal

-- at most one block was found in each request so far
abbrev pub invariant-loop-at : goal.invariant-loop-at
invariant-loop-at l = l.found.count ≤ l.at

use Rattle.std.proofs.Common.{◌≤◌, length}
use Rattle.script.proofs.ahead.blocks_in.Given as goal

-- at most one block was found in each line so far, and what is left is no longer than the buffer
abbrev pub invariant-loop-seen : goal.invariant-loop-seen
invariant-loop-seen l = (l.found.count ≤ l.seen) × (length l.rest ≤ length l.fn.shown)

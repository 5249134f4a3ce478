use Rattle.std.proofs.Common.{◌≡◌}
use Rattle.file_system.proofs.alone.entries_of.Given as goal

-- those so far
abbrev pub invariant-loop-dead : goal.invariant-loop-dead
invariant-loop-dead l = l.entries.items ≡ l.yielded

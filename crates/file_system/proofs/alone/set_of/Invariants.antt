use Rattle.file_system.specs.Alone.{HasJust}
use Rattle.file_system.proofs.alone.set_of.Given as goal

-- those so far
abbrev pub invariant-loop-dead : goal.invariant-loop-dead
invariant-loop-dead l = HasJust l.entries l.yielded

use Rattle.std.proofs.Common.{◌≡◌, take}
use Rattle.runner.proofs.copies.copy_of_names.Given as goal

-- so many of the names were copied
abbrev pub invariant-loop-name : goal.invariant-loop-name
invariant-loop-name l = l.copy.items ≡ take l.name-index l.names

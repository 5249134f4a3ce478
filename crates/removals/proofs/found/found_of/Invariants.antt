use Rattle.std.proofs.Common.{◌≡◌, take}
use Rattle.removals.specs.Found.{found_in}
use Rattle.removals.proofs.found.found_of.Given as goal

-- those of the names so far
abbrev pub invariant-loop-name : goal.invariant-loop-name
invariant-loop-name l = l.all.items ≡ found_in l.table (take l.name-index l.names)

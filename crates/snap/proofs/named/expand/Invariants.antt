use Rattle.std.proofs.Common.{◌≡◌, ◌++◌, drop}
use Rattle.snap.specs.Taking.{all_of}
use Rattle.snap.proofs.named.expand.Given as goal

-- what the names so far stand for, and what the others do
abbrev pub invariant-loop-name : goal.invariant-loop-name
invariant-loop-name l = l.all.items ++ all_of l.table (drop l.name-index l.names) l.recursive ≡ all_of l.table l.names l.recursive

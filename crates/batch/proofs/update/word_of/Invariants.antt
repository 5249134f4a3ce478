use Rattle.std.proofs.Common.{◌≡◌, drop}
use Rattle.batch.specs.Said.{said}
use Rattle.batch.proofs.update.word_of.Given as goal

abbrev pub invariant-loop-update : goal.invariant-loop-update
invariant-loop-update l = said (drop l.update-index l.updates) l.leaf ≡ said l.updates l.leaf

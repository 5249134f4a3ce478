-- What is left goes on as what was left before.
use Rattle.std.proofs.Common.{◌≡◌, ◌≤◌, ◌<◌, ◌-◌, length}
use Rattle.script.specs.Words.{joins_from}
use Rattle.script.proofs.words.goes_on_by.Given as goal

abbrev pub invariant-loop-seen : goal.invariant-loop-seen
invariant-loop-seen l = record { behind : 0 < l.seen; within : l.seen ≤ length l.line; left : joins_from l.seen l.line ≡ joins_from l.from l.line }

abbrev pub decreases-loop-seen : goal.decreases-loop-seen
decreases-loop-seen l = length l.line - l.seen

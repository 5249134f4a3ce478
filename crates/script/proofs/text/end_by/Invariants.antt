-- Behind what was looked at there are zeros alone.
use Rattle.std.proofs.Common.{◌≡◌, ◌≤◌, ◌-◌, drop, replicate}
use Rattle.script.proofs.text.end_by.Given as goal

abbrev pub invariant-loop-end : goal.invariant-loop-end
invariant-loop-end l = record { within : l.end ≤ 512; zeros : drop l.end l.bytes ≡ replicate (512 - l.end) 0 }

abbrev pub decreases-loop-end : goal.decreases-loop-end
decreases-loop-end l = l.end

use Rattle.std.proofs.Common.{◌≡◌, ℕ, ◌-◌, ◌<◌, ◌≤◌, false}
use Rattle.zalloc.specs.Sets.{bit_in}
use Rattle.zalloc.proofs.set.next_by_word.Given as goal

abbrev pub invariant-loop-start : goal.invariant-loop-start
invariant-loop-start l = record {
  from : l.from ≤ l.start;
  few : l.start < 65536;
  below : (i : ℕ) → l.from ≤ i → i < l.start → bit_in l.fill l.words i ≡ false;
}

abbrev pub decreases-loop-start : goal.decreases-loop-start
decreases-loop-start l = 65536 - l.start

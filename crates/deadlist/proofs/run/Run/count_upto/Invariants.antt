use Rattle.std.proofs.Common.{◌≡◌, ◌-◌, ◌+◌, ◌≤◌, true, false, length}
use Rattle.std.specs.List.{AllWithin}
use Rattle.base.specs.declared.number.Dead.{Dead}
use Rattle.deadlist.specs.Bits.{bits}
use Rattle.deadlist.specs.Entries.{is_upto}
use Rattle.deadlist.proofs.run.Run.count_upto.Given as goal

abbrev pub invariant-loop-low : goal.invariant-loop-low
invariant-loop-low l = record {
  order : l.low ≤ l.high;
  within : l.high ≤ length l.self;
  pass : AllWithin (λ (d : Dead). is_upto l.cut d ≡ true) l.self 0 l.low;
  fail : AllWithin (λ (d : Dead). is_upto l.cut d ≡ false) l.self l.high (length l.self);
  looked : l.meter + bits (l.high - l.low) ≤ l.fn.meter + bits (length l.self);
  never_lower : l.fn.meter ≤ l.meter;
}

abbrev pub decreases-loop-low : goal.decreases-loop-low
decreases-loop-low l = l.high - l.low

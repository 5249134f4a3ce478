use Rattle.std.proofs.Common.{◌≡◌, ◌-◌, ◌≤◌, length, drop}
use Rattle.std.specs.Prelude.{min}
use Rattle.base.specs.Names.{name_cmp}
use Rattle.base.proofs.text.compare_bytes.Given as goal

abbrev pub invariant-loop-place : goal.invariant-loop-place
invariant-loop-place l = record {
  both : l.both ≡ min (length l.one) (length l.other);
  within : l.place ≤ l.both;
  same : name_cmp (drop l.place l.one) (drop l.place l.other) ≡ name_cmp l.one l.other;
}

abbrev pub decreases-loop-place : goal.decreases-loop-place
decreases-loop-place l = ◌-◌ l.both l.place

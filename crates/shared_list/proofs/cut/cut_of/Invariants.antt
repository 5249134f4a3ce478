use Rattle.std.proofs.Common.{◌≡◌, ℕ, ◌+◌, ◌-◌, ◌<◌, ◌≤◌, Bool, true, false, length, get_or}
use Rattle.std.specs.Fn.{ComputesKey}
use Rattle.shared_list.proofs.cut.cut_of.Given as goal

abbrev pub invariant-loop-low : goal.invariant-loop-low
invariant-loop-low g l = record {
  order : l.low ≤ l.high;
  within : l.high ≤ length l.items;
  before : (p : _ → Bool) → ComputesKey g.P.Fn p l.test → (j : ℕ) (d : _) → l.low ≡ j + 1 → p (get_or l.items j d).value ≡ true;
  after : (p : _ → Bool) → ComputesKey g.P.Fn p l.test → (d : _) → l.high < length l.items → p (get_or l.items l.high d).value ≡ false;
}

abbrev pub decreases-loop-low : goal.decreases-loop-low
decreases-loop-low g l = l.high - l.low

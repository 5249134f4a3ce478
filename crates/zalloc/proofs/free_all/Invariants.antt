use Rattle.std.proofs.Common.{◌≡◌, ◌<◌, ◌-◌, ◌||◌, true, false, ℕ}
use Rattle.zalloc.specs.Sets.{IsKept, is_held}
use Rattle.zalloc.proofs.free_all.Given as goal

abbrev pub invariant-loop-number : goal.invariant-loop-number
invariant-loop-number l = record {
  free : IsKept l.free;
  waiting : IsKept l.waiting;
  numbers : l.free.numbers ≡ l.initial.free.numbers;
  same : l.waiting.numbers ≡ l.initial.free.numbers;
  either : (k : ℕ) → k < l.initial.free.numbers → (is_held l.free k || is_held l.waiting k) ≡ (is_held l.initial.free k || is_held l.initial.waiting k);
  apart : (k : ℕ) → k < l.initial.free.numbers → is_held l.free k ≡ true → is_held l.waiting k ≡ false;
  moved : (k : ℕ) → k < l.initial.free.numbers → k < l.from → is_held l.waiting k ≡ false;
}

abbrev pub decreases-loop-number : goal.decreases-loop-number
decreases-loop-number l = l.waiting.numbers - l.from

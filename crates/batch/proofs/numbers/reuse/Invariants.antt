use Rattle.std.proofs.Common.{◌≡◌, ◌-◌, ◌≤◌, ◌++◌, take, drop, length}
use Rattle.batch.specs.Numbers.{numbers, young_numbers}
use Rattle.batch.proofs.numbers.reuse.Given as goal

abbrev pub invariant-loop-dead : goal.invariant-loop-dead
invariant-loop-dead l = record {
  few : length l.out.items ≤ l.need;
  got : numbers l.out.items ++ take (l.need - length l.out.items) (young_numbers l.young.0 (drop l.dead-index l.released)) ≡ numbers l.fn.out.items ++ take (l.need - length l.fn.out.items) (young_numbers l.young.0 l.released);
}

use Rattle.std.proofs.Common.{◌≡◌, ◌-◌, ◌++◌, take, length}
use Rattle.batch.specs.Numbers.{numbers, frees_from}
use Rattle.batch.proofs.numbers.take_free.Given as goal

abbrev pub invariant-loop-count : goal.invariant-loop-count
invariant-loop-count l = record {
  some : length l.out.items ≡ l._count;
  got : numbers l.out.items ++ take (l.need - l._count) (frees_from l.from l.allocator) ≡ numbers l.fn.out.items ++ take (l.need - length l.fn.out.items) (frees_from l.fn.first l.allocator);
}

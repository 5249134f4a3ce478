use Rattle.std.proofs.Common.{◌≡◌, drop, map}
use Rattle.tree.specs.Taking.{AllFree, takes}
use Rattle.tree.proofs.tree.take_all.Given as goal

abbrev pub invariant-loop-number : goal.invariant-loop-number
invariant-loop-number l = record {
  free : AllFree l.allocator (map (λ b. b.0) (drop l.number-index l.numbers));
  same : takes l.allocator (map (λ b. b.0) (drop l.number-index l.numbers)) ≡ takes l.fn.allocator (map (λ b. b.0) l.numbers);
}

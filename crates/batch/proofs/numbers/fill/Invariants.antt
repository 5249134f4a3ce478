use Rattle.std.proofs.Common.{◌≡◌, ◌+◌, ◌++◌, drop, length}
use Rattle.std.specs.Prelude.{count_by}
use Rattle.batch.specs.Build.{filled, is_fresh}
use Rattle.batch.proofs.numbers.fill.Given as goal

abbrev pub invariant-loop-claim : goal.invariant-loop-claim
invariant-loop-claim l = record {
  got : l.out.items ++ filled (drop l.claim-index l.claims) (drop l.next l.taken) ≡ filled l.claims l.taken;
  left : l.next + count_by is_fresh (drop l.claim-index l.claims) ≡ length l.taken;
}

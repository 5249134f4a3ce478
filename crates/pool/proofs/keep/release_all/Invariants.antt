use Rattle.std.proofs.Common.{◌≡◌, map, drop}
use Rattle.base.specs.Surveys.{dead_block}
use Rattle.steps.specs.Settles.{AllAllocated, releases}
use Rattle.pool.proofs.keep.release_all.Given as goal

-- what is left to release leads to the same states, each of it is Allocated, and the states of the last sync stay
abbrev pub invariant-loop-dead : goal.invariant-loop-dead
invariant-loop-dead l = record {
  left : releases l.group.0 l.numbers.present (map dead_block (drop l.dead-index l.released)) ≡ releases l.group.0 l.initial.numbers.present (map dead_block l.released);
  may : AllAllocated l.group.0 l.numbers.present (map dead_block (drop l.dead-index l.released));
  synced : l.numbers.synced ≡ l.initial.numbers.synced;
}

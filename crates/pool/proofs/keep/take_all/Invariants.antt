use Rattle.std.proofs.Common.{◌≡◌, map, drop}
use Rattle.tree.specs.Taking.{takes, AllFree}
use Rattle.pool.proofs.keep.take_all.Given as goal

-- what is left to take leads to the same states, each of it is Free, and the states of the last sync stay
abbrev pub invariant-loop-number : goal.invariant-loop-number
invariant-loop-number l = record {
  left : takes l.numbers.present (map (λ n. n.0) (drop l.number-index l.taken)) ≡ takes l.initial.numbers.present (map (λ n. n.0) l.taken);
  may : AllFree l.numbers.present (map (λ n. n.0) (drop l.number-index l.taken));
  synced : l.numbers.synced ≡ l.initial.numbers.synced;
}

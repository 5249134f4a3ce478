-- The first leaves are those of the blocks so far.
use Rattle.std.proofs.Common.{◌≡◌, ◌≤◌, length, take}
use Rattle.pool.specs.Ahead.{leaves_in}
use Rattle.pool.proofs.ahead.read_ahead.Given as goal

abbrev pub invariant-loop-at : goal.invariant-loop-at
invariant-loop-at l = record {
  sixteen : length l.leaves ≡ 16;
  few : l.count ≤ l.at;
  leaves : take l.count l.leaves ≡ leaves_in l.at l.blocks;
}

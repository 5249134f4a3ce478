use Rattle.std.proofs.Common.{◌≡◌, ◌+◌, ◌≤◌, length, take, drop}
use Rattle.shared_list.specs.Ahead.{ahead}
use Rattle.shared_list.specs.Elements.{flattened}
use Rattle.shared_list.proofs.place.place_of.Given as goal

abbrev pub invariant-chunk : goal.invariant-chunk
invariant-chunk g l = record {
  can : (goal.iterator-chunk g).can_next l.chunk-iterator;
  finite : (goal.iterator-chunk g).is_finite l.chunk-iterator;
  rest : ahead l.chunk-iterator ≡ drop l.k l.chunks;
  index : l.index ≡ length (flattened (take l.k l.chunks)) + l.at;
  small : l.k + l.at ≤ l.index;
}

-- What is out, and what the places from the index on add, are together what is wanted.
use Rattle.std.proofs.Common.{◌≡◌, ◌≤◌, ◌++◌, length, drop, map}
use Rattle.base.specs.Surveys.{dead_block}
use Rattle.base.specs.Counting.{counted}
use Rattle.node.specs.Shape.{forest_of}
use Rattle.node.specs.Walk.{born_after, part_blocks, forest_blocks}
use Rattle.node.specs.Pairs.{places_in}
use Rattle.node.specs.Node.{inner_part, shared_part}
use Rattle.node.proofs.node.InnerLevel.gather.Given as goal

abbrev pub invariant-loop-place : goal.invariant-loop-place
invariant-loop-place g l = record {
  gathered : map dead_block l.out.items ++ born_after l.cut.0 (forest_blocks (forest_of (shared_part g.C.Level.part) (drop l.place (places_in l.self.kids)))) ≡ map dead_block l.fn.out.items ++ born_after l.cut.0 (part_blocks (inner_part g.C.Level.part l.self));
  metered : counted l.fn.meter (length (born_after l.cut.0 (part_blocks (inner_part g.C.Level.part l.self)))) ≤ counted l.meter (length (born_after l.cut.0 (forest_blocks (forest_of (shared_part g.C.Level.part) (drop l.place (places_in l.self.kids))))));
  never_lower : l.fn.meter ≤ l.meter;
}

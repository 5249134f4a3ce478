use Rattle.std.proofs.Common.{◌≡◌, map, drop, ◌≤◌}
use Rattle.base.specs.Map.{Block}
use Rattle.world.specs.Sets.{Has}
use Rattle.datasets.specs.CloneNames.{name_of}
use Rattle.lookups.specs.Alone.{struck}
use Rattle.lookups.proofs.space.snapshot.remove_all_of_clones.Given as goal

-- what is left once the others are struck out too, and what there was at first
abbrev pub invariant-loop-clone : goal.invariant-loop-clone
invariant-loop-clone l = record {
  so_far : struck l.table l.alone (map name_of (drop l.clone-index l.clones)) ≡ struck l.table l.fn.alone (map name_of l.clones);
  within : (b : Block) → Has l.alone b → Has l.fn.alone b;
  never_lower : l.fn.segments ≤ l.segments;
}

use Rattle.std.proofs.Common.{◌≡◌, ◌/◌, ◌^◌, take}
use Rattle.batch.specs.Way.{way_claims, way_released, IsNumbered}
use Rattle.batch.proofs.way.number_way.Given as goal

abbrev pub invariant-loop-level : goal.invariant-loop-level
invariant-loop-level l = record {
  index : l.index ≡ l.leaf / 16 ^ l.level;
  numbered : IsNumbered (way_claims l.young.0 l.leaf (take l.level l.blocks)) l.allocator l.from l.draft;
  released : l.draft.released.items ≡ way_released l.young.0 (take l.level l.blocks);
}

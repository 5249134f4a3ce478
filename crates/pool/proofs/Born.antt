-- The births of the blocks of a pool.
use Rattle.std.proofs.Common.{ℕ, refl}
use Rattle.base.specs.Map.{block_of}
use Rattle.model.specs.World.{World, Dataset, map_of}
use Rattle.model.specs.State.{State}
use Rattle.world.specs.Worlds.{IsWorld, Place, InNow, InLast, maps_of_both, IsPoolState}
use Rattle.world.proofs.lineage.Dead.{in_line, born_late}
use Rattle.world.proofs.maps.Cells.{in_blocks}
use Rattle.laws.specs.Lineages.{AreBirthsRising, HasBirths}
use Rattle.laws.specs.Runs.{InBoth}
use Rattle.laws.proofs.Lineages.{cell_there}

-- a world in which no block is younger than the one above it has births
world_births : (size : ℕ) (w : World) → IsWorld size w → ((d : Dataset) → AreBirthsRising (map_of w d)) → HasBirths w
world_births size w good rising = record {
  born = λ d k c h.
      let has = in_blocks (map_of w d) k c h in
      (born_late w w.group good.systems.lines d (block_of c) has, (in_line w w.group good.systems.lines refl d (cell_there w d k c h)).open_group (block_of c) has);
  rise = rising;
}

pub have_births : (s : State) → IsPoolState s → ((p : Place) → AreBirthsRising (maps_of_both s.now s.last p)) → InBoth HasBirths s
have_births s good rising = (world_births s.size s.now good.now (λ d. rising (InNow d)), world_births s.size s.last good.last (λ d. rising (InLast d)))

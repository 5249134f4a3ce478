use Rattle.std.proofs.Common.{map, ap, arith}
use Rattle.std.proofs.lemmas.List.{length-map}
use Rattle.std.specs.FinSet.{len}
use Rattle.base.specs.Map.{BlockSet}
use Rattle.base.specs.Surveys.{dead_block}
use Rattle.world.specs.Blocks.{block_order as o}
use Rattle.world.proofs.lists.Lists.{len-from_list}
use Rattle.file_system.proofs.alone.Alone.len.Goals as goal

-- no block stands twice
pub returns : goal.returns
returns c =
    let ds = c.self.inside.blocks.items in
    let count = len-from_list o (map dead_block ds) c.self.invariant in
    let long = length-map ds dead_block in
    let view = ap (λ (s : BlockSet). len s) c.self.view_is in
    omega (arith, c.len.ensures)

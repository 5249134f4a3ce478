-- the blocks below this level are written
use Rattle.std.proofs.Common.{◌≡◌, ◌+◌}
use Rattle.image.specs.ImageBlocks.{block_at}
use Rattle.image.specs.BlockWrites.{images_put}
use Rattle.image.specs.PathWrites.{block_on, path_writes}
use Rattle.image.proofs.image.Image.write_path.Given as goal

abbrev pub invariant-loop-level : goal.invariant-loop-level
invariant-loop-level l = l.self ≡ record l.fn.self { bytes = images_put l.fn.self.bytes (path_writes (block_at l.fn.self.bytes) l.leaf (block_on l.before) (block_on l.after) l.bytes (l.level + 1)) }

-- the blocks so far are written
use Rattle.std.proofs.Common.{◌≡◌, map, take}
use Rattle.image.specs.BlockWrites.{images_put, written_pair}
use Rattle.image.proofs.image.Image.write_all.Given as goal

abbrev pub invariant-loop-block : goal.invariant-loop-block
invariant-loop-block l = l.self ≡ record l.fn.self { bytes = images_put l.fn.self.bytes (map written_pair (take l.block-index l.blocks)) }

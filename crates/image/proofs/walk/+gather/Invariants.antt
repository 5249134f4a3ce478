-- what is out, with what the places from this one on have, is all that is found below the block
use Rattle.image.specs.ImageBlocks.{root_block}
use Rattle.image.specs.Image.{blocks_in}
use Rattle.image.proofs.Gathering.{GoesOn}
use Rattle.image.proofs.walk.+gather.Given as goal

abbrev pub invariant-loop-place : goal.invariant-loop-place
invariant-loop-place l = GoesOn (blocks_in l.count l.written) l.count l.level l.index (root_block l.top) l.fn.out.items l.out.items l.place

abbrev pub decreases-gather : goal.decreases-gather
decreases-gather l = l.level

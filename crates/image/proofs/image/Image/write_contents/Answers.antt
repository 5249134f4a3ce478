use Rattle.std.proofs.Common.{}
use Rattle.image.specs.ImageBlocks.{made_bytes}
use Rattle.image.proofs.image.Image.write_contents.Goals as goal

pub returns : goal.returns
unfolding made_bytes
returns c = c.write.ensures

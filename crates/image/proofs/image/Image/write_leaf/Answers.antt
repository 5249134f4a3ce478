use Rattle.std.proofs.Common.{}
use Rattle.image.proofs.image.Image.write_leaf.Goals as goal

pub returns-in-Some : goal.returns-in-Some
returns-in-Some c = rw (c.in-Some.is) c.write_contents.ensures

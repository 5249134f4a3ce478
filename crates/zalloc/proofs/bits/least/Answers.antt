use Rattle.zalloc.proofs.Words.{lowest_of}
use Rattle.zalloc.proofs.bits.least.Goals as goal

pub returns : goal.returns
returns c = lowest_of c.args.word c.ranges.word.fits c.requires

use Rattle.zalloc.proofs.Words.{either_one}
use Rattle.zalloc.proofs.bits.either.Goals as goal

pub returns : goal.returns
returns c = λ i. either_one c.args.one c.args.other i

use Rattle.node.proofs.Digits.{power}
use Rattle.node.proofs.node.span.Goals as goal

pub returns : goal.returns
returns c = power c.args.depth c.requires

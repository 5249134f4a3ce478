use Rattle.std.proofs.Common.{sym, arith}
use Rattle.image.proofs.Padded.{padded_long}
use Rattle.image.proofs.block_bytes.fill.Goals as goal

pub returns-else-len-size-clause-items : goal.returns-else-len-size-clause-items
returns-else-len-size-clause-items c = sym (padded_long c.args.size c.args.bytes.now.items (omega (arith, c.if-len-size.false, c.len.ensures, c.args.bytes.now.ok.0)))

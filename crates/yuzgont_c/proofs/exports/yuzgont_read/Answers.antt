use Rattle.std.proofs.Common.{rules}
use Rattle.yuzgont_c.proofs.exports.yuzgont_read.Goals as goal

pub returns : goal.returns
returns c = (c.read.result, search rules, c.read.ensures)

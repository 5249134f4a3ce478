use Rattle.std.proofs.Common.{rules}
use Rattle.yuzgont_c.proofs.exports.yuzgont_write.Goals as goal

pub returns : goal.returns
returns c = (c.write.result, search rules, c.write.ensures)

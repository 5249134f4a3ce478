use Rattle.std.proofs.Common.{rules}
use Rattle.yuzgont_c.proofs.exports.yuzgont_get.Goals as goal

pub returns : goal.returns
returns c = (c.get.result, search rules, c.get.ensures)

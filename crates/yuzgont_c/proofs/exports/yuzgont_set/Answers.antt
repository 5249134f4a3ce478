use Rattle.std.proofs.Common.{rules}
use Rattle.yuzgont_c.proofs.exports.yuzgont_set.Goals as goal

pub returns : goal.returns
returns c = (c.set.result, search rules, c.set.ensures)

use Rattle.std.proofs.Common.{rules}
use Rattle.yuzgont_c.proofs.exports.yuzgont_punch.Goals as goal

pub returns : goal.returns
returns c = (c.punch.result, search rules, c.punch.ensures)

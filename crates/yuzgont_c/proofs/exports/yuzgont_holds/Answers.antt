use Rattle.std.proofs.Common.{rules}
use Rattle.yuzgont_c.proofs.exports.yuzgont_holds.Goals as goal

pub returns : goal.returns
returns c = (c.holds.result, search rules, c.holds.ensures)

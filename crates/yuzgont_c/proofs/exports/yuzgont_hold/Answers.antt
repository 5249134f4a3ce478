use Rattle.std.proofs.Common.{rules}
use Rattle.yuzgont_c.proofs.exports.yuzgont_hold.Goals as goal

pub returns : goal.returns
returns c = (c.hold.result, search rules, c.hold.ensures)

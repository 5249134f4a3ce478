use Rattle.std.proofs.Common.{rules}
use Rattle.yuzgont_c.proofs.exports.yuzgont_promote.Goals as goal

pub returns : goal.returns
returns c = (c.promote.result, search rules, c.promote.ensures)

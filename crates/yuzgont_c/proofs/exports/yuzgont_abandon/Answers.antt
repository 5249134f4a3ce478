use Rattle.std.proofs.Common.{rules}
use Rattle.yuzgont_c.proofs.exports.yuzgont_abandon.Goals as goal

pub returns : goal.returns
returns c = (c.abandon.result, search rules, c.abandon.ensures)

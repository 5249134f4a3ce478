use Rattle.std.proofs.Common.{rules}
use Rattle.yuzgont_c.proofs.exports.yuzgont_line.Goals as goal

pub returns : goal.returns
returns c = (c.line.result, search rules, c.line.ensures)

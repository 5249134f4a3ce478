use Rattle.std.proofs.Common.{rules}
use Rattle.yuzgont_c.proofs.exports.yuzgont_rename.Goals as goal

pub returns : goal.returns
returns c = (c.rename.result, search rules, c.rename.ensures)

use Rattle.std.proofs.Common.{rules}
use Rattle.yuzgont_c.proofs.exports.yuzgont_destroy.Goals as goal

pub returns : goal.returns
returns c = (c.destroy.result, search rules, c.destroy.ensures)

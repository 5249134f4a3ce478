use Rattle.std.proofs.Common.{rules}
use Rattle.yuzgont_c.proofs.exports.yuzgont_slice.Goals as goal

pub returns : goal.returns
returns c = (c.slice.result, search rules, c.slice.ensures)

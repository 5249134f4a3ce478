use Rattle.std.proofs.Common.{rules}
use Rattle.yuzgont_c.proofs.exports.yuzgont_list.Goals as goal

pub returns : goal.returns
returns c = (c.list.result, search rules, c.list.ensures)

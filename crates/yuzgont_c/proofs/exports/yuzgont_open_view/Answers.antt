use Rattle.std.proofs.Common.{rules}
use Rattle.yuzgont_c.proofs.exports.yuzgont_open_view.Goals as goal

pub returns : goal.returns
returns c = (c.open_view.result, search rules, c.open_view.ensures)

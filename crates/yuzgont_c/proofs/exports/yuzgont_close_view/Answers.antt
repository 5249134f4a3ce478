use Rattle.std.proofs.Common.{rules}
use Rattle.yuzgont_c.proofs.exports.yuzgont_close_view.Goals as goal

pub returns : goal.returns
returns c = (c.close_view.result, search rules, c.close_view.ensures)

use Rattle.std.proofs.Common.{rules}
use Rattle.yuzgont_c.proofs.exports.yuzgont_forget.Goals as goal

pub returns : goal.returns
returns c = (c.forget.result, search rules, c.forget.ensures)

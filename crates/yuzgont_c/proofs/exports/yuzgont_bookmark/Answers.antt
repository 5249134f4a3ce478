use Rattle.std.proofs.Common.{rules}
use Rattle.yuzgont_c.proofs.exports.yuzgont_bookmark.Goals as goal

pub returns : goal.returns
returns c = (c.bookmark.result, search rules, c.bookmark.ensures)

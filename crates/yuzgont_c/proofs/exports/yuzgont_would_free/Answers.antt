use Rattle.std.proofs.Common.{rules}
use Rattle.yuzgont_c.proofs.exports.yuzgont_would_free.Goals as goal

pub returns : goal.returns
returns c = (c.would_free.result, search rules, c.would_free.ensures)

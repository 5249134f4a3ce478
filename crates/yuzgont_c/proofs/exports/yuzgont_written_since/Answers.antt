use Rattle.std.proofs.Common.{rules}
use Rattle.yuzgont_c.proofs.exports.yuzgont_written_since.Goals as goal

pub returns : goal.returns
returns c = (c.written_since.result, search rules, c.written_since.ensures)

use Rattle.std.proofs.Common.{rules}
use Rattle.yuzgont_c.proofs.exports.yuzgont_snapshot.Goals as goal

pub returns : goal.returns
returns c = (c.snapshot.result, search rules, c.snapshot.ensures)

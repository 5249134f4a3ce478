use Rattle.std.proofs.Common.{rules}
use Rattle.yuzgont_c.proofs.exports.yuzgont_sync.Goals as goal

pub returns : goal.returns
returns c = (c.sync.result, search rules, c.sync.ensures)

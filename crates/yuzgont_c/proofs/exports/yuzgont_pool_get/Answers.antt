use Rattle.std.proofs.Common.{rules}
use Rattle.yuzgont_c.proofs.exports.yuzgont_pool_get.Goals as goal

pub returns : goal.returns
returns c = (c.pool_get.result, search rules, c.pool_get.ensures)

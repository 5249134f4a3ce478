use Rattle.std.proofs.Common.{rules}
use Rattle.yuzgont_c.proofs.exports.yuzgont_rollback.Goals as goal

pub returns : goal.returns
returns c = (c.rollback.result, search rules, c.rollback.ensures)

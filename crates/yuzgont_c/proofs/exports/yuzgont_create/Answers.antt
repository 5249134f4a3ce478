use Rattle.std.proofs.Common.{rules}
use Rattle.yuzgont_c.proofs.exports.yuzgont_create.Goals as goal

pub returns : goal.returns
returns c = (c.create.result, search rules, c.create.ensures)

use Rattle.std.proofs.Common.{rules}
use Rattle.yuzgont_c.proofs.exports.yuzgont_receive.Goals as goal

pub returns : goal.returns
returns c = (c.receive.result, search rules, c.receive.ensures)

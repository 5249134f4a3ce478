use Rattle.std.proofs.Common.{rules}
use Rattle.yuzgont_c.proofs.exports.yuzgont_send.Goals as goal

pub returns : goal.returns
returns c = (c.send.result, search rules, c.send.ensures)

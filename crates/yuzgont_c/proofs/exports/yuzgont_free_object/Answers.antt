use Rattle.std.proofs.Common.{rules}
use Rattle.yuzgont_c.proofs.exports.yuzgont_free_object.Goals as goal

pub returns : goal.returns
returns c = (c.free_object.result, search rules, c.free_object.ensures)

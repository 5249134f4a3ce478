use Rattle.std.proofs.Common.{rules}
use Rattle.yuzgont_c.proofs.exports.yuzgont_release.Goals as goal

pub returns : goal.returns
returns c = (c.release.result, search rules, c.release.ensures)

use Rattle.std.proofs.Common.{rules}
use Rattle.yuzgont_c.proofs.exports.yuzgont_rename_snapshot.Goals as goal

pub returns : goal.returns
returns c = (c.rename_snapshot.result, search rules, c.rename_snapshot.ensures)

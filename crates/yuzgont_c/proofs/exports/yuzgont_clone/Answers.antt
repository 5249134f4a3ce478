use Rattle.std.proofs.Common.{rules}
use Rattle.yuzgont_c.proofs.exports.yuzgont_clone.Goals as goal

pub returns : goal.returns
returns c = (c.clone_snapshot.result, search rules, c.clone_snapshot.ensures)

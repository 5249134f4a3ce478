use Rattle.std.proofs.Common.{rules}
use Rattle.yuzgont_c.proofs.exports.yuzgont_destroy_snapshots.Goals as goal

pub returns : goal.returns
returns c = (c.destroy_snapshots.result, search rules, c.destroy_snapshots.ensures)

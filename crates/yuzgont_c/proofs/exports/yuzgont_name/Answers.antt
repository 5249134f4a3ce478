use Rattle.std.proofs.Common.{rules}
use Rattle.yuzgont_c.proofs.exports.yuzgont_name.Goals as goal

pub returns : goal.returns
returns c = (c.name_piece.result, search rules, c.name_piece.ensures)

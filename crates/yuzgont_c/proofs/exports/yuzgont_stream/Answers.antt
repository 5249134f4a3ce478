use Rattle.std.proofs.Common.{rules}
use Rattle.yuzgont_c.proofs.exports.yuzgont_stream.Goals as goal

pub returns : goal.returns
returns c = (c.stream_piece.result, search rules, c.stream_piece.ensures)

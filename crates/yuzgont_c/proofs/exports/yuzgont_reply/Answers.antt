use Rattle.std.proofs.Common.{rules}
use Rattle.yuzgont_c.proofs.exports.yuzgont_reply.Goals as goal

pub returns : goal.returns
returns c = (c.reply_piece.result, search rules, c.reply_piece.ensures)

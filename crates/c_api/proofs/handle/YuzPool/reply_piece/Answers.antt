use Rattle.std.proofs.Common.{refl, subst}
use Rattle.c_api.specs.declared.answer.Answer.TheVariants.{Done}
use Rattle.c_api.specs.Calls.{RepliesPiece}
use Rattle.c_api.specs.Pieces.{IsPiece}
use Rattle.c_api.specs.declared.host.Host.{Host}
use Rattle.c_api.proofs.Handles.{opened, unopened}
use Rattle.c_api.proofs.handle.YuzPool.reply_piece.Goals as goal

pub returns-in_default : goal.returns-in_default
returns-in_default c = unopened (RepliesPiece c.args.from c.args.buffer.now c.args.buffer.now c.args.count.now) _ _ c.in_default.ensures.taken c.in_default.ensures.left

pub returns : goal.returns
returns c =
    let h = c.in-Some.host.value in
    opened (RepliesPiece c.args.from c.args.buffer.now c.reply_piece.new.buffer c.reply_piece.result) _ _ Done h h c.in-Some.ensures.taken c.put.ensures
    ((refl, refl), subst (λ (x : Host). IsPiece x.reply.items c.args.from c.args.buffer.now c.reply_piece.new.buffer c.reply_piece.result) c.deref.ensures c.reply_piece.ensures)

use Rattle.std.proofs.Common.{refl, subst}
use Rattle.c_api.specs.declared.answer.Answer.TheVariants.{Done}
use Rattle.c_api.specs.Calls.{StreamsPiece}
use Rattle.c_api.specs.Pieces.{IsPiece}
use Rattle.c_api.specs.declared.host.Host.{Host}
use Rattle.c_api.proofs.Handles.{opened, unopened}
use Rattle.c_api.proofs.handle.YuzPool.stream_piece.Goals as goal

pub returns-in_default : goal.returns-in_default
returns-in_default c = unopened (StreamsPiece c.args.from c.args.buffer.now c.args.buffer.now c.args.count.now) _ _ c.in_default.ensures.taken c.in_default.ensures.left

pub returns : goal.returns
returns c =
    let h = c.in-Some.host.value in
    opened (StreamsPiece c.args.from c.args.buffer.now c.stream_piece.new.buffer c.stream_piece.result) _ _ Done h h c.in-Some.ensures.taken c.put.ensures
    ((refl, refl), subst (λ (x : Host). IsPiece x.stream c.args.from c.args.buffer.now c.stream_piece.new.buffer c.stream_piece.result) c.deref.ensures c.stream_piece.ensures)

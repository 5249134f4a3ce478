use Rattle.c_api.specs.Calls.{NamesPiece}
use Rattle.c_api.proofs.Handles.{unopened}
use Rattle.c_api.proofs.handle.YuzPool.name_piece.Goals as goal

pub returns-in_default : goal.returns-in_default
returns-in_default c = unopened (NamesPiece c.args.index c.args.buffer.now c.args.buffer.now c.args.size.now c.args.size.now) _ _ c.in_default.ensures.taken c.in_default.ensures.left

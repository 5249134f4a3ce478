use Rattle.std.proofs.Common.{Some}
use Rattle.model.specs.declared.request.Request.TheVariants.{CloseView}
use Rattle.c_api.specs.Calls.{Does}
use Rattle.c_api.proofs.Handles.{unopened}
use Rattle.c_api.proofs.handle.YuzPool.close_view.Goals as goal

pub returns-in_default : goal.returns-in_default
returns-in_default c = unopened (Does (Some (CloseView c.args.view))) _ _ c.in_default.ensures.taken c.in_default.ensures.left

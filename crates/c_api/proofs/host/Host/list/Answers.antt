use Rattle.std.proofs.Common.{Some, refl}
use Rattle.model.specs.declared.request.Request.TheVariants.{List}
use Rattle.c_api.proofs.host.Host.list.Goals as goal

pub returns : goal.returns
returns c = c.keep_names.ensures (Some List) refl

use Rattle.std.proofs.Common.{refl}
use Rattle.file_system.proofs.file_system.is_born_after.Goals as goal

pub returns : goal.returns
returns c = refl

use Rattle.std.proofs.lemmas.Slice.Eq.{slice_eq-Decides, bytes_eq-Decides}
use Rattle.model.proofs.names.Names.same.Goals as goal

-- src/names.rt:54:5
pub returns : goal.returns
returns c = slice_eq-Decides bytes_eq-Decides c.args.self.now c.args.other.now c.eq.result c.eq.ensures

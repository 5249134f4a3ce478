use Rattle.std.proofs.lemmas.Bool.Decides.{same_from_decides}
use Rattle.tree.specs.Same.{same_maps-Decides}
use Rattle.tree.proofs.same.TreePartialEq.eq.Goals as goal

pub returns : goal.returns
returns c = same_from_decides _ _ c.same.ensures (same_maps-Decides c.args.self.now c.args.other.now)

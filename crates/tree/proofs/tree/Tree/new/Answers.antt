use Rattle.node.proofs.Find.{map_of-empty}
use Rattle.node.proofs.Roots.{sound-none}
use Rattle.tree.proofs.tree.Tree.new.Goals as goal

pub returns : goal.returns
returns c = map_of-empty

pub invariant_of-result : goal.invariant_of-result
invariant_of-result c = sound-none

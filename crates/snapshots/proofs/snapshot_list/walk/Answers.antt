use Rattle.std.proofs.Common.{rules}
use Rattle.std.proofs.lemmas.Iterator.Search.{find_from_yields_List}
use Rattle.std.proofs.lemmas.Iterator.Consumers.{YieldsList-from_first}
use Rattle.base.specs.Names.{same_name}
use Rattle.snapshots.specs.declared.kept.Kept.{Kept}
use Rattle.shared_list.specs.Left.{left}
use Rattle.snapshots.proofs.snapshot_list.walk.Goals as goal

-- the first whose name has these bytes
pub returns : goal.returns
returns c =
    find_from_yields_List (λ (k : Kept). same_name k.snapshot.name c.args.name.now) c.find.new.self _ _ c.find.ensures.ran (YieldsList-from_first (λ x. x.now) left c.args.kept.now c.iter.ensures) (λ x b q k. search rules)

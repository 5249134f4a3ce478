use Rattle.std.proofs.Common.{refl, ap, ◌∙◌}
use Rattle.std.specs.FinMap.{get}
use Rattle.base.specs.Map.{contents}
use Rattle.tree.proofs.Contents.{found-contents, none-contents}
use Rattle.tree.proofs.objset.reading.read.Goals as goal

pub returns-in-Some-read-clause-ok : goal.returns-in-Some-read-clause-ok
returns-in-Some-read-clause-ok c =
    found-contents c.args.tree.now c.in-Some.leaf c.in-Some-read.cell c.in-Some-read.ensures.cell (c.in-Some-read.ensures.bytes refl) ∙ ap (get (contents c.args.tree.now)) c.in-Some.ensures.leaf

pub returns-in-None-clause-ok : goal.returns-in-None-clause-ok
returns-in-None-clause-ok c = none-contents c.args.tree.now c.in-Some.leaf c.in-None.ensures.cell ∙ ap (get (contents c.args.tree.now)) c.in-Some.ensures.leaf

use Rattle.std.proofs.Common.{ap, subst, sym, ◌∙◌, map}
use Rattle.std.proofs.lemmas.Result.{IfOk-weaker}
use Rattle.model.specs.World.{Snap, id_of}
use Rattle.snap.specs.Taking.{all_of}
use Rattle.world.specs.Shapes.{Name}
use Rattle.removals.specs.Found.{found_in, AreThere}
use Rattle.removals.proofs.Destroyed.{found_ids, found_there_all}
use Rattle.removals.proofs.found.find_all.Goals as goal

pub returns-clause-ids : goal.returns-clause-ids
returns-clause-ids c =
    let t = c.args.table.now in
    IfOk-weaker c.found_of.result _ _
    (λ all is. ap (map (λ (p : Name × Snap). id_of p.1)) (is ∙ ap (found_in t) (c.deref.ensures.value ∙ c.in_ok-all.ensures.ok)) ∙ found_ids t (all_of t c.args.names.now c.args.recursive))
    c.found_of.ensures.ok

pub returns-clause-there : goal.returns-clause-there
returns-clause-there c = IfOk-weaker c.found_of.result _ _ (λ all is. subst (AreThere c.args.table.now) (sym is) (found_there_all c.args.table.now c.deref.result.now)) c.found_of.ensures.ok

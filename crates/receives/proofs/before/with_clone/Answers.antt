use Rattle.std.proofs.Common.{sym, subst, ◌∙◌, ap}
use Rattle.std.specs.Prelude.{is_some}
use Rattle.base.specs.Map.{BlockSet}
use Rattle.model.specs.World.{snap_named}
use Rattle.world.specs.Tables.{Datasets, world_of}
use Rattle.world.proofs.lists.Maps.{some_of}
use Rattle.removals.specs.Edits.{HasLost}
use Rattle.datasets.proofs.Kept.{can_add}
use Rattle.receives.proofs.Created.{cloned_is, cloned_by, lost_with_clone}
use Rattle.receives.proofs.before.with_clone.Goals as goal

pub add_clone-requires-clause-there : goal.add_clone-requires-clause-there
add_clone-requires-clause-there c = ap (λ (t : Datasets). is_some (snap_named (world_of t) c.args.origin.now)) c.in_ok-edit.ensures.ok.0 ∙ c.requires.there

pub returns-clause-ok : goal.returns-clause-ok
returns-clause-ok c =
    let t = c.args.table.now in
    let v = some_of (snap_named (world_of t) c.args.origin.now) c.requires.there in
    cloned_by t c.in_ok-edit.edit.to c.add_clone.new.self c.args.name.now c.args.origin.now v.0 v.1 c.in_ok-edit.ensures.ok.0 c.in_ok-add_clone.ensures.ok
    ∙ cloned_is t c.args.name.now c.args.origin.now v.0 v.1

pub returns-clause-lost : goal.returns-clause-lost
returns-clause-lost c =
    let t = c.args.table.now in
    let v = some_of (snap_named (world_of t) c.args.origin.now) c.requires.there in
    let is = cloned_by t c.in_ok-edit.edit.to c.add_clone.new.self c.args.name.now c.args.origin.now v.0 v.1 c.in_ok-edit.ensures.ok.0 c.in_ok-add_clone.ensures.ok in
    subst (λ (p : Datasets × BlockSet). HasLost t c.args.freeing.now p.0 p.1)
    (λ i. (sym is i, sym c.in_ok-edit.ensures.ok.1 i))
    (lost_with_clone t c.facts.ensures.good c.args.name.now (can_add t.file_systems c.args.name.now c.requires.can).absent c.args.origin.now v.0 v.1 c.args.freeing.now c.requires.apart)

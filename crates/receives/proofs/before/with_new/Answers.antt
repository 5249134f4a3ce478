use Rattle.std.proofs.Common.{sym, subst, ◌∙◌, ap}
use Rattle.base.specs.Map.{BlockSet}
use Rattle.model.specs.World.{empty_file_system}
use Rattle.world.specs.Tables.{Datasets, with_system}
use Rattle.removals.specs.Edits.{HasLost}
use Rattle.datasets.proofs.Kept.{can_add}
use Rattle.receives.proofs.Created.{lost_with_new}
use Rattle.receives.proofs.before.with_new.Goals as goal

pub returns-clause-lost : goal.returns-clause-lost
returns-clause-lost c =
    let t = c.args.table.now in
    let name = c.args.name.now in
    subst (λ (p : Datasets × BlockSet). HasLost t c.args.freeing.now p.0 p.1)
    (λ i. (sym (c.in_ok-create.ensures.ok ∙ ap (λ (u : Datasets). with_system u name empty_file_system) c.in_ok-edit.ensures.ok.0) i, sym c.in_ok-edit.ensures.ok.1 i))
    (lost_with_new t name (can_add t.file_systems name c.requires.can).absent c.args.freeing.now c.requires.apart)

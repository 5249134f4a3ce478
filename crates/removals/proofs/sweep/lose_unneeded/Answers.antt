use Rattle.std.proofs.Common.{◌≡◌, sym, ap, subst, ◌∙◌}
use Rattle.std.specs.Prelude.{OnOk, is_some}
use Rattle.datasets.specs.Holders.{snap_in_system}
use Rattle.model.specs.Ids.{snap_id}
use Rattle.world.specs.Tables.{Datasets}
use Rattle.removals.proofs.Losses.{lost_none}
use Rattle.removals.proofs.Swept.{unneeded_there, unneeded_uncloned, unneeded_goes}
use Rattle.removals.proofs.sweep.lose_unneeded.Goals as goal

pub returns-in-None-clause-lost : goal.returns-in-None-clause-lost
returns-in-None-clause-lost c = lost_none c.args.edit.now.to c.args.edit.now.freeing c.requires.apart

pub remove_snapshot-requires-clause-there : goal.remove_snapshot-requires-clause-there
remove_snapshot-requires-clause-there c =
    ap (λ n. is_some (snap_in_system c.args.edit.now.to n (snap_id c.args.id))) (c.deref.ensures ∙ c.in_ok-owner-in-Some.ensures ∙ c.owned_name.ensures)
    ∙ unneeded_there c.args.edit.now.to c.args.views.now.opened (snap_id c.args.id) (c.in-Some.file_system.now.name, c.in-Some._snapshot.now) (sym c.in-Some.ensures)

pub remove_snapshot-requires-clause-no_clone : goal.remove_snapshot-requires-clause-no_clone
remove_snapshot-requires-clause-no_clone c =
    unneeded_uncloned c.args.edit.now.to c.args.views.now.opened (snap_id c.args.id) (c.in-Some.file_system.now.name, c.in-Some._snapshot.now) (sym c.in-Some.ensures)

pub returns-clause-ok : goal.returns-clause-ok
returns-clause-ok c =
    subst (λ (v : Datasets). OnOk c.remove_snapshot.result (c.remove_snapshot.new.self.to ≡ v))
    (unneeded_goes c.args.edit.now.to c.args.views.now.opened (snap_id c.args.id) (c.in-Some.file_system.now.name, c.in-Some._snapshot.now) (sym c.in-Some.ensures))
    c.remove_snapshot.ensures.ok

use Rattle.std.proofs.Common.{sym, ap, ◌∙◌}
use Rattle.std.specs.Prelude.{is_some}
use Rattle.std.specs.Option.{option_map}
use Rattle.datasets.specs.Holders.{snap_in_system}
use Rattle.world.specs.Tables.{without_snap}
use Rattle.removals.specs.Needs.{has_clone}
use Rattle.removals.proofs.Closed.{none_goes, one_goes, goes_there, goes_uncloned}
use Rattle.removals.proofs.Losses.{lost_none, apart_copied, lost_put}
use Rattle.removals.proofs.close.close_view.Goals as goal

pub remove_snapshot-requires : goal.remove_snapshot-requires
remove_snapshot-requires c = record {
  apart = apart_copied c.args.table.now c.in_ok-edit.edit.to c.args.freeing.now c.in_ok-edit.edit.freeing c.in_ok-edit.ensures.ok c.requires.apart;
  there = (λ i. is_some (snap_in_system (c.in_ok-edit.ensures.ok.0 i) (c.name-2.ensures i) (c.id.ensures i)))
      ∙ goes_there c.args.table.now c.facts.ensures.good c.args.views.now.opened c.requires.swept c.args.number (c.in-Some.file_system.now.name, c.in-Some.snapshot.now) (sym c.in-Some.ensures);
  no_clone = (λ i. has_clone (c.in_ok-edit.ensures.ok.0 i) (c.id.ensures i))
      ∙ goes_uncloned c.args.table.now c.facts.ensures.good c.args.views.now.opened c.requires.swept c.args.number (c.in-Some.file_system.now.name, c.in-Some.snapshot.now) (sym c.in-Some.ensures);
}

pub returns-in_default-clause-ok : goal.returns-in_default-clause-ok
returns-in_default-clause-ok c =
    sym (none_goes c.args.table.now c.facts.ensures.good c.args.views.now.opened c.requires.swept c.args.number (sym c.in_default.ensures))

pub returns-in_default-clause-lost : goal.returns-in_default-clause-lost
returns-in_default-clause-lost c = lost_none c.args.table.now c.args.freeing.now c.requires.apart

pub returns-clause-ok : goal.returns-clause-ok
returns-clause-ok c =
    c.put.ensures.to
    ∙ c.in_ok-remove_snapshot.ensures.ok
    ∙ (λ i. without_snap (c.in_ok-edit.ensures.ok.0 i) (c.id.ensures i))
    ∙ one_goes c.args.table.now c.facts.ensures.good c.args.views.now.opened c.requires.swept c.args.number (c.in-Some.file_system.now.name, c.in-Some.snapshot.now) (sym c.in-Some.ensures)

pub returns-clause-lost : goal.returns-clause-lost
returns-clause-lost c =
    lost_put c.args.table.now c.in_ok-edit.edit.to c.remove_snapshot.new.self.to c.put.new.table c.args.freeing.now c.in_ok-edit.edit.freeing c.remove_snapshot.new.self.freeing c.put.new.freeing
    c.in_ok-edit.ensures.ok c.in_ok-remove_snapshot.ensures.lost c.put.ensures.to c.put.ensures.freeing

pub returns-in_default-clause-name : goal.returns-in_default-clause-name
returns-in_default-clause-name c = ap (option_map (λ p. p.0)) c.in_default.ensures

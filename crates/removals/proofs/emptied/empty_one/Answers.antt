use Rattle.std.proofs.Common.{ap, ◌∙◌}
use Rattle.std.proofs.lemmas.Result.{on_ok_weaker}
use Rattle.std.specs.Prelude.{is_some}
use Rattle.std.specs.FinMap.{get}
use Rattle.datasets.specs.Rows.{entry_of, snaps_at}
use Rattle.model.specs.World.{empty_file_system}
use Rattle.world.specs.Tables.{with_system}
use Rattle.removals.proofs.Losses.{lost_then}
use Rattle.removals.proofs.Emptying.{one_there, one_bare, one_emptied}
use Rattle.removals.proofs.emptied.empty_one.Goals as goal

pub vacate-requires-clause-there : goal.vacate-requires-clause-there
vacate-requires-clause-there c =
    ap (λ n. is_some (get c.remove_newer.new.self.to.file_systems n)) c.name.ensures
    ∙ one_there c.args.edit.now.to c.facts.ensures.good (entry_of c.args.file_system.now) c.requires.there c.remove_newer.new.self.to c.in_ok-remove_newer.ensures.ok

pub vacate-requires-clause-bare : goal.vacate-requires-clause-bare
vacate-requires-clause-bare c =
    ap (snaps_at c.remove_newer.new.self.to.file_systems) c.name.ensures
    ∙ one_bare c.args.edit.now.to c.facts.ensures.good (entry_of c.args.file_system.now) c.requires.there c.remove_newer.new.self.to c.in_ok-remove_newer.ensures.ok

pub returns-clause-ok : goal.returns-clause-ok
returns-clause-ok c = on_ok_weaker c.vacate.result
    (λ to. one_emptied c.args.edit.now.to c.facts.ensures.good (entry_of c.args.file_system.now) c.requires.there c.remove_newer.new.self.to c.in_ok-remove_newer.ensures.ok c.vacate.new.edit.to
    (to ∙ ap (λ n. with_system c.remove_newer.new.self.to n empty_file_system) c.name.ensures))
    c.vacate.ensures.ok

pub returns-clause-lost : goal.returns-clause-lost
returns-clause-lost c = on_ok_weaker c.vacate.result
    (λ lost. lost_then c.args.edit.now.to c.remove_newer.new.self.to c.vacate.new.edit.to c.args.edit.now.freeing c.remove_newer.new.self.freeing c.vacate.new.edit.freeing c.in_ok-remove_newer.ensures.lost lost)
    c.vacate.ensures.lost

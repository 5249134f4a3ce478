use Rattle.std.proofs.Common.{sym, ◌∙◌}
use Rattle.model.specs.Ids.{snap_id}
use Rattle.datasets.specs.CloneNames.{name_of}
use Rattle.world.specs.Tables.{world_of}
use Rattle.datasets.proofs.ClonesOf.{counted, none_counted}
use Rattle.datasets.proofs.table.Table.has_clone.Goals as goal

pub returns-clause-clones : goal.returns-clause-clones
returns-clause-clones c = counted name_of c.clones_of.result.now _ c.clones_of.ensures

pub returns-clause-no_clone : goal.returns-clause-no_clone
returns-clause-no_clone c none = none_counted (world_of c.args.self.now) (snap_id c.args.snapshot) (sym (counted name_of c.clones_of.result.now _ c.clones_of.ensures) ∙ none)

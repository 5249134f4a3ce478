use Rattle.std.proofs.Common.{false, ◌∙◌}
use Rattle.std.specs.Arc.{arc_value}
use Rattle.std.specs.Option.{option_map_or}
use Rattle.std.specs.FinMap.{entries}
use Rattle.base.specs.Names.{same_name, parent_of}
use Rattle.file_system.specs.Rows.{Row}
use Rattle.datasets.proofs.Children.{any_child}
use Rattle.datasets.proofs.table.Table.has_child.Goals as goal

pub returns : goal.returns
returns c =
    c.any_child.ensures
    ∙ any_child (arc_value {X = Row}) (λ n. option_map_or (same_name c.args.name.now) (parent_of n) false) c.file_systems.result.now c.args.self.now.file_systems (entries c.args.self.now.file_systems) c.file_systems.ensures

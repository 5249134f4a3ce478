use Rattle.std.proofs.Common.{ap, sym, ◌∙◌, is_some, map, true≢false}
use Rattle.model.specs.World.{empty_file_system}
use Rattle.file_system.specs.Rows.{entry_in}
use Rattle.datasets.proofs.Rows.{get_at}
use Rattle.datasets.proofs.place.gap.Goals as goal

-- a name that isn't there has no place
pub unreachable-requires : goal.unreachable-requires
unreachable-requires c =
    true≢false (ap is_some (sym (get_at (map entry_in c.args.file_systems.now) c.requires.sorted c.args.name.now _ c.in-Ok.ensures.found (c.args.name.now, empty_file_system)) ∙ c.requires.absent))

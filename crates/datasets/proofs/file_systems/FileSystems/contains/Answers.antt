use Rattle.std.proofs.Common.{map}
use Rattle.file_system.specs.Rows.{entry_in}
use Rattle.datasets.proofs.Rows.{found_is}
use Rattle.datasets.proofs.file_systems.FileSystems.contains.Goals as goal

-- a name is there where the search finds it
pub returns : goal.returns
returns c =
    rw (c.is_ok.ensures.value, ← c.self.view_is) (found_is (map entry_in c.self.inside.rows.items) c.self.invariant.sorted c.args.name.now c.place_near.result (rw (← c.deref.ensures.value) c.place_near.ensures.found) (rw (← c.deref.ensures.value) c.place_near.ensures.absent))

use Rattle.std.proofs.Common.{[], ◌∷◌, arith}
use Rattle.model.specs.World.{blocks_of_all}
use Rattle.world.specs.Tables.{world_of}
use Rattle.lookups.proofs.Fitting.{snapshots_fit}
use Rattle.lookups.proofs.values.value_of_live.Goals as goal

pub overflow_cast-used_by_snapshots : goal.overflow_cast-used_by_snapshots
overflow_cast-used_by_snapshots c =
    let f = c.args.file_system.now in
    let l = snapshots_fit (world_of c.args.table.now) f.name f.system c.requires.there (blocks_of_all (f.system.live ∷ f.below ∷ [])) in
    omega (arith, l, c.used_by_snapshots.ensures, c.requires.few)

-- What further requests do to a world (the page of each subcommand), as the model will say it.
use Rattle.std.specs.Prelude.{ℕ, Bool, List}
use Rattle.std.specs.FinMap.{retain_keys}
use Rattle.model.specs.World.{World}
pub use Rattle.model.specs.requests.Snapshot.{snap_of_live, with_snapshot, with_snapshots}
pub use Rattle.model.specs.requests.Rollback.{snaps_upto, snaps_after, back_at, after_rollback}
pub use Rattle.model.specs.requests.Destroy.{without_file_systems, is_one_of}
pub use Rattle.model.specs.requests.Clone.{with_clone}
pub use Rattle.model.specs.requests.Promote.{Promotion, promotion_of, promoted_snaps, demoted, promoted, after_promotion}

-- the file systems of some names alone (zfs-destroy(8), -r)
abbrev pub with_names : World → (List ℕ → Bool) → World
with_names w stays = record w { file_systems = retain_keys w.file_systems stays }

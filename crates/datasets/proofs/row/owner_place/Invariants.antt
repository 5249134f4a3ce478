use Rattle.std.proofs.Common.{◌≡◌, ◌<◌, ℕ, None, Some, map, slice_get}
use Rattle.std.specs.Arc.{arc_value}
use Rattle.std.specs.List.{find}
use Rattle.model.specs.Ids.{snap_id}
use Rattle.model.specs.World.{id_of, same_id}
use Rattle.file_system.specs.Rows.{Row}
use Rattle.datasets.proofs.row.owner_place.Given as goal

-- no row so far has it
abbrev pub invariant-loop-place : goal.invariant-loop-place
invariant-loop-place l =
    (i : ℕ) (r : Row) → i < l.place → slice_get (map arc_value l.rows) i ≡ Some r → find (λ t. same_id (id_of t) (snap_id l.id)) r.system.snaps ≡ None

-- What a request for snapshots asks for, why it is refused, and what it leaves.
use Rattle.std.specs.Prelude.{ℕ, ◌&&◌, ◌||◌, Bool, List, [], ◌∷◌, Option, length, is_some, nat_lt}
use Rattle.std.specs.List.{list_any}
use Rattle.base.specs.declared.refusal.Refusal.{Refusal}
use Rattle.base.specs.declared.refusal.Refusal.TheVariants.{BadName, Exists, TooMany}
use Rattle.base.specs.declared.name.member.Member.{Member}
use Rattle.base.specs.Names.{whole_length}
use Rattle.model.specs.World.{World, snap_named}
use Rattle.model.specs.Targets.{name_limit}
use Rattle.model.specs.Rule.{Row, first_of}
use Rattle.model.specs.requests.Snapshot.{snapshot_names, has_twice, has_no_room_for, taking_row}
use Rattle.world.specs.Tables.{Datasets, world_of}
use Rattle.datasets.specs.Snapshots.{taken_of}

-- what the names of a request stand for in a table (zfs-snapshot(8), -r)
abbrev pub all_of : Datasets → List Member → Bool → List Member
all_of t names recursive = snapshot_names (world_of t) names recursive

-- what refuses snapshots of all these names, whose file systems are there (zfs-snapshot(8); numbers are profile)
abbrev pub naming_row : World → ℕ → List Member → Row
naming_row w next_guid all =
    (list_any (λ m. nat_lt name_limit (whole_length m)) all, BadName)
    ∷ (list_any (λ m. is_some (snap_named w m)) all || has_twice all, Exists)
    ∷ (nat_lt 0 (length all) && has_no_room_for w next_guid (length all), TooMany)
    ∷ []

-- why a request for snapshots of these names is refused, if it is (zfs-snapshot(8); numbers are profile)
abbrev pub refusal_of : Datasets → ℕ → List Member → Bool → Option Refusal
refusal_of t next_guid names recursive = first_of (taking_row (world_of t) next_guid names (all_of t names recursive))

-- the table with snapshots of these names, with guids from this one on, and the same table where there is no name
-- (zfs-snapshot(8); groups and guids are profile)
abbrev pub after_taking : Datasets → ℕ → List Member → Datasets
after_taking t guid [] = t
after_taking t guid (m ∷ ms) = taken_of t guid (m ∷ ms)

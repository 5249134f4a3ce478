-- Snapshot (zfs-snapshot(8)).
use Rattle.std.specs.Prelude.{ℕ, ◌+◌, ◌-◌, ◌*◌, ◌^◌, Bool, true, false, not, ◌&&◌, ◌||◌, List, [], ◌∷◌, ◌++◌, map, length, is_some, nat_lt, if◌then◌else◌}
use Rattle.std.specs.List.{flat_map, list_any}
use Rattle.std.specs.FinMap.{contains_key}
use Rattle.base.specs.declared.refusal.Refusal.TheVariants.{NoDataset, BadName, Exists, TooMany}
use Rattle.base.specs.declared.name.member.Member.{Member}
use Rattle.base.specs.Names.{name_limit, same_name, whole_length}
use Rattle.model.specs.declared.reply.Reply.TheVariants.{Done}
use Rattle.model.specs.World.{World, FileSystem, Snap, snaps_of, snap_named, family_of}
use Rattle.model.specs.State.{State}
use Rattle.model.specs.Targets.{snap_limit, guid_limit, has_no_next_group}
use Rattle.model.specs.Edits.{with_file_system, with_next_group}
use Rattle.model.specs.Rule.{Row, Rule, any_choice}
use Rattle.model.specs.requests.Change.{limit_row}

-- ---- the names

-- what a name stands for: with -r also the descendants of its file system, each with the same component (zfs-snapshot(8), -r)
abbrev pub named_with : World → Bool → Member → List Member
named_with w recursive m =
    if recursive then map (λ name. record { file_system = name; component = m.component }) (family_of w m.file_system) else m ∷ []

-- what a list of names stands for, in its order (zfs-snapshot(8), -r)
abbrev pub snapshot_names : World → List Member → Bool → List Member
snapshot_names w names recursive = flat_map (named_with w recursive) names

-- ---- the state after it

-- a snapshot of a live map, in the open group (zfs-snapshot(8))
abbrev pub snap_of_live : World → FileSystem → List ℕ → ℕ → Snap
snap_of_live w s name guid = record { name = name; map = s.live; guid = guid; group = w.group; tags = []; deferred = false }

-- the live map kept under a name (zfs-snapshot(8))
abbrev pub with_snapshot : World → Member → ℕ → World
with_snapshot w m guid =
    with_file_system w m.file_system (λ s. record s { snaps = s.snaps ++ snap_of_live w s m.component guid ∷ [] })

-- guids in the order of the list (profile)
abbrev pub with_snapshots : World → ℕ → List Member → World
with_snapshots w guid [] = w
with_snapshots w guid (m ∷ ms) = with_snapshots (with_snapshot w m guid) (guid + 1) ms

-- the guid that the pool of this id makes by this counter (profile)
abbrev pub guid_by : ℕ → ℕ → ℕ
guid_by pool counter = pool * 2 ^ 32 + counter

-- the snapshots of a list that isn't empty, and the group closed (zfs-snapshot(8); groups and guids are profile)
abbrev pub snapshots_taken : State → List Member → State
snapshots_taken s [] = s
snapshots_taken s (m ∷ ms) = record s {
  now = with_next_group (with_snapshots s.now (guid_by s.pool s.next_guid) (m ∷ ms));
  next_guid = s.next_guid + length (m ∷ ms);
}

-- ---- its refusals

-- a file system stands twice (zfs-snapshot(8))
abbrev pub has_twice : List Member → Bool
has_twice [] = false
has_twice (m ∷ ms) = list_any (λ n. same_name n.file_system m.file_system) ms || has_twice ms

-- so many snapshots more would be too many, their group couldn't be closed, or the counter has no guids left for them (profile)
abbrev pub has_no_room_for : World → ℕ → ℕ → Bool
has_no_room_for w next_guid count =
    nat_lt snap_limit (length (snaps_of w) + count) || (has_no_next_group w || nat_lt guid_limit (next_guid + count - 1))

-- what refuses snapshots of these names, which stand for all those, whatever the limits (zfs-snapshot(8); numbers are profile)
abbrev pub taking_row : World → ℕ → List Member → List Member → Row
taking_row w next_guid names all =
    (list_any (λ m. not (contains_key w.file_systems m.file_system)) names, NoDataset)
    ∷ (list_any (λ m. nat_lt name_limit (whole_length m)) all, BadName)
    ∷ (list_any (λ m. is_some (snap_named w m)) all || has_twice all, Exists)
    ∷ (nat_lt 0 (length all) && has_no_room_for w next_guid (length all), TooMany)
    ∷ []

-- the limits are asked where there is one name or more (zfsprops(7): quota, refquota, reservation)
abbrev pub snapshot_row : State → State → List Member → List Member → Row
snapshot_row s asked names all =
    taking_row s.now s.next_guid names all ++ (if nat_lt 0 (length all) then limit_row asked else [])

-- zfs-snapshot(8)
abbrev pub snapshot_rule : List Member → Bool → Rule
snapshot_rule names recursive = record {
  row = λ s asked. snapshot_row s asked names (snapshot_names s.now names recursive);
  after = λ s c. snapshots_taken s (snapshot_names s.now names recursive);
  reply = λ s. Done;
  may = any_choice;
  only_reads = false;
  takes_memory = true;
}

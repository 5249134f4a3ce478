-- What a forecast of a change is of, and what it foretells.
use Rattle.std.specs.Prelude.{◌≡◌, ◌+◌, ◌-◌, ◌<◌, ◌^◌, ℕ, Some, unwrap_or}
use Rattle.std.specs.FinMap.{get}
use Rattle.std.specs.FinSet.{len}
use Rattle.base.specs.Rewrite.{Changes}
use Rattle.batch.specs.Forecast.{IsForecast}
use Rattle.batch.specs.declared.forecast.Forecast.{Forecast}
use Rattle.model.specs.World.{World, Live, union_of}
use Rattle.model.specs.State.{State, waiting_of}
use Rattle.model.specs.Edits.{with_now, with_next_group, after_change}
use Rattle.model.specs.Refusals.{fresh_number}
use Rattle.model.specs.Sums.{used_here, referenced_of, written_of}
use Rattle.model.specs.requests.Snapshot.{with_snapshot}
use Rattle.base.specs.declared.name.member.Member.{Member}
use Rattle.world.specs.Worlds.{IsPoolState}
use Rattle.datasets.specs.Rows.{Row}
use Rattle.datasets.specs.Clones.{below_in}
use Rattle.limits.specs.declared.outlook.outlook.Outlook.{Outlook}
use Rattle.limits.specs.declared.outlook.outlook.Tally.{Tally}

-- the row is of a file system of the state, this is a forecast of the change of its live map, and the last sync opened that group (profile)
pub record IsAhead (s : State) (c : Changes) (r : Row) (f : Forecast) (synced : ℕ) : Type 0 where
  pub good : IsPoolState s
  pub there : get s.now.file_systems r.name ≡ Some r.system
  pub below : r.below ≡ below_in s.now.file_systems r.system.origin
  pub forecast : IsForecast r.system.live c f
  pub opened : synced ≡ s.last.group
  pub few : len (union_of s.now) < 2 ^ 32

-- the world that limits are asked of (zfsprops(7): quota, refquota, reservation)
abbrev pub ahead : State → Changes → Row → World
ahead s c r = after_change s.now r.name c (fresh_number s)

-- that world with the live map kept as a snapshot (zfs-receive(8); when limits are asked is profile)
abbrev pub kept_ahead : State → Changes → Row → Member → ℕ → World
kept_ahead s c r m guid = with_next_group (with_snapshot (ahead s c r) m guid)

-- the counts of the file system in that world, and how many blocks more wait then (zfsprops(7): used, referenced; waiting is profile)
pub record IsOutlookOf (s : State) (c : Changes) (r : Row) (o : Outlook) : Type 0 where
  pub here : o.here ≡ used_here (ahead s c r) r.name
  pub referenced : o.referenced ≡ referenced_of (ahead s c r) (Live r.name)
  pub waiting : len (waiting_of s) + o.waiting ≡ len (waiting_of (with_now s (ahead s c r)))

-- the same in the world where the live map is then kept as a snapshot of this name and guid (zfsprops(7): used, referenced; waiting is profile)
pub record IsKeptOutlookOf (s : State) (c : Changes) (r : Row) (m : Member) (guid : ℕ) (o : Outlook) : Type 0 where
  pub here : o.here ≡ used_here (kept_ahead s c r m guid) r.name
  pub referenced : o.referenced ≡ referenced_of (kept_ahead s c r m guid) (Live r.name)
  pub waiting : len (waiting_of s) + o.waiting ≡ len (waiting_of (with_now s (kept_ahead s c r m guid)))

-- What the counts come to is told of: what the file system has of its own but for what it keeps, what it keeps for its live map, and what of
-- that its blocks take up (zfsprops(7): usedbyrefreservation, written)
pub record IsTallyOf (s : State) (c : Changes) (r : Row) (t : Tally) : Type 0 where
  pub here : t.held + (t.kept - t.written) ≡ used_here (ahead s c r) r.name
  pub kept : t.kept ≡ unwrap_or r.system.limits.refreservation 0
  pub written : t.written ≡ written_of (ahead s c r) (Live r.name)
  pub referenced : t.referenced ≡ referenced_of (ahead s c r) (Live r.name)
  pub waiting : len (waiting_of s) + t.waiting ≡ len (waiting_of (with_now s (ahead s c r)))

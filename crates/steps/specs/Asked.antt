-- The states that requests ask limits of: those that they lead to, before the sweep.
use Rattle.std.specs.Prelude.{ℕ, Bool, List, Option, length}
use Rattle.base.specs.Rewrite.{Changes}
use Rattle.base.specs.declared.name.member.Member.{Member}
use Rattle.base.specs.declared.name.target.Target.{Target}
use Rattle.model.specs.declared.limits.Limit.{Limit}
use Rattle.model.specs.State.{State}
use Rattle.model.specs.Edits.{with_now, after_change}
use Rattle.model.specs.Refusals.{fresh_number}
use Rattle.model.specs.requests.Snapshot.{snapshot_names, guid_by}
use Rattle.datasets.specs.Limits.{with_limit_of}
use Rattle.datasets.specs.Snapshots.{taken_of}
use Rattle.datasets.specs.Renames.{with_names}
use Rattle.snap.specs.Requests.{promoted}
use Rattle.removals.specs.Requests.{rolled}
use Rattle.steps.specs.Edits.{datasets_of, put, lose}

-- with the limit set (zfs-set(8))
abbrev pub asked_by_set : State → List ℕ → Limit → Option ℕ → State
asked_by_set s name limit amount = put s (with_limit_of (datasets_of s) name limit amount) 0

-- with the snapshots that the names stand for (zfs-snapshot(8))
abbrev pub asked_by_snapshot : State → List Member → Bool → State
asked_by_snapshot s names recursive =
    put s (taken_of (datasets_of s) (guid_by s.pool s.next_guid) (snapshot_names s.now names recursive)) (length (snapshot_names s.now names recursive))

-- with the clone as the owner of its origin (zfs-promote(8))
abbrev pub asked_by_promote : State → List ℕ → State
asked_by_promote s name = put s (promoted (datasets_of s) name) 0

-- with the file system and all below it under another name (zfs-rename(8))
abbrev pub asked_by_rename : State → List ℕ → List ℕ → State
asked_by_rename s from to = put s (with_names (datasets_of s) from to) 0

-- with the file system back at the snapshot (zfs-rollback(8))
abbrev pub asked_by_rollback : State → Target → State
asked_by_rollback s target = lose s (rolled (datasets_of s) target)

-- with the live map changed, by new blocks whose numbers no block has (profile)
abbrev pub asked_by_change : State → List ℕ → Changes → State
asked_by_change s name ch = with_now s (after_change s.now name ch (fresh_number s))

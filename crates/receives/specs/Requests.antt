-- What a receive begins with, and why it is refused.
use Rattle.std.specs.Prelude.{ℕ, List, Option, map}
use Rattle.base.specs.declared.refusal.Refusal.{Refusal}
use Rattle.base.specs.declared.name.member.Member.{Member}
use Rattle.stream.specs.Spelling.{Sending}
use Rattle.model.specs.declared.receiving.Receiving.{Receiving}
use Rattle.model.specs.State.{Views}
use Rattle.model.specs.World.{FileSystem, Limits, id_of}
use Rattle.model.specs.Edits.{with_file_system}
use Rattle.model.specs.Rule.{first_of}
use Rattle.model.specs.requests.Receive.{before_receive, forced_back, back_past, cloned_from, emptied, going_row, stream_row}
use Rattle.model.specs.requests.Rollback.{snaps_after}
use Rattle.world.specs.Tables.{Datasets, world_of}

-- the datasets that a receive begins with (zfs-receive(8), -F, -o origin)
abbrev pub begun : Datasets → List ℕ → Sending → Receiving → Datasets
begun t name sent mode = record t { file_systems = (before_receive (world_of t) name sent mode).file_systems }

-- the datasets with this file system back at its newest snapshot, and the same where it has none (zfs-receive(8), -F; zfs-rollback(8))
abbrev pub back : Datasets → List ℕ → Datasets
back t name = record t { file_systems = (forced_back (world_of t) name).file_systems }

-- the datasets with this file system rolled back to its newest snapshot with this guid, and the same where it has none (zfs-receive(8), -F;
-- zfs-rollback(8), -r)
abbrev pub past : Datasets → List ℕ → ℕ → Datasets
past t name guid = record t { file_systems = (back_past (world_of t) name guid).file_systems }

-- the datasets with a clone of the snapshot of that name, and the same where there is none (zfs-receive(8), -o origin)
abbrev pub cloned : Datasets → List ℕ → Member → Datasets
cloned t name origin = record t { file_systems = (cloned_from (world_of t) name origin).file_systems }

-- the datasets with this file system emptied of all but its limits, and the same where there is none of that name (zfs-receive(8), -F)
abbrev pub replaced : Datasets → List ℕ → Datasets
replaced t name = record t { file_systems = (emptied (world_of t) name).file_systems }

-- the datasets where this file system has these limits, and the same where there is none of that name (zfsprops(7))
abbrev pub with_limits : Datasets → List ℕ → Limits → Datasets
with_limits t name limits = record t { file_systems = (with_file_system (world_of t) name (λ f. record f { limits = limits })).file_systems }

-- why a receive is refused, if it is, whatever the limits (zfs-receive(8))
abbrev pub receive_refusal : Datasets → Views → Member → Sending → Receiving → Option Refusal
receive_refusal t views m sent mode = first_of (stream_row (world_of t) views m sent mode)

-- why one snapshot can't stand in the place of those that a file system has of a later group, if it can't (zfs-destroy(8); the view and numbers
-- are profile)
abbrev pub going_refusal : Datasets → FileSystem → ℕ → Views → Option Refusal
going_refusal t f group views = first_of (going_row (world_of t) views (map id_of (snaps_after f group)))

-- What the reply to a request reaches of trees and of dead lists.
use Rattle.std.specs.Prelude.{◌≡◌, ◌≤◌, ◌+◌, ◌-◌, ℕ, Bool, true, false}
use Rattle.model.specs.declared.request.Request.{Request}
use Rattle.model.specs.declared.request.Request.TheVariants.{Read, Send, Get, WrittenSince, WouldFree}
use Rattle.model.specs.declared.reply.Reply.{Reply}
use Rattle.model.specs.declared.reply.Reply.TheVariants.{Value}
use Rattle.world.specs.Tables.{Datasets}
use Rattle.lookups.specs.Ranges.{range_reach}
use Rattle.lookups.specs.Since.{HasReachedNamed}
use Rattle.lookups.specs.Named.{reads_lists}

-- the reply may reach a node of a tree: what a block holds, and a stream (profile)
abbrev pub reaches_nodes : Request → Bool
reaches_nodes (Read target object block) = true
reaches_nodes (Send target from) = true
reaches_nodes request = false

-- How far the count of segments rises with a reply. With what a dataset has written since a snapshot, and with what a range of snapshots would
-- free, it rises by no more than the sums over the dead lists between add, each list once. These lists are that of each dataset of the lineage
-- after the snapshot, and that of each snapshot of the range but its first and of what comes after it. Where the first is refused, and of what a
-- snapshot uses, it isn't told. Nothing else reads a dead list (zfsprops(7): used, written, written@snapshot; zfs-destroy(8): -nv; the count is
-- profile)
abbrev pub HasRead : Datasets → Request → Reply → ℕ → ℕ → Type 0
HasRead t (WrittenSince target since) (Value v) old new = HasReachedNamed t target since (new - old)
HasRead t (WrittenSince target since) reply old new = Unit {0}
HasRead t (WouldFree name first last) (Value v) old new = new ≤ old + range_reach t name first last
HasRead t (Get target property) reply old new = reads_lists target property ≡ false → new ≡ old
HasRead t request reply old new = new ≡ old

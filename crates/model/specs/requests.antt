-- Each request by its rule.
use Rattle.std.specs.Prelude.{◌≡◌, ℕ, Option, None, Some}
use Rattle.std.specs.Prelude.{List as ListOf}
use Rattle.stream.specs.Spelling.{Sending, IsStream, IsNoStream}
use Rattle.model.specs.declared.request.Request.{Request}
use Rattle.model.specs.declared.request.Request.TheVariants.{Create as ToCreate, Write as ToWrite, Punch as ToPunch, FreeObject as ToFreeObject, Snapshot as ToSnapshot, Read as ToRead, Get as ToGet, PoolGet as ToPoolGet, List as ToList, Rollback as ToRollback, Destroy as ToDestroy, Slice as ToSlice, Sync as ToSync, Abandon as ToAbandon, OpenView as ToOpenView, CloseView as ToCloseView, Clone as ToClone, Promote as ToPromote, Rename as ToRename, RenameSnapshot as ToRenameSnapshot, Hold as ToHold, Release as ToRelease, Holds as ToHolds, Bookmark as ToBookmark, WrittenSince as ToWrittenSince, WouldFree as ToWouldFree, Set as ToSet, Send as ToSend, Receive as ToReceive}
use Rattle.model.specs.declared.reply.Reply.TheVariants.{Done}
use Rattle.model.specs.State.{State}
use Rattle.model.specs.Rule.{Rule}
use Rattle.model.specs.requests.Create.{create_rule}
use Rattle.model.specs.requests.Write.{write_rule}
use Rattle.model.specs.requests.Punch.{punch_rule}
use Rattle.model.specs.requests.FreeObject.{free_object_rule}
use Rattle.model.specs.requests.Snapshot.{snapshot_rule}
use Rattle.model.specs.requests.Read.{read_rule}
use Rattle.model.specs.requests.Get.{get_rule}
use Rattle.model.specs.requests.PoolGet.{pool_get_rule}
use Rattle.model.specs.requests.List.{list_rule}
use Rattle.model.specs.requests.Rollback.{rollback_rule}
use Rattle.model.specs.requests.Destroy.{destroy_rule}
use Rattle.model.specs.requests.Slice.{slice_rule}
use Rattle.model.specs.requests.Sync.{sync_rule}
use Rattle.model.specs.requests.Abandon.{abandon_rule}
use Rattle.model.specs.requests.OpenView.{open_view_rule}
use Rattle.model.specs.requests.CloseView.{close_view_rule}
use Rattle.model.specs.requests.Clone.{clone_rule}
use Rattle.model.specs.requests.Promote.{promote_rule}
use Rattle.model.specs.requests.Rename.{rename_rule}
use Rattle.model.specs.requests.RenameSnapshot.{rename_snapshot_rule}
use Rattle.model.specs.requests.Hold.{hold_rule}
use Rattle.model.specs.requests.Release.{release_rule}
use Rattle.model.specs.requests.Holds.{holds_rule}
use Rattle.model.specs.requests.Bookmark.{bookmark_rule}
use Rattle.model.specs.requests.WrittenSince.{written_since_rule}
use Rattle.model.specs.requests.Set.{set_rule}
use Rattle.model.specs.requests.WouldFree.{would_free_rule}
use Rattle.model.specs.requests.Send.{send_rule}
use Rattle.model.specs.requests.Receive.{receive_rule}
pub mod Create
pub mod Change
pub mod Write
pub mod Punch
pub mod FreeObject
pub mod Snapshot
pub mod Read
pub mod Get
pub mod PoolGet
pub mod List
pub mod Rollback
pub mod Destroy
pub mod Slice
pub mod Sync
pub mod Abandon
pub mod OpenView
pub mod CloseView
pub mod Clone
pub mod Promote
pub mod Rename
pub mod RenameSnapshot
pub mod Hold
pub mod Release
pub mod Holds
pub mod Bookmark
pub mod Set
pub mod WrittenSince
pub mod WouldFree
pub mod Send
pub mod Receive

-- these bytes are a stream that says this, or no stream (zfs-receive(8))
abbrev pub IsReadingOfBytes : ListOf ℕ → Option Sending → Type 0
IsReadingOfBytes bytes (Some sent) = IsStream bytes sent
IsReadingOfBytes bytes None = IsNoStream bytes

-- what the bytes of a request say; only a receive has any (zfs-receive(8))
abbrev pub IsReadingOf : Request → Option Sending → Type 0
IsReadingOf (ToReceive snapshot bytes mode) reading = IsReadingOfBytes bytes reading
IsReadingOf request reading = reading ≡ None

-- the rule of a request whose bytes say this (the page of each subcommand)
abbrev pub rule_of : Request → Option Sending → Rule
rule_of (ToCreate name) reading = create_rule name
rule_of (ToWrite target object block bytes) reading = write_rule target object block bytes
rule_of (ToPunch target object block) reading = punch_rule target object block
rule_of (ToFreeObject target object) reading = free_object_rule target object
rule_of (ToSnapshot names recursive) reading = snapshot_rule names recursive
rule_of (ToRead target object block) reading = read_rule target object block
rule_of (ToGet target property) reading = get_rule target property
rule_of (ToPoolGet property) reading = pool_get_rule property
rule_of ToList reading = list_rule
rule_of (ToRollback target later) reading = rollback_rule target later
rule_of (ToDestroy target recursive defer) reading = destroy_rule target recursive defer
rule_of (ToSlice count) reading = slice_rule count
rule_of ToSync reading = sync_rule
rule_of ToAbandon reading = abandon_rule
rule_of (ToOpenView target) reading = open_view_rule target
rule_of (ToCloseView view) reading = close_view_rule view
rule_of (ToClone target name) reading = clone_rule target name
rule_of (ToPromote name) reading = promote_rule name
rule_of (ToRename name to) reading = rename_rule name to
rule_of (ToRenameSnapshot snapshot to recursive) reading = rename_snapshot_rule snapshot to recursive
rule_of (ToHold tag target) reading = hold_rule tag target
rule_of (ToRelease tag target) reading = release_rule tag target
rule_of (ToHolds target) reading = holds_rule target
rule_of (ToBookmark target mark) reading = bookmark_rule target mark
rule_of (ToWrittenSince target since) reading = written_since_rule target since
rule_of (ToWouldFree name first last) reading = would_free_rule name first last
rule_of (ToSet name limit amount) reading = set_rule name limit amount
rule_of (ToSend target from) reading = send_rule target from
rule_of (ToReceive snapshot bytes mode) reading = receive_rule snapshot reading mode

-- where it isn't refused, the reply is Done (profile)
abbrev pub AnswersDone : Request → Type 0
AnswersDone request = (reading : Option Sending) (s : State) → (rule_of request reading).reply s ≡ Done

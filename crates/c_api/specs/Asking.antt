-- The requests of calls without text.
use Rattle.std.specs.Prelude.{ℕ, Bool, List, [], ◌∷◌, Option, None, Some, slice_get}
use Rattle.std.specs.Option.{option_map, option_and_then}
use Rattle.base.specs.Reading.{name_of, component_of, tag_of, snap_of, mark_of, target_of}
use Rattle.model.specs.declared.destroy_target.DestroyTarget.TheVariants.{Snapshots as SnapshotsGo}
use Rattle.model.specs.declared.limits.Limit.{Limit}
use Rattle.model.specs.declared.receiving.Receiving.{Receiving}
use Rattle.model.specs.declared.receiving.Receiving.TheVariants.{Plain, Back, Past, Origin, Replace}
use Rattle.model.specs.declared.request.Property.{Property}
use Rattle.model.specs.declared.request.PoolProperty.{PoolProperty}
use Rattle.model.specs.declared.request.Request.{Request}
use Rattle.model.specs.declared.request.Request.TheVariants.{Create, Write, Punch, FreeObject, Read, Get, Snapshot, Rollback, Destroy, Clone, Promote, Rename, RenameSnapshot, OpenView, Hold, Release, Holds, Bookmark, WrittenSince, WouldFree, Set, Send, Receive}
use Rattle.model.specs.requests.Destroy.{destroy_target_of}
use Rattle.script.specs.Meaning.{snap_names_of}
use Rattle.script.specs.Words.{words_of}
use Rattle.c_api.specs.declared.asking.TheConstants.{PROPERTIES, OF_POOL, LIMITS}

-- a write of a block, where the bytes are a name (profile)
abbrev pub asked_write : List ℕ → ℕ → ℕ → List ℕ → Option Request
asked_write name object block bytes = option_map (λ target. Write target object block bytes) (target_of name)

-- a request at a block (profile)
abbrev pub asked_punch : List ℕ → ℕ → ℕ → Option Request
asked_punch name object block = option_map (λ target. Punch target object block) (target_of name)

abbrev pub asked_read : List ℕ → ℕ → ℕ → Option Request
asked_read name object block = option_map (λ target. Read target object block) (target_of name)

-- a snapshot, of its file system alone or of all below it too (zfs-snapshot(8), -r)
abbrev pub asked_snapshot : List ℕ → Bool → Option Request
asked_snapshot name recursive = option_map (λ snapshot. Snapshot (snapshot ∷ []) recursive) (snap_of name)

-- a new file system (zfs-create(8))
abbrev pub asked_create : List ℕ → Option Request
asked_create name = option_map Create (name_of name)

-- an object whose blocks all become holes (profile)
abbrev pub asked_free_object : List ℕ → ℕ → Option Request
asked_free_object name object = option_map (λ target. FreeObject target object) (target_of name)

-- a rollback to a snapshot (zfs-rollback(8), -r)
abbrev pub asked_rollback : List ℕ → Bool → Option Request
asked_rollback name later = option_map (λ target. Rollback target later) (target_of name)

-- a destroy of a file system, a snapshot or a bookmark (zfs-destroy(8), -r and -d)
abbrev pub asked_destroy : List ℕ → Bool → Bool → Option Request
asked_destroy name recursive defer = option_map (λ target. Destroy (destroy_target_of target) recursive defer) (target_of name)

-- a destroy of snapshots, all or none: their names, with a space between two (zfs-destroy(8), filesystem@snap,snap)
abbrev pub asked_destroy_snapshots : List ℕ → Bool → Bool → Option Request
asked_destroy_snapshots names recursive defer = option_map (λ all. Destroy (SnapshotsGo all) recursive defer) (snap_names_of (words_of names))

-- a clone of a snapshot (zfs-clone(8))
abbrev pub asked_clone : List ℕ → List ℕ → Option Request
asked_clone snapshot name = option_and_then (λ target. option_map (λ n. Clone target n) (name_of name)) (target_of snapshot)

-- a promote of a clone (zfs-promote(8))
abbrev pub asked_promote : List ℕ → Option Request
asked_promote name = option_map Promote (name_of name)

-- a rename of a file system, and with it of all below it (zfs-rename(8), without -p and -u)
abbrev pub asked_rename : List ℕ → List ℕ → Option Request
asked_rename name to = option_and_then (λ n. option_map (λ t. Rename n t) (name_of to)) (name_of name)

-- a rename of a snapshot, and with -r of those of its name in all file systems below (zfs-rename(8), -r)
abbrev pub asked_rename_snapshot : List ℕ → List ℕ → Bool → Option Request
asked_rename_snapshot name to recursive = option_and_then (λ m. option_map (λ t. RenameSnapshot m t recursive) (component_of to)) (snap_of name)

-- a tag that a snapshot gets or loses (zfs-hold(8), zfs-release(8))
abbrev pub asked_hold : List ℕ → List ℕ → Option Request
asked_hold tag name = option_and_then (λ t. option_map (λ target. Hold t target) (target_of name)) (tag_of tag)

abbrev pub asked_release : List ℕ → List ℕ → Option Request
asked_release tag name = option_and_then (λ t. option_map (λ target. Release t target) (target_of name)) (tag_of tag)

-- the tags of a snapshot (zfs-holds(8))
abbrev pub asked_holds : List ℕ → Option Request
asked_holds name = option_map Holds (target_of name)

-- a bookmark of a snapshot (zfs-bookmark(8))
abbrev pub asked_bookmark : List ℕ → List ℕ → Option Request
asked_bookmark snapshot mark = option_and_then (λ target. option_map (λ m. Bookmark target m) (mark_of mark)) (target_of snapshot)

-- what was written since a snapshot (zfsprops(7), written@snapshot)
abbrev pub asked_written_since : List ℕ → List ℕ → Option Request
asked_written_since name since = option_and_then (λ target. option_map (λ s. WrittenSince target s) (snap_of since)) (target_of name)

-- what a file system's snapshots from one to another keep alone (zfs-destroy(8), -nv)
abbrev pub asked_would_free : List ℕ → List ℕ → List ℕ → Option Request
asked_would_free name first last =
    option_and_then (λ n. option_and_then (λ f. option_map (λ l. WouldFree n f l) (component_of last)) (component_of first)) (name_of name)

-- a limit of a file system, set to an amount or let go (zfs-set(8))
abbrev pub asked_set : List ℕ → Limit → Option ℕ → Option Request
asked_set name limit amount = option_map (λ n. Set n limit amount) (name_of name)

-- a view of a snapshot (profile)
abbrev pub asked_open_view : List ℕ → Option Request
asked_open_view name = option_map OpenView (target_of name)

-- a property (zfs-get(8))
abbrev pub asked_get : List ℕ → Property → Option Request
asked_get name property = option_map (λ target. Get target property) (target_of name)

-- a full send, where no source is named, or one from a source (zfs-send(8), -i)
abbrev pub asked_send_from : List ℕ → List ℕ → Option Request
asked_send_from name [] = option_map (λ target. Send target None) (target_of name)
asked_send_from name (b ∷ bs) = option_and_then (λ source. option_map (λ target. Send target (Some source)) (target_of name)) (target_of (b ∷ bs))

-- the mode of a receive of a number, if there is one; that of a clone has its origin's name, if it is one (zfs-receive(8); numbers are profile)
abbrev pub mode_at : ℕ → List ℕ → Option (Option Receiving)
mode_at number origin = slice_get (Some Plain ∷ Some Back ∷ Some Past ∷ option_map Origin (snap_of origin) ∷ Some Replace ∷ []) number

-- a receive in a mode (zfs-receive(8))
abbrev pub asked_receive : List ℕ → List ℕ → Option Receiving → Option Request
asked_receive name bytes mode = option_and_then (λ m. option_map (λ snapshot. Receive snapshot bytes m) (snap_of name)) mode

-- the property of a number, if there is one (profile)
abbrev pub property_at : ℕ → Option Property
property_at number = slice_get PROPERTIES number

-- the property of a pool of a number, if there is one (profile)
abbrev pub pool_property_at : ℕ → Option PoolProperty
pool_property_at number = slice_get OF_POOL number

-- the limit of a number, if there is one (profile)
abbrev pub limit_at : ℕ → Option Limit
limit_at number = slice_get LIMITS number

-- Receive (zfs-receive(8)).
use Rattle.std.specs.Prelude.{ℕ, ◌+◌, Bool, true, false, not, ◌==◌, ◌&&◌, ◌||◌, List, [], ◌∷◌, ◌++◌, Option, None, map, length, nat_lt, nat_le, is_some, if◌then◌else◌}
use Rattle.std.specs.List.{filter, last_or}
use Rattle.std.specs.Option.{option_map, option_map_or, option_and_then}
use Rattle.std.specs.FinMap.{contains_key, entries, from_entries, len}
use Rattle.std.specs.Cmp.Lexicographic.{pointwise}
use Rattle.base.specs.declared.number.Key.{Key}
use Rattle.base.specs.declared.refusal.Refusal.TheVariants.{NoDataset, Exists, NoParent, Busy, HasClones, Deferred, TooMany, BadStream, WrongSource, Modified}
use Rattle.base.specs.Map.{Map, Cell}
use Rattle.base.specs.declared.name.member.Member.{Member}
use Rattle.stream.specs.Records.{changes_of}
use Rattle.stream.specs.Spelling.{Sending}
use Rattle.model.specs.declared.receiving.Receiving.{Receiving}
use Rattle.model.specs.declared.receiving.Receiving.TheVariants.{Plain, Back, Past, Origin, Replace}
use Rattle.model.specs.declared.reply.Reply.TheVariants.{Done}
use Rattle.model.specs.State.{State, Views}
use Rattle.model.specs.World.{World, FileSystem, Snap, SnapId, id_of, empty_file_system, file_system_at, snap_named, snaps_of}
use Rattle.model.specs.Hierarchy.{file_system_limit, has_parent}
use Rattle.model.specs.Targets.{snap_limit, has_no_next_group}
use Rattle.model.specs.Edits.{with_now, with_file_system, with_losses, with_next_group, after_change}
use Rattle.model.specs.Rule.{Row, Rule, any_choice}
use Rattle.model.specs.requests.Change.{limit_row}
use Rattle.model.specs.requests.Clone.{with_clone}
use Rattle.model.specs.requests.Create.{with_new_file_system}
use Rattle.model.specs.requests.Destroy.{snaps_within}
use Rattle.model.specs.requests.Rollback.{snaps_after, back_at, is_busy, has_clone_outside}
use Rattle.model.specs.requests.Snapshot.{with_snapshot}

-- the newest snapshot of the file system of this name, none where there is none (zfs-receive(8))
abbrev pub newest_of : World → List ℕ → Option Snap
newest_of w name = option_and_then (λ f. last_or None f.snaps) (file_system_at w name)

-- the newest of its snapshots with this guid, with the file system, none where there is none (zfs-receive(8), -F; that it is the newest is
-- profile)
abbrev pub source_of : World → List ℕ → ℕ → Option (FileSystem × Snap)
source_of w name guid = option_and_then (λ f. option_map (λ t. (f, t)) (last_or None (filter (λ t. t.guid == guid) f.snaps))) (file_system_at w name)

-- ---- the state after it

-- a file system back at its newest snapshot: newer bookmarks go (zfs-receive(8), -F; zfs-rollback(8))
abbrev pub back_to_newest : Snap → FileSystem → FileSystem
back_to_newest t f = record f { live = t.map; bookmarks = from_entries (filter (λ m. nat_le m.1.group t.group) (entries f.bookmarks)) }

-- the world with that file system back there, what it loses to be freed (zfs-receive(8), -F; zfs-rollback(8))
abbrev pub forced_back : World → List ℕ → World
forced_back w name = option_map_or (λ t. with_losses w (with_file_system w name (back_to_newest t))) (newest_of w name) w

-- the world with that file system back at its snapshot with this guid, what it loses to be freed (zfs-receive(8), -F; zfs-rollback(8), -r)
abbrev pub back_past : World → List ℕ → ℕ → World
back_past w name guid = option_map_or (λ p. with_losses w (with_file_system w name (λ f. back_at f p.1))) (source_of w name guid) w

-- one file system more, a clone of the snapshot of that name (zfs-receive(8), -o origin; zfs-clone(8))
abbrev pub cloned_from : World → List ℕ → Member → World
cloned_from w name origin = option_map_or (λ t. with_clone w (id_of t) name) (snap_named w origin) w

-- a file system with its limits alone (zfs-receive(8), -F; that the limits stay and the bookmarks go is profile)
abbrev pub vacated : FileSystem → FileSystem
vacated f = record empty_file_system { limits = f.limits }

-- the world with that file system so, what it loses to be freed (zfs-receive(8), -F; zpool-features(7): async_destroy)
abbrev pub emptied : World → List ℕ → World
emptied w name = with_losses w (with_file_system w name vacated)

-- what a receive of a full stream begins with: a new file system, or an emptied one that was there (zfs-receive(8), -F)
abbrev pub before_full : World → List ℕ → Receiving → World
before_full w name Replace = emptied w name
before_full w name mode = with_new_file_system w name

-- what one from a source begins with: the file system that is there, perhaps gone back, or a new clone (zfs-receive(8), -F, -o origin)
abbrev pub before_incremental : World → List ℕ → ℕ → Receiving → World
before_incremental w name source Back = forced_back w name
before_incremental w name source Past = back_past w name source
before_incremental w name source (Origin origin) = cloned_from w name origin
before_incremental w name source mode = w

-- what a receive begins with (zfs-receive(8))
abbrev pub before_receive : World → List ℕ → Sending → Receiving → World
before_receive w name sent mode = if sent.source == 0 then before_full w name mode else before_incremental w name sent.source mode

-- the records as one change of the live map, and then the snapshot, which keeps the sender's guid (zfs-receive(8); that it does, and groups,
-- are profile)
unfoldable pub received : World → Member → Sending → Receiving → (Key → ℕ) → World
received w m sent mode number =
    with_next_group (with_snapshot (after_change (before_receive w m.file_system sent mode) m.file_system (changes_of sent.records) number) m sent.target)

-- ---- its refusals

-- the test of two cells (profile)
abbrev pub same_cell : Cell → Cell → Bool
same_cell a b = a.number == b.number && (a.birth == b.birth && pointwise ◌==◌ a.bytes b.bytes)

-- the test of two keys with their cells (profile)
abbrev pub same_entry : Key × Cell → Key × Cell → Bool
same_entry a b = a.0.level == b.0.level && (a.0.index == b.0.index && same_cell a.1 b.1)

-- the same keys with the same cells (profile)
abbrev pub same_map : Map → Map → Bool
same_map m n = pointwise same_entry (entries m) (entries n)

-- the live map isn't the newest snapshot's (zfs-receive(8))
abbrev pub is_modified : World → List ℕ → Bool
is_modified w name = option_map_or (λ f. option_map_or (λ t. not (same_map f.live t.map)) (last_or None f.snaps) true) (file_system_at w name) true

-- once so many snapshots are gone one more would be too many, or its group couldn't be closed (profile)
abbrev pub has_no_room : World → ℕ → Bool
has_no_room w going = nat_lt (snap_limit + going) (length (snaps_of w) + 1) || has_no_next_group w

-- these snapshots can't go, or there is no room for one in their place (zfs-destroy(8); the view and numbers are profile)
abbrev pub going_row : World → Views → List SnapId → Row
going_row w views going = (is_busy w views going, Busy) ∷ (has_clone_outside w [] going, HasClones) ∷ (has_no_room w (length going), TooMany) ∷ []

-- what refuses a new file system with a snapshot (zfs-receive(8); numbers are profile)
abbrev pub new_row : World → List ℕ → Row
new_row w name =
    (contains_key w.file_systems name, Exists)
    ∷ (not (has_parent w.file_systems name), NoParent)
    ∷ (nat_le file_system_limit (len w.file_systems) || has_no_room w 0, TooMany)
    ∷ []

-- what refuses a full stream in the place of a file system, which must be there and no clone (zfs-receive(8), -F; the order is profile)
abbrev pub replace_row : World → Views → List ℕ → Row
replace_row w views name =
    (not (contains_key w.file_systems name), NoDataset)
    ∷ (is_some (option_and_then (λ f. f.origin) (file_system_at w name)), Exists)
    ∷ going_row w views (snaps_within w (name ∷ []))

-- what refuses a stream from a source, which must be the newest snapshot; the live map mustn't have left it, or may by force (zfs-receive(8),
-- -F; the order and numbers are profile)
abbrev pub newest_row : World → Member → ℕ → Bool → Row
newest_row w m source force =
    (not (contains_key w.file_systems m.file_system), NoDataset)
    ∷ (is_some (snap_named w m), Exists)
    ∷ (not (option_map_or (λ t. t.guid == source) (newest_of w m.file_system) false), WrongSource)
    ∷ (not force && is_modified w m.file_system, Modified)
    ∷ (has_no_room w 0, TooMany)
    ∷ []

-- the snapshots that go where a file system goes back to the one with this guid (zfs-receive(8), -F; zfs-rollback(8), -r)
abbrev pub snaps_past : World → List ℕ → ℕ → List SnapId
snaps_past w name guid = option_map_or (λ p. map id_of (snaps_after p.0 p.1.group)) (source_of w name guid) []

-- the snapshot of this name is there, and stays then (zfs-rollback(8), -r)
abbrev pub stays_past : World → Member → ℕ → Bool
stays_past w m guid = option_map_or (λ p. option_map_or (λ t. nat_le t.group p.1.group) (snap_named w m) false) (source_of w m.file_system guid) false

-- what refuses a stream from a source past newer snapshots (zfs-receive(8), -F; zfs-rollback(8), -r; the order is profile)
abbrev pub past_row : World → Views → Member → ℕ → Row
past_row w views m source =
    (not (contains_key w.file_systems m.file_system), NoDataset)
    ∷ (not (is_some (source_of w m.file_system source)), WrongSource)
    ∷ (stays_past w m source, Exists)
    ∷ going_row w views (snaps_past w m.file_system source)

-- what refuses a stream from an origin, which must be there, stay and be the source (zfs-receive(8), -o origin; zfs-clone(8); the order is
-- profile)
abbrev pub origin_row : World → List ℕ → Member → ℕ → Row
origin_row w name origin source =
    (not (is_some (snap_named w origin)), NoDataset)
    ∷ (option_map_or (λ t. t.deferred) (snap_named w origin) false, Deferred)
    ∷ (not (option_map_or (λ t. t.guid == source) (snap_named w origin) false), WrongSource)
    ∷ new_row w name

-- what refuses a full stream, whatever the limits; it has no origin (zfs-receive(8); that it needs a source there is profile)
abbrev pub full_row : World → Views → Member → Receiving → Row
full_row w views m Replace = replace_row w views m.file_system
full_row w views m (Origin origin) = (true, BadStream) ∷ []
full_row w views m mode = new_row w m.file_system

-- what refuses one from a source, whatever the limits; it replaces no file system (zfs-receive(8))
abbrev pub incremental_row : World → Views → Member → ℕ → Receiving → Row
incremental_row w views m source Plain = newest_row w m source false
incremental_row w views m source Back = newest_row w m source true
incremental_row w views m source Past = past_row w views m source
incremental_row w views m source (Origin origin) = origin_row w m.file_system origin source
incremental_row w views m source Replace = (true, BadStream) ∷ []

-- what refuses a stream, whatever the limits (zfs-receive(8))
abbrev pub stream_row : World → Views → Member → Sending → Receiving → Row
stream_row w views m sent mode = if sent.source == 0 then full_row w views m mode else incremental_row w views m sent.source mode

-- bytes that are no stream come first, and the limits last (zfs-receive(8); zfsprops(7): quota, refquota, reservation; the order is profile)
abbrev pub receive_row : State → State → Member → Option Sending → Receiving → Row
receive_row s asked m reading mode =
    (not (is_some reading), BadStream) ∷ (option_map_or (λ sent. stream_row s.now s.views m sent mode) reading [] ++ limit_row asked)

-- ---- its rule

-- the present world after a receive of what the bytes say (zfs-receive(8))
abbrev pub state_received : State → Member → Option Sending → Receiving → (Key → ℕ) → State
state_received s m reading mode number = option_map_or (λ sent. with_now s (received s.now m sent mode number)) reading s

-- zfs-receive(8)
abbrev pub receive_rule : Member → Option Sending → Receiving → Rule
receive_rule m reading mode = record {
  row = λ s asked. receive_row s asked m reading mode;
  after = λ s c. state_received s m reading mode c.number;
  reply = λ s. Done;
  may = any_choice;
  only_reads = false;
  takes_memory = true;
}

-- What a line asks for.
use Rattle.std.specs.Prelude.{ℕ, ◌==◌, ◌&&◌, nat_lt, Bool, false, List, [], ◌∷◌, Option, Some, None, length, if◌then◌else◌, codes}
use Rattle.std.specs.List.{list_all, list_any}
use Rattle.std.specs.Option.{option_map, option_and_then}
use Rattle.std.specs.Str.{bytes_eq}
use Rattle.base.specs.declared.refusal.Refusal.{Refusal}
use Rattle.base.specs.declared.refusal.Refusal.TheVariants.{BadName, BadLine}
use Rattle.base.specs.declared.name.member.Member.{Member}
use Rattle.base.specs.declared.name.target.Target.{Target}
use Rattle.base.specs.Reading.{name_of, snap_of, mark_of, tag_of, target_of}
use Rattle.model.specs.declared.receiving.Receiving.TheVariants.{Plain, Back}
use Rattle.model.specs.declared.request.Request.{Request}
use Rattle.model.specs.declared.request.Request.TheVariants.{Create, Write, Punch, FreeObject, Snapshot, Read, Get, PoolGet, List as ListNames, Rollback, Destroy, Slice, Sync, Abandon, OpenView, CloseView, Clone, Promote, Hold, Release, Holds, Bookmark, WrittenSince, WouldFree, Set, Send, Receive}
use Rattle.model.specs.requests.Destroy.{destroy_target_of}
use Rattle.script.specs.Lines.{line_limit}
use Rattle.script.specs.Words.{is_printable, words_of, is_word, number_of_word, block_of_word, bytes_of_word, property_of_word, pool_property_of_word, at_equals, limit_of_word, amount_of_word, since_word, file_system_of, word_within, snap_within}

-- a line asks for nothing and has no reply, is at fault and is refused so, or asks a request (profile)
pub data Meaning : Type 0 where
  Silent : Meaning
  Faulty : Refusal → Meaning
  Asks : Request → Meaning

-- the rest, where a word has its form; else BadLine (profile)
abbrev pub shaped : {X : Type 0} → Option X → (X → Meaning) → Meaning
shaped None rest = Faulty BadLine
shaped (Some x) rest = rest x

-- the rest, where a name has its form; else BadName (profile)
abbrev pub named : {X : Type 0} → Option X → (X → Meaning) → Meaning
named None rest = Faulty BadName
named (Some x) rest = rest x

-- the operands, where there are so many of them (profile)
abbrev pub one_of : List (List ℕ) → Option (List ℕ)
one_of (a ∷ []) = Some a
one_of _ = None

abbrev pub two_of : List (List ℕ) → Option (List ℕ × List ℕ)
two_of (a ∷ b ∷ []) = Some (a, b)
two_of _ = None

abbrev pub three_of : List (List ℕ) → Option (List ℕ × List ℕ × List ℕ)
three_of (a ∷ b ∷ c ∷ []) = Some (a, b, c)
three_of _ = None

abbrev pub four_of : List (List ℕ) → Option (List ℕ × List ℕ × List ℕ × List ℕ)
four_of (a ∷ b ∷ c ∷ d ∷ []) = Some (a, b, c, d)
four_of _ = None

-- whether an option stands before the operands, or what is left of them (profile)
abbrev pub has_option : List ℕ → List (List ℕ) → Bool
has_option option [] = false
has_option option (w ∷ ws) = bytes_eq w option

-- the words without an option that may stand before them (profile)
abbrev pub after_option : List ℕ → List (List ℕ) → List (List ℕ)
after_option option [] = []
after_option option (w ∷ ws) = if bytes_eq w option then ws else w ∷ ws

-- `NAME`: a request of one file system (profile)
unfoldable pub name_request_of : (List ℕ → Request) → List (List ℕ) → Meaning
name_request_of request operands = shaped (one_of operands) (λ w. named (name_of w) (λ name. Asks (request name)))

-- `clone TARGET NAME` (zfs-clone(8))
unfoldable pub clone_of : List (List ℕ) → Meaning
clone_of operands = shaped (two_of operands) (λ w. named (target_of w.0) (λ target. named (name_of w.1) (λ name. Asks (Clone target name))))

-- `TAG TARGET`: a request of a tag (zfs-hold(8))
unfoldable pub tag_request_of : (List ℕ → Target → Request) → List (List ℕ) → Meaning
tag_request_of request operands =
    shaped (two_of operands) (λ w. named (tag_of w.0) (λ tag. named (target_of w.1) (λ target. Asks (request tag target))))

-- `bookmark TARGET MARK` (zfs-bookmark(8))
unfoldable pub bookmark_of : List (List ℕ) → Meaning
bookmark_of operands =
    shaped (two_of operands) (λ w. named (target_of w.0) (λ target. named (mark_of w.1) (λ mark. Asks (Bookmark target mark))))

-- the operands of `write` one by one (profile)
unfoldable pub written_of : List ℕ → List ℕ → List ℕ → List ℕ → Meaning
written_of target object block digits =
    shaped (number_of_word object) (λ o. shaped (number_of_word block) (λ b. shaped (block_of_word digits) (λ bytes.
    named (target_of target) (λ t. Asks (Write t o b bytes)))))

-- `write TARGET NUM NUM HEX` (profile)
unfoldable pub write_of : List (List ℕ) → Meaning
write_of operands = shaped (four_of operands) (λ w. written_of w.0 w.1 w.2 w.3)

-- `TARGET NUM NUM`: a request at a block (profile)
unfoldable pub block_request_of : (Target → ℕ → ℕ → Request) → List (List ℕ) → Meaning
block_request_of request operands =
    shaped (three_of operands) (λ w. shaped (number_of_word w.1) (λ object. shaped (number_of_word w.2) (λ block.
    named (target_of w.0) (λ target. Asks (request target object block)))))

-- `rmobj TARGET NUM` (profile)
unfoldable pub free_object_of : List (List ℕ) → Meaning
free_object_of operands =
    shaped (two_of operands) (λ w. shaped (number_of_word w.1) (λ object. named (target_of w.0) (λ target. Asks (FreeObject target object))))

-- the snapshots that words name, in their order, where each is a snapshot's name (zfs(8))
abbrev pub snap_names_of : List (List ℕ) → Option (List Member)
snap_names_of [] = Some []
snap_names_of (w ∷ ws) = option_and_then (λ m. option_map (λ ms. m ∷ ms) (snap_names_of ws)) (snap_of w)

-- `SNAP ..`: snapshots of these names, one or more (zfs-snapshot(8))
unfoldable pub snapshots_of : Bool → List (List ℕ) → Meaning
snapshots_of recursive [] = Faulty BadLine
snapshots_of recursive (w ∷ ws) = named (snap_names_of (w ∷ ws)) (λ names. Asks (Snapshot names recursive))

-- `snapshot [-r] SNAP ..` (zfs-snapshot(8))
unfoldable pub snapshot_of : List (List ℕ) → Meaning
snapshot_of operands = snapshots_of (has_option (codes "-r") operands) (after_option (codes "-r") operands)

-- `TARGET`: a request of one dataset or bookmark (profile)
unfoldable pub target_request_of : (Target → Request) → List (List ℕ) → Meaning
target_request_of request operands = shaped (one_of operands) (λ w. named (target_of w) (λ target. Asks (request target)))

-- `rollback [-r] TARGET` (zfs-rollback(8))
unfoldable pub rollback_of : List (List ℕ) → Meaning
rollback_of operands =
    target_request_of (λ target. Rollback target (has_option (codes "-r") operands)) (after_option (codes "-r") operands)

-- `[-d] TARGET`: a destroy (zfs-destroy(8))
unfoldable pub destroyed_of : Bool → List (List ℕ) → Meaning
destroyed_of recursive operands =
    target_request_of (λ target. Destroy (destroy_target_of target) recursive (has_option (codes "-d") operands)) (after_option (codes "-d") operands)

-- `destroy [-r] [-d] TARGET` (zfs-destroy(8))
unfoldable pub destroy_of : List (List ℕ) → Meaning
destroy_of operands = destroyed_of (has_option (codes "-r") operands) (after_option (codes "-r") operands)

-- `NUM`: a request of one number (profile)
unfoldable pub number_request_of : (ℕ → Request) → List (List ℕ) → Meaning
number_request_of request operands = shaped (one_of operands) (λ w. shaped (number_of_word w) (λ n. Asks (request n)))

-- `PROP TARGET`: a property (zfs-get(8))
unfoldable pub get_property_of : List ℕ → List ℕ → Meaning
get_property_of word whose =
    shaped (property_of_word word) (λ property. named (target_of whose) (λ target. Asks (Get target property)))

-- `written@SNAP TARGET`: since a snapshot of any file system (zfsprops(7): written@snapshot)
unfoldable pub since_snap_of : List ℕ → List ℕ → Meaning
since_snap_of word whose = named (snap_of word) (λ since. named (target_of whose) (λ target. Asks (WrittenSince target since)))

-- `written@WORD TARGET`: since a snapshot of the target's file system (zfsprops(7): written@snapshot)
unfoldable pub since_word_of : List ℕ → List ℕ → Meaning
since_word_of word whose =
    named (target_of whose) (λ target. named (snap_within (file_system_of target) word) (λ since. Asks (WrittenSince target since)))

-- `written@SNAP TARGET` where there is an `@` after the first, else `written@WORD TARGET` (zfsprops(7): written@snapshot)
unfoldable pub written_since_of : List ℕ → List ℕ → Meaning
written_since_of word whose = if list_any (λ b. b == 64) word then since_snap_of word whose else since_word_of word whose

-- `get PROP TARGET`, `get written@SNAP TARGET` or `get written@WORD TARGET` (zfs-get(8))
abbrev pub got_of : Option (List ℕ) → List ℕ → List ℕ → Meaning
got_of None word whose = get_property_of word whose
got_of (Some since) word whose = written_since_of since whose

-- `get ..` (zfs-get(8))
unfoldable pub get_of : List (List ℕ) → Meaning
get_of operands = shaped (two_of operands) (λ w. got_of (since_word w.0) w.0 w.1)

-- `wouldfree NAME WORD WORD`: from one snapshot of a file system to another (zfs-destroy(8): -nv)
unfoldable pub would_free_of : List (List ℕ) → Meaning
would_free_of operands =
    shaped (three_of operands) (λ w. named (name_of w.0) (λ name. named (word_within name w.1) (λ first.
    named (word_within name w.2) (λ last. Asks (WouldFree name first last)))))

-- `set PROP=SIZE NAME` (zfs-set(8))
unfoldable pub set_of : List (List ℕ) → Meaning
set_of operands =
    shaped (two_of operands) (λ w. shaped (at_equals w.0) (λ setting. shaped (limit_of_word setting.0) (λ limit.
    shaped (amount_of_word setting.1) (λ amount. named (name_of w.1) (λ name. Asks (Set name limit amount))))))

-- `TARGET TARGET`: a send from a source (zfs-send(8), -i)
unfoldable pub send_from_of : List (List ℕ) → Meaning
send_from_of operands =
    shaped (two_of operands) (λ w. named (target_of w.0) (λ source. named (target_of w.1) (λ target. Asks (Send target (Some source)))))

-- `TARGET`: a full send (zfs-send(8))
unfoldable pub send_whole_of : List (List ℕ) → Meaning
send_whole_of operands = target_request_of (λ target. Send target None) operands

-- `send [-i TARGET] TARGET` (zfs-send(8))
unfoldable pub send_of : List (List ℕ) → Meaning
send_of operands =
    if has_option (codes "-i") operands then send_from_of (after_option (codes "-i") operands)
    else send_whole_of (after_option (codes "-i") operands)

-- `SNAP HEX`: a receive (zfs-receive(8); that the line has the stream is profile)
unfoldable pub received_of : Bool → List (List ℕ) → Meaning
received_of force operands =
    shaped (two_of operands) (λ w. shaped (bytes_of_word w.1) (λ bytes. named (snap_of w.0) (λ snapshot. Asks (Receive snapshot bytes (if force then Back else Plain)))))

-- `receive [-F] SNAP HEX` (zfs-receive(8))
unfoldable pub receive_of : List (List ℕ) → Meaning
receive_of operands = received_of (has_option (codes "-F") operands) (after_option (codes "-F") operands)

-- `pget PROP` (profile)
unfoldable pub pool_get_of : List (List ℕ) → Meaning
pool_get_of operands = shaped (one_of operands) (λ w. shaped (pool_property_of_word w) (λ property. Asks (PoolGet property)))

-- `list`, `sync`, `abandon`: a request without operands (profile)
abbrev pub bare : Request → List (List ℕ) → Meaning
bare request [] = Asks request
bare request (word ∷ words) = Faulty BadLine

-- by the command word (profile)
unfoldable pub command_of : List ℕ → List (List ℕ) → Meaning
command_of command operands =
    if bytes_eq command (codes "create") then name_request_of Create operands
    else if bytes_eq command (codes "write") then write_of operands
    else if bytes_eq command (codes "punch") then block_request_of Punch operands
    else if bytes_eq command (codes "rmobj") then free_object_of operands
    else if bytes_eq command (codes "snapshot") then snapshot_of operands
    else if bytes_eq command (codes "read") then block_request_of Read operands
    else if bytes_eq command (codes "get") then get_of operands
    else if bytes_eq command (codes "pget") then pool_get_of operands
    else if bytes_eq command (codes "list") then bare ListNames operands
    else if bytes_eq command (codes "rollback") then rollback_of operands
    else if bytes_eq command (codes "destroy") then destroy_of operands
    else if bytes_eq command (codes "clone") then clone_of operands
    else if bytes_eq command (codes "promote") then name_request_of Promote operands
    else if bytes_eq command (codes "slice") then number_request_of Slice operands
    else if bytes_eq command (codes "sync") then bare Sync operands
    else if bytes_eq command (codes "abandon") then bare Abandon operands
    else if bytes_eq command (codes "view") then target_request_of OpenView operands
    else if bytes_eq command (codes "unview") then number_request_of CloseView operands
    else if bytes_eq command (codes "hold") then tag_request_of Hold operands
    else if bytes_eq command (codes "release") then tag_request_of Release operands
    else if bytes_eq command (codes "holds") then target_request_of Holds operands
    else if bytes_eq command (codes "bookmark") then bookmark_of operands
    else if bytes_eq command (codes "wouldfree") then would_free_of operands
    else if bytes_eq command (codes "set") then set_of operands
    else if bytes_eq command (codes "send") then send_of operands
    else if bytes_eq command (codes "receive") then receive_of operands
    else Faulty BadLine

-- by the words (profile)
unfoldable pub words_meaning : List (List ℕ) → Meaning
words_meaning [] = Faulty BadLine
words_meaning (command ∷ operands) = command_of command operands

-- a line that is neither empty nor begins with `#` (profile)
unfoldable pub request_of : List ℕ → Meaning
request_of line =
    if nat_lt line_limit (length line) then Faulty BadLine
    else if list_all is_printable line && list_all is_word (words_of line) then words_meaning (words_of line)
    else Faulty BadLine

-- a line; an empty one and one that begins with `#` have no reply (profile)
unfoldable pub meaning : List ℕ → Meaning
meaning [] = Silent
meaning (b ∷ bs) = if b == 35 then Silent else request_of (b ∷ bs)

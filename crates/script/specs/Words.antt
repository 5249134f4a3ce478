-- The words of a line, and what they say.
use Rattle.std.specs.Prelude.{ℕ, ◌+◌, ◌-◌, ◌*◌, ◌/◌, ◌%◌, ◌^◌, ◌==◌, ◌&&◌, Bool, not, nat_lt, nat_le, List, [], ◌∷◌, ◌++◌, Option, Some, None, Result, Ok, Err, length, take, drop, map, replicate, slice_index_or, if◌then◌else◌, codes}
use Rattle.std.specs.List.{list_all, slice_split, position, zip}
use Rattle.std.specs.Option.{option_map, option_and_then}
use Rattle.std.specs.Result.{result_ok}
use Rattle.std.specs.Str.{bytes_eq}
use Rattle.hex.specs.Hex.{decode_of}
use Rattle.hex.specs.declared.error.FromHexError.{FromHexError}
use Rattle.base.specs.declared.name.member.Member.{Member}
use Rattle.base.specs.declared.name.target.Target.{Target}
use Rattle.base.specs.declared.name.target.Target.TheVariants.{FileSystem, Snapshot, Bookmark}
use Rattle.base.specs.Names.{name_limit, whole_length}
use Rattle.base.specs.Reading.{component_of}
use Rattle.model.specs.declared.limits.Limit.{Limit}
use Rattle.model.specs.declared.limits.Limit.TheVariants as limits
use Rattle.model.specs.declared.request.Property.{Property}
use Rattle.model.specs.declared.request.Property.TheVariants.{Used, Available, Referenced, Written, UsedByDataset, UsedBySnapshots, UsedByChildren, UsedByRefReservation, Quota, RefQuota, Reservation, RefReservation, Guid, CreateTxg, Origin, Clones, UserRefs, DeferDestroy}
use Rattle.model.specs.declared.request.PoolProperty.{PoolProperty}
use Rattle.model.specs.declared.request.PoolProperty.TheVariants.{Size, Allocated, Free, Freeing, Waiting, Group}

-- a byte that a line may have, 0x20 to 0x7e (profile)
abbrev pub is_printable : ℕ → Bool
is_printable b = nat_le 32 b && nat_le b 126

-- words are joined by single spaces (profile)
abbrev pub words_of : List ℕ → List (List ℕ)
words_of line = slice_split (λ b. b == 32) line

-- a word has a byte (profile)
abbrev pub is_word : List ℕ → Bool
is_word word = nat_lt 0 (length word)

-- a byte that a line may have, and no space where one stands before it (profile)
abbrev pub may_follow : Bool × ℕ → Bool
may_follow p = is_printable p.1 && not (p.1 == 32 && p.0)

-- each byte may follow the one before it, the first a space or another byte (profile)
abbrev pub joins : Bool → List ℕ → Bool
joins after_space bytes = list_all may_follow (zip (after_space ∷ map (λ b. b == 32) bytes) bytes)

-- what stands from place n on, behind the byte before it, joins (profile)
abbrev pub joins_from : ℕ → List ℕ → Bool
joins_from n line = joins (slice_index_or line (n - 1) 0 == 32) (drop n line)

-- the number of these digits after n, at most this one (profile)
abbrev pub number_from : ℕ → ℕ → List ℕ → Option ℕ
number_from most n [] = Some n
number_from most n (c ∷ cs) =
    if nat_le 48 c && nat_le c 57
    then (if nat_le (10 * n + (c - 48)) most then number_from most (10 * n + (c - 48)) cs else None)
    else None

-- a number that is not `0` (profile)
abbrev pub number_without_zero : ℕ → List ℕ → Option ℕ
number_without_zero most [] = None
number_without_zero most (c ∷ cs) = if c == 48 then None else number_from most 0 (c ∷ cs)

-- decimal digits without a leading zero, at most this number (profile)
unfoldable pub number_up_to : ℕ → List ℕ → Option ℕ
number_up_to most word = if bytes_eq word (codes "0") then Some 0 else number_without_zero most word

-- NUM: a number of at most 2^32 - 1 (profile)
unfoldable pub number_of_word : List ℕ → Option ℕ
number_of_word word = number_up_to 4294967295 word

-- zero bytes fill a block (profile)
abbrev pub filled : Result (List ℕ) FromHexError → Option (List ℕ)
filled (Err e) = None
filled (Ok bytes) = Some (bytes ++ replicate (512 - length bytes) 0)

-- HEX of a block: an even number of digits, 2 to 1024 (profile)
unfoldable pub block_of_word : List ℕ → Option (List ℕ)
block_of_word word =
    if nat_lt (length word) 2 then None
    else if nat_lt 1024 (length word) then None
    else filled (decode_of word)

-- HEX of a stream: an even number of digits, 2 or more (profile)
unfoldable pub bytes_of_word : List ℕ → Option (List ℕ)
bytes_of_word word = if nat_lt (length word) 2 then None else result_ok (decode_of word)

-- PROP: a property's name (zfsprops(7))
unfoldable pub property_of_word : List ℕ → Option Property
property_of_word word =
    if bytes_eq word (codes "used") then Some Used
    else if bytes_eq word (codes "available") then Some Available
    else if bytes_eq word (codes "referenced") then Some Referenced
    else if bytes_eq word (codes "written") then Some Written
    else if bytes_eq word (codes "usedbydataset") then Some UsedByDataset
    else if bytes_eq word (codes "usedbysnapshots") then Some UsedBySnapshots
    else if bytes_eq word (codes "usedbychildren") then Some UsedByChildren
    else if bytes_eq word (codes "usedbyrefreservation") then Some UsedByRefReservation
    else if bytes_eq word (codes "quota") then Some Quota
    else if bytes_eq word (codes "refquota") then Some RefQuota
    else if bytes_eq word (codes "reservation") then Some Reservation
    else if bytes_eq word (codes "refreservation") then Some RefReservation
    else if bytes_eq word (codes "guid") then Some Guid
    else if bytes_eq word (codes "createtxg") then Some CreateTxg
    else if bytes_eq word (codes "origin") then Some Origin
    else if bytes_eq word (codes "clones") then Some Clones
    else if bytes_eq word (codes "userrefs") then Some UserRefs
    else if bytes_eq word (codes "defer_destroy") then Some DeferDestroy
    else None

-- PROP of a pool: a property's name (zpoolprops(7); `waiting` and `group` are profile)
unfoldable pub pool_property_of_word : List ℕ → Option PoolProperty
pool_property_of_word word =
    if bytes_eq word (codes "size") then Some Size
    else if bytes_eq word (codes "allocated") then Some Allocated
    else if bytes_eq word (codes "free") then Some Free
    else if bytes_eq word (codes "freeing") then Some Freeing
    else if bytes_eq word (codes "waiting") then Some Waiting
    else if bytes_eq word (codes "group") then Some Group
    else None

-- what stands before and after the first `=` of a word (zfs-set(8))
abbrev pub at_equals : List ℕ → Option (List ℕ × List ℕ)
at_equals word = option_map (λ n. (take n word, drop (n + 1) word)) (position (λ b. b == 61) word)

-- PROP of a limit: a property's name (zfsprops(7))
unfoldable pub limit_of_word : List ℕ → Option Limit
limit_of_word word =
    if bytes_eq word (codes "quota") then Some limits.Quota
    else if bytes_eq word (codes "refquota") then Some limits.RefQuota
    else if bytes_eq word (codes "reservation") then Some limits.Reservation
    else if bytes_eq word (codes "refreservation") then Some limits.RefReservation
    else None

-- so many bytes in blocks: 0 is no limit, and what is no multiple of 512 or more than 2^49 is no amount (zfsprops(7): quota; that it is whole
-- blocks, and the greatest, is profile)
unfoldable pub amount_of_bytes : ℕ → Option (Option ℕ)
amount_of_bytes bytes =
    if nat_lt (2 ^ 49) bytes then None
    else if bytes == 0 then Some None
    else if bytes % 512 == 0 then Some (Some (bytes / 512))
    else None

-- SIZE: `none`, or a number of bytes, at most those of 2^40 blocks (zfsprops(7): quota; the greatest is profile)
unfoldable pub amount_of_word : List ℕ → Option (Option ℕ)
amount_of_word word =
    if bytes_eq word (codes "none") then Some None
    else option_and_then amount_of_bytes (number_up_to (2 ^ 49) word)

-- what stands after `written@`, where a word begins so (zfsprops(7): written@snapshot)
abbrev pub since_word : List ℕ → Option (List ℕ)
since_word word = if bytes_eq (take 8 word) (codes "written@") then Some (drop 8 word) else None

-- the file system whose name a target's begins with (zfs(8), zfs-bookmark(8))
abbrev pub file_system_of : Target → List ℕ
file_system_of (FileSystem name) = name
file_system_of (Snapshot m) = m.file_system
file_system_of (Bookmark m) = m.file_system

-- the snapshot WORD of a file system (zfs(8))
abbrev pub within : List ℕ → List ℕ → Member
within file_system word = record { file_system = file_system; component = word }

-- WORD: one component, which with the file system's name and the `@` is at most 255 bytes (zfs(8); the limit is profile)
unfoldable pub word_within : List ℕ → List ℕ → Option (List ℕ)
word_within file_system word = if nat_lt name_limit (whole_length (within file_system word)) then None else component_of word

-- the snapshot that WORD names within a file system (zfs(8))
abbrev pub snap_within : List ℕ → List ℕ → Option Member
snap_within file_system word = option_map (within file_system) (word_within file_system word)

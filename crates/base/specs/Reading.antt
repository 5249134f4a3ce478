-- What reading names gives, and putting their parts together (zfs(8); profile).
use Rattle.std.specs.Prelude.{◌≡◌, ◌⊎◌, ℕ, ◌==◌, nat_lt, List, Option, Some, None, Result, Ok, Err, slice_index, if◌then◌else◌}
use Rattle.std.specs.List.{position}
use Rattle.base.specs.declared.refusal.Refusal.{Refusal}
use Rattle.base.specs.declared.refusal.Refusal.TheVariants.{BadName, NoMemory}
use Rattle.base.specs.declared.name.member.Member.{Member}
use Rattle.base.specs.declared.name.target.Target.{Target}
use Rattle.base.specs.declared.name.target.Target.TheVariants.{FileSystem, Snapshot, Bookmark}
use Rattle.base.specs.Names.{name_limit, is_component, is_name, is_tag, is_mark, is_member, member_at, whole_length}

-- a file system's name, or none (zfs(8))
unfoldable pub name_of : List ℕ → Option (List ℕ)
name_of bs = if is_name bs then Some bs else None

-- one component, or none (zfs(8))
unfoldable pub component_of : List ℕ → Option (List ℕ)
component_of bs = if is_component bs then Some bs else None

-- a tag, or none (zfs-hold(8))
unfoldable pub tag_of : List ℕ → Option (List ℕ)
tag_of bs = if is_tag bs then Some bs else None

-- any name, by the place of its first `@` or `#` (zfs(8), zfs-bookmark(8))
abbrev pub target_at : List ℕ → Option ℕ → Option Target
target_at bs None = if is_name bs then Some (FileSystem bs) else None
target_at bs (Some n) =
    if is_member bs (member_at bs n)
    then (if slice_index bs n == 64 then Some (Snapshot (member_at bs n)) else Some (Bookmark (member_at bs n)))
    else None

-- any name, or none (zfs(8), zfs-bookmark(8))
unfoldable pub target_of : List ℕ → Option Target
target_of bs = target_at bs (position is_mark bs)

abbrev pub snap_in : Option Target → Option Member
snap_in (Some (Snapshot m)) = Some m
snap_in (Some (FileSystem name)) = None
snap_in (Some (Bookmark m)) = None
snap_in None = None

abbrev pub mark_in : Option Target → Option Member
mark_in (Some (Bookmark m)) = Some m
mark_in (Some (FileSystem name)) = None
mark_in (Some (Snapshot m)) = None
mark_in None = None

-- a snapshot's name, or none (zfs(8))
unfoldable pub snap_of : List ℕ → Option Member
snap_of bs = snap_in (target_of bs)

-- a bookmark's name, or none (zfs-bookmark(8))
unfoldable pub mark_of : List ℕ → Option Member
mark_of bs = mark_in (target_of bs)

-- A reader gave what reading gives, or BadName where that is nothing, or there was no memory.
abbrev pub Reads : {X : Type 0} → Result X Refusal → Option X → Type 0
Reads (Ok x) read = read ≡ Some x
Reads (Err e) read = (e ≡ NoMemory) ⊎ ((e ≡ BadName) × (read ≡ None))

-- a snapshot's or a bookmark's name of these parts, or BadName where it is longer than names are (zfs(8), zfs-bookmark(8); the limit is profile)
abbrev pub name_from : Member → Result Member Refusal
name_from m = if nat_lt name_limit (whole_length m) then Err BadName else Ok m

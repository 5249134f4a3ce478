-- Names, as lists of bytes (zfs(8); the root's name and which characters are allowed are profile).
use Rattle.std.specs.Prelude.{ℕ, ◌+◌, ◌==◌, ◌||◌, Bool, false, nat_lt, List, [], ◌∷◌, ◌++◌, Option, Some, None, length, take, drop, if◌then◌else◌, codes}
use Rattle.std.specs.declared.cmp.Ordering.{Ordering}
use Rattle.std.specs.Ordering.{nat_cmp}
use Rattle.std.specs.Cmp.Lexicographic.{slice_cmp, pointwise}
use Rattle.std.specs.List.{starts_with}
use Rattle.base.specs.declared.name.member.Member.{Member}
pub use Rattle.base.specs.Words.{name_limit, is_name_byte, is_component, is_name, is_tag}

-- the order of names, byte by byte (profile)
abbrev pub name_cmp : List ℕ → List ℕ → Ordering
name_cmp = slice_cmp nat_cmp

-- the test of two names (profile)
abbrev pub same_name : List ℕ → List ℕ → Bool
same_name = pointwise ◌==◌

-- the root file system is `p` (profile)
abbrev pub root_name : List ℕ
root_name = codes "p"

-- the byte that joins components, `/` (zfs(8))
abbrev pub slash : ℕ
slash = 47

-- the byte that ends a file system's name within another name, `@` or `#` (zfs(8), zfs-bookmark(8))
abbrev pub is_mark : ℕ → Bool
is_mark b = b == 64 || b == 35

-- what stands before and after place n (profile)
abbrev pub member_at : List ℕ → ℕ → Member
member_at bs n = record { file_system = take n bs; component = drop (n + 1) bs }

-- a whole name of a snapshot or bookmark (zfs(8))
abbrev pub is_member : List ℕ → Member → Bool
is_member bs m = if nat_lt name_limit (length bs) then false else if is_name m.file_system then is_component m.component else false

-- a descendant's name begins with its ancestor's and a `/` (zfs(8))
abbrev pub is_descendant : List ℕ → List ℕ → Bool
is_descendant ancestor name = starts_with ◌==◌ name (ancestor ++ slash ∷ [])

-- one byte more in front of what stands before the last `/`, which may be this byte (profile)
abbrev pub before_slash : ℕ → Option (List ℕ) → Option (List ℕ)
before_slash b None = if b == slash then Some [] else None
before_slash b (Some front) = Some (b ∷ front)

-- the parent's name, before the last `/`; a name of one component has none (zfs(8))
abbrev pub parent_of : List ℕ → Option (List ℕ)
parent_of [] = None
parent_of (b ∷ bs) = before_slash b (parent_of bs)

-- how long a snapshot's or a bookmark's whole name is (zfs(8))
abbrev pub whole_length : Member → ℕ
whole_length m = length m.file_system + 1 + length m.component

-- a snapshot's name in print, `p/a@s` (zfs(8))
abbrev pub snap_text : Member → List ℕ
snap_text m = m.file_system ++ codes "@" ++ m.component

-- a bookmark's name in print, `p/a#b` (zfs-bookmark(8))
abbrev pub mark_text : Member → List ℕ
mark_text m = m.file_system ++ codes "#" ++ m.component

-- The rules of the words that names are made of, as lists of bytes (zfs(8); which characters are allowed is profile).
use Rattle.std.specs.Prelude.{ℕ, ◌==◌, ◌&&◌, ◌||◌, Bool, false, nat_lt, nat_le, List, length, if◌then◌else◌, codes}
use Rattle.std.specs.List.{slice_split, list_all}
use Rattle.std.specs.Str.{bytes_eq}

-- the most bytes of a whole name, and of a tag (profile)
abbrev pub name_limit : ℕ
name_limit = 255

-- a byte of a component: a letter, a digit, `-`, `_`, `.` or `:` (zfs(8), without the space: profile)
abbrev pub is_name_byte : ℕ → Bool
is_name_byte b =
    (nat_le 97 b && nat_le b 122) || (nat_le 65 b && nat_le b 90) || (nat_le 48 b && nat_le b 58)
    || b == 45 || b == 46 || b == 95

-- a component: one byte or more, and neither `.` nor `..` (zfs(8))
abbrev pub is_component : List ℕ → Bool
is_component bs =
    if length bs == 0 then false
    else if bytes_eq bs (codes ".") then false
    else if bytes_eq bs (codes "..") then false
    else list_all is_name_byte bs

-- a file system's name: components joined by `/`, at most 255 bytes (zfs(8); the limit is profile)
abbrev pub is_name : List ℕ → Bool
is_name bs = if nat_lt name_limit (length bs) then false else list_all is_component (slice_split (λ b. b == 47) bs)

-- a tag: 1 to 255 bytes of those that components have (zfs-hold(8); profile)
abbrev pub is_tag : List ℕ → Bool
is_tag bs = if length bs == 0 then false else if nat_lt name_limit (length bs) then false else list_all is_name_byte bs

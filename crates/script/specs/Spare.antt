-- The target that is kept for the next line.
use Rattle.std.specs.Prelude.{ℕ, ◌==◌, Bool, false, List, Option, Some, None, if◌then◌else◌}
use Rattle.std.specs.Option.{option_or}
use Rattle.std.specs.Str.{bytes_eq}
use Rattle.base.specs.declared.name.member.Member.{Member}
use Rattle.base.specs.declared.name.target.Target.{Target}
use Rattle.base.specs.declared.name.target.Target.TheVariants.{FileSystem, Snapshot, Bookmark}
use Rattle.base.specs.Names.{snap_text, mark_text}
use Rattle.model.specs.declared.request.Request.{Request}
use Rattle.model.specs.declared.request.Request.TheVariants.{Write, Punch, FreeObject, Read, Get, Rollback, OpenView, Clone, Hold, Release, Holds, Bookmark as MakeBookmark, WrittenSince, Send}

-- the target of a request that has one (profile)
abbrev pub target_in : Request → Option Target
target_in (Write target object block bytes) = Some target
target_in (Punch target object block) = Some target
target_in (FreeObject target object) = Some target
target_in (Read target object block) = Some target
target_in (Get target property) = Some target
target_in (Rollback target later) = Some target
target_in (OpenView target) = Some target
target_in (Clone target name) = Some target
target_in (Hold tag target) = Some target
target_in (Release tag target) = Some target
target_in (Holds target) = Some target
target_in (MakeBookmark target mark) = Some target
target_in (WrittenSince target since) = Some target
target_in (Send target from) = Some target
target_in request = None

-- what is kept once a request is done with: its target, or what was kept where it has none (profile)
abbrev pub spare_after : Option Target → Request → Option Target
spare_after kept request = option_or (target_in request) kept

-- a target's name as it is written (zfs(8), zfs-bookmark(8))
abbrev pub target_text : Target → List ℕ
target_text (FileSystem name) = name
target_text (Snapshot m) = snap_text m
target_text (Bookmark m) = mark_text m

-- the target of these parts with this mark between them, `@` or `#` (zfs(8), zfs-bookmark(8))
abbrev pub marked_target : ℕ → Member → Target
marked_target mark m = if mark == 64 then Snapshot m else Bookmark m

-- whether a word is the name of what is kept (profile)
abbrev pub is_spare : Option Target → List ℕ → Bool
is_spare None word = false
is_spare (Some target) word = bytes_eq word (target_text target)

-- what is kept once a word was read: what was kept, or nothing where it was what the word names (profile)
abbrev pub spare_left : Option Target → List ℕ → Option Target
spare_left kept word = if is_spare kept word then None else kept

-- Bookmark (zfs-bookmark(8), of a snapshot).
use Rattle.std.specs.Prelude.{ℕ, ◌+◌, Bool, true, false, not, [], ◌∷◌, is_some, nat_lt}
use Rattle.std.specs.Option.{option_map_or}
use Rattle.std.specs.FinMap.{FinMap, insert, len}
use Rattle.base.specs.declared.refusal.Refusal.TheVariants.{NoDataset, NotSnapshot, NotAncestor, Exists, TooMany}
use Rattle.base.specs.Names.{name_cmp, same_name}
use Rattle.base.specs.declared.name.member.Member.{Member}
use Rattle.base.specs.declared.name.target.Target.{Target}
use Rattle.base.specs.declared.name.target.Target.TheVariants.{FileSystem as OfFileSystem, Snapshot as OfSnapshot, Bookmark as OfBookmark}
use Rattle.model.specs.declared.reply.Reply.TheVariants.{Done}
use Rattle.model.specs.World.{World, Bookmark, Snap, file_system_at, bookmark_named}
use Rattle.model.specs.Targets.{is_snapshot_name}
use Rattle.model.specs.Edits.{with_now, with_file_system}
use Rattle.model.specs.Rule.{Row, Rule, any_choice}
use Rattle.model.specs.requests.Rollback.{placed}

-- the most bookmarks of a file system (profile)
abbrev pub mark_limit : ℕ
mark_limit = 1024

-- one more would be too many (profile)
abbrev pub has_all_bookmarks : FinMap name_cmp Bookmark → Bool
has_all_bookmarks bookmarks = nat_lt mark_limit (len bookmarks + 1)

-- the name is of a snapshot of the file system whose bookmark it would be (zfs-bookmark(8))
abbrev pub is_beside : Target → Member → Bool
is_beside (OfFileSystem name) mark = false
is_beside (OfSnapshot m) mark = same_name m.file_system mark.file_system
is_beside (OfBookmark m) mark = false

-- a snapshot must be there, of the bookmark's file system, which has no bookmark of that name and not too many (zfs-bookmark(8); the file
-- system, the order and the limit are profile)
abbrev pub bookmark_row : World → Target → Member → Row
bookmark_row w target mark =
    (not (is_snapshot_name target), NotSnapshot)
    ∷ (not (is_some (placed w target)), NoDataset)
    ∷ (not (is_beside target mark), NotAncestor)
    ∷ (is_some (bookmark_named w mark), Exists)
    ∷ (option_map_or (λ f. has_all_bookmarks f.bookmarks) (file_system_at w mark.file_system) false, TooMany)
    ∷ []

-- a snapshot's guid and creation group (zfs-bookmark(8))
abbrev pub bookmark_of_snap : Snap → Bookmark
bookmark_of_snap t = record { guid = t.guid; group = t.group }

-- the bookmark beside the file system's others (zfs-bookmark(8))
abbrev pub bookmarked : World → Target → Member → World
bookmarked w target mark =
    option_map_or (λ p. with_file_system w mark.file_system (λ f. record f { bookmarks = insert f.bookmarks mark.component (bookmark_of_snap p.1) })) (placed w target) w

-- zfs-bookmark(8)
abbrev pub bookmark_rule : Target → Member → Rule
bookmark_rule target mark = record {
  row = λ s asked. bookmark_row s.now target mark;
  after = λ s c. with_now s (bookmarked s.now target mark);
  reply = λ s. Done;
  may = any_choice;
  only_reads = false;
  takes_memory = true;
}

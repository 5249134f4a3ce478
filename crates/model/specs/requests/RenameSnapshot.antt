-- Rename of a snapshot (zfs-rename(8), -r).
use Rattle.std.specs.Prelude.{ℕ, Bool, true, false, not, ◌&&◌, List, length, [], ◌∷◌, map, is_some, if◌then◌else◌}
use Rattle.std.specs.List.{list_any}
use Rattle.std.specs.FinMap.{entries}
use Rattle.base.specs.declared.refusal.Refusal.TheVariants.{NoDataset, BadName, Exists, Busy}
use Rattle.base.specs.declared.name.member.Member.{Member}
use Rattle.base.specs.Names.{same_name}
use Rattle.model.specs.declared.reply.Reply.TheVariants.{Done}
use Rattle.model.specs.World.{World, FileSystem, Snap, id_of, snap_named}
use Rattle.model.specs.Hierarchy.{is_in_family}
use Rattle.model.specs.Lengths.{is_long}
use Rattle.model.specs.State.{Views, is_viewed}
use Rattle.model.specs.Edits.{with_file_systems, with_now}
use Rattle.model.specs.Rule.{Row, Rule, any_choice}

-- the rename reaches a file system of this name: the one of the snapshot, and with -r all below it (zfs-rename(8), -r)
abbrev pub is_in_scope : Member → Bool → List ℕ → Bool
is_in_scope m recursive name = if recursive then is_in_family m.file_system name else same_name name m.file_system

-- it renames this snapshot of the file system of this name (zfs-rename(8), -r)
abbrev pub is_renamed : Member → Bool → List ℕ → Snap → Bool
is_renamed m recursive name t = is_in_scope m recursive name && same_name t.name m.component

-- the world with these snapshots under another name (zfs-rename(8))
abbrev pub with_snaps_renamed : World → Member → List ℕ → Bool → World
with_snaps_renamed w m to recursive =
    with_file_systems w (λ n f. record f { snaps = map {A = Snap} (λ t. if is_renamed m recursive n t then record t { name = to } else t) f.snaps })

-- the test holds of a snapshot that it renames, given the name of its file system and that (zfs-rename(8), -r)
abbrev pub any_renamed : World → Member → Bool → (List ℕ → FileSystem → Snap → Bool) → Bool
any_renamed w m recursive test = list_any (λ e. list_any (λ t. is_renamed m recursive e.0 t && test e.0 e.1 t) e.1.snaps) (entries w.file_systems)

-- what refuses it (zfs-rename(8); the order, the limit and views are profile)
abbrev pub snapshot_renaming_row : World → Views → Member → List ℕ → Bool → Row
snapshot_renaming_row w views m to recursive =
    (not (is_some (snap_named w m)), NoDataset)
    ∷ (any_renamed w m recursive (λ n f t. is_long (length n) to), BadName)
    ∷ (any_renamed w m recursive (λ n f t. list_any (λ u. same_name u.name to) f.snaps), Exists)
    ∷ (any_renamed w m recursive (λ n f t. is_viewed views (id_of t)), Busy)
    ∷ []

-- zfs-rename(8)
abbrev pub rename_snapshot_rule : Member → List ℕ → Bool → Rule
rename_snapshot_rule m to recursive = record {
  row = λ s asked. snapshot_renaming_row s.now s.views m to recursive;
  after = λ s c. with_now s (with_snaps_renamed s.now m to recursive);
  reply = λ s. Done;
  may = any_choice;
  only_reads = false;
  takes_memory = true;
}

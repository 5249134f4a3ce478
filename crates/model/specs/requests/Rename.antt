-- Rename of a file system (zfs-rename(8), without -p and -u).
use Rattle.std.specs.Prelude.{ℕ, Bool, true, false, not, ◌||◌, ◌&&◌, List, [], ◌∷◌, ◌++◌, length, drop, map, if◌then◌else◌}
use Rattle.std.specs.List.{list_any}
use Rattle.std.specs.FinMap.{contains_key, entries, from_entries, keys}
use Rattle.base.specs.declared.refusal.Refusal.TheVariants.{NoDataset, BadName, Exists, NoParent, IsRoot}
use Rattle.base.specs.Names.{root_name, same_name, is_descendant}
use Rattle.model.specs.declared.reply.Reply.TheVariants.{Done}
use Rattle.model.specs.World.{World, FileSystem}
use Rattle.model.specs.Hierarchy.{FileSystems, has_parent, is_in_family}
use Rattle.model.specs.Lengths.{has_long}
use Rattle.model.specs.Edits.{with_now}
use Rattle.model.specs.Rule.{Row, Rule, any_choice}
use Rattle.model.specs.requests.Change.{limit_row}

-- the name of a file system once `from` is named `to`: with `from` go all below it (zfs-rename(8))
abbrev pub renamed : List ℕ → List ℕ → List ℕ → List ℕ
renamed from to name = if is_in_family from name then to ++ drop (length from) name else name

-- the file systems under these names (zfs-rename(8))
abbrev pub renamed_systems : FileSystems → List ℕ → List ℕ → FileSystems
renamed_systems m from to = from_entries (map (λ e. (renamed from to e.0, e.1)) (entries m))

-- the world with these (zfs-rename(8))
abbrev pub with_renamed : World → List ℕ → List ℕ → World
with_renamed w from to = record w { file_systems = renamed_systems w.file_systems from to }

-- the rename of `from` to `to` would rename this file system, and one of its names would be too long then (zfs-rename(8))
abbrev pub is_long_after : List ℕ → List ℕ → List ℕ × FileSystem → Bool
is_long_after from to e = is_in_family from e.0 && has_long (length (renamed from to e.0)) e.1

-- a name that it would lead to is too long (zfs-rename(8))
abbrev pub has_long_renamed : World → List ℕ → List ℕ → Bool
has_long_renamed w from to = list_any (is_long_after from to) (entries w.file_systems)

-- what refuses it whatever the limits; where there is a file system below the new name, there is one of that name (zfs-rename(8); the root and the
-- order are profile)
abbrev pub renaming_row : World → List ℕ → List ℕ → Row
renaming_row w from to =
    (not (contains_key w.file_systems from), NoDataset)
    ∷ (same_name from root_name, IsRoot)
    ∷ (list_any (is_in_family to) (keys w.file_systems), Exists)
    ∷ (not (has_parent w.file_systems to), NoParent)
    ∷ (is_descendant from to || has_long_renamed w from to, BadName)
    ∷ []

-- zfs-rename(8); the limits are asked of the file systems above the new name too (zfsprops(7): quota, reservation)
abbrev pub rename_rule : List ℕ → List ℕ → Rule
rename_rule from to = record {
  row = λ s asked. renaming_row s.now from to ++ limit_row asked;
  after = λ s c. with_now s (with_renamed s.now from to);
  reply = λ s. Done;
  may = any_choice;
  only_reads = false;
  takes_memory = true;
}

-- Create (zfs-create(8), without -p).
use Rattle.std.specs.Prelude.{ℕ, not, true, false, nat_le, List, [], ◌∷◌, Option}
use Rattle.std.specs.FinMap.{contains_key, insert, len}
use Rattle.base.specs.declared.refusal.Refusal.{Refusal}
use Rattle.base.specs.declared.refusal.Refusal.TheVariants.{Exists, NoParent, TooMany}
use Rattle.model.specs.declared.reply.Reply.TheVariants.{Done}
use Rattle.model.specs.World.{World, empty_file_system}
use Rattle.model.specs.Hierarchy.{FileSystems, file_system_limit, has_parent}
use Rattle.model.specs.Edits.{with_now}
use Rattle.model.specs.Rule.{Row, Rule, any_choice, first_of}

-- a file system of this name among these (the limit is profile)
abbrev pub create_row : FileSystems → List ℕ → Row
create_row m name =
    (contains_key m name, Exists) ∷ (not (has_parent m name), NoParent) ∷ (nat_le file_system_limit (len m), TooMany) ∷ []

-- why it can't be created, if it can't (zfs-create(8))
unfoldable pub create_refusal : FileSystems → List ℕ → Option Refusal
create_refusal m name = first_of (create_row m name)

-- one file system more, with nothing in it (zfs-create(8))
abbrev pub with_new_file_system : World → List ℕ → World
with_new_file_system w name = record w { file_systems = insert w.file_systems name empty_file_system }

-- zfs-create(8)
abbrev pub create_rule : List ℕ → Rule
create_rule name = record {
  row = λ s asked. create_row s.now.file_systems name;
  after = λ s c. with_now s (with_new_file_system s.now name);
  reply = λ s. Done;
  may = any_choice;
  only_reads = false;
  takes_memory = true;
}

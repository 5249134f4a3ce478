-- Clone (zfs-clone(8), without -p).
use Rattle.std.specs.Prelude.{ℕ, true, false, not, List, ◌∷◌, Some, is_some}
use Rattle.std.specs.Option.{option_map_or}
use Rattle.std.specs.FinMap.{insert}
use Rattle.base.specs.declared.refusal.Refusal.TheVariants.{NoDataset, NotSnapshot, Deferred}
use Rattle.base.specs.declared.name.target.Target.{Target}
use Rattle.model.specs.declared.reply.Reply.TheVariants.{Done}
use Rattle.model.specs.World.{World, SnapId, id_of, empty_file_system, map_of_snap}
use Rattle.model.specs.Targets.{is_snapshot_name}
use Rattle.model.specs.Edits.{with_now}
use Rattle.model.specs.Rule.{Row, Rule, any_choice}
use Rattle.model.specs.requests.Create.{create_row}
use Rattle.model.specs.requests.Rollback.{placed}

-- one file system more, with the map of a snapshot, which is its origin (zfs-clone(8))
abbrev pub with_clone : World → SnapId → List ℕ → World
with_clone w id name =
    record w { file_systems = insert w.file_systems name (record empty_file_system { live = map_of_snap w (Some id); origin = Some id }) }

-- a snapshot must be there and stay; and then the name is asked as one that is created (zfs-clone(8); the order is profile)
abbrev pub clone_row : World → Target → List ℕ → Row
clone_row w target name =
    (not (is_snapshot_name target), NotSnapshot)
    ∷ (not (is_some (placed w target)), NoDataset)
    ∷ (option_map_or (λ p. p.1.deferred) (placed w target) false, Deferred)
    ∷ create_row w.file_systems name

-- zfs-clone(8)
abbrev pub clone_rule : Target → List ℕ → Rule
clone_rule target name = record {
  row = λ s asked. clone_row s.now target name;
  after = λ s c. option_map_or (λ p. with_now s (with_clone s.now (id_of p.1) name)) (placed s.now target) s;
  reply = λ s. Done;
  may = any_choice;
  only_reads = false;
  takes_memory = true;
}

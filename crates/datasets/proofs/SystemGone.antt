-- A file system without snapshots goes from a table.
use Rattle.std.proofs.Common.{◌≡◌, [], Option, Result, Ok, Err, sym, ap, ◌∙◌}
use Rattle.std.specs.Prelude.{IfOk, IsSome, is_some}
use Rattle.std.specs.Option.{option_map_or, option_and_then}
use Rattle.std.specs.FinMap as finmap
use Rattle.std.specs.FinMap.{get}
use Rattle.std.specs.FinSet as set
use Rattle.base.specs.declared.refusal.Refusal.{Refusal}
use Rattle.base.specs.Map.{blocks}
use Rattle.model.specs.World.{FileSystem, Live}
use Rattle.file_system.specs.declared.lost.Lost.{Lost}
use Rattle.datasets.specs.Clones.{origin_at, below_at}
use Rattle.file_system.specs.Losses.{IsLost}
use Rattle.file_system.specs.Origins.{origin_group}
use Rattle.file_system.specs.Rows.{live_of, snaps_at}
use Rattle.file_system.specs.Writes.{newest_group}
use Rattle.world.specs.Blocks.{after}
use Rattle.world.specs.Shapes.{Name}
use Rattle.world.specs.Dead.{base_of}
use Rattle.world.specs.Tables.{Datasets, world_of, without_system, lost_between, CanRemoveFileSystem}
use Rattle.world.proofs.lineage.Bridge.{previous_of_live}
use Rattle.world.proofs.lineage.Put.{gone_maps}
use Rattle.world.proofs.removals.Removals.{unmake_good, unmake_loses}
use Rattle.datasets.specs.Table.{IsTable}
use Rattle.datasets.specs.Rollbacks.{Loses}
use Rattle.datasets.proofs.Kept.{numbers_from}
use Rattle.datasets.proofs.Above.{base_at}

module _ (t : Datasets) (sound : IsTable t) (name : Name) (can : CanRemoveFileSystem t name) where
  pub system_there : IsSome (get t.file_systems name)
  system_there = ap (λ (x : Option FileSystem). is_some x) can.there

  pub system_bare : snaps_at t.file_systems name ≡ []
  system_bare = ap (λ (x : Option FileSystem). option_map_or (λ (f : FileSystem). f.snaps) x []) can.there ∙ can.bare

  live_is : live_of t.file_systems name ≡ can.system.live
  live_is = ap (λ (x : Option FileSystem). option_map_or (λ (f : FileSystem). f.live) x finmap.empty) can.there

  origin_is : origin_at t.file_systems name ≡ can.system.origin
  origin_is = ap (λ (x : Option FileSystem). option_and_then (λ (f : FileSystem). f.origin) x) can.there

  -- its origin stands before its live map, or nothing does
  base_bare : base_of (world_of t) (Live name) ≡ newest_group (origin_group (origin_at t.file_systems name)) []
  base_bare =
      base_at t sound name can.system can.there (Live name) (can.system, can.there) can.system.snaps (λ v k. k)
      (previous_of_live (world_of t) t.group sound.systems.lines name can.system can.there)
      ∙ ap (newest_group (origin_group can.system.origin)) can.bare ∙ ap (λ x. newest_group (origin_group x) []) (sym origin_is)

  pub left_table : IsTable (without_system t name)
  left_table = record {
    systems = unmake_good (world_of t) sound.systems name can.system can.there can.bare can.not_root can.childless;
    numbers = numbers_from t (without_system t name) sound.systems (gone_maps t.file_systems name) sound.numbers;
  }

  left_lost : after (newest_group (origin_group (origin_at t.file_systems name)) []) (blocks (live_of t.file_systems name)) ≡ lost_between t (without_system t name)
  left_lost =
      (λ i. after (sym base_bare i) (blocks (live_is i)))
      ∙ sym (unmake_loses (world_of t) sound.systems name can.system can.there can.bare can.not_root can.childless)

  -- what the file systems answer
  pub system_gone_loses : (r : Result Lost Refusal) → IfOk r (IsLost (blocks (below_at t.file_systems name)) (origin_group (origin_at t.file_systems name)) (live_of t.file_systems name) [])
      → IfOk r (Loses t (without_system t name))
  system_gone_loses (Ok l) h =
      let whole : after l.after.0 (blocks l.tree) ≡ lost_between t (without_system t name) = (λ i. after (h.after_is i) (blocks (h.tree_is i))) ∙ left_lost in
      record {
        blocks_are = whole;
        counted = h.counted ∙ ap set.len (sym h.blocks_are ∙ ap (λ m. after l.after.0 (blocks m)) (sym h.tree_is) ∙ whole);
      }
  system_gone_loses (Err w) h = tt

-- The live map after a write can be kept as a snapshot.
use Rattle.std.proofs.Common.{◌≡◌, ℕ, ◌+◌, List, [], ◌∷◌, ◌++◌, Option, refl, sym, ap, subst, ◌∙◌}
use Rattle.std.specs.Option.{option_map_or}
use Rattle.std.specs.FinMap.{insert}
use Rattle.std.specs.FinMap as finmap
use Rattle.std.specs.FinSet.{empty}
use Rattle.base.specs.declared.number.Key.{Key}
use Rattle.base.specs.Map.{Map}
use Rattle.base.specs.Rewrite.{Changes, rewrite}
use Rattle.base.specs.declared.name.member.Member.{Member}
use Rattle.zalloc.specs.declared.BlockState.{BlockState}
use Rattle.batch.specs.declared.draft.Draft.{Draft}
use Rattle.model.specs.Hierarchy.{FileSystems}
use Rattle.model.specs.World.{World, FileSystem}
use Rattle.model.specs.Edits.{with_next_group}
use Rattle.model.specs.requests.Snapshot.{with_snapshot, snap_of_live}
use Rattle.datasets.specs.Rows.{live_of, plain_snap, with_live, with_snap}
use Rattle.world.specs.Takings.{AreTakable}
use Rattle.world.specs.Worlds.{AreFileSystems}
use Rattle.world.specs.Tables.{Datasets, CanSnap, world_of, with_system}
use Rattle.world.proofs.lineage.Put.{put_here}
use Rattle.datasets.specs.Snapshots.{with_snap_at}
use Rattle.removals.proofs.Turns.{starts_taking, can_snap}
use Rattle.receives.specs.Ends.{CanFinish, HasReceived, finished}
use Rattle.receives.proofs.Ready.{takable_written}

module _ (t u : Datasets) (m : Member) (new : Map) (can : CanFinish t m) (is : u ≡ record t { file_systems = with_live t.file_systems m.file_system new }) where
  pub can_keep : (guid : ℕ) → AreFileSystems u.file_systems u.group
      → CanSnap (record u { group = u.group + 1 }) m.file_system (plain_snap m.component (live_of u.file_systems m.file_system) guid u.group)
  can_keep guid good =
      can_snap (world_of u) guid m []
      (starts_taking (world_of u) guid (m ∷ []) good (subst (λ x. AreTakable x (m ∷ [])) (sym (ap (λ (x : Datasets). x.file_systems) is)) (takable_written t.file_systems m new can.takable)))
      (record { file_systems = u.file_systems; group = u.group + 1 }) refl refl

-- ---- the state after it

module _ (t u : Datasets) (m : Member) (guid : ℕ) (c : Changes) (synced : ℕ) (states : List BlockState) (done : Draft) (can : CanFinish t m) (r : HasReceived t u m guid c synced states done) where
  abbrev f : FileSystem
  f = can.takable.0.0

  abbrev number : Key → ℕ
  number = r.change.is.number

  -- the file system once its live map is changed
  abbrev changed : FileSystem
  changed = record f { live = rewrite f.live c t.group number }

  abbrev systems : FileSystems
  systems = insert t.file_systems m.file_system changed

  live_is : r.change.change.new ≡ rewrite f.live c t.group number
  live_is = r.change.is.new_is ∙ ap (λ (x : Option FileSystem). rewrite (option_map_or (λ (g : FileSystem). g.live) x finmap.empty) c t.group number) can.takable.0.1

  written_is : r.written ≡ record t { file_systems = systems }
  written_is = r.change.to_is
      ∙ ap (λ (x : Option FileSystem). record t { file_systems = option_map_or (λ (g : FileSystem). insert t.file_systems m.file_system (record g { live = r.change.change.new })) x t.file_systems }) can.takable.0.1
      ∙ ap (λ (n : Map). record t { file_systems = insert t.file_systems m.file_system (record f { live = n }) }) live_is

  abbrev last : World
  last = record { file_systems = insert systems m.file_system (with_snap changed m.component guid t.group); freeing = empty; group = t.group + 1 }

  kept_is : world_of u ≡ last
  kept_is = ap world_of (r.kept ∙ ap (λ (x : Datasets). with_snap_at (record x { group = x.group + 1 }) m.file_system m.component guid x.group) written_is)
      ∙ ap (λ x. world_of (option_map_or (λ (g : FileSystem). with_system (record { file_systems = systems; group = t.group + 1 }) m.file_system (with_snap g m.component guid t.group)) x (record { file_systems = systems; group = t.group + 1 })))
      (put_here t.file_systems m.file_system changed)

  abbrev after : World
  after = record { file_systems = systems; freeing = empty; group = t.group }

  model_is : finished t m guid c number ≡ last
  model_is = ap (λ x. with_next_group (with_snapshot (option_map_or (λ (g : FileSystem). record (world_of t) { file_systems = insert t.file_systems m.file_system (record g { live = rewrite g.live c t.group number }) }) x (world_of t)) m guid)) can.takable.0.1
      ∙ ap (λ x. with_next_group (option_map_or (λ (g : FileSystem). record after { file_systems = insert systems m.file_system (record g { snaps = g.snaps ++ snap_of_live after g m.component guid ∷ [] }) }) x after)) (put_here t.file_systems m.file_system changed)

  finished_is : world_of u ≡ finished t m guid c number
  finished_is = kept_is ∙ sym model_is

  pub finished_by : (number : Key → ℕ) × (world_of u ≡ finished t m guid c number)
  finished_by = (r.change.is.number, finished_is)

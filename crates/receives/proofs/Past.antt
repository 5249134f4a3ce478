-- A file system back at the snapshot that a stream starts from.
use Rattle.std.proofs.Common.{◌≡◌, ℕ, false, List, [], Option, Some, None, sym, ap, ◌∙◌, map}
use Rattle.std.specs.Prelude.{◌==◌}
use Rattle.std.specs.List.{filter, find, last_or, list_any}
use Rattle.std.specs.Option.{option_map, option_map_or, option_and_then}
use Rattle.std.specs.FinMap.{get, insert}
use Rattle.base.specs.Names.{same_name}
use Rattle.base.specs.declared.name.target.Target.TheVariants.{Snapshot as OfSnapshot}
use Rattle.model.specs.World.{FileSystem, Snap, id_of}
use Rattle.model.specs.Edits.{with_file_system, with_losses}
use Rattle.model.specs.requests.Receive.{source_of, snaps_past}
use Rattle.model.specs.requests.Rollback.{snaps_after, back_at, has_clone_outside}
use Rattle.world.specs.Tables.{Datasets, world_of}
use Rattle.world.specs.Worlds.{AreFileSystems}
use Rattle.world.proofs.changes.Promotions.{split_at}
use Rattle.world.proofs.lists.Finding.{find_only, name_itself, one_name}
use Rattle.world.proofs.views.ViewedReceives.{from_source}
use Rattle.removals.specs.Needs.{has_clone, has_clone_and_is_later}
use Rattle.removals.specs.Requests.{rolled}
use Rattle.removals.proofs.Clones.{outside_is}
use Rattle.removals.proofs.Rolled.{rolled_at}
use Rattle.removals.proofs.Seen.{any_later}
use Rattle.receives.specs.Requests.{past}

-- ---- the source, by what was found of it

-- the newest snapshot of a file system with this guid
abbrev newest_with : ℕ → FileSystem → Option Snap
newest_with guid f = last_or None (filter (λ (u : Snap). u.guid == guid) f.snaps)

abbrev source_in : ℕ → Option FileSystem → Option (FileSystem × Snap)
source_in guid x = option_and_then (λ (f : FileSystem). option_map (λ (u : Snap). (f, u)) (newest_with guid f)) x

pub source_is : (t : Datasets) (name : List ℕ) (guid : ℕ) (f : FileSystem) → get t.file_systems name ≡ Some f → (x : Option Snap) → x ≡ newest_with guid f
    → source_of (world_of t) name guid ≡ option_map (λ (u : Snap). (f, u)) x
source_is t name guid f at x is = ap (source_in guid) at ∙ ap (option_map (λ (u : Snap). (f, u))) (sym is)

-- ---- the file system back there

module _ (t : Datasets) (good : AreFileSystems t.file_systems t.group) (name : List ℕ) (guid : ℕ) (p : FileSystem × Snap) (is : source_of (world_of t) name guid ≡ Some p) where
  -- it is the only one of its name
  by_name : find (λ (v : Snap). same_name v.name p.1.name) p.0.snaps ≡ Some p.1
  by_name =
      let k = from_source (world_of t) name guid p is in
      find_only (λ (v : Snap). same_name v.name p.1.name) p.0.snaps p.1 k.1 (name_itself p.1.name)
      (λ v i e. (good.tidy name p.0 k.0).names v p.1 i k.1 (one_name v.name p.1.name e))

  pub past_group : option_map (λ (v : Snap). v.group) (find (λ (v : Snap). same_name v.name p.1.name) p.0.snaps) ≡ Some p.1.group
  past_group = ap (option_map (λ (v : Snap). v.group)) by_name

  -- none that is newer has a clone
  pub past_uncloned : has_clone_outside (world_of t) [] (snaps_past (world_of t) name guid) ≡ false → list_any (has_clone_and_is_later t p.1.group) p.0.snaps ≡ false
  past_uncloned alone =
      sym (any_later (has_clone t) p.1.group p.0.snaps)
      ∙ sym (outside_is t (map id_of (snaps_after p.0 p.1.group)))
      ∙ ap (λ x. has_clone_outside (world_of t) [] (option_map_or (λ (q : FileSystem × Snap). map id_of (snaps_after q.0 q.1.group)) x [])) (sym is)
      ∙ alone

  -- as a rollback to it leaves the datasets
  pub past_is : rolled t (OfSnapshot (record { file_system = name; component = p.1.name })) ≡ past t name guid
  past_is =
      let k = from_source (world_of t) name guid p is in
      let parts = split_at p.0.snaps p.1 k.1 in
      let w = world_of t in
      rolled_at t good (name, p.0) k.0 parts.0 p.1 parts.1 parts.2 p.1.name by_name
      ∙ sym (ap (λ x. record t { file_systems = (option_map_or (λ (q : FileSystem × Snap). with_losses w (with_file_system w name (λ f. back_at f q.1))) x w).file_systems }) is
      ∙ ap (λ x. record t { file_systems = (option_map_or (λ (f : FileSystem). record w { file_systems = insert w.file_systems name (back_at f p.1) }) x w).file_systems }) k.0)

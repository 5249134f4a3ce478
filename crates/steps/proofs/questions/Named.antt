-- The datasets that names stand for, among file systems and their snapshots.
use Rattle.std.proofs.Common.{◌≡◌, Option, Some, None, refl, ap, ◌∙◌}
use Rattle.std.specs.Prelude.{is_some}
use Rattle.std.specs.List.{find}
use Rattle.std.specs.Option.{option_map, option_and_then}
use Rattle.std.specs.FinMap.{get}
use Rattle.base.specs.Surveys.{IsIn}
use Rattle.base.specs.Names.{same_name}
use Rattle.base.specs.declared.name.member.Member.{Member}
use Rattle.base.specs.declared.name.target.Target.TheVariants.{FileSystem as OfFileSystem, Snapshot as OfSnapshot}
use Rattle.model.specs.World.{FileSystem, Snap, Live, Snapped, id_of}
use Rattle.model.specs.State.{State}
use Rattle.model.specs.Hierarchy.{FileSystems}
use Rattle.world.specs.Shapes.{Name}
use Rattle.world.proofs.lists.Maps.{no_value}
use Rattle.world.proofs.lineage.Bridge.{map_of_live, map_of_kept}
use Rattle.world.proofs.lists.Finding.{from_find}
use Rattle.steps.specs.Steady.{IsSteady, IsNamed, snap_in}

-- ---- a snapshot by its name

module _ (ss : FileSystems) (m : Member) where
  abbrev within : FileSystem → Option Snap
  within f = find (λ t. same_name t.name m.component) f.snaps

  -- its file system has it
  pub snap_there : (f : FileSystem) (t : Snap) → get ss m.file_system ≡ Some f → find (λ t. same_name t.name m.component) f.snaps ≡ Some t
      → snap_in ss m ≡ Some t
  snap_there f t was found = ap (option_and_then within) was ∙ found

  -- its file system has none of that name
  pub snap_absent : (f : FileSystem) → get ss m.file_system ≡ Some f → find (λ t. same_name t.name m.component) f.snaps ≡ None → snap_in ss m ≡ None
  snap_absent f was none = ap (option_and_then within) was ∙ none

  -- its file system isn't there
  pub system_absent : get ss m.file_system ≡ None → snap_in ss m ≡ None
  system_absent none = ap (option_and_then within) none

  -- one that is found is its file system's
  pub snap_of : (t : Snap) → snap_in ss m ≡ Some t → (f : FileSystem) × (get ss m.file_system ≡ Some f) × IsIn f.snaps t
  snap_of t found = at (get ss m.file_system) refl found
    where
      at : (x : Option FileSystem) → get ss m.file_system ≡ x → option_and_then within x ≡ Some t
          → (f : FileSystem) × (get ss m.file_system ≡ Some f) × IsIn f.snaps t
      at None was e = absurd (no_value t e)
      at (Some f) was e = (f, was, (from_find (λ (u : Snap). same_name u.name m.component) f.snaps t e).0)

-- ---- what a name stands for

module _ (s : State) where
  -- a file system's live map
  pub named_live : (name : Name) (f : FileSystem) → get s.now.file_systems name ≡ Some f → IsNamed s (OfFileSystem name) f.live
  named_live name f was = record { dataset = Live name; there = ap is_some was; is = refl; map_is = map_of_live s.now name f was }

  -- a snapshot's map, which its identity finds
  pub named_snap : IsSteady s → (m : Member) (t : Snap) → snap_in s.now.file_systems m ≡ Some t → IsNamed s (OfSnapshot m) t.map
  named_snap steady m t found =
      let r = snap_of s.now.file_systems m t found in
      record {
        dataset = Snapped (id_of t);
        there = ap is_some found;
        is = ap (option_map (λ (u : Snap). Snapped (id_of u))) found;
        map_is = map_of_kept s.now s.now.group steady.good.now.systems.lines m.file_system r.0 t (id_of t) r.1 r.2 refl;
      }

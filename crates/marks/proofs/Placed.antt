-- The snapshot of a name, as a request finds it.
use Rattle.std.proofs.Common.{◌≡◌, Option, Some, None, refl, sym, ap, ◌∙◌}
use Rattle.std.specs.Option.{option_map, option_and_then}
use Rattle.std.specs.List.{find}
use Rattle.std.specs.FinMap.{get}
use Rattle.base.specs.Surveys.{IsIn}
use Rattle.base.specs.Names.{same_name}
use Rattle.base.specs.declared.name.member.Member.{Member}
use Rattle.base.specs.declared.name.target.Target.TheVariants.{Snapshot as OfSnapshot}
use Rattle.model.specs.World.{FileSystem, Snap, snap_named}
use Rattle.model.specs.requests.Rollback.{placed}
use Rattle.world.specs.Tables.{Datasets, world_of}
use Rattle.world.proofs.lists.Maps.{no_value, same_value}
use Rattle.world.proofs.lists.Finding.{from_find}

-- a snapshot of this name, with its file system
pub record IsPlaced (t : Datasets) (m : Member) (u : Snap) : Type 0 where
  pub system : FileSystem
  pub at : get t.file_systems m.file_system ≡ Some system
  pub named : snap_named (world_of t) m ≡ Some u
  pub among : IsIn system.snaps u
  pub found : placed (world_of t) (OfSnapshot m) ≡ Some (system, u)

-- the snapshot that is found
abbrev pub snap_in : Option (FileSystem × Snap) → Option Snap
snap_in x = option_map (λ p. p.1) x

-- it is the one of the name
pub snap_placed : (t : Datasets) (m : Member) → snap_in (placed (world_of t) (OfSnapshot m)) ≡ snap_named (world_of t) m
snap_placed t m = by_system (get t.file_systems m.file_system)
  where
    by_snap : (f : FileSystem) (y : Option Snap) → snap_in (option_map {U = FileSystem × Snap} (λ (s : Snap). (f, s)) y) ≡ y
    by_snap f None = refl
    by_snap f (Some v) = refl

    named_in : Option FileSystem → Option Snap
    named_in x = option_and_then (λ (f : FileSystem). find (λ (v : Snap). same_name v.name m.component) f.snaps) x

    by_system : (x : Option FileSystem) → snap_in (option_and_then (λ (f : FileSystem). option_map {U = FileSystem × Snap} (λ (s : Snap). (f, s)) (named_in x)) x) ≡ named_in x
    by_system None = refl
    by_system (Some f) = by_snap f (named_in (Some f))

pub placed_at : (t : Datasets) (m : Member) (u : Snap) → snap_in (placed (world_of t) (OfSnapshot m)) ≡ Some u → IsPlaced t m u
placed_at t m u e = by_system (get t.file_systems m.file_system) refl
  where
    named : snap_named (world_of t) m ≡ Some u
    named = sym (snap_placed t m) ∙ e

    named_in : Option FileSystem → Option Snap
    named_in x = option_and_then (λ (f : FileSystem). find (λ (v : Snap). same_name v.name m.component) f.snaps) x

    by_system : (x : Option FileSystem) → get t.file_systems m.file_system ≡ x → IsPlaced t m u
    by_system None at = absurd (no_value u (sym (ap named_in at) ∙ named))
    by_system (Some f) at = record {
      system = f;
      at = at;
      named = named;
      among = (from_find (λ (w : Snap). same_name w.name m.component) f.snaps u (sym (ap named_in at) ∙ named)).0;
      found = (λ i. option_and_then (λ (g : FileSystem). option_map {U = FileSystem × Snap} (λ (s : Snap). (g, s)) (named i)) (at i));
    }

-- what is said of what is found
pub placed_with : {X : Type 0} (t : Datasets) (m : Member) (said : FileSystem × Snap → X) (x : X) → option_map said (placed (world_of t) (OfSnapshot m)) ≡ Some x
    → (u : Snap) × (p : IsPlaced t m u) × (x ≡ said (p.system, u))
placed_with {X} t m said x e = by_found (placed (world_of t) (OfSnapshot m)) refl
  where
    by_found : (y : Option (FileSystem × Snap)) → placed (world_of t) (OfSnapshot m) ≡ y → (u : Snap) × (p : IsPlaced t m u) × (x ≡ said (p.system, u))
    by_found None k = absurd (no_value x (sym (ap (option_map said) k) ∙ e))
    by_found (Some q) k =
        let p = placed_at t m q.1 (ap snap_in k) in
        (q.1, p, sym (same_value (said (p.system, q.1)) x (sym (ap (option_map said) p.found) ∙ e)))

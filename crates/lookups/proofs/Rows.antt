-- Why a send doesn't start where it was told to.
use Rattle.std.proofs.Common.{◌≡◌, cond, Option, None, Some, refl, sym, ap, ◌∙◌}
use Rattle.std.specs.Prelude.{IfSome, Result, Err, not}
use Rattle.std.specs.List.{find}
use Rattle.std.specs.Option.{option_map, option_and_then, is_some}
use Rattle.std.specs.FinMap.{get}
use Rattle.base.specs.declared.refusal.Refusal.{Refusal}
use Rattle.base.specs.declared.refusal.Refusal.TheVariants.{NoDataset, NotAncestor}
use Rattle.base.specs.Names.{same_name}
use Rattle.base.specs.declared.name.member.Member.{Member}
use Rattle.base.specs.declared.name.target.Target.{Target}
use Rattle.base.specs.declared.name.target.Target.TheVariants.{Snapshot as OfSnapshot}
use Rattle.model.specs.Rule.{first_of}
use Rattle.model.specs.World.{FileSystem, Snap, id_of, snap_named}
use Rattle.model.specs.requests.Rollback.{placed}
use Rattle.model.specs.Sights.{Seen}
use Rattle.model.specs.requests.Send.{Start, sight_of, sources_of, start_of, start_named, send_row}
use Rattle.world.specs.Tables.{Datasets, world_of}
use Rattle.world.proofs.lists.Maps.{no_value}
use Rattle.datasets.specs.Rows.{Row}
use Rattle.datasets.specs.Clones.{row_in}
use Rattle.lookups.specs.Places.{snapshot_place}
use Rattle.lookups.proofs.Places.{IsSnapshot}

-- there is no such snapshot
pub none_named : (t : Datasets) (m : Member) → snapshot_place t m ≡ None → snap_named (world_of t) m ≡ None
none_named t m e = by_system (get t.file_systems m.file_system) e
  where
    by_snap : (f : FileSystem) (x : Option Snap) → option_map {T = Snap} {U = Row × Snap} (λ u. (row_in t.file_systems (m.file_system, f), u)) x ≡ None → x ≡ None
    by_snap f None h = refl
    by_snap f (Some u) h = absurd (no_value _ (sym h))

    by_system : (y : Option FileSystem)
        → option_and_then {T = FileSystem} {U = Row × Snap} (λ f. option_map (λ (u : Snap). (row_in t.file_systems (m.file_system, f), u)) (find (λ (u : Snap). same_name u.name m.component) f.snaps)) y ≡ None
        → option_and_then {T = FileSystem} {U = Snap} (λ f. find (λ (u : Snap). same_name u.name m.component) f.snaps) y ≡ None
    by_system None h = refl
    by_system (Some f) h = by_snap f (find (λ (u : Snap). same_name u.name m.component) f.snaps) h

module _ (t : Datasets) (m : Member) (from : Option Target) where
  row_by : (x : Option (FileSystem × Snap)) → placed (world_of t) (OfSnapshot m) ≡ x → (y : Option Start) → start_named (world_of t) (OfSnapshot m) from ≡ y
      → first_of (send_row (world_of t) (OfSnapshot m) from) ≡ cond {A = Option Refusal} (not (is_some x)) (Some NoDataset) (cond (not (is_some y)) (Some NotAncestor) None)
  row_by x e y h = λ i. cond {A = Option Refusal} (not (is_some (e i))) (Some NoDataset) (cond (not (is_some (h i))) (Some NotAncestor) None)

  module _ (r : Row) (u : Snap) (found : IsSnapshot t m r u) where
    stands : placed (world_of t) (OfSnapshot m) ≡ Some (r.system, u)
    stands =
        ap (option_and_then {T = FileSystem} {U = FileSystem × Snap} (λ f. option_map (λ (u : Snap). (f, u)) (snap_named (world_of t) m))) found.at
        ∙ ap (option_map {T = Snap} {U = FileSystem × Snap} (λ u. (r.system, u))) found.named

    pub start_is : start_named (world_of t) (OfSnapshot m) from ≡ start_of (sources_of (world_of t) (id_of u)) from
    unfolding sight_of
    start_is = ap (λ x. option_and_then {T = Seen} {U = Start} (λ seen. start_of seen.sources from) (option_map {T = FileSystem × Snap} {U = Seen} (λ p. sight_of (world_of t) (id_of p.1)) x)) stands

    pub allowed : (start : Start) → start_of (sources_of (world_of t) (id_of u)) from ≡ Some start → first_of (send_row (world_of t) (OfSnapshot m) from) ≡ None
    allowed start e = row_by (Some (r.system, u)) stands (Some start) (start_is ∙ e)

    pub refused : start_of (sources_of (world_of t) (id_of u)) from ≡ None → first_of (send_row (world_of t) (OfSnapshot m) from) ≡ Some NotAncestor
    refused e = row_by (Some (r.system, u)) stands None (start_is ∙ e)

-- ---- what a row of refusals says of an answer

pub none_stands : {A : Type 0} (row : Option Refusal) (r : Result A Refusal) → row ≡ None → IfSome row (λ e. r ≡ Err e)
none_stands None r h = tt
none_stands (Some e) r h = absurd (no_value e (sym h))

use Rattle.std.proofs.Common.{◌≡◌, Option, Some, None, refl, sym, ap, ◌∙◌}
use Rattle.std.specs.Prelude.{IfSome}
use Rattle.std.specs.Option.{option_map, option_and_then}
use Rattle.std.specs.List.{find}
use Rattle.std.specs.FinMap.{get}
use Rattle.base.specs.declared.name.member.Member.{Member}
use Rattle.base.specs.declared.name.target.Target.TheVariants.{Snapshot as OfSnapshot}
use Rattle.base.specs.Names.{same_name}
use Rattle.model.specs.World.{FileSystem, Snap}
use Rattle.model.specs.requests.Rollback.{placed}
use Rattle.world.specs.Tables.{Datasets, world_of}
use Rattle.world.proofs.lists.Maps.{no_value, same_value}
use Rattle.datasets.specs.Clones.{row_in}
use Rattle.datasets.specs.Holders.{snapshot_place}
use Rattle.datasets.specs.Rows.{Row}
use Rattle.removals.proofs.rolling.placed.Goals as goal

-- the row's file system, and the snapshot
abbrev both : Row × Snap → FileSystem × Snap
both p = (p.0.system, p.1)

by_place : (t : Datasets) (m : Member) (x : Option FileSystem) → get t.file_systems m.file_system ≡ x → option_map both (snapshot_place t m) ≡ placed (world_of t) (OfSnapshot m)
by_place t m None e =
    ap (λ (x : Option FileSystem). option_map both (option_and_then (λ (f : FileSystem). option_map {U = Row × Snap} (λ (u : Snap). (row_in t.file_systems (m.file_system, f), u)) (find (λ (v : Snap). same_name v.name m.component) f.snaps)) x)) e
    ∙ sym (ap (λ (x : Option FileSystem). option_and_then (λ (f : FileSystem). option_map {U = FileSystem × Snap} (λ (s : Snap). (f, s)) (option_and_then (λ (g : FileSystem). find (λ (v : Snap). same_name v.name m.component) g.snaps) x)) x) e)
by_place t m (Some f) e =
    ap (λ (x : Option FileSystem). option_map both (option_and_then (λ (f : FileSystem). option_map {U = Row × Snap} (λ (u : Snap). (row_in t.file_systems (m.file_system, f), u)) (find (λ (v : Snap). same_name v.name m.component) f.snaps)) x)) e
    ∙ by_snap (find (λ (v : Snap). same_name v.name m.component) f.snaps)
    ∙ sym (ap (λ (x : Option FileSystem). option_and_then (λ (f : FileSystem). option_map {U = FileSystem × Snap} (λ (s : Snap). (f, s)) (option_and_then (λ (g : FileSystem). find (λ (v : Snap). same_name v.name m.component) g.snaps) x)) x) e)
  where
    by_snap : (y : Option Snap) → option_map both (option_map {U = Row × Snap} (λ (u : Snap). (row_in t.file_systems (m.file_system, f), u)) y) ≡ option_map {U = FileSystem × Snap} (λ (s : Snap). (f, s)) y
    by_snap None = refl
    by_snap (Some u) = refl

-- which has the name
name_in : (t : Datasets) (m : Member) (x : Option FileSystem) → get t.file_systems m.file_system ≡ x → (p : Row × Snap) → Some p ≡ snapshot_place t m → p.0.name ≡ m.file_system
name_in t m x e p is = by_system x (is ∙ ap (λ (x : Option FileSystem). option_and_then (λ (f : FileSystem). option_map {U = Row × Snap} (λ (u : Snap). (row_in t.file_systems (m.file_system, f), u)) (find (λ (v : Snap). same_name v.name m.component) f.snaps)) x) e)
  where
    by_snap : (f : FileSystem) (y : Option Snap) → Some p ≡ option_map {U = Row × Snap} (λ (u : Snap). (row_in t.file_systems (m.file_system, f), u)) y → p.0.name ≡ m.file_system
    by_snap f None k = absurd (no_value p (sym k))
    by_snap f (Some u) k = ap (λ (q : Row × Snap). q.0.name) (same_value p (row_in t.file_systems (m.file_system, f), u) k)

    by_system : (x : Option FileSystem) → Some p ≡ option_and_then (λ (f : FileSystem). option_map {U = Row × Snap} (λ (u : Snap). (row_in t.file_systems (m.file_system, f), u)) (find (λ (v : Snap). same_name v.name m.component) f.snaps)) x → p.0.name ≡ m.file_system
    by_system None k = absurd (no_value p (sym k))
    by_system (Some f) k = by_snap f (find (λ (v : Snap). same_name v.name m.component) f.snaps) k

twice : {A : Type 0} (f : A → Row × Snap) (x : Option A) → option_map {U = FileSystem × Snap} (λ a. both (f a)) x ≡ option_map both (option_map f x)
twice f None = refl
twice f (Some a) = refl

told : {A : Type 0} (f : A → Row × Snap) (x : Option A) (t : Datasets) (m : Member) → option_map f x ≡ snapshot_place t m → IfSome x (λ a. (f a).0.name ≡ m.file_system)
told f None t m e = tt
told f (Some a) t m e = name_in t m (get t.file_systems m.file_system) refl (f a) e

pub returns-clause-found : goal.returns-clause-found
returns-clause-found c =
    twice (λ p. (p.0.now, p.1.now)) c.snapshot_named.result
    ∙ ap (option_map both) c.snapshot_named.ensures.place
    ∙ by_place c.args.table.now c.args.name.now (get c.args.table.now.file_systems c.args.name.now.file_system) refl

pub returns-clause-named : goal.returns-clause-named
returns-clause-named c = told (λ p. (p.0.now, p.1.now)) c.snapshot_named.result c.args.table.now c.args.name.now c.snapshot_named.ensures.place

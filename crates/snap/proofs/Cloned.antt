-- A clone of the snapshot that a target names.
use Rattle.std.proofs.Common.{◌≡◌, List, ℕ, Bool, true, false, cond, Option, Some, None, Result, Ok, Err, refl, sym, ap, subst, ◌∙◌}
use Rattle.std.specs.Prelude.{IsSome, IfSome, OnOk, is_some, not, ◌∷◌}
use Rattle.std.specs.Option.{option_map, option_map_or, option_and_then}
use Rattle.base.specs.declared.refusal.Refusal.{Refusal}
use Rattle.base.specs.declared.refusal.Refusal.TheVariants.{NotSnapshot, NoDataset, Deferred}
use Rattle.base.specs.declared.name.member.Member.{Member}
use Rattle.base.specs.declared.name.target.Target.TheVariants.{Snapshot as OfSnapshot}
use Rattle.model.specs.World.{FileSystem, Snap, id_of, file_system_at, snap_named}
use Rattle.model.specs.requests.Create.{create_refusal, create_row}
use Rattle.model.specs.requests.Rollback.{placed}
use Rattle.model.specs.Rule.{first_of}
use Rattle.world.specs.Tables.{Datasets, world_of}
use Rattle.world.proofs.lists.Maps.{no_value}
use Rattle.datasets.specs.Clones.{with_clone_of}
use Rattle.datasets.proofs.Cloned.{IsNamed, named}
use Rattle.snap.specs.Requests.{cloned, clone_refusal}

module _ (t : Datasets) (m : Member) (name : List ℕ) where
  -- where there is no such snapshot
  none_placed : snap_named (world_of t) m ≡ None → placed (world_of t) (OfSnapshot m) ≡ None
  none_placed none = ap (λ x. option_and_then (λ (f : FileSystem). option_map {U = FileSystem × Snap} (λ (s : Snap). (f, s)) x) (file_system_at (world_of t) m.file_system)) none
      ∙ by_system (file_system_at (world_of t) m.file_system)
    where
      by_system : (x : Option FileSystem) → option_and_then (λ (f : FileSystem). option_map {U = FileSystem × Snap} (λ (s : Snap). (f, s)) None) x ≡ None
      by_system None = refl
      by_system (Some f) = refl

  pub refused_none : snap_named (world_of t) m ≡ None → clone_refusal t (OfSnapshot m) name ≡ Some NoDataset
  refused_none none =
      ap (λ (x : Option (FileSystem × Snap)). first_of ((false, NotSnapshot) ∷ (not (is_some x), NoDataset) ∷ (option_map_or (λ (p : FileSystem × Snap). p.1.deferred) x false, Deferred)
      ∷ create_row t.file_systems name)) (none_placed none)

  module _ (u : Snap) (found : snap_named (world_of t) m ≡ Some u) where
    n : IsNamed t m u found
    n = named t m u found

    placed_is : placed (world_of t) (OfSnapshot m) ≡ Some (n.system, u)
    placed_is =
        ap (λ x. option_and_then (λ (f : FileSystem). option_map {U = FileSystem × Snap} (λ (s : Snap). (f, s)) x) (file_system_at (world_of t) m.file_system)) found
        ∙ ap (option_and_then (λ (f : FileSystem). option_map {U = FileSystem × Snap} (λ (s : Snap). (f, s)) (Some u))) n.at

    found_refusal : clone_refusal t (OfSnapshot m) name ≡ cond u.deferred (Some Deferred) (first_of (create_row t.file_systems name))
    found_refusal =
        ap (λ (x : Option (FileSystem × Snap)). first_of ((false, NotSnapshot) ∷ (not (is_some x), NoDataset) ∷ (option_map_or (λ (p : FileSystem × Snap). p.1.deferred) x false, Deferred)
        ∷ create_row t.file_systems name)) placed_is

    pub refused_deferred : u.deferred ≡ true → clone_refusal t (OfSnapshot m) name ≡ Some Deferred
    refused_deferred e = found_refusal ∙ ap (λ b. cond b (Some Deferred) (first_of (create_row t.file_systems name))) e

    pub refused_as_new : u.deferred ≡ false → clone_refusal t (OfSnapshot m) name ≡ create_refusal t.file_systems name
    unfolding create_refusal
    refused_as_new e = found_refusal ∙ ap (λ b. cond b (Some Deferred) (first_of (create_row t.file_systems name))) e

    cloned_as : cloned t (OfSnapshot m) name ≡ with_clone_of t (id_of u) name
    cloned_as = ap (λ x. option_map_or (λ (p : FileSystem × Snap). with_clone_of t (id_of p.1) name) x t) placed_is

  -- where nothing refuses it
  module _ (none : clone_refusal t (OfSnapshot m) name ≡ None) where
    by_name : (x : Option Snap) → snap_named (world_of t) m ≡ x → (u : Snap) × (snap_named (world_of t) m ≡ Some u) × (u.deferred ≡ false)
    by_name None e = absurd (no_value NoDataset (sym none ∙ refused_none e))
    by_name (Some u) e = by_test u.deferred refl
      where
        by_test : (b : Bool) → u.deferred ≡ b → (v : Snap) × (snap_named (world_of t) m ≡ Some v) × (v.deferred ≡ false)
        by_test true k = absurd (no_value Deferred (sym none ∙ refused_deferred u e k))
        by_test false k = (u, e, k)

    told : (u : Snap) × (snap_named (world_of t) m ≡ Some u) × (u.deferred ≡ false)
    told = by_name (snap_named (world_of t) m) refl

    pub can_add : create_refusal t.file_systems name ≡ None
    can_add = sym (refused_as_new told.0 told.1 told.2) ∙ none

    pub snapshot_there : IsSome (snap_named (world_of t) m)
    snapshot_there = subst (λ (x : Option Snap). IsSome x) (sym told.1) refl

    -- what the table answers
    pub is_cloned : (r : Result (Unit {0}) Refusal) (new : Datasets) → IfSome (snap_named (world_of t) m) (λ u. OnOk r (new ≡ with_clone_of t (id_of u) name)) → OnOk r (new ≡ cloned t (OfSnapshot m) name)
    is_cloned r new h = by_result r (subst (λ (x : Option Snap). IfSome x (λ u. OnOk r (new ≡ with_clone_of t (id_of u) name))) told.1 h)
      where
        by_result : (x : Result (Unit {0}) Refusal) → OnOk x (new ≡ with_clone_of t (id_of told.0) name) → OnOk x (new ≡ cloned t (OfSnapshot m) name)
        by_result (Ok done) k = k ∙ sym (cloned_as told.0 told.1)
        by_result (Err e) k = tt

-- Who needs a snapshot: a tag, an open view, or a clone.
use Rattle.std.proofs.Common.{◌≡◌, ℕ, Bool, true, false, cond, not, ◌&&◌, ◌||◌, List, [], ◌∷◌, length, map, Option, Some, None, refl, sym, ap, subst, ◌∙◌, true≢false, inl, inr}
use Rattle.std.specs.Prelude.{is_some, nat_lt}
use Rattle.std.specs.List.{find, filter, list_any}
use Rattle.std.specs.Option.{option_map_or, option_and_then}
use Rattle.std.specs.FinMap.{get}
use Rattle.std.proofs.lemmas.Bool.{and_parts}
use Rattle.base.specs.Surveys.{IsIn}
use Rattle.base.specs.Names.{same_name}
use Rattle.base.specs.declared.name.member.Member.{Member}
use Rattle.model.specs.World.{FileSystem, Snap, SnapId, id_of, same_id, snap_at, snap_named}
use Rattle.model.specs.State.{Views, is_viewed}
use Rattle.model.specs.Outcome.{is_needed}
use Rattle.datasets.specs.Holders.{snap_in_system}
use Rattle.datasets.specs.Rows.{snaps_at}
use Rattle.world.specs.Shapes.{Name}
use Rattle.world.specs.Worlds.{AreFileSystems}
use Rattle.world.specs.Tables.{Datasets, world_of}
use Rattle.world.proofs.lists.Maps.{no_value, same_value}
use Rattle.world.proofs.lists.Finding.{or_none, from_find, found_none, is_same_id}
use Rattle.world.proofs.lineage.Bridge.{from_snap_at, snap_is_at}
use Rattle.removals.specs.Needs.{has_clone, is_held, is_held_after, is_kept}
use Rattle.removals.specs.Families.{unneeded}
use Rattle.removals.proofs.Seen.{any_later}

-- ---- tests of lists

pub none_kept : {A : Type 0} (p : A → Bool) (xs : List A) → ((x : A) → IsIn xs x → p x ≡ false) → filter p xs ≡ []
none_kept p [] each = refl
none_kept p (x ∷ xs) each = ap (λ b. cond b (x ∷ filter p xs) (filter p xs)) (each x (inl refl)) ∙ none_kept p xs (λ y i. each y (inr i))

pub any_alike : {A : Type 0} (p q : A → Bool) (xs : List A) → ((x : A) → IsIn xs x → p x ≡ q x) → list_any p xs ≡ list_any q xs
any_alike p q [] each = refl
any_alike p q (x ∷ xs) each = λ i. each x (inl refl) i || any_alike p q xs (λ y k. each y (inr k)) i

pub not_true : (b : Bool) → not b ≡ true → b ≡ false
not_true true e = absurd (true≢false (sym e))
not_true false e = refl

or_assoc : (a b c : Bool) → (a || (b || c)) ≡ ((a || b) || c)
or_assoc true b c = refl
or_assoc false b c = refl

or_swap : (a b : Bool) → (a || b) ≡ (b || a)
or_swap true true = refl
or_swap true false = refl
or_swap false true = refl
or_swap false false = refl

-- ---- what keeps it

pub needed_is : (t : Datasets) (views : Views) (u : Snap) → is_needed (world_of t) views u ≡ is_kept t views u
needed_is t views u = or_assoc (nat_lt 0 (length u.tags)) (is_viewed views (id_of u)) (has_clone t (id_of u))

-- where nothing keeps it, it has no tag, no view and no clone
pub kept_parts : (t : Datasets) (views : Views) (u : Snap) → is_kept t views u ≡ false → (nat_lt 0 (length u.tags) ≡ false) × (is_viewed views (id_of u) ≡ false) × (has_clone t (id_of u) ≡ false)
kept_parts t views u e =
    let k = or_none (is_held views u) (has_clone t (id_of u)) e in
    let h = or_none (nat_lt 0 (length u.tags)) (is_viewed views (id_of u)) k.0 in
    (h.0, h.1, k.1)

-- a tag or an open view keeps the snapshot of this identity
abbrev pub is_held_at : Datasets → Views → SnapId → Bool
is_held_at t views id = is_viewed views id || option_map_or (λ (p : Name × Snap). nat_lt 0 (length p.1.tags)) (snap_at (world_of t) id) false

-- a snapshot of this name is there
pub named_there : (t : Datasets) (m : Member) (s : Snap) → snap_named (world_of t) m ≡ Some s → (f : FileSystem) × (get t.file_systems m.file_system ≡ Some f) × IsIn f.snaps s
named_there t m s e = by_system (get t.file_systems m.file_system) refl e
  where
    by_system : (x : Option FileSystem) → get t.file_systems m.file_system ≡ x → option_and_then (λ (f : FileSystem). find (λ (u : Snap). same_name u.name m.component) f.snaps) x ≡ Some s
        → (f : FileSystem) × (get t.file_systems m.file_system ≡ Some f) × IsIn f.snaps s
    by_system None at k = absurd (no_value s k)
    by_system (Some f) at k = (f, at, (from_find (λ (u : Snap). same_name u.name m.component) f.snaps s k).0)

-- one that is there is found by its identity
pub found_there : (t : Datasets) (name : Name) (f : FileSystem) (u : Snap) → get t.file_systems name ≡ Some f → IsIn f.snaps u → is_some (snap_in_system t name (id_of u)) ≡ true
found_there t name f u at i =
    ap (λ (x : Option FileSystem). is_some (find is_it (option_map_or (λ (g : FileSystem). g.snaps) x []))) at ∙ by_snap (find is_it f.snaps) refl
  where
    is_it : Snap → Bool
    is_it v = same_id (id_of v) (id_of u)

    by_snap : (y : Option Snap) → find is_it f.snaps ≡ y → is_some (find is_it f.snaps) ≡ true
    by_snap None e = absurd (found_none is_it f.snaps e u i (is_same_id (id_of u) (id_of u) refl))
    by_snap (Some v) e = ap is_some e

-- its file system
pub system_at : (t : Datasets) (name : Name) (u : Snap) → IsIn (snaps_at t.file_systems name) u → (f : FileSystem) × (get t.file_systems name ≡ Some f) × IsIn f.snaps u
system_at t name u i = by_system (get t.file_systems name) refl i
  where
    by_system : (x : Option FileSystem) → get t.file_systems name ≡ x → IsIn (option_map_or (λ (f : FileSystem). f.snaps) x []) u → (f : FileSystem) × (get t.file_systems name ≡ Some f) × IsIn f.snaps u
    by_system None e k = absurd k
    by_system (Some f) e k = (f, e, k)

module _ (t : Datasets) (good : AreFileSystems t.file_systems t.group) (views : Views) where
  -- an identity is one snapshot's
  pub held_at : (name : Name) (f : FileSystem) (u : Snap) → get t.file_systems name ≡ Some f → IsIn f.snaps u → is_held_at t views (id_of u) ≡ is_held views u
  held_at name f u at i =
      ap (λ (x : Option (Name × Snap)). is_viewed views (id_of u) || option_map_or (λ (p : Name × Snap). nat_lt 0 (length p.1.tags)) x false) (snap_is_at (world_of t) t.group good.lines name f u (id_of u) at i refl)
      ∙ or_swap (is_viewed views (id_of u)) (nat_lt 0 (length u.tags))

  -- those of a file system that are later
  pub later_held : (name : Name) (f : FileSystem) → get t.file_systems name ≡ Some f → (group : ℕ)
      → list_any (is_held_at t views) (map id_of (filter (λ (u : Snap). nat_lt group u.group) f.snaps)) ≡ list_any (is_held_after views group) f.snaps
  later_held name f at group =
      any_later (is_held_at t views) group f.snaps
      ∙ any_alike (λ (u : Snap). nat_lt group u.group && is_held_at t views (id_of u)) (is_held_after views group) f.snaps (λ u i. ap (λ b. nat_lt group u.group && b) (held_at name f u at i))

-- ---- the one that nothing needs

module _ (t : Datasets) (views : Views) (id : SnapId) where
  abbrev pub if_due : Name × Snap → Option (Name × Snap)
  if_due p = cond {A = Option (Name × Snap)} (p.1.deferred && not (is_kept t views p.1)) (Some p) None

  pub unneeded_parts : (p : Name × Snap) → unneeded t views id ≡ Some p → (snap_at (world_of t) id ≡ Some p) × (p.1.deferred ≡ true) × (is_kept t views p.1 ≡ false)
  unneeded_parts p e = by_snap (snap_at (world_of t) id) refl e
    where
      by_test : (q : Name × Snap) → snap_at (world_of t) id ≡ Some q → (b : Bool) → (q.1.deferred && not (is_kept t views q.1)) ≡ b → cond {A = Option (Name × Snap)} b (Some q) None ≡ Some p
          → (snap_at (world_of t) id ≡ Some p) × (p.1.deferred ≡ true) × (is_kept t views p.1 ≡ false)
      by_test q a true d k =
          let same : q ≡ p = same_value q p k in
          let parts = and_parts q.1.deferred (not (is_kept t views q.1)) d in (
            a ∙ ap Some same,
            subst (λ (x : Name × Snap). x.1.deferred ≡ true) same parts.0,
            subst (λ (x : Name × Snap). is_kept t views x.1 ≡ false) same (not_true (is_kept t views q.1) parts.1),
          )
      by_test q a false d k = absurd (no_value p k)

      by_snap : (x : Option (Name × Snap)) → snap_at (world_of t) id ≡ x → option_and_then (λ (q : Name × Snap). cond {A = Option (Name × Snap)} (q.1.deferred && not (is_kept t views q.1)) (Some q) None) x ≡ Some p
          → (snap_at (world_of t) id ≡ Some p) × (p.1.deferred ≡ true) × (is_kept t views p.1 ≡ false)
      by_snap None a k = absurd (no_value p k)
      by_snap (Some q) a k = by_test q a (q.1.deferred && not (is_kept t views q.1)) refl k

  -- a view or a clone needs it
  pub needed_stays : (is_viewed views id || has_clone t id) ≡ true → unneeded t views id ≡ None
  needed_stays e = by_snap (snap_at (world_of t) id) refl
    where
      wanted : (a b c : Bool) → (b || c) ≡ true → ((a || b) || c) ≡ true
      wanted true b c h = refl
      wanted false b c h = h

      none : (d : Bool) (p : Name × Snap) → cond {A = Option (Name × Snap)} (d && false) (Some p) None ≡ None
      none true p = refl
      none false p = refl

      by_snap : (x : Option (Name × Snap)) → snap_at (world_of t) id ≡ x → unneeded t views id ≡ None
      by_snap None k = ap (option_and_then if_due) k
      by_snap (Some p) k =
          ap (option_and_then if_due) k
          ∙ ap (λ b. cond {A = Option (Name × Snap)} (p.1.deferred && not b) (Some p) None)
          (wanted (nat_lt 0 (length p.1.tags)) (is_viewed views (id_of p.1)) (has_clone t (id_of p.1)) (ap (λ j. is_viewed views j || has_clone t j) (from_snap_at (world_of t) id p k).3 ∙ e))
          ∙ none p.1.deferred p

  -- and nothing else does
  pub unneeded_found : (p : Name × Snap) → Some p ≡ snap_at (world_of t) id → is_viewed views id ≡ false → has_clone t id ≡ false → p.1.deferred ≡ true → nat_lt 0 (length p.1.tags) ≡ false
      → unneeded t views id ≡ Some p
  unneeded_found p found v c d h =
      let ids = (from_snap_at (world_of t) id p (sym found)).3 in
      ap (option_and_then if_due) (sym found)
      ∙ (λ j. cond {A = Option (Name × Snap)} (d j && not ((h j || (ap (is_viewed views) ids ∙ v) j) || (ap (has_clone t) ids ∙ c) j)) (Some p) None)

-- Why the destroy of a file system is refused, and what holds where it isn't.
use Rattle.std.proofs.Common.{◌≡◌, ℕ, Bool, true, false, cond, not, ◌&&◌, ◌||◌, List, [], ◌∷◌, ◌++◌, Option, Some, None, refl, sym, ap, ◌∙◌, true≢false, map, length, inl, inr, subst, arith}
use Rattle.std.specs.Prelude.{nat_lt, is_some}
use Rattle.std.specs.List.{filter, flat_map, list_any}
use Rattle.std.specs.Option.{option_map_or}
use Rattle.std.specs.FinMap.{get, keys, entries}
use Rattle.std.proofs.lemmas.Bool.{lt-ltb}
use Rattle.base.specs.Surveys.{IsIn}
use Rattle.base.specs.declared.refusal.Refusal.{Refusal}
use Rattle.base.specs.declared.refusal.Refusal.TheVariants.{NoDataset, NotSnapshot, Busy, HasClones, HasChildren, IsRoot}
use Rattle.model.specs.declared.destroy_target.DestroyTarget.TheVariants.{FileSystem as SystemGoes}
use Rattle.base.specs.Names.{root_name, same_name, parent_of}
use Rattle.model.specs.World.{FileSystem, Snap, SnapId, id_of, children_of, family_of}
use Rattle.model.specs.State.{Views}
use Rattle.model.specs.requests.Destroy.{file_systems_named, snaps_within}
use Rattle.model.specs.requests.Rollback.{has_clone_outside}
use Rattle.datasets.specs.Rows.{Entry}
use Rattle.world.specs.Shapes.{name_order}
use Rattle.world.specs.Tables.{Datasets, CanRemoveFileSystem, world_of}
use Rattle.world.specs.Worlds.{AreFileSystems}
use Rattle.world.proofs.lineage.Bridge.{start, rising, rising_above, from_entries}
use Rattle.model.specs.Hierarchy.{is_in_family}
use Rattle.world.proofs.lists.Maps.{some_of, entry_of, at_entry}
use Rattle.world.proofs.lists.Listed.{map_in}
use Rattle.world.proofs.lists.Finding.{in_filter, filter_all, name_itself}
use Rattle.world.proofs.steps.States.{positive}
use Rattle.removals.specs.Needs.{is_held_after}
use Rattle.removals.specs.Families.{family_refusal, is_outside_clone, AreClonesInside}
use Rattle.removals.specs.Requests.{destroy_refusal}
use Rattle.removals.proofs.Needed.{is_held_at, later_held}
use Rattle.removals.proofs.Outside.{cloned_outside, clones_inside}
use Rattle.std.proofs.lemmas.List.Folds.{list_any-append}
use Rattle.removals.proofs.SystemsGone.{in_entries}

-- by the tests of a file system that is there
abbrev pub refusal_with : Bool → Bool → Bool → Bool → ℕ → Option Refusal → Option Refusal
refusal_with root recursive defer children snaps family =
    cond root (Some IsRoot) (cond defer (Some NotSnapshot) (cond recursive family (cond (children || nat_lt 0 snaps) (Some HasChildren) None)))

-- the last of them, and none
pub of_family : (root recursive defer children : Bool) (snaps : ℕ) (family : Option Refusal) → root ≡ false → defer ≡ false → recursive ≡ true → refusal_with root recursive defer children snaps family ≡ family
of_family root recursive defer children snaps family a b c = λ i. refusal_with (a i) (c i) (b i) children snaps family

pub is_free : (root recursive defer children : Bool) (snaps : ℕ) (family : Option Refusal) → root ≡ false → defer ≡ false → recursive ≡ false → (children || nat_lt 0 snaps) ≡ false
    → refusal_with root recursive defer children snaps family ≡ None
is_free root recursive defer children snaps family a b c d = λ i. cond {A = Option Refusal} (a i) (Some IsRoot) (cond (b i) (Some NotSnapshot) (cond (c i) family (cond (d i) (Some HasChildren) None)))

abbrev has_children : Datasets → List ℕ → Bool
has_children t name = nat_lt 0 (length (children_of (world_of t) name))

-- a tag or an open view keeps a snapshot of the family
abbrev pub family_held : Datasets → Views → List ℕ → Bool
family_held t views name = list_any (λ (r : Entry). is_in_family name r.0 && list_any (is_held_after views 0) r.1.snaps) (entries t.file_systems)

-- the identities of the snapshots of a file system of this name
abbrev ids_at : Datasets → List ℕ → List SnapId
ids_at t n = option_map_or (λ (f : FileSystem). map {A = Snap} id_of f.snaps) (get t.file_systems n) []

module _ (t : Datasets) (good : AreFileSystems t.file_systems t.group) (views : Views) where
  -- all snapshots are of a later group than 0
  all_later : (n : List ℕ) (f : FileSystem) → get t.file_systems n ≡ Some f → list_any (is_held_at t views) (map {A = Snap} id_of f.snaps) ≡ list_any (is_held_after views 0) f.snaps
  all_later n f at =
      ap (λ l. list_any (is_held_at t views) (map {A = Snap} id_of l)) (sym (filter_all (λ (s : Snap). nat_lt 0 s.group) f.snaps (λ u i.
      let l = rising_above (start t.file_systems t.group good.lines n f at).base f.snaps u (rising t.file_systems t.group good.lines n f at) i in
      lt-ltb 0 u.group (omega (arith, l)))))
      ∙ later_held t good views n f at 0

  any_within : (p : List ℕ → Bool) (rows : List Entry) → ((r : Entry) → IsIn rows r → get t.file_systems r.0 ≡ Some r.1)
      → list_any (is_held_at t views) (flat_map (ids_at t) (filter p (map (λ (r : Entry). r.0) rows))) ≡ list_any (λ (r : Entry). p r.0 && list_any (is_held_after views 0) r.1.snaps) rows
  any_within p [] each = refl
  any_within p (r ∷ rows) each = by_test (p r.0) (any_within p rows (λ x i. each x (inr i)))
    where
      by_test : (b : Bool) → list_any (is_held_at t views) (flat_map (ids_at t) (filter p (map (λ (r : Entry). r.0) rows))) ≡ list_any (λ (r : Entry). p r.0 && list_any (is_held_after views 0) r.1.snaps) rows
          → list_any (is_held_at t views) (flat_map (ids_at t) (cond b (r.0 ∷ filter p (map (λ (r : Entry). r.0) rows)) (filter p (map (λ (r : Entry). r.0) rows))))
          ≡ ((b && list_any (is_held_after views 0) r.1.snaps) || list_any (λ (r : Entry). p r.0 && list_any (is_held_after views 0) r.1.snaps) rows)
      by_test true ih =
          list_any-append (is_held_at t views) (ids_at t r.0) (flat_map (ids_at t) (filter p (map (λ (r : Entry). r.0) rows)))
          ∙ (λ i. (ap (λ x. list_any (is_held_at t views) (option_map_or (λ (f : FileSystem). map {A = Snap} id_of f.snaps) x [])) (each r (inl refl)) ∙ all_later r.0 r.1 (each r (inl refl))) i || ih i)
      by_test false ih = ih

  -- those of a family
  family_is : (name : List ℕ) → list_any (is_held_at t views) (snaps_within (world_of t) (family_of (world_of t) name)) ≡ family_held t views name
  family_is name = any_within (is_in_family name) (entries t.file_systems) (λ r i. at_entry name_order t.file_systems r.0 r.1 (from_entries (entries t.file_systems) r i))

module _ (t : Datasets) (views : Views) (name : List ℕ) (recursive defer : Bool) where
  abbrev going : List (List ℕ)
  going = file_systems_named (world_of t) name recursive

  -- whether one of the snapshots that go is kept, or has a clone outside
  abbrev held_of : Option FileSystem → Option Refusal
  held_of x = cond {A = Option Refusal} (not (is_some x)) (Some NoDataset) (cond (same_name name root_name) (Some IsRoot) (cond defer (Some NotSnapshot)
      (cond (not recursive && (has_children t name || nat_lt 0 (length (option_map_or (λ (f : FileSystem). map {A = Snap} id_of f.snaps) x [] ++ [])))) (Some HasChildren)
      (cond (list_any (is_held_at t views) (snaps_within (world_of t) going)) (Some Busy)
      (cond (has_clone_outside (world_of t) going (snaps_within (world_of t) going)) (Some HasClones) None)))))

  pub refused_gone : get t.file_systems name ≡ None → destroy_refusal t views (SystemGoes name) recursive defer ≡ Some NoDataset
  refused_gone at = ap held_of at

module _ (t : Datasets) (good : AreFileSystems t.file_systems t.group) (views : Views) (name : List ℕ) (defer : Bool) (f : FileSystem) (at : get t.file_systems name ≡ Some f) where
  -- of one alone
  abbrev busy : Bool
  busy = list_any (is_held_at t views) (snaps_within (world_of t) (name ∷ []))

  abbrev cloned : Bool
  cloned = has_clone_outside (world_of t) (name ∷ []) (snaps_within (world_of t) (name ∷ []))

  pub refused_there : (recursive : Bool) → destroy_refusal t views (SystemGoes name) recursive defer
      ≡ refusal_with (same_name name root_name) recursive defer (nat_lt 0 (length (children_of (world_of t) name))) (length f.snaps) (family_refusal t views name)
  refused_there true = ap (held_of t views name true defer) at
      ∙ (λ i. cond {A = Option Refusal} (same_name name root_name) (Some IsRoot) (cond defer (Some NotSnapshot)
      (cond (family_is t good views name i) (Some Busy) (cond (cloned_outside t good name i) (Some HasClones) None))))
  refused_there false = ap (held_of t views name false defer) at
      ∙ ap (λ (r : Option Refusal). cond {A = Option Refusal} (same_name name root_name) (Some IsRoot) (cond defer (Some NotSnapshot) r))
      (by_count f.snaps refl (has_children t name))
    where
      none_held : f.snaps ≡ [] → busy ≡ false
      none_held e = ap (λ x. list_any (is_held_at t views) (option_map_or (λ (g : FileSystem). map {A = Snap} id_of g.snaps) x [] ++ [])) at ∙ ap (λ l. list_any (is_held_at t views) (map {A = Snap} id_of l ++ [])) e

      none_cloned : f.snaps ≡ [] → cloned ≡ false
      none_cloned e = ap (λ x. has_clone_outside (world_of t) (name ∷ []) (option_map_or (λ (g : FileSystem). map {A = Snap} id_of g.snaps) x [] ++ [])) at
          ∙ ap (λ l. has_clone_outside (world_of t) (name ∷ []) (map {A = Snap} id_of l ++ [])) e

      by_count : (l : List Snap) → f.snaps ≡ l → (children : Bool)
          → cond {A = Option Refusal} (children || nat_lt 0 (length (map {A = Snap} id_of f.snaps ++ []))) (Some HasChildren) (cond busy (Some Busy) (cond cloned (Some HasClones) None))
          ≡ cond {A = Option Refusal} (children || nat_lt 0 (length f.snaps)) (Some HasChildren) None
      by_count l e true = refl
      by_count [] e false =
          (λ i. cond {A = Option Refusal} (nat_lt 0 (length (map {A = Snap} id_of (e i) ++ []))) (Some HasChildren) (cond (none_held e i) (Some Busy) (cond (none_cloned e i) (Some HasClones) None)))
          ∙ sym (ap (λ (l : List Snap). cond {A = Option Refusal} (nat_lt 0 (length l)) (Some HasChildren) None) e)
      by_count (u ∷ us) e false =
          ap (λ (l : List Snap). cond {A = Option Refusal} (nat_lt 0 (length (map {A = Snap} id_of l ++ []))) (Some HasChildren) (cond busy (Some Busy) (cond cloned (Some HasClones) None))) e
          ∙ ap (λ b. cond {A = Option Refusal} b (Some HasChildren) (cond busy (Some Busy) (cond cloned (Some HasClones) None))) (lt-ltb 0 (length (id_of u ∷ (map {A = Snap} id_of us ++ []))) (omega arith))
          ∙ sym (ap (λ b. cond {A = Option Refusal} b (Some HasChildren) None) (lt-ltb 0 (length (u ∷ us)) (omega arith)))
          ∙ sym (ap (λ (l : List Snap). cond {A = Option Refusal} (nat_lt 0 (length l)) (Some HasChildren) None) e)

none_in : {A : Type 0} (xs : List A) → nat_lt 0 (length xs) ≡ false → xs ≡ []
none_in [] e = refl
none_in (x ∷ xs) e = absurd (true≢false (sym (lt-ltb 0 (length (x ∷ xs)) (omega arith)) ∙ e))

no_refusal : (e : Refusal) → ◌≡◌ {A = Option Refusal} (Some e) None → ⊥
no_refusal e k = cc

or_left : (a b : Bool) → (a || b) ≡ false → a ≡ false
or_left true b e = e
or_left false b e = refl

or_right : (a b : Bool) → (a || b) ≡ false → b ≡ false
or_right true b e = absurd (true≢false e)
or_right false b e = e

pub other_name : (name : List ℕ) → same_name name root_name ≡ false → ¬ (root_name ≡ name)
other_name name other e = true≢false (sym (ap (same_name name) e ∙ name_itself name) ∙ other)

-- where the destroy of one isn't refused, it isn't the root; and without its descendants it may be removed
module _ (t : Datasets) (good : AreFileSystems t.file_systems t.group) (views : Views) (name : List ℕ) (recursive defer : Bool)
    (none : destroy_refusal t views (SystemGoes name) recursive defer ≡ None) where
  pub root_stays : same_name name root_name ≡ false
  root_stays = by_system (get t.file_systems name) refl
    where
      by_root : (b : Bool) (f : FileSystem) → refusal_with b recursive defer (nat_lt 0 (length (children_of (world_of t) name))) (length f.snaps) (family_refusal t views name) ≡ None → b ≡ false
      by_root true f e = absurd (no_refusal IsRoot e)
      by_root false f e = refl

      by_system : (x : Option FileSystem) → get t.file_systems name ≡ x → same_name name root_name ≡ false
      by_system None at = absurd (no_refusal NoDataset (sym (refused_gone t views name recursive defer at) ∙ none))
      by_system (Some f) at = by_root (same_name name root_name) f (sym (refused_there t good views name defer f at recursive) ∙ none)

  pub not_root : ¬ (name ≡ root_name)
  not_root e = other_name name root_stays (sym e)

  -- with -r each clone is inside
  pub inside : recursive ≡ true → AreClonesInside t name
  inside all = by_system (get t.file_systems name) refl
    where
      by_tests : (root d held outside : Bool) (children : Bool) (snaps : ℕ)
          → refusal_with root true d children snaps (cond {A = Option Refusal} held (Some Busy) (cond outside (Some HasClones) None)) ≡ None → outside ≡ false
      by_tests true d held outside children snaps e = absurd (no_refusal IsRoot e)
      by_tests false true held outside children snaps e = absurd (no_refusal NotSnapshot e)
      by_tests false false true outside children snaps e = absurd (no_refusal Busy e)
      by_tests false false false true children snaps e = absurd (no_refusal HasClones e)
      by_tests false false false false children snaps e = refl

      by_system : (x : Option FileSystem) → get t.file_systems name ≡ x → AreClonesInside t name
      by_system None at = absurd (no_refusal NoDataset (sym (refused_gone t views name recursive defer at) ∙ none))
      by_system (Some f) at = clones_inside t good name (by_tests (same_name name root_name) defer (family_held t views name) (list_any (is_outside_clone t name) (entries t.file_systems))
          (has_children t name) (length f.snaps)
          (sym (refused_there t good views name defer f at true) ∙ subst (λ b. destroy_refusal t views (SystemGoes name) b defer ≡ None) all none))

  pub may_remove : recursive ≡ false → CanRemoveFileSystem t name
  may_remove single = by_system (get t.file_systems name) refl
    where
      bare_of : (root d : Bool) (f : FileSystem) → refusal_with root false d (has_children t name) (length f.snaps) (family_refusal t views name) ≡ None → (has_children t name || nat_lt 0 (length f.snaps)) ≡ false
      bare_of true d f e = absurd (no_refusal IsRoot e)
      bare_of false true f e = absurd (no_refusal NotSnapshot e)
      bare_of false false f e = by_test (has_children t name || nat_lt 0 (length f.snaps)) e
        where
          by_test : (b : Bool) → cond {A = Option Refusal} b (Some HasChildren) None ≡ None → b ≡ false
          by_test true k = absurd (no_refusal HasChildren k)
          by_test false k = refl

      by_system : (x : Option FileSystem) → get t.file_systems name ≡ x → CanRemoveFileSystem t name
      by_system None at = absurd (no_refusal NoDataset (sym (refused_gone t views name recursive defer at) ∙ none))
      by_system (Some f) at =
          let free = bare_of (same_name name root_name) defer f (sym (refused_there t good views name defer f at false) ∙ subst (λ b. destroy_refusal t views (SystemGoes name) b defer ≡ None) single none) in
          record {
            system = f;
            there = at;
            bare = none_in f.snaps (or_right (has_children t name) (nat_lt 0 (length f.snaps)) free);
            not_root = other_name name root_stays;
            childless = λ q p some parent. let s = some_of (get t.file_systems q) some in
                let child : option_map_or (same_name name) (parent_of q) false ≡ true = ap (λ (y : Option (List ℕ)). option_map_or (same_name name) y false) (p.named ∙ ap Some parent) ∙ name_itself name in
                true≢false (sym (positive (children_of (world_of t) name) q
                (in_filter (λ n. option_map_or (same_name name) (parent_of n) false) (keys t.file_systems) q
                (map_in (λ (r : Entry). r.0) (entries t.file_systems) (q, s.0) (in_entries (entries t.file_systems) q s.0 (entry_of name_order t.file_systems q s.0 s.1)))
                child)) ∙ or_left (has_children t name) (nat_lt 0 (length f.snaps)) free);
          }

-- Why a rename is refused.
use Rattle.std.proofs.Common.{◌≡◌, ◌||◌, List, [], ◌∷◌, Bool, true, false, cond, Option, Some, None, refl, sym, ap, ◌∙◌, true≢false, ◌⊎◌, inl, inr, Bor}
use Rattle.std.specs.Prelude.{is_some, not}
use Rattle.std.specs.Option.{option_map, option_copied}
use Rattle.std.specs.List.{list_any}
use Rattle.std.specs.FinMap.{get, entries, keys, contains_key}
use Rattle.base.specs.declared.refusal.Refusal.{Refusal}
use Rattle.base.specs.declared.refusal.Refusal.TheVariants.{NoDataset, IsRoot, Exists, NoParent, BadName}
use Rattle.base.specs.Names.{same_name, is_descendant, root_name}
use Rattle.base.specs.Surveys.{IsIn}
use Rattle.model.specs.World.{FileSystem}
use Rattle.model.specs.Hierarchy.{has_parent, is_in_family}
use Rattle.model.specs.Rule.{first_of}
use Rattle.model.specs.requests.Rename.{has_long_renamed}
use Rattle.world.specs.Shapes.{Name, name_order}
use Rattle.world.specs.Worlds.{AreFileSystems}
use Rattle.world.specs.Tables.{Datasets, world_of}
use Rattle.world.proofs.changes.Renames.{family_free}
use Rattle.world.proofs.lineage.Bridge.{in_entries, from_entries}
use Rattle.world.proofs.lists.Finding.{name_itself, one_name}
use Rattle.world.proofs.lists.Listed.{in_map, map_in}
use Rattle.world.proofs.lists.Maps.{at_entry, entry_of}
use Rattle.datasets.specs.Renames.{rename_refusal}

-- ---- whether one of some names passes a test

any_of : (p : Name → Bool) (ns : List Name) (n : Name) → IsIn ns n → p n ≡ true → list_any p ns ≡ true
any_of p [] n h e = absurd h
any_of p (x ∷ ns) n h e = by_place (λ k. any_of p ns n k e) (p x) refl h
  where
    by_place : (IsIn ns n → list_any p ns ≡ true) → (b : Bool) → p x ≡ b → (n ≡ x) ⊎ IsIn ns n → (b || list_any p ns) ≡ true
    by_place rest true t k = refl
    by_place rest false t (inl is) = absurd (true≢false (sym e ∙ ap p is ∙ t))
    by_place rest false t (inr k) = rest k

none_of : (p : Name → Bool) (ns : List Name) → ((n : Name) → IsIn ns n → p n ≡ false) → list_any p ns ≡ false
none_of p [] h = refl
none_of p (x ∷ ns) h = λ i. h x (inl refl) i || none_of p ns (λ n k. h n (inr k)) i

-- ---- what was found

pub found_there : {A B : Type 0} (r : Option (Bor A)) (f : B → A) (x : Option B) → option_copied r ≡ option_map f x → is_some x ≡ is_some r
found_there {A = A} {B = B} r f x e = sym (mapped x) ∙ ap is_some (sym e) ∙ copied r
  where
    mapped : (x : Option B) → is_some (option_map f x) ≡ is_some x
    mapped None = refl
    mapped (Some b) = refl

    copied : (r : Option (Bor A)) → is_some (option_copied r) ≡ is_some r
    copied None = refl
    copied (Some a) = refl

-- ---- the rows

module _ (t : Datasets) (good : AreFileSystems t.file_systems t.group) (from to : Name) where
  -- a file system of the new family is there just where one of the new name is
  taken_is : list_any (is_in_family to) (keys t.file_systems) ≡ contains_key t.file_systems to
  taken_is = at (get t.file_systems to) refl
    where
      at : (o : Option FileSystem) → get t.file_systems to ≡ o → list_any (is_in_family to) (keys t.file_systems) ≡ is_some o
      at (Some f) e = any_of (is_in_family to) (keys t.file_systems) to
          (map_in (λ (e : Name × FileSystem). e.0) (entries t.file_systems) (to, f) (in_entries (entries t.file_systems) to f (entry_of name_order t.file_systems to f e)))
          (ap (λ b. b || is_descendant to to) (name_itself to))
      at None e = none_of (is_in_family to) (keys t.file_systems) (λ n h.
          let k = in_map (λ (e : Name × FileSystem). e.0) (entries t.file_systems) n h in
          ap (is_in_family to) k.2
          ∙ family_free t.file_systems good.hierarchy to e k.0.0 k.0.1 (at_entry name_order t.file_systems k.0.0 k.0.1 (from_entries (entries t.file_systems) k.0 k.1)))

  abbrev by_row : Bool → Bool → Bool → Bool → Bool → Option Refusal
  by_row here root taken parent long = first_of ((not here, NoDataset) ∷ (root, IsRoot) ∷ (taken, Exists) ∷ (not parent, NoParent) ∷ (long, BadName) ∷ [])

  abbrev here_row : Bool → Option Refusal
  here_row here = by_row here (same_name from root_name) (list_any (is_in_family to) (keys t.file_systems)) (has_parent t.file_systems to) (is_descendant from to || has_long_renamed (world_of t) from to)

  pub refused_absent : contains_key t.file_systems from ≡ false → rename_refusal t from to ≡ Some NoDataset
  refused_absent none = ap here_row none

  module _ (here : contains_key t.file_systems from ≡ true) where
    abbrev root_row : Bool → Option Refusal
    root_row root = by_row true root (list_any (is_in_family to) (keys t.file_systems)) (has_parent t.file_systems to) (is_descendant from to || has_long_renamed (world_of t) from to)

    pub refused_root : same_name from root_name ≡ true → rename_refusal t from to ≡ Some IsRoot
    refused_root is = ap here_row here ∙ ap root_row is

    module _ (below : same_name from root_name ≡ false) where
      abbrev taken_row : Bool → Option Refusal
      taken_row taken = by_row true false taken (has_parent t.file_systems to) (is_descendant from to || has_long_renamed (world_of t) from to)

      not_root : rename_refusal t from to ≡ taken_row (contains_key t.file_systems to)
      not_root = ap here_row here ∙ ap root_row below ∙ ap taken_row taken_is

      pub refused_taken : contains_key t.file_systems to ≡ true → rename_refusal t from to ≡ Some Exists
      refused_taken is = not_root ∙ ap taken_row is

      module _ (free : contains_key t.file_systems to ≡ false) where
        pub refused_orphan : has_parent t.file_systems to ≡ false → rename_refusal t from to ≡ Some NoParent
        refused_orphan none = not_root ∙ ap taken_row free ∙ ap (λ p. by_row true false false p (is_descendant from to || has_long_renamed (world_of t) from to)) none

        -- the two names differ
        other : same_name to from ≡ false
        other = by_test (same_name to from) refl
          where
            by_test : (b : Bool) → same_name to from ≡ b → same_name to from ≡ false
            by_test true e = absurd (true≢false (sym here ∙ ap (contains_key t.file_systems) (sym (one_name to from e)) ∙ free))
            by_test false e = e

        module _ (parent : has_parent t.file_systems to ≡ true) where
          last : rename_refusal t from to ≡ cond (is_in_family from to || has_long_renamed (world_of t) from to) (Some BadName) None
          last =
              not_root ∙ ap taken_row free
              ∙ ap (λ p. by_row true false false p (is_descendant from to || has_long_renamed (world_of t) from to)) parent
              ∙ ap (λ b. by_row true false false true ((b || is_descendant from to) || has_long_renamed (world_of t) from to)) (sym other)

          pub refused_below : is_in_family from to ≡ true → rename_refusal t from to ≡ Some BadName
          refused_below is = last ∙ ap (λ b. cond (b || has_long_renamed (world_of t) from to) (Some BadName) None) is

          pub by_length : is_in_family from to ≡ false → rename_refusal t from to ≡ cond (has_long_renamed (world_of t) from to) (Some BadName) None
          by_length is = last ∙ ap (λ b. cond (b || has_long_renamed (world_of t) from to) (Some BadName) None) is

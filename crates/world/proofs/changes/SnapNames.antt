-- Snapshots under another name.
use Rattle.std.proofs.Common.{◌≡◌, ℕ, Bool, true, false, cond, List, ◌∷◌, Option, Some, None, refl, sym, ap, subst, ◌∙◌, inl, inr, ⊎_elim, map, arith}
use Rattle.std.specs.Prelude.{IsTrue, is_some, if◌then◌else◌}
use Rattle.std.specs.Option.{option_map, option_map_or}
use Rattle.std.specs.FinMap.{get, entries, len-entries}
use Rattle.std.proofs.lemmas.Bool.{and_parts}
use Rattle.base.specs.Map.{blocks}
use Rattle.base.specs.Names.{root_name, same_name, parent_of}
use Rattle.base.specs.Surveys.{IsIn}
use Rattle.base.specs.declared.name.member.Member.{Member}
use Rattle.model.specs.World.{World, FileSystem, Snap, id_of, maps_of, union_of}
use Rattle.model.specs.Hierarchy.{IsHierarchy, has_parent, is_in_family}
use Rattle.model.specs.requests.RenameSnapshot.{is_renamed, with_snaps_renamed}
use Rattle.world.specs.Blocks.{block_order as o}
use Rattle.world.specs.Shapes.{Name, Shape, IsGood}
use Rattle.world.specs.Worlds.{FileSystems, snap_shape, shape_of, shapes, IsTidy, AreFileSystems, IsWorld, ArePaired, AreMapsFrom}
use Rattle.world.proofs.lists.Finding.{one_name}
use Rattle.world.proofs.lists.Listed.{in_map, map_in, length-mapped}
use Rattle.world.proofs.lists.Maps.{same_value, no_value}
use Rattle.world.proofs.lists.SetCounts.{same_members}
use Rattle.world.proofs.changes.Drawn.{union_from}
use Rattle.world.proofs.changes.Kept.{world_same, pair_same}
use Rattle.world.proofs.changes.Renames.{few_entries}
use Rattle.world.proofs.changes.Views.{AreSnapsIn, same_shapes_mapped, same_maps_mapped}
use Rattle.world.proofs.removals.Sweep.{get-with_file_systems}

module _ (m : Member) (to : List ℕ) (recursive : Bool) where
  -- a snapshot after it
  abbrev pub renames : Name → Snap → Snap
  renames n t = cond (is_renamed m recursive n t) (record t { name = to }) t

  -- a file system after it
  abbrev pub with_names : Name → FileSystem → FileSystem
  with_names n f = record f { snaps = map {A = Snap} (renames n) f.snaps }

  by_test : {X : Type 0} (read : Snap → X) → ((t : Snap) → read (record t { name = to }) ≡ read t) → (n : Name) (t : Snap) → read (renames n t) ≡ read t
  by_test read same n t = at (is_renamed m recursive n t)
    where
      at : (b : Bool) → read (cond b (record t { name = to }) t) ≡ read t
      at true = same t
      at false = refl

  -- identities and maps stay
  pub renames_kept : (n : Name) (t : Snap) → (id_of (renames n t) ≡ id_of t) × ((renames n t).map ≡ t.map)
  renames_kept n t = (by_test id_of (λ t. refl) n t, by_test (λ (t : Snap). t.map) (λ t. refl) n t)

  -- it had the old name
  pub named : (n : Name) (t : Snap) → is_renamed m recursive n t ≡ true → t.name ≡ m.component
  named n t e = one_name t.name m.component (and_parts (if recursive then is_in_family m.file_system n else same_name n m.file_system) (same_name t.name m.component) e).1

  names_shape : (n : Name) (f : FileSystem) → shape_of (with_names n f) ≡ shape_of f
  names_shape n f = ap (λ l. record { live = blocks f.live; snapshots = l; origin = f.origin }) (same_shapes_mapped (renames n) (by_test snap_shape (λ t. refl) n) f.snaps)

  names_maps : (n : Name) (f : FileSystem) → maps_of (with_names n f) ≡ maps_of f
  names_maps n f = ap (λ l. f.live ∷ l) (same_maps_mapped (renames n) (by_test (λ (t : Snap). t.map) (λ t. refl) n) f.snaps)

  module _ (w : World) where
    abbrev pub after : FileSystems
    after = (with_snaps_renamed w m to recursive).file_systems

    pub named_at : (n : Name) → get after n ≡ option_map (with_names n) (get w.file_systems n)
    named_at n = get-with_file_systems w with_names n

    -- each file system after it was one before
    pub named_was : (n : Name) (x : FileSystem) → get after n ≡ Some x → (f : FileSystem) × (get w.file_systems n ≡ Some f) × (x ≡ with_names n f)
    named_was n x e = at (get w.file_systems n) refl (sym (named_at n) ∙ e)
      where
        at : (y : Option FileSystem) → get w.file_systems n ≡ y → option_map (with_names n) y ≡ Some x → (f : FileSystem) × (get w.file_systems n ≡ Some f) × (x ≡ with_names n f)
        at None is k = absurd (no_value x k)
        at (Some f) is k = (f, is, sym (same_value (with_names n f) x k))

    pub named_here : (n : Name) (f : FileSystem) → get w.file_systems n ≡ Some f → get after n ≡ Some (with_names n f)
    named_here n f e = named_at n ∙ ap (option_map (with_names n)) e

    -- its maps
    pub named_from : AreMapsFrom w.file_systems after
    named_from n s p e i = let f = named_was n s e in inr (n, f.0, f.1, subst (λ l. IsIn l p) (ap maps_of f.2 ∙ names_maps n f.0) i)

    back_from : AreMapsFrom after w.file_systems
    back_from n s p e i = inr (n, with_names n s, named_here n s e, subst (λ l. IsIn l p) (sym (names_maps n s)) i)

    pub named_there : AreSnapsIn w.file_systems after
    named_there n f t e i = (n, with_names n f, renames n t, named_here n f e, map_in (renames n) f.snaps t i, by_test id_of (λ t. refl) n t)

    same_shapes : (n : Name) → shapes after n ≡ shapes w.file_systems n
    same_shapes n = ap (option_map shape_of) (named_at n) ∙ each (get w.file_systems n)
      where
        each : (y : Option FileSystem) → option_map shape_of (option_map (with_names n) y) ≡ option_map shape_of y
        each None = refl
        each (Some f) = ap Some (names_shape n f)

    there : (n : Name) → is_some (get after n) ≡ is_some (get w.file_systems n)
    there n = ap is_some (named_at n) ∙ each (get w.file_systems n)
      where
        each : (y : Option FileSystem) → is_some (option_map (with_names n) y) ≡ is_some y
        each None = refl
        each (Some f) = refl

    hierarchy : IsHierarchy w.file_systems → IsHierarchy after
    hierarchy h = record {
      root = there root_name ∙ h.root;
      parents = λ n some. ⊎_elim
          (λ is. inl is)
          (λ p. inr (subst IsTrue (sym (above n)) p))
          (h.parents n (sym (there n) ∙ some));
      few =
          let a = few_entries (map (λ (e : Name × FileSystem). (e.0, with_names e.0 e.1)) (entries w.file_systems)) in
          let b = length-mapped {B = Name × FileSystem} (λ (e : Name × FileSystem). (e.0, with_names e.0 e.1)) (entries w.file_systems) in
          let c = len-entries w.file_systems in
          let d = h.few in
          omega (arith, a, b, c, d);
    }
      where
        above : (n : Name) → has_parent after n ≡ has_parent w.file_systems n
        above n = λ i. option_map_or (λ k. there k i) (parent_of n) false

    -- where no file system whose snapshot it renames has one of the new name
    module _ (free : (n : Name) (f : FileSystem) (t u : Snap) → get w.file_systems n ≡ Some f → IsIn f.snaps t → IsIn f.snaps u → is_renamed m recursive n t ≡ true → u.name ≡ to → ⊥) where
      tidy : (g : ℕ) (n : Name) (f : FileSystem) → get w.file_systems n ≡ Some f → IsTidy g f → IsTidy g (with_names n f)
      tidy g n f e k = record {
        names = λ a b h j same.
            let x = in_map (renames n) f.snaps a h in
            let y = in_map (renames n) f.snaps b j in
            x.2 ∙ ap (renames n) (one x.0 y.0 x.1 y.1 (sym (ap (λ (t : Snap). t.name) x.2) ∙ same ∙ ap (λ (t : Snap). t.name) y.2)) ∙ sym y.2;
        bookmarks = k.bookmarks;
      }
        where
          one : (t u : Snap) → IsIn f.snaps t → IsIn f.snaps u → (renames n t).name ≡ (renames n u).name → t ≡ u
          one t u h j same = at (is_renamed m recursive n t) refl (is_renamed m recursive n u) refl same
            where
              at : (b : Bool) → is_renamed m recursive n t ≡ b → (c : Bool) → is_renamed m recursive n u ≡ c → (cond b (record t { name = to }) t).name ≡ (cond c (record u { name = to }) u).name → t ≡ u
              at true p true q is = k.names t u h j (named n t p ∙ sym (named n u q))
              at true p false q is = absurd (free n f t u e h j p (sym is))
              at false p true q is = absurd (free n f u t e j h q is)
              at false p false q is = k.names t u h j is

      pub named_systems : AreFileSystems w.file_systems w.group → AreFileSystems after w.group
      named_systems good = record {
        lines = subst (λ (l : Name → Option Shape). IsGood l w.group) (λ i n. sym (same_shapes n) i) good.lines;
        hierarchy = hierarchy good.hierarchy;
        tidy = λ n x e. let f = named_was n x e in subst (IsTidy w.group) (sym f.2) (tidy w.group n f.0 f.1 (good.tidy n f.0 f.1));
      }

      pub named_union : AreFileSystems w.file_systems w.group → union_of (with_snaps_renamed w m to recursive) ≡ union_of w
      named_union good = same_members o _ _
          (union_from w (with_snaps_renamed w m to recursive) w.group good.lines named_from)
          (union_from (with_snaps_renamed w m to recursive) w w.group (named_systems good).lines back_from)

      pub named_world : (size : ℕ) → IsWorld size w → IsWorld size (with_snaps_renamed w m to recursive)
      named_world size whole = world_same size w (with_snaps_renamed w m to recursive) whole named_from (named_systems whole.systems) refl

      pub named_pairs : (size : ℕ) → IsWorld size w → (last : World) → ArePaired size w last → ArePaired size (with_snaps_renamed w m to recursive) last
      named_pairs size whole last = pair_same size w (with_snaps_renamed w m to recursive) whole named_from last refl (omega arith)

-- One file system is replaced, added or taken away: what is said of names, and of each file system alone.
use Rattle.std.proofs.Common.{◌≡◌, ℕ, ◌+◌, ◌<◌, ◌≤◌, cond, Option, Some, None, refl, sym, ap, subst, ◌∙◌, ◌⊎◌, inl, inr, ⊎_elim, true≢false, true, false, Bool, ◌-◌, arith}
use Rattle.std.specs.Prelude.{IsSome, IsTrue, is_some}
use Rattle.std.specs.Option.{option_map, option_map_or}
use Rattle.std.specs.FinMap.{get, contains_key, insert, remove, len, len-insert, len-remove}
use Rattle.std.specs.FinMap as finmap
use Rattle.base.specs.Names.{root_name, parent_of}
use Rattle.base.specs.Map.{Map}
use Rattle.base.specs.Surveys.{IsIn}
use Rattle.model.specs.World.{FileSystem, maps_of}
use Rattle.world.specs.Shapes.{Name, name_order}
use Rattle.model.specs.Hierarchy.{IsHierarchy, has_parent}
use Rattle.world.specs.Worlds.{FileSystems, shape_of, shapes, HasParent, IsTidy, AreMapsFrom}
use Rattle.world.proofs.lists.Maps.{same_value, no_value, key_cases, get-insert_same, get-insert_other, get-remove_same, get-remove_other}
use Rattle.world.proofs.lineage.Bridge.{shape_at}

-- the parent whose being there the definition tests
pub parent_there : (ss : FileSystems) (name : Name) → IsTrue (has_parent ss name) → HasParent ss name
parent_there ss name e = at (parent_of name) refl e
  where
    at : (p : Option Name) → parent_of name ≡ p → option_map_or (contains_key ss) p false ≡ true → HasParent ss name
    at None h f = absurd (true≢false (sym f))
    at (Some q) h f = record { parent = q; named = h; there = f }

pub is_parent : (ss : FileSystems) (name : Name) → HasParent ss name → IsTrue (has_parent ss name)
is_parent ss name p = ap (λ x. option_map_or (contains_key ss) x false) p.named ∙ p.there

module _ (ss : FileSystems) (name : Name) (t : FileSystem) where
  abbrev pub put : FileSystems
  put = insert ss name t

  pub put_here : get put name ≡ Some t
  put_here = get-insert_same name_order ss name t

  pub put_other : (q : Name) → ¬ (q ≡ name) → get put q ≡ get ss q
  put_other q other = get-insert_other name_order ss name t q other

  pub put_cases : (q : Name) (x : FileSystem) → get put q ≡ Some x → ((q ≡ name) × (x ≡ t)) ⊎ ((¬ (q ≡ name)) × (get ss q ≡ Some x))
  put_cases q x h = ⊎_elim
      (λ is. inl (is, same_value x t (sym h ∙ ap (get put) is ∙ put_here)))
      (λ other. inr (other, sym (put_other q other) ∙ h))
      (key_cases name_order q name)

  pub put_shape : shapes put name ≡ Some (shape_of t)
  put_shape = shape_at put name t put_here

  pub put_shapes : (q : Name) → ¬ (q ≡ name) → shapes put q ≡ shapes ss q
  put_shapes q other = ap (λ x. option_map shape_of x) (put_other q other)

  pub put_there : (q : Name) → IsSome (get ss q) → IsSome (get put q)
  put_there q h = ⊎_elim
      (λ is. subst (λ n. IsSome (get put n)) (sym is) (ap is_some put_here))
      (λ other. ap is_some (put_other q other) ∙ h)
      (key_cases name_order q name)

  pub put_parent : (q : Name) → IsTrue (has_parent ss q) → IsTrue (has_parent put q)
  put_parent q h = let p = parent_there ss q h in is_parent put q (record { parent = p.parent; named = p.named; there = put_there p.parent p.there })

  pub put_tidy : (g : ℕ) → ((q : Name) (x : FileSystem) → get ss q ≡ Some x → IsTidy g x) → IsTidy g t → (q : Name) (x : FileSystem) → get put q ≡ Some x → IsTidy g x
  put_tidy g each own q x h = ⊎_elim (λ k. subst (IsTidy g) (sym k.1) own) (λ k. each q x k.1) (put_cases q x h)

  pub put_maps : ((m : Map) → IsIn (maps_of t) m → (m ≡ finmap.empty) ⊎ ((other : Name) × (u : FileSystem) × (get ss other ≡ Some u) × IsIn (maps_of u) m)) → AreMapsFrom ss put
  put_maps own q x m h k = ⊎_elim
      (λ i. own m (subst (λ y. IsIn (maps_of y) m) i.1 k))
      (λ i. inr (q, x, i.1, k))
      (put_cases q x h)

-- the name is there
module _ (ss : FileSystems) (name : Name) (s t : FileSystem) (at : get ss name ≡ Some s) where
  there_before : (q : Name) → IsSome (get (insert ss name t) q) → IsSome (get ss q)
  there_before q h = ⊎_elim
      (λ is. ap (λ n. is_some (get ss n)) is ∙ ap is_some at)
      (λ other. ap is_some (sym (put_other ss name t q other)) ∙ h)
      (key_cases name_order q name)

  pub put_hierarchy : IsHierarchy ss → IsHierarchy (insert ss name t)
  put_hierarchy h = record {
    root = put_there ss name t root_name h.root;
    parents = λ q k. ⊎_elim (λ is. inl is) (λ p. inr (put_parent ss name t q p)) (h.parents q (there_before q k));
    few =
        let e = len-insert name_order.total ss name t ∙ ap (λ b. cond b (len ss) (len ss + 1)) (ap is_some at) in
        let f = h.few in omega arith;
  }

-- the name is new
module _ (ss : FileSystems) (name : Name) (t : FileSystem) (none : get ss name ≡ None) where
  pub new_hierarchy : IsHierarchy ss → IsTrue (has_parent ss name) → len ss < 1024 → IsHierarchy (insert ss name t)
  new_hierarchy h p room = record {
    root = put_there ss name t root_name h.root;
    parents = λ q k. ⊎_elim
        (λ (is : q ≡ name). inr (put_parent ss name t q (subst (λ n. IsTrue (has_parent ss n)) (sym is) p)))
        (λ (other : ¬ (q ≡ name)). ⊎_elim (λ is. inl is) (λ r. inr (put_parent ss name t q r)) (h.parents q (ap is_some (sym (put_other ss name t q other)) ∙ k)))
        (key_cases name_order q name);
    few =
        let e = len-insert name_order.total ss name t ∙ ap (λ b. cond b (len ss) (len ss + 1)) (ap is_some none) in
        omega arith;
  }

-- a file system is taken away that is no other's parent, nor the root
module _ (ss : FileSystems) (name : Name) where
  pub gone_here : get (remove ss name) name ≡ None
  gone_here = get-remove_same name_order ss name

  pub gone_other : (q : Name) → ¬ (q ≡ name) → get (remove ss name) q ≡ get ss q
  gone_other q other = get-remove_other name_order ss name q other

  pub gone_cases : (q : Name) (x : FileSystem) → get (remove ss name) q ≡ Some x → (¬ (q ≡ name)) × (get ss q ≡ Some x)
  gone_cases q x h = ⊎_elim
      (λ is. absurd (no_value x (sym gone_here ∙ ap (get (remove ss name)) (sym is) ∙ h)))
      (λ other. (other, sym (gone_other q other) ∙ h))
      (key_cases name_order q name)

  pub gone_maps : AreMapsFrom ss (remove ss name)
  gone_maps q x m h k = inr (q, x, (gone_cases q x h).1, k)

  still_there : (q : Name) → ¬ (q ≡ name) → IsSome (get ss q) → IsSome (get (remove ss name) q)
  still_there q other h = ap is_some (gone_other q other) ∙ h

  pub gone_hierarchy : IsHierarchy ss → ¬ (root_name ≡ name) → ((q : Name) (p : HasParent ss q) → IsSome (get ss q) → p.parent ≡ name → ⊥) → IsHierarchy (remove ss name)
  gone_hierarchy h not_root childless = record {
    root = still_there root_name not_root h.root;
    parents = λ q k. ⊎_elim
        (λ (is : q ≡ name). absurd (gone q is k))
        (λ (other : ¬ (q ≡ name)).
        let there = ap is_some (sym (gone_other q other)) ∙ k in
        ⊎_elim (λ is. inl is)
        (λ h. let p = parent_there ss q h in inr (is_parent (remove ss name) q (record { parent = p.parent; named = p.named; there = still_there p.parent (childless q p there) p.there })))
        (h.parents q there))
        (key_cases name_order q name);
    few =
        let e = len-remove name_order.total ss name in
        let f = h.few in fewer _ e f;
  }
    where
      gone : (q : Name) → q ≡ name → IsSome (get (remove ss name) q) → ⊥
      gone q is k = true≢false (sym k ∙ ap is_some (ap (get (remove ss name)) is ∙ gone_here))

      fewer : (b : Bool) → len (remove ss name) ≡ cond b (len ss - 1) (len ss) → len ss ≤ 1024 → len (remove ss name) ≤ 1024
      fewer true e f = omega arith
      fewer false e f = omega arith

-- The clones in the set are the file systems that are clones.
use Rattle.std.proofs.Common.{◌≡◌, ℕ, Bool, true, false, cond, T, ◌&&◌, List, [], ◌∷◌, get_or, set, map, Option, Some, None, is_some, refl, sym, ap, subst, ◌∙◌, ⊎_elim, true≢false}
use Rattle.std.specs.Prelude.{IsTrue}
use Rattle.std.specs.List.{filter}
use Rattle.std.specs.Option.{option_map_or, option_and_then}
use Rattle.std.specs.declared.cmp.Ordering.TheVariants.{Less}
use Rattle.std.specs.Ordering.{is_eq, is_lt, eq_by_cmp, ordering_then}
use Rattle.std.specs.Cmp.{tied_itself}
use Rattle.std.specs.Cmp.Lexicographic.{nat_list_cmp_total}
use Rattle.std.specs.FinMap as finmap
use Rattle.std.specs.FinMap.{get, entries, entries_sorted, contains_key, find, is_sorted, from_sorted, get-from_sorted, get-entries, entries-from_sorted, same_map, insert, remove, get-insert, get-remove, get-empty}
use Rattle.std.specs.FinMap.Entries.{below_all}
use Rattle.base.specs.Names.{name_cmp}
use Rattle.model.specs.World.{FileSystem, SnapId, same_id, empty_file_system}
use Rattle.world.specs.Shapes.{Name, name_order}
use Rattle.world.proofs.lists.Finding.{same_id_is}
use Rattle.world.proofs.lists.Maps.{key_cases, get-insert_same, get-insert_other, get-remove_same, get-remove_other}
use Rattle.datasets.specs.CloneNames.{CloneKey, CloneEntry, CloneSet, id_cmp, key_cmp, with_origin, without_origin, promoted_set, names_in, clones_in, IsListed}
use Rattle.datasets.specs.Clones.{origin_at}
use Rattle.datasets.specs.Places.{IsAt}
use Rattle.file_system.specs.Rows.{Entry, FileSystems}
use Rattle.datasets.proofs.CloneKeys.{id_total, key_order, keys_tie}
use Rattle.datasets.proofs.RowGone.{T_both, none_below}
use Rattle.datasets.proofs.Rows.{placed_is, got, fresh_is}
use Rattle.snapshots.proofs.Sorted.{T_left, T_right, less_from, equal_from}

-- ---- names in order

abbrev units : List Name → List (Name × Unit {0})
units ns = map (λ n. (n, tt)) ns

alone : (ns : List Name) → map (λ (e : Name × Unit {0}). e.0) (units ns) ≡ ns
alone [] = refl
alone (n ∷ ns) = ap (λ l. n ∷ l) (alone ns)

same_some : (x y : Option (Unit {0})) → is_some x ≡ is_some y → x ≡ y
same_some None None e = refl
same_some None (Some u) e = absurd (true≢false (sym e))
same_some (Some u) None e = absurd (true≢false e)
same_some (Some u) (Some v) e = refl

-- those in which the same is found are the same
same_names : (xs ys : List Name) → T (is_sorted name_cmp (units xs)) → T (is_sorted name_cmp (units ys))
    → ((q : Name) → is_some (find name_cmp q (units xs)) ≡ is_some (find name_cmp q (units ys))) → xs ≡ ys
same_names xs ys h k same =
    let maps : from_sorted {X = Unit {0}} {R = name_cmp} (units xs) ≡ from_sorted (units ys) =
    same_map name_order.total name_order.exact _ _ (λ q. get-from_sorted name_cmp (units xs) q h ∙ same_some _ _ (same q) ∙ sym (get-from_sorted name_cmp (units ys) q k)) in
    sym (alone xs) ∙ ap (map (λ (e : Name × Unit {0}). e.0)) (sym (entries-from_sorted name_cmp (units xs) h) ∙ ap (λ m. entries m) maps ∙ entries-from_sorted name_cmp (units ys) k) ∙ alone ys

-- ---- the names of the clones of one origin, in the set

name_below : (k e : CloneKey) → k.0 ≡ e.0 → key_cmp k e ≡ Less → name_cmp k.1 e.1 ≡ Less
name_below k e same less = sym (ap (λ r. ordering_then r (name_cmp k.1 e.1)) (ap (λ x. id_cmp x e.0) same ∙ tied_itself id_total e.0)) ∙ less

module _ (id : SnapId) where
  names_below : (k : CloneKey) (es : List CloneEntry) → k.0 ≡ id → T (below_all key_cmp k es) → T (below_all name_cmp k.1 (units (names_in id es)))
  names_below k [] is h = tt
  names_below k (e ∷ es) is h = by (same_id id e.0.0) refl (names_below k es is (T_right (is_lt (key_cmp k e.0)) (below_all key_cmp k es) h))
    where
      by : (b : Bool) → same_id id e.0.0 ≡ b → T (below_all name_cmp k.1 (units (names_in id es)))
          → T (below_all name_cmp k.1 (units (map (λ (x : CloneEntry). x.0.1) (cond b (e ∷ filter (λ (x : CloneEntry). same_id id x.0.0) es) (filter (λ (x : CloneEntry). same_id id x.0.0) es)))))
      by true s rest =
          let less = name_below k e.0 (is ∙ same_id_is id e.0.0 s) (less_from (key_cmp k e.0) (T_left (is_lt (key_cmp k e.0)) (below_all key_cmp k es) h)) in
          T_both (is_lt (name_cmp k.1 e.0.1)) (below_all name_cmp k.1 (units (names_in id es))) (subst (λ r. T (is_lt r)) (sym less) tt) rest
      by false s rest = rest

  names_sorted : (es : List CloneEntry) → T (is_sorted key_cmp es) → T (is_sorted name_cmp (units (names_in id es)))
  names_sorted [] h = tt
  names_sorted (e ∷ es) h = by (same_id id e.0.0) refl (names_sorted es (T_right (below_all key_cmp e.0 es) (is_sorted key_cmp es) h))
    where
      by : (b : Bool) → same_id id e.0.0 ≡ b → T (is_sorted name_cmp (units (names_in id es)))
          → T (is_sorted name_cmp (units (map (λ (x : CloneEntry). x.0.1) (cond b (e ∷ filter (λ (x : CloneEntry). same_id id x.0.0) es) (filter (λ (x : CloneEntry). same_id id x.0.0) es)))))
      by true s rest =
          T_both (below_all name_cmp e.0.1 (units (names_in id es))) (is_sorted name_cmp (units (names_in id es)))
          (names_below e.0 es (sym (same_id_is id e.0.0 s)) (T_left (below_all key_cmp e.0 es) (is_sorted key_cmp es) h)) rest
      by false s rest = rest

  name_found : (q : Name) (es : List CloneEntry) → is_some (find name_cmp q (units (names_in id es))) ≡ is_some (find key_cmp (id, q) es)
  name_found q [] = refl
  name_found q (e ∷ es) =
      by (same_id id e.0.0) (is_eq (name_cmp q e.0.1)) (name_found q es)
      ∙ sym (ap (λ b. is_some (cond b (Some e.1) (find key_cmp (id, q) es))) (keys_tie id e.0.0 q e.0.1))
    where
      -- by whether it has the origin, and whether it has the name
      by : (b c : Bool) → is_some (find name_cmp q (units (names_in id es))) ≡ is_some (find key_cmp (id, q) es)
          → is_some (find name_cmp q (units (map (λ (x : CloneEntry). x.0.1) (cond b (e ∷ filter (λ (x : CloneEntry). same_id id x.0.0) es) (filter (λ (x : CloneEntry). same_id id x.0.0) es)))))
          ≡ is_some (cond (b && is_eq (name_cmp q e.0.1)) (Some e.1) (find key_cmp (id, q) es))
      by true c rest = first (is_eq (name_cmp q e.0.1)) rest
        where
          first : (c : Bool) → is_some (find name_cmp q (units (names_in id es))) ≡ is_some (find key_cmp (id, q) es)
              → is_some (cond c (Some tt) (find name_cmp q (units (names_in id es)))) ≡ is_some (cond c (Some e.1) (find key_cmp (id, q) es))
          first true rest = refl
          first false rest = rest
      by false c rest = rest

-- ---- the names of the file systems that have this origin

module _ (p : Option SnapId → Bool) where
  abbrev chosen : List Entry → List Name
  chosen es = map (λ e. e.0) (filter (λ e. p e.1.origin) es)

  chosen_below : (k : Name) (es : List Entry) → T (below_all name_cmp k es) → T (below_all name_cmp k (units (chosen es)))
  chosen_below k [] h = tt
  chosen_below k (e ∷ es) h = by (p e.1.origin) (chosen_below k es (T_right (is_lt (name_cmp k e.0)) (below_all name_cmp k es) h))
    where
      by : (b : Bool) → T (below_all name_cmp k (units (chosen es)))
          → T (below_all name_cmp k (units (map (λ (x : Entry). x.0) (cond b (e ∷ filter (λ (x : Entry). p x.1.origin) es) (filter (λ (x : Entry). p x.1.origin) es)))))
      by true rest = T_both (is_lt (name_cmp k e.0)) (below_all name_cmp k (units (chosen es))) (T_left (is_lt (name_cmp k e.0)) (below_all name_cmp k es) h) rest
      by false rest = rest

  chosen_sorted : (es : List Entry) → T (is_sorted name_cmp es) → T (is_sorted name_cmp (units (chosen es)))
  chosen_sorted [] h = tt
  chosen_sorted (e ∷ es) h = by (p e.1.origin) (chosen_sorted es (T_right (below_all name_cmp e.0 es) (is_sorted name_cmp es) h))
    where
      by : (b : Bool) → T (is_sorted name_cmp (units (chosen es)))
          → T (is_sorted name_cmp (units (map (λ (x : Entry). x.0) (cond b (e ∷ filter (λ (x : Entry). p x.1.origin) es) (filter (λ (x : Entry). p x.1.origin) es)))))
      by true rest = T_both (below_all name_cmp e.0 (units (chosen es))) (is_sorted name_cmp (units (chosen es))) (chosen_below e.0 es (T_left (below_all name_cmp e.0 es) (is_sorted name_cmp es) h)) rest
      by false rest = rest

  chosen_found : (q : Name) (es : List Entry) → T (is_sorted name_cmp es) → is_some (find name_cmp q (units (chosen es))) ≡ option_map_or (λ (f : FileSystem). p f.origin) (find name_cmp q es) false
  chosen_found q [] h = refl
  chosen_found q (e ∷ es) h = by (p e.1.origin) (is_eq (name_cmp q e.0)) refl refl (chosen_found q es (T_right (below_all name_cmp e.0 es) (is_sorted name_cmp es) h))
    where
      by : (b c : Bool) → p e.1.origin ≡ b → is_eq (name_cmp q e.0) ≡ c → is_some (find name_cmp q (units (chosen es))) ≡ option_map_or (λ (f : FileSystem). p f.origin) (find name_cmp q es) false
          → is_some (find name_cmp q (units (map (λ (x : Entry). x.0) (cond b (e ∷ filter (λ (x : Entry). p x.1.origin) es) (filter (λ (x : Entry). p x.1.origin) es)))))
          ≡ option_map_or (λ (f : FileSystem). p f.origin) (cond c (Some e.1) (find name_cmp q es)) false
      by true true s t rest = ap (λ c. is_some (cond c (Some tt) (find name_cmp q (units (chosen es))))) t ∙ sym s
      by true false s t rest = ap (λ c. is_some (cond c (Some tt) (find name_cmp q (units (chosen es))))) t ∙ rest
      by false true s t rest =
          ap (λ x. is_some x) (none_below nat_list_cmp_total q e.0 (units (chosen es)) (equal_from (name_cmp q e.0) t) (chosen_below e.0 es (T_left (below_all name_cmp e.0 es) (is_sorted name_cmp es) h))) ∙ sym s
      by false false s t rest = rest

-- ---- both are the same

-- whether an origin that is there is this one
pub origin_tested : (p : Option SnapId → Bool) (x : Option FileSystem) → p None ≡ false → option_map_or (λ (f : FileSystem). p f.origin) x false ≡ p (option_and_then (λ (f : FileSystem). f.origin) x)
origin_tested p None none = sym none
origin_tested p (Some f) none = refl

-- the clones of an origin in the set are the file systems that have it
pub listed_names : (m : FileSystems) (s : CloneSet) (id : SnapId) → IsListed m s → names_in id (entries s) ≡ clones_in m id
listed_names m s id listed = same_names (names_in id (entries s)) (clones_in m id) (names_sorted id (entries s) (entries_sorted s)) (chosen_sorted (λ o. option_map_or (same_id id) o false) (entries m) (entries_sorted m)) (λ q.
    name_found id q (entries s) ∙ ap (λ x. is_some x) (sym (get-entries s (id, q))) ∙ listed id q
    ∙ sym (chosen_found (λ o. option_map_or (same_id id) o false) q (entries m) (entries_sorted m)
    ∙ ap (λ x. option_map_or (λ (f : FileSystem). option_map_or (same_id id) f.origin false) x false) (sym (get-entries m q))
    ∙ origin_tested (λ o. option_map_or (same_id id) o false) (get m q) refl))

-- ---- what keeps them so

module _ (m : FileSystems) (s : CloneSet) (listed : IsListed m s) (q : Name) where
  -- another file system under one name, and what the set says of that name
  pub listed_put : (t : CloneSet) (v : FileSystem) → ((id : SnapId) (p : Name) → ¬ (p ≡ q) → get t (id, p) ≡ get s (id, p)) → ((id : SnapId) → contains_key t (id, q) ≡ option_map_or (same_id id) v.origin false) → IsListed (insert m q v) t
  listed_put t v others here id p = ⊎_elim
      (λ (is : p ≡ q).
      ap (λ n. contains_key t (id, n)) is ∙ here id
      ∙ ap (λ x. option_map_or (same_id id) (option_and_then (λ (f : FileSystem). f.origin) x) false) (sym (get-insert_same name_order m q v) ∙ ap (get (insert m q v)) (sym is)))
      (λ (ne : ¬ (p ≡ q)).
      ap (λ x. is_some x) (others id p ne) ∙ listed id p
      ∙ ap (λ x. option_map_or (same_id id) (option_and_then (λ (f : FileSystem). f.origin) x) false) (sym (get-insert_other name_order m q v p ne)))
      (key_cases name_order p q)

  -- the same where it goes
  pub listed_gone : (t : CloneSet) → ((id : SnapId) (p : Name) → ¬ (p ≡ q) → get t (id, p) ≡ get s (id, p)) → ((id : SnapId) → contains_key t (id, q) ≡ false) → IsListed (remove m q) t
  listed_gone t others here id p = ⊎_elim
      (λ (is : p ≡ q).
      ap (λ n. contains_key t (id, n)) is ∙ here id
      ∙ ap (λ x. option_map_or (same_id id) (option_and_then (λ (f : FileSystem). f.origin) x) false) (sym (get-remove_same name_order m q) ∙ ap (get (remove m q)) (sym is)))
      (λ (ne : ¬ (p ≡ q)).
      ap (λ x. is_some x) (others id p ne) ∙ listed id p
      ∙ ap (λ x. option_map_or (same_id id) (option_and_then (λ (f : FileSystem). f.origin) x) false) (sym (get-remove_other name_order m q p ne)))
      (key_cases name_order p q)

  -- one with the same origin
  pub listed_kept : (v : FileSystem) → origin_at m q ≡ v.origin → IsListed (insert m q v) s
  listed_kept v same = listed_put s v (λ id p ne. refl) (λ id. listed id q ∙ ap (λ x. option_map_or (same_id id) x false) same)

  tie_here : (a id : SnapId) → eq_by_cmp key_cmp (id, q) (a, q) ≡ same_id id a
  tie_here a id = keys_tie id a q q ∙ ap (λ r. same_id id a && is_eq r) (tied_itself nat_list_cmp_total q) ∙ and_true (same_id id a)
    where
      and_true : (b : Bool) → (b && true) ≡ b
      and_true true = refl
      and_true false = refl

  -- without its origin the name isn't in the set
  others_without : (o : Option SnapId) (id : SnapId) (p : Name) → ¬ (p ≡ q) → get (without_origin s q o) (id, p) ≡ get s (id, p)
  others_without None id p ne = refl
  others_without (Some a) id p ne = get-remove_other key_order s (a, q) (id, p) (λ e. ne (ap (λ (k : CloneKey). k.1) e))

  none_without : (o : Option SnapId) → origin_at m q ≡ o → (id : SnapId) → contains_key (without_origin s q o) (id, q) ≡ false
  none_without None is id = listed id q ∙ ap (λ x. option_map_or (same_id id) x false) is
  none_without (Some a) is id =
      ap (λ x. is_some x) (get-remove key_order.total s (a, q) (id, q)) ∙ ap (λ b. is_some (cond b None (get s (id, q)))) (tie_here a id) ∙ by (same_id id a) (listed id q ∙ ap (λ x. option_map_or (same_id id) x false) is)
    where
      by : (b : Bool) → contains_key s (id, q) ≡ b → is_some (cond b None (get s (id, q))) ≡ false
      by true e = refl
      by false e = e

  -- it goes
  pub listed_left : (o : Option SnapId) → origin_at m q ≡ o → IsListed (remove m q) (without_origin s q o)
  listed_left o is = listed_gone (without_origin s q o) (others_without o) (none_without o is)

  -- it has another origin
  others_with : (t : CloneSet) (o : Option SnapId) (id : SnapId) (p : Name) → ¬ (p ≡ q) → get (with_origin t q o) (id, p) ≡ get t (id, p)
  others_with t None id p ne = refl
  others_with t (Some a) id p ne = get-insert_other key_order t (a, q) tt (id, p) (λ e. ne (ap (λ (k : CloneKey). k.1) e))

  here_with : (t : CloneSet) (o : Option SnapId) (id : SnapId) → contains_key t (id, q) ≡ false → contains_key (with_origin t q o) (id, q) ≡ option_map_or (same_id id) o false
  here_with t None id none = none
  here_with t (Some a) id none =
      ap (λ x. is_some x) (get-insert key_order.total t (a, q) tt (id, q)) ∙ ap (λ b. is_some (cond b (Some tt) (get t (id, q)))) (tie_here a id) ∙ by (same_id id a)
    where
      by : (b : Bool) → is_some (cond b (Some tt) (get t (id, q))) ≡ b
      by true = refl
      by false = none

  pub listed_moved : (o : Option SnapId) (v : FileSystem) → origin_at m q ≡ o → IsListed (insert m q v) (with_origin (without_origin s q o) q v.origin)
  listed_moved o v is = listed_put (with_origin (without_origin s q o) q v.origin) v
      (λ id p ne. others_with (without_origin s q o) v.origin id p ne ∙ others_without o id p ne)
      (λ id. here_with (without_origin s q o) v.origin id (none_without o is id))

-- another row at a place, with the same name and origin
pub listed_set : (es : List Entry) (sorted : IsTrue (is_sorted name_cmp es)) (q : Name) (i : ℕ) (at : IsAt es q i) (e : Entry) (is : e ≡ get_or es i e) (r : Entry) (s : CloneSet)
    → r.0 ≡ e.0 → r.1.origin ≡ e.1.origin → IsListed (from_sorted {R = name_cmp} es) s → IsListed (from_sorted {R = name_cmp} (set es i r)) s
listed_set es sorted q i at e is r s name origin listed =
    subst (λ m. IsListed m s) (sym (placed_is es sorted q i at e is r.1 r (λ j. (name j, r.1))))
    (listed_kept (from_sorted {R = name_cmp} es) s listed q r.1 (ap (λ x. option_and_then (λ (f : FileSystem). f.origin) x) (got es sorted q i at e is) ∙ sym origin))

-- a clone and the file system of its origin after a promote
pub listed_promoted : (m : FileSystems) (s : CloneSet) (q g : Name) (id : SnapId) (above : Option SnapId) (owner clone : FileSystem) → IsListed m s → ¬ (q ≡ g)
    → origin_at m q ≡ Some id → origin_at m g ≡ above → owner.origin ≡ Some id → clone.origin ≡ above → IsListed (insert (insert m g owner) q clone) (promoted_set s q g id above)
listed_promoted m s q g id above owner clone listed ne at_q at_g to_owner to_clone =
    let first : IsListed (insert m g owner) (with_origin (without_origin s g above) g (Some id)) =
    subst (λ x. IsListed (insert m g owner) (with_origin (without_origin s g above) g x)) to_owner (listed_moved m s listed g above owner at_g) in
    subst (λ x. IsListed (insert (insert m g owner) q clone) (with_origin (without_origin (with_origin (without_origin s g above) g (Some id)) q (Some id)) q x)) to_clone
    (listed_moved (insert m g owner) (with_origin (without_origin s g above) g (Some id)) first q (Some id) clone
    (ap (λ x. option_and_then (λ (f : FileSystem). f.origin) x) (get-insert_other name_order m g owner q ne) ∙ at_q))

-- a new file system alone
pub listed_alone : (name : Name) → IsListed (from_sorted {R = name_cmp} ((name, empty_file_system) ∷ [])) finmap.empty
listed_alone name = subst (λ m. IsListed m finmap.empty) (sym (fresh_is name empty_file_system))
    (listed_kept finmap.empty finmap.empty none name empty_file_system (ap (λ x. option_and_then (λ (f : FileSystem). f.origin) x) (get-empty name_cmp name)))
  where
    none : IsListed (finmap.empty {X = FileSystem} {R = name_cmp}) (finmap.empty {X = Unit {0}} {R = key_cmp})
    none id p =
        ap (λ x. is_some x) (get-empty key_cmp (id, p))
        ∙ ap (λ x. option_map_or (same_id id) (option_and_then (λ (f : FileSystem). f.origin) x) false) (sym (get-empty name_cmp p))

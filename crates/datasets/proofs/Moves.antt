-- Rows under the names that a rename gives them.
use Rattle.std.proofs.Common.{◌≡◌, ℕ, zero, suc, ◌<◌, ◌≤◌, true, false, cond, T, List, [], ◌∷◌, ◌++◌, length, drop, map, get_or, Option, Some, None, refl, sym, ap, subst, ◌∙◌, inl, inr, ⊎_elim, arith, length-append, append_assoc}
use Rattle.std.specs.Prelude.{IsTrue, MatchOption, is_some, nat_lt}
use Rattle.std.specs.Bool.{passes}
use Rattle.std.specs.Arc.{arc_value}
use Rattle.std.specs.declared.sync.Arc.{Arc}
use Rattle.std.specs.declared.alloc.Global.{Global}
use Rattle.std.specs.List.{find, insert}
use Rattle.std.specs.Option.{option_map, option_map_or, option_and_then}
use Rattle.std.specs.FinMap as finmap
use Rattle.std.specs.FinMap.{get, entries, is_sorted, from_sorted, from_entries, from_entries_push, same_entries_map, entries-from_sorted, len, len-empty, len-entries, get-empty, get-from_sorted, get-from_entries}
use Rattle.std.specs.FinMap.Entries.{below_all}
use Rattle.std.proofs.lemmas.List.{length-map, map-append}
use Rattle.base.specs.Names.{name_cmp, name_limit}
use Rattle.base.specs.Map.{Map}
use Rattle.base.specs.Surveys.{IsIn}
use Rattle.model.specs.World.{FileSystem, Snap, SnapId, id_of, same_id}
use Rattle.model.specs.Hierarchy.{is_in_family}
use Rattle.model.specs.requests.Rename.{renamed}
use Rattle.world.specs.Usage.{IsEntry}
use Rattle.world.specs.Shapes.{Name, name_order}
use Rattle.world.proofs.changes.Renames.{renamed_is, found_renamed}
use Rattle.world.proofs.lists.Finding.{from_find, find_only, from_flat, in_flat, in_left, in_right, in_either, same_id_is}
use Rattle.world.proofs.lists.Listed.{in_map, map_in}
use Rattle.world.proofs.lists.Maps.{no_value, other_key, below_entry}
use Rattle.world.proofs.lists.Names.{exchanged, exchanged_twice}
use Rattle.datasets.specs.CloneNames.{CloneSet, IsListed, with_origin, key_cmp}
use Rattle.datasets.specs.Clones.{AreOnce, AreTied, IsTied, map_found}
use Rattle.datasets.specs.Places.{IsGapFor}
use Rattle.datasets.specs.Renames.{CanMove, moved_row, AreMoved}
use Rattle.datasets.proofs.Rows.{same_name, insert_is, insert_sorted, row_of}
use Rattle.datasets.proofs.Ties.{row_snaps, in_place, in_inserted, inserted_entries, row_got}
use Rattle.datasets.proofs.Counts.{snaps_in, inserted_count}
use Rattle.datasets.proofs.Listing.{listed_moved}
use Rattle.file_system.specs.Rows.{FileSystems, Entry, Row, entry_in, entry_of}
use Rattle.snapshots.proofs.Sorted.{T_left, T_right}

-- an entry under its new name
abbrev pub ren : List ℕ → List ℕ → Entry → Entry
ren from to e = (renamed from to e.0, e.1)

-- ---- lists

in_middle : (xs ys : List Entry) (y : Entry) → IsEntry (xs ++ y ∷ ys) y.0 y.1
in_middle [] ys y = inl (refl, refl)
in_middle (x ∷ xs) ys y = inr (in_middle xs ys y)

-- a name that stands after others is none of theirs
not_before : (xs ys : List Entry) (y : Entry) → T (is_sorted name_cmp (xs ++ y ∷ ys)) → finmap.find name_cmp y.0 xs ≡ None
not_before [] ys y h = refl
not_before (x ∷ xs) ys y h =
    let below : T (below_all name_cmp x.0 (xs ++ y ∷ ys)) = T_left (below_all name_cmp x.0 (xs ++ y ∷ ys)) (is_sorted name_cmp (xs ++ y ∷ ys)) h in
    let other = other_key name_order y.0 x.0 (below_entry name_order x.0 (xs ++ y ∷ ys) below y.0 y.1 (in_middle xs ys y)) in
    ap (λ b. cond b (Some x.1) (finmap.find name_cmp y.0 xs)) other
    ∙ not_before xs ys y (T_right (below_all name_cmp x.0 (xs ++ y ∷ ys)) (is_sorted name_cmp (xs ++ y ∷ ys)) h)

kept_in : (xs : List Row) (i : ℕ) (r x : Row) → IsIn xs x → IsIn (insert xs i r) x
kept_in xs zero r x h = inr h
kept_in [] (suc i) r x h = absurd h
kept_in (y ∷ xs) (suc i) r x h = ⊎_elim (λ e. inl e) (λ k. inr (kept_in xs i r x k)) h

put_in : (xs : List Row) (i : ℕ) (r : Row) → i ≤ length xs → IsIn (insert xs i r) r
put_in xs zero r le = inl refl
put_in [] (suc i) r le = absurd (omega arith)
put_in (y ∷ xs) (suc i) r le = inr (put_in xs i r (omega arith))

flat_append : (xs ys : List Entry) → snaps_in (xs ++ ys) ≡ snaps_in xs ++ snaps_in ys
flat_append [] ys = refl
flat_append (x ∷ xs) ys = ap (λ l. x.1.snaps ++ l) (flat_append xs ys) ∙ sym (append_assoc x.1.snaps (snaps_in xs) (snaps_in ys))

-- ---- a row more

module _ (from to : Name) (all : List (Arc Row Global)) (sorted : IsTrue (is_sorted name_cmp (map entry_in all))) (can : CanMove (from_sorted {R = name_cmp} (map entry_in all)) from to) where
  -- the names of rows aren't of the new family
  free_row : (r : Row) → IsIn (map arc_value all) r → is_in_family to r.name ≡ false
  free_row r h = can.free r.name r.system (row_got all sorted r h)

  -- and none becomes too long
  pub row_short : (i : ℕ) (x : Arc Row Global) → i < length all → x ≡ get_or all i x → is_in_family from (arc_value x).name ≡ true → nat_lt name_limit (length (to ++ drop (length from) (arc_value x).name)) ≡ false
  row_short i x lt is = can.short (arc_value x).name (arc_value x).system
      (row_got all sorted (arc_value x) (in_place (map arc_value all) i (arc_value x) (let l = length-map all arc_value in omega (arith, l)) (row_of arc_value all i x is)))

  module _ (done rest : List (Arc Row Global)) (x : Arc Row Global) (parts : all ≡ done ++ x ∷ rest) (cur : List (Arc Row Global)) (clones : CloneSet) (moved : AreMoved from to done cur clones)
      (a : Arc Row Global) (made : arc_value a ≡ moved_row from to (arc_value x)) where
    abbrev row : Row
    row = arc_value x

    abbrev key : Name
    key = renamed from to row.name

    in_all : (e : Entry) → IsIn (map entry_in done) e → is_in_family to e.0 ≡ false
    in_all e h =
        let o = in_map entry_in done e h in
        ap (λ (z : Entry). is_in_family to z.0) o.2
        ∙ free_row (arc_value o.0) (map_in arc_value all o.0 (subst (λ l. IsIn l o.0) (sym parts) (in_left done (x ∷ rest) o.0 o.1)))

    row_free : is_in_family to row.name ≡ false
    row_free = free_row row (map_in arc_value all x (subst (λ l. IsIn l x) (sym parts) (in_right done (x ∷ rest) x (inl refl))))

    -- no row before has the new name
    unfound : finmap.find name_cmp key (map (ren from to) (map entry_in done)) ≡ None
    unfound =
        found_renamed from to can.old_apart can.new_apart key (map entry_in done) in_all
        ∙ ap (λ n. finmap.find name_cmp n (map entry_in done))
        (ap (exchanged from to) (renamed_is from to can.old_apart can.new_apart row.name row_free) ∙ exchanged_twice from to can.old_apart can.new_apart row.name)
        ∙ not_before (map entry_in done) (map entry_in rest) (entry_in x)
        (subst (λ l. T (is_sorted name_cmp l)) (ap (map entry_in) parts ∙ map-append entry_in done (x ∷ rest)) (passes _ sorted))

    pub key_absent : get (from_sorted {R = name_cmp} (map entry_in cur)) key ≡ None
    key_absent = ap (λ m. get m key) moved.named ∙ get-from_entries name_order.total (map (ren from to) (map entry_in done)) key ∙ unfound

    module _ (i : ℕ) (gap : IsGapFor (map entry_in cur) key i) (new : List (Arc Row Global)) (new_is : map arc_value new ≡ insert (map arc_value cur) i (arc_value a))
        (listing : CloneSet) (listing_is : listing ≡ with_origin clones key row.system.origin) where
      long : i ≤ length (map arc_value cur)
      long = let w = gap.within in omega (arith, length-map cur entry_in, length-map cur arc_value)

      rows_are : map entry_in new ≡ insert (map entry_in cur) i (key, row.system)
      rows_are = inserted_entries new cur i (arc_value a) new_is ∙ ap (λ (r : Row). insert (map entry_in cur) i (entry_of r)) made

      map_is : from_sorted {R = name_cmp} (map entry_in new) ≡ finmap.insert (from_sorted {R = name_cmp} (map entry_in cur)) key row.system
      map_is = ap (from_sorted {R = name_cmp}) rows_are ∙ insert_is (map entry_in cur) moved.sorted key row.system i gap

      entries_more : map entry_in (done ++ x ∷ []) ≡ map entry_in done ++ entry_in x ∷ []
      entries_more = map-append entry_in done (x ∷ [])

      values_more : map arc_value (done ++ x ∷ []) ≡ map arc_value done ++ row ∷ []
      values_more = map-append arc_value done (x ∷ [])

      pub row_moved : AreMoved from to (done ++ x ∷ []) new listing
      row_moved = record {
        sorted = subst (λ l. IsTrue (is_sorted name_cmp l)) (sym rows_are) (insert_sorted (map entry_in cur) moved.sorted key row.system i gap);
        named =
            map_is ∙ ap (λ m. finmap.insert m key row.system) moved.named
            ∙ sym (ap (λ l. from_entries (map (ren from to) l)) entries_more
            ∙ ap from_entries (map-append (ren from to) (map entry_in done) (entry_in x ∷ []))
            ∙ from_entries_push name_order.total same_name (map (ren from to) (map entry_in done)) key row.system unfound);
        each = λ r h. ⊎_elim
            (λ is. (row, subst (λ l. IsIn l row) (sym values_more) (in_right (map arc_value done) (row ∷ []) row (inl refl)), is ∙ made))
            (λ k. let o = moved.each r k in (o.0, subst (λ l. IsIn l o.0) (sym values_more) (in_left (map arc_value done) (row ∷ []) o.0 o.1), o.2))
            (in_inserted (map arc_value cur) i (arc_value a) r (subst (λ l. IsIn l r) new_is h));
        all = λ o h. subst (λ l. IsIn l (moved_row from to o)) (sym new_is) (⊎_elim
            (λ k. kept_in (map arc_value cur) i (arc_value a) (moved_row from to o) (moved.all o k))
            (λ k. ⊎_elim
            (λ is. subst (IsIn (insert (map arc_value cur) i (arc_value a))) (made ∙ ap (moved_row from to) (sym is)) (put_in (map arc_value cur) i (arc_value a) long))
            (λ none. absurd none)
            k)
            (in_either (map arc_value done) (row ∷ []) o (subst (λ l. IsIn l o) values_more h)));
        counted =
            ap (λ l. length (snaps_in l)) rows_are ∙ inserted_count (map entry_in cur) i (key, row.system) gap.within
            ∙ (let a = length-append (snaps_in (map entry_in done)) (snaps_in (entry_in x ∷ [])) in
            let b = length-append row.system.snaps [] in
            let c = ap length (flat_append (map entry_in done) (entry_in x ∷ [])) in
            let d = ap (λ l. length (snaps_in l)) entries_more in
            let e = moved.counted in
            omega (arith, a, b, c, d, e));
        listed =
            subst (λ m. IsListed m listing) (sym map_is)
            (subst (IsListed (finmap.insert (from_sorted {R = name_cmp} (map entry_in cur)) key row.system)) (sym listing_is)
            (listed_moved (from_sorted {R = name_cmp} (map entry_in cur)) clones moved.listed key None row.system (ap (λ o. option_and_then (λ (f : FileSystem). f.origin) o) key_absent)));
      }

-- ---- all rows

module _ (from to : Name) (old new : List (Arc Row Global)) (clones : CloneSet) (moved : AreMoved from to old new clones) where
  -- they have the same snapshots
  snaps_stay : (t : Snap) → IsIn (row_snaps (map arc_value old)) t → IsIn (row_snaps (map arc_value new)) t
  snaps_stay t h =
      let o = from_flat (λ (r : Row). r.system.snaps) (map arc_value old) t h in
      in_flat (λ (r : Row). r.system.snaps) (map arc_value new) (moved_row from to o.0) t (moved.all o.0 o.1) o.2

  snaps_came : (t : Snap) → IsIn (row_snaps (map arc_value new)) t → IsIn (row_snaps (map arc_value old)) t
  snaps_came t h =
      let r = from_flat (λ (r : Row). r.system.snaps) (map arc_value new) t h in
      let o = moved.each r.0 r.1 in
      in_flat (λ (r : Row). r.system.snaps) (map arc_value old) o.0 t o.1 (subst (λ (x : Row). IsIn x.system.snaps t) o.2 r.2)

  module _ (sorted : IsTrue (is_sorted name_cmp (map entry_in old))) (once : AreOnce (from_sorted {R = name_cmp} (map entry_in old))) (tied : AreTied (map arc_value old)) where
    one : (t u : Snap) → IsIn (row_snaps (map arc_value old)) t → IsIn (row_snaps (map arc_value old)) u → id_of t ≡ id_of u → t ≡ u
    one t u h k same =
        let a = from_flat (λ (r : Row). r.system.snaps) (map arc_value old) t h in
        let b = from_flat (λ (r : Row). r.system.snaps) (map arc_value old) u k in
        (once a.0.name b.0.name a.0.system b.0.system t u (row_got old sorted a.0 a.1) (row_got old sorted b.0 b.1) a.2 b.2 same).1

    -- an origin is found again
    found_again : (id : SnapId) (m : Map) → map_found (row_snaps (map arc_value old)) id ≡ Some m → map_found (row_snaps (map arc_value new)) id ≡ Some m
    found_again id m is = at (find (λ (t : Snap). same_id (id_of t) id) (row_snaps (map arc_value old))) refl is
      where
        at : (o : Option Snap) → find (λ (t : Snap). same_id (id_of t) id) (row_snaps (map arc_value old)) ≡ o → option_map (λ (t : Snap). t.map) o ≡ Some m
            → map_found (row_snaps (map arc_value new)) id ≡ Some m
        at None e k = absurd (no_value m k)
        at (Some t) e k =
            let f = from_find (λ (t : Snap). same_id (id_of t) id) (row_snaps (map arc_value old)) t e in
            ap (option_map (λ (t : Snap). t.map))
            (find_only (λ (t : Snap). same_id (id_of t) id) (row_snaps (map arc_value new)) t (snaps_stay t f.0) f.1
            (λ u h s. one u t (snaps_came u h) f.0 (same_id_is (id_of u) id s ∙ sym (same_id_is (id_of t) id f.1))))
            ∙ k

    pub moved_tied : AreTied (map arc_value new)
    moved_tied r h =
        let o = moved.each r h in
        subst (IsTied (row_snaps (map arc_value new))) (sym o.2) (again o.0.system.origin o.0.below (tied o.0 o.1))
      where
        again : (origin : Option SnapId) (below : Map) → MatchOption origin (below ≡ finmap.empty) (λ id. map_found (row_snaps (map arc_value old)) id ≡ Some below)
            → MatchOption origin (below ≡ finmap.empty) (λ id. map_found (row_snaps (map arc_value new)) id ≡ Some below)
        again None below tie = tie
        again (Some id) below tie = found_again id below tie

-- before the first row
pub none_moved : (from to : Name) → AreMoved from to [] [] finmap.empty
none_moved from to = record {
  sorted = refl;
  named = same_entries_map (from_sorted {R = name_cmp} []) (from_entries {R = name_cmp} []) (entries-from_sorted name_cmp [] tt ∙ sym (no_entries (from_entries {R = name_cmp} []) (len-empty name_cmp FileSystem)));
  each = λ r h. absurd h;
  all = λ o h. absurd h;
  counted = refl;
  listed = λ id name.
      ap is_some (get-empty key_cmp (id, name))
      ∙ sym (ap (λ o. option_map_or (same_id id) (option_and_then (λ (f : FileSystem). f.origin) o) false) (get-from_sorted name_cmp [] name tt));
}
  where
    no_entries : (m : FileSystems) → len m ≡ 0 → entries m ≡ []
    no_entries m e = none (entries m) (sym (len-entries m) ∙ e)
      where
        none : (es : List Entry) → length es ≡ 0 → es ≡ []
        none [] k = refl
        none (x ∷ xs) k = absurd (omega arith)

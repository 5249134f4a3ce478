-- Rows above the maps of their origins.
use Rattle.std.proofs.Common.{◌≡◌, ℕ, zero, suc, ◌<◌, ◌≤◌, ◌⊎◌, Bool, true, false, cond, List, [], ◌∷◌, ◌++◌, length, get_or, set, slice_get, map, Option, Some, None, refl, sym, ap, subst, ◌∙◌, inl, inr, ⊎_elim, arith}
use Rattle.std.proofs.lemmas.List.{length-map}
use Rattle.std.proofs.lemmas.Bool.Decides.{nat_tests}
use Rattle.std.specs.Prelude.{IsTrue, MatchOption, remove, unwrap_or, filter, not, ◌==◌}
use Rattle.std.specs.Arc.{arc_value}
use Rattle.std.specs.declared.sync.Arc.{Arc}
use Rattle.std.specs.declared.alloc.Global.{Global}
use Rattle.std.specs.List.{find, flat_map, insert}
use Rattle.std.specs.Option.{option_map, option_or, option_and_then}
use Rattle.std.specs.FinMap.{get, entries, is_sorted, from_sorted}
use Rattle.std.specs.FinMap as finmap
use Rattle.base.specs.Names.{name_cmp}
use Rattle.base.specs.Map.{Map}
use Rattle.base.specs.Surveys.{IsIn}
use Rattle.model.specs.World.{FileSystem, Snap, SnapId, id_of, same_id}
use Rattle.world.specs.Usage.{IsEntry}
use Rattle.world.proofs.lists.Finding.{same_id_is}
use Rattle.world.proofs.lists.Listed.{map_in}
use Rattle.world.specs.Shapes.{name_order}
use Rattle.world.proofs.lists.Maps.{at_entry}
use Rattle.datasets.specs.Clones.{all_snaps, map_found, below_from, below_in, origin_at, below_at, row_in, IsTied, AreTied}
use Rattle.datasets.specs.Places.{IsAt}
use Rattle.file_system.specs.Rows.{Entry, Row, entry_in, entry_of, new_row}
use Rattle.datasets.proofs.Rows.{entries_are, got, its_name, row_of}

-- the snapshots of all rows
abbrev pub row_snaps : List Row → List Snap
row_snaps rows = flat_map (λ x. x.system.snaps) rows

-- ---- what is found among snapshots

pub found_append : (xs ys : List Snap) (id : SnapId) → map_found (xs ++ ys) id ≡ option_or (map_found xs id) (map_found ys id)
found_append [] ys id = refl
found_append (t ∷ xs) ys id = by (same_id (id_of t) id) (found_append xs ys id)
  where
    by : (b : Bool) → map_found (xs ++ ys) id ≡ option_or (map_found xs id) (map_found ys id)
        → option_map (λ (x : Snap). x.map) (cond b (Some t) (find (λ (x : Snap). same_id (id_of x) id) (xs ++ ys)))
        ≡ option_or (option_map (λ (x : Snap). x.map) (cond b (Some t) (find (λ (x : Snap). same_id (id_of x) id) xs))) (map_found ys id)
    by true rest = refl
    by false rest = rest

found_left : (xs zs ys : List Snap) (id : SnapId) → map_found xs id ≡ map_found zs id → map_found (xs ++ ys) id ≡ map_found (zs ++ ys) id
found_left xs zs ys id e = found_append xs ys id ∙ ap (λ o. option_or o (map_found ys id)) e ∙ sym (found_append zs ys id)

found_right : (xs ys zs : List Snap) (id : SnapId) → map_found ys id ≡ map_found zs id → map_found (xs ++ ys) id ≡ map_found (xs ++ zs) id
found_right xs ys zs id e = found_append xs ys id ∙ ap (option_or (map_found xs id)) e ∙ sym (found_append xs zs id)

-- the same is found where another row has what the one at its place has
set_found : (id : SnapId) (rows : List Row) (i : ℕ) (r e : Row) → i < length rows → e ≡ get_or rows i e → map_found r.system.snaps id ≡ map_found e.system.snaps id
    → map_found (row_snaps (set rows i r)) id ≡ map_found (row_snaps rows) id
set_found id [] i r e lt is same = absurd (omega arith)
set_found id (x ∷ rows) zero r e lt is same =
    found_left r.system.snaps x.system.snaps (row_snaps rows) id (same ∙ ap (λ (y : Row). map_found y.system.snaps id) is)
set_found id (x ∷ rows) (suc i) r e lt is same = found_right x.system.snaps (row_snaps (set rows i r)) (row_snaps rows) id (set_found id rows i r e (omega arith) is same)

-- a snapshot of another identity behind others isn't found
pub found_more : (xs : List Snap) (t : Snap) (id : SnapId) → same_id (id_of t) id ≡ false → map_found (xs ++ t ∷ []) id ≡ map_found xs id
found_more xs t id other =
    found_append xs (t ∷ []) id
    ∙ ap (λ b. option_or (map_found xs id) (option_map (λ (x : Snap). x.map) (cond b (Some t) None))) other
    ∙ or_none (map_found xs id)
  where
    or_none : (o : Option Map) → option_or o None ≡ o
    or_none None = refl
    or_none (Some m) = refl

-- what isn't among the snapshots isn't found
pub other_id : (ts : List Snap) (t : Snap) (id : SnapId) (m : Map) → map_found ts id ≡ Some m → find (λ (x : Snap). same_id (id_of x) (id_of t)) ts ≡ None → same_id (id_of t) id ≡ false
other_id ts t id m found none = by (same_id (id_of t) id) refl
  where
    by : (b : Bool) → same_id (id_of t) id ≡ b → b ≡ false
    by false e = refl
    by true e =
        let same = same_id_is (id_of t) id e in
        let it : map_found ts id ≡ None = ap (map_found ts) (sym same) ∙ ap (option_map (λ (x : Snap). x.map)) none in
        absurd (is_none (sym found ∙ it))
      where
        is_none : Some m ≡ None → ⊥
        is_none e = cc

it_is : (n m : ℕ) → (n == m) ≡ true → n ≡ m
it_is n m e = grind (arith, nat_tests)

-- one that isn't of those that go is found as before
pub found_filtered : (g : ℕ) (ts : List Snap) (id : SnapId) → ((t : Snap) → IsIn ts t → t.group ≡ g → id_of t ≡ id → ⊥) → map_found (filter (λ (t : Snap). not (t.group == g)) ts) id ≡ map_found ts id
found_filtered g [] id none = refl
found_filtered g (t ∷ ts) id none = by (t.group == g) (same_id (id_of t) id) refl refl (found_filtered g ts id (λ u h. none u (inr h)))
  where
    by : (a b : Bool) → (t.group == g) ≡ a → same_id (id_of t) id ≡ b → map_found (filter (λ (x : Snap). not (x.group == g)) ts) id ≡ map_found ts id
        → option_map (λ (x : Snap). x.map) (find (λ (x : Snap). same_id (id_of x) id) (cond (not a) (t ∷ filter (λ (x : Snap). not (x.group == g)) ts) (filter (λ (x : Snap). not (x.group == g)) ts)))
        ≡ option_map (λ (x : Snap). x.map) (cond b (Some t) (find (λ (x : Snap). same_id (id_of x) id) ts))
    by true true e f rest = absurd (none t (inl refl) (it_is t.group g e) (same_id_is (id_of t) id f))
    by true false e f rest = rest
    by false true e f rest = ap (λ c. option_map (λ (x : Snap). x.map) (cond c (Some t) (find (λ (x : Snap). same_id (id_of x) id) (filter (λ (x : Snap). not (x.group == g)) ts)))) f
    by false false e f rest = ap (λ c. option_map (λ (x : Snap). x.map) (cond c (Some t) (find (λ (x : Snap). same_id (id_of x) id) (filter (λ (x : Snap). not (x.group == g)) ts)))) f ∙ rest

-- after the same snapshot
pub after_first : (b : Bool) (t u : Snap) (xs ys : List Snap) (id : SnapId) → t.map ≡ u.map → map_found xs id ≡ map_found ys id
    → option_map (λ (x : Snap). x.map) (cond b (Some t) (find (λ (x : Snap). same_id (id_of x) id) xs)) ≡ option_map (λ (x : Snap). x.map) (cond b (Some u) (find (λ (x : Snap). same_id (id_of x) id) ys))
after_first true t u xs ys id e rest = ap Some e
after_first false t u xs ys id e rest = rest

-- ---- rows in their places

pub in_set : (rows : List Row) (i : ℕ) (r x : Row) → IsIn (set rows i r) x → (x ≡ r) ⊎ IsIn rows x
in_set [] zero r x h = absurd h
in_set [] (suc i) r x h = absurd h
in_set (y ∷ rows) zero r x h = ⊎_elim (λ e. inl e) (λ k. inr (inr k)) h
in_set (y ∷ rows) (suc i) r x h = ⊎_elim (λ e. inr (inl e)) (λ k. ⊎_elim (λ e. inl e) (λ m. inr (inr m)) (in_set rows i r x k)) h

pub in_place : (rows : List Row) (i : ℕ) (e : Row) → i < length rows → e ≡ get_or rows i e → IsIn rows e
in_place [] i e lt is = absurd (omega arith)
in_place (x ∷ rows) zero e lt is = inl is
in_place (x ∷ rows) (suc i) e lt is = inr (in_place rows i e (omega arith) is)

-- what stands at a place stands there once
pub same_at : (rows : List Row) (i : ℕ) (e r : Row) → e ≡ get_or rows i e → slice_get rows i ≡ Some r → e ≡ r
same_at [] i e r is at = absurd (nothing i at)
  where
    nothing : (i : ℕ) → slice_get {X = Row} [] i ≡ Some r → ⊥
    nothing i at = cc
same_at (x ∷ rows) zero e r is at = is ∙ some_is at
  where
    some_is : Some x ≡ Some r → x ≡ r
    some_is e = cc
same_at (x ∷ rows) (suc i) e r is at = same_at rows i e r is at

-- a row has a place
pub place_in : (rows : List Row) (r : Row) → IsIn rows r → (i : ℕ) × (i < length rows) × (slice_get rows i ≡ Some r)
place_in [] r h = absurd h
place_in (x ∷ rows) r h = ⊎_elim (λ e. (0, omega arith, ap Some (sym e))) (λ k. let rest = place_in rows r k in (suc rest.0, omega (arith, rest.1), rest.2)) h

-- the others stay where another row comes to a place
pub stays_or : (rows : List Row) (i : ℕ) (r e x : Row) → i < length rows → e ≡ get_or rows i e → IsIn rows x → (x ≡ e) ⊎ IsIn (set rows i r) x
stays_or [] i r e x lt is h = absurd (omega arith)
stays_or (y ∷ rows) zero r e x lt is h = ⊎_elim (λ k. inl (k ∙ sym is)) (λ k. inr (inr k)) h
stays_or (y ∷ rows) (suc i) r e x lt is h = ⊎_elim (λ k. inr (inl k)) (λ k. ⊎_elim (λ m. inl m) (λ m. inr (inr m)) (stays_or rows i r e x (omega arith) is k)) h

-- and it is there
pub comes_in : (rows : List Row) (i : ℕ) (r : Row) → i < length rows → IsIn (set rows i r) r
comes_in [] i r lt = absurd (omega arith)
comes_in (y ∷ rows) zero r lt = inl refl
comes_in (y ∷ rows) (suc i) r lt = inr (comes_in rows i r (omega arith))

pub in_inserted : (rows : List Row) (i : ℕ) (r x : Row) → IsIn (insert rows i r) x → (x ≡ r) ⊎ IsIn rows x
in_inserted rows zero r x h = h
in_inserted [] (suc i) r x h = h
in_inserted (y ∷ rows) (suc i) r x h = ⊎_elim (λ e. inr (inl e)) (λ k. ⊎_elim (λ e. inl e) (λ m. inr (inr m)) (in_inserted rows i r x k)) h

in_removed : (rows : List Row) (i : ℕ) (x : Row) → IsIn (remove rows i) x → IsIn rows x
in_removed [] zero x h = h
in_removed [] (suc i) x h = h
in_removed (y ∷ rows) zero x h = inr h
in_removed (y ∷ rows) (suc i) x h = ⊎_elim (λ e. inl e) (λ k. inr (in_removed rows i x k)) h

-- one without snapshots adds none
inserted_snaps : (rows : List Row) (i : ℕ) (r : Row) → i ≤ length rows → r.system.snaps ≡ [] → row_snaps (insert rows i r) ≡ row_snaps rows
inserted_snaps rows zero r le bare = ap (λ l. l ++ row_snaps rows) bare
inserted_snaps [] (suc i) r le bare = absurd (omega arith)
inserted_snaps (x ∷ rows) (suc i) r le bare = ap (λ l. x.system.snaps ++ l) (inserted_snaps rows i r (omega arith) bare)

-- nor takes any away
removed_snaps : (rows : List Row) (i : ℕ) (e : Row) → i < length rows → e ≡ get_or rows i e → e.system.snaps ≡ [] → row_snaps (remove rows i) ≡ row_snaps rows
removed_snaps [] i e lt is bare = absurd (omega arith)
removed_snaps (x ∷ rows) zero e lt is bare = sym (ap (λ l. l ++ row_snaps rows) (ap (λ (y : Row). y.system.snaps) (sym is) ∙ bare))
removed_snaps (x ∷ rows) (suc i) e lt is bare = ap (λ l. x.system.snaps ++ l) (removed_snaps rows i e (omega arith) is bare)

-- ---- ties

-- what is found among other snapshots too
tied_by : (ts us : List Snap) (o : Option SnapId) (below : Map) → MatchOption o (below ≡ finmap.empty) (λ id. map_found ts id ≡ Some below) → ((id : SnapId) → o ≡ Some id → map_found us id ≡ map_found ts id)
    → MatchOption o (below ≡ finmap.empty) (λ id. map_found us id ≡ Some below)
tied_by ts us None below tie same = tie
tied_by ts us (Some id) below tie same = same id refl ∙ tie

-- its origin is found
pub is_found : (ts : List Snap) (o : Option SnapId) (below : Map) (id : SnapId) → o ≡ Some id → MatchOption o (below ≡ finmap.empty) (λ i. map_found ts i ≡ Some below) → map_found ts id ≡ Some below
is_found ts o below id e tie = subst (λ x. MatchOption x (below ≡ finmap.empty) (λ i. map_found ts i ≡ Some below)) e tie

-- and what is below is its map
pub below_of : (ts : List Snap) (o : Option SnapId) (below : Map) → MatchOption o (below ≡ finmap.empty) (λ id. map_found ts id ≡ Some below) → below ≡ below_from ts o
below_of ts None below tie = tie
below_of ts (Some id) below tie = ap (λ x. unwrap_or x finmap.empty) (sym tie)

-- one with the same origin and the same map of it
tied_like : (ts : List Snap) (e r : Row) → r.system.origin ≡ e.system.origin → r.below ≡ e.below → IsTied ts e → IsTied ts r
tied_like ts e r origin below tie =
    subst (λ b. MatchOption r.system.origin (b ≡ finmap.empty) (λ id. map_found ts id ≡ Some b)) (sym below)
    (subst (λ o. MatchOption o (e.below ≡ finmap.empty) (λ id. map_found ts id ≡ Some e.below)) (sym origin) tie)

-- another row at a place, with the origin of the one there, and with what other rows have of it
pub tied_set : (rows : List Row) (i : ℕ) (r e : Row) → AreTied rows → i < length rows → e ≡ get_or rows i e → r.system.origin ≡ e.system.origin → r.below ≡ e.below
    → ((x : Row) (id : SnapId) → IsIn rows x → x.system.origin ≡ Some id → map_found (row_snaps rows) id ≡ Some x.below → map_found r.system.snaps id ≡ map_found e.system.snaps id)
    → AreTied (set rows i r)
tied_set rows i r e tied lt is origin below same x h = ⊎_elim
    (λ it. subst (IsTied (row_snaps (set rows i r))) (sym it)
    (tied_by (row_snaps rows) (row_snaps (set rows i r)) r.system.origin r.below (tied_like (row_snaps rows) e r origin below (tied e (in_place rows i e lt is)))
    (λ id at. again e id (in_place rows i e lt is) (sym origin ∙ at))))
    (λ other. tied_by (row_snaps rows) (row_snaps (set rows i r)) x.system.origin x.below (tied x other) (λ id at. again x id other at))
    (in_set rows i r x h)
  where
    again : (y : Row) (id : SnapId) → IsIn rows y → y.system.origin ≡ Some id → map_found (row_snaps (set rows i r)) id ≡ map_found (row_snaps rows) id
    again y id k at = set_found id rows i r e lt is (same y id k at (is_found (row_snaps rows) y.system.origin y.below id at (tied y k)))

-- one more, without snapshots
pub tied_inserted : (rows : List Row) (i : ℕ) (r : Row) → AreTied rows → i ≤ length rows → r.system.snaps ≡ [] → IsTied (row_snaps rows) r → AreTied (insert rows i r)
tied_inserted rows i r tied le bare tie x h =
    subst (λ ts. IsTied ts x) (sym (inserted_snaps rows i r le bare)) (⊎_elim (λ e. subst (IsTied (row_snaps rows)) (sym e) tie) (λ k. tied x k) (in_inserted rows i r x h))

-- one gone, without snapshots
pub tied_removed : (rows : List Row) (i : ℕ) (e : Row) → AreTied rows → i < length rows → e ≡ get_or rows i e → e.system.snaps ≡ [] → AreTied (remove rows i)
tied_removed rows i e tied lt is bare x h = subst (λ ts. IsTied ts x) (sym (removed_snaps rows i e lt is bare)) (tied x (in_removed rows i x h))

-- one alone, which is new
pub tied_alone : (name : List ℕ) → AreTied (new_row name ∷ [])
tied_alone name x h = ⊎_elim (λ e. subst (IsTied []) (sym e) refl) (λ k. absurd k) h

-- ---- by name

entry_among : (items : List (Arc Row Global)) (x : Row) → IsIn (map arc_value items) x → IsEntry (map entry_in items) x.name x.system
entry_among [] x h = absurd h
entry_among (a ∷ items) x h = ⊎_elim (λ e. inl (ap (λ (r : Row). r.name) e, ap (λ (r : Row). r.system) e)) (λ k. inr (entry_among items x k)) h

spelled : (zs : List (Arc Row Global)) → map entry_in zs ≡ map entry_of (map arc_value zs)
spelled [] = refl
spelled (z ∷ zs) = ap (λ l. entry_in z ∷ l) (spelled zs)

-- equal rows have equal entries
pub same_entries : (xs ys : List (Arc Row Global)) → map arc_value xs ≡ map arc_value ys → map entry_in xs ≡ map entry_in ys
same_entries xs ys e = spelled xs ∙ ap (map entry_of) e ∙ sym (spelled ys)

-- an element put among others is its value among theirs
pub map_inserted : {A B : Type 0} (f : A → B) (xs : List A) (i : ℕ) (x : A) → map f (insert xs i x) ≡ insert (map f xs) i (f x)
map_inserted f xs zero x = refl
map_inserted f [] (suc i) x = refl
map_inserted f (y ∷ xs) (suc i) x = ap (λ l. f y ∷ l) (map_inserted f xs i x)

-- a row put among others is its entry among theirs
pub inserted_entries : (xs ys : List (Arc Row Global)) (i : ℕ) (r : Row) → map arc_value xs ≡ insert (map arc_value ys) i r → map entry_in xs ≡ insert (map entry_in ys) i (entry_of r)
inserted_entries xs ys i r e = spelled xs ∙ ap (map entry_of) e ∙ map_inserted entry_of (map arc_value ys) i r ∙ ap (λ l. insert l i (entry_of r)) (sym (spelled ys))

pub flat_same : (items : List (Arc Row Global)) → flat_map (λ (e : Entry). e.1.snaps) (map entry_in items) ≡ row_snaps (map arc_value items)
flat_same [] = refl
flat_same (a ∷ items) = ap (λ l. (arc_value a).system.snaps ++ l) (flat_same items)

module _ (items : List (Arc Row Global)) (sorted : IsTrue (is_sorted name_cmp (map entry_in items))) where
  -- the snapshots of all file systems are those of the rows
  pub snaps_of_all : all_snaps (from_sorted {R = name_cmp} (map entry_in items)) ≡ row_snaps (map arc_value items)
  snaps_of_all = ap (flat_map (λ (e : Entry). e.1.snaps)) (entries_are (map entry_in items) sorted) ∙ flat_same items

  -- a row is under its name
  pub row_got : (x : Row) → IsIn (map arc_value items) x → get (from_sorted {R = name_cmp} (map entry_in items)) x.name ≡ Some x.system
  row_got x h = at_entry name_order (from_sorted {R = name_cmp} (map entry_in items)) x.name x.system
      (subst (λ es. IsEntry es x.name x.system) (sym (entries_are (map entry_in items) sorted)) (entry_among items x h))

  module _ (tied : AreTied (map arc_value items)) where
    pub row_below : (r : Row) → IsIn (map arc_value items) r → below_in (from_sorted {R = name_cmp} (map entry_in items)) r.system.origin ≡ r.below
    row_below r h = ap (λ ts. below_from ts r.system.origin) snaps_of_all ∙ sym (below_of (row_snaps (map arc_value items)) r.system.origin r.below (tied r h))

    -- a row as its entry tells it
    row_told : (r : Row) → IsIn (map arc_value items) r → row_in (from_sorted {R = name_cmp} (map entry_in items)) (r.name, r.system) ≡ r
    row_told r h = λ j. record { name = r.name; system = r.system; below = row_below r h j }

    -- the rows are the entries, each with the map of its origin
    pub rows_are : map arc_value items ≡ map (row_in (from_sorted {R = name_cmp} (map entry_in items))) (entries (from_sorted {R = name_cmp} (map entry_in items)))
    rows_are = sym (ap (map (row_in (from_sorted {R = name_cmp} (map entry_in items)))) (entries_are (map entry_in items) sorted) ∙ each items (λ a h. row_told (arc_value a) (map_in arc_value items a h)))
      where
        each : (xs : List (Arc Row Global)) → ((a : Arc Row Global) → IsIn xs a → row_in (from_sorted {R = name_cmp} (map entry_in items)) (entry_in a) ≡ arc_value a)
            → map (row_in (from_sorted {R = name_cmp} (map entry_in items))) (map entry_in xs) ≡ map arc_value xs
        each [] h = refl
        each (a ∷ xs) h = let first = h a (inl refl) in let rest = each xs (λ b k. h b (inr k)) in λ j. first j ∷ rest j

    -- at a place
    module _ (q : List ℕ) (i : ℕ) (at : IsAt (map entry_in items) q i) (a : Arc Row Global) (is : a ≡ get_or items i a) where
      here : entry_in a ≡ get_or (map entry_in items) i (entry_in a)
      here = row_of entry_in items i a is

      pub row_place : arc_value a ≡ get_or (map arc_value items) i (arc_value a)
      row_place = row_of arc_value items i a is

      pub row_within : i < length (map arc_value items)
      row_within = let within = at.within in omega (arith, length-map items entry_in, length-map items arc_value)

      pub in_rows : IsIn (map arc_value items) (arc_value a)
      in_rows = in_place (map arc_value items) i (arc_value a) row_within row_place

      -- its origin, as the map tells it
      pub origin_is : origin_at (from_sorted {R = name_cmp} (map entry_in items)) q ≡ (arc_value a).system.origin
      origin_is = ap (λ o. option_and_then (λ (f : FileSystem). f.origin) o) (got (map entry_in items) sorted q i at (entry_in a) here)

      -- and the map of that
      pub below_is : below_at (from_sorted {R = name_cmp} (map entry_in items)) q ≡ (arc_value a).below
      below_is = ap (below_in (from_sorted {R = name_cmp} (map entry_in items))) origin_is ∙ row_below (arc_value a) in_rows

      -- it is what the map has
      pub row_found : Some (arc_value a) ≡ option_map (λ f. row_in (from_sorted {R = name_cmp} (map entry_in items)) (q, f)) (get (from_sorted {R = name_cmp} (map entry_in items)) q)
      row_found =
          sym (ap (option_map (λ f. row_in (from_sorted {R = name_cmp} (map entry_in items)) (q, f))) (got (map entry_in items) sorted q i at (entry_in a) here)
          ∙ ap (λ n. Some (row_in (from_sorted {R = name_cmp} (map entry_in items)) (n, (arc_value a).system))) (sym (its_name (map entry_in items) sorted q i at (entry_in a) here))
          ∙ ap Some (row_told (arc_value a) in_rows))

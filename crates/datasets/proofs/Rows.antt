-- Rows in byte order as a map of file systems.
use Rattle.std.proofs.Common.{◌≡◌, ℕ, ◌<◌, Bool, true, false, cond, T, List, [], ◌∷◌, length, get_or, set, map, Option, Some, None, is_some, refl, sym, ap, subst, ◌∙◌, arith, true≢false}
use Rattle.std.specs.Prelude.{IsSome, IfSome, IsTrue, OnErr}
use Rattle.std.specs.Bool.{passes}
use Rattle.std.specs.Option.{option_map_or}
use Rattle.std.specs.Ordering.{is_eq, ordering_index}
use Rattle.std.specs.declared.cmp.Ordering.TheVariants.{Less, Greater}
use Rattle.std.proofs.lemmas.List.{length-map, get_or-map}
use Rattle.std.proofs.Math.ListN.{get_or-map as get_or-map_same}
use Rattle.std.specs.Cmp.{tied_itself}
use Rattle.std.specs.Cmp.Lexicographic.{nat_list_cmp_total}
use Rattle.std.specs.Prelude.{is_ok, Result, Ok, Err, IfOk, IfErr}
use Rattle.std.specs.List.Sorted.{IsSearchInRange, IsBinarySearchResult, IsNonDecreasingBy}
use Rattle.std.specs.List.{insert}
use Rattle.std.specs.Slice.{IsItemAt}
use denote.Ref.{Bor}
use Rattle.std.specs.FinMap as finmap
use Rattle.std.specs.FinMap.{get, contains_key, len, entries, empty, find, put, is_sorted, from_sorted, get-from_sorted, entries-from_sorted, entries-insert, same_entries_map, get-insert, len-entries, len-empty, nat_cmp-IsAntisymmetric, slice_cmp-IsAntisymmetric, IsAntisymmetric}
use Rattle.std.specs.FinMap.Entries.{is_sorted-put}
use Rattle.base.specs.Names.{name_cmp}
use Rattle.base.specs.Map.{Map}
use Rattle.model.specs.World.{FileSystem, empty_file_system}
use Rattle.file_system.specs.Losses.{newest_map}
use Rattle.file_system.specs.Rows.{Entry, FileSystems, live_of, snaps_at, with_live}
use Rattle.datasets.specs.Places.{IsAt, IsGapFor}
use Rattle.snapshots.proofs.Sorted.{comparisons_rise, find_at, put_at, find_gap, put_gap}

-- only equal names tie
pub same_name : IsAntisymmetric name_cmp
same_name = slice_cmp-IsAntisymmetric nat_cmp-IsAntisymmetric

-- what holds in any case holds on failure
pub on_err : {T E P : Type 0} (r : Result T E) → P → OnErr r P
on_err (Ok v) p = tt
on_err (Err e) p = p

pub true_from : (b : Bool) → T b → b ≡ true
true_from true h = refl
true_from false h = absurd h

pub none_from : {A : Type 0} (o : Option A) → is_some o ≡ false → o ≡ None
none_from None h = refl
none_from (Some a) h = absurd (true≢false h)

module _ (es : List Entry) (sorted : IsTrue (is_sorted name_cmp es)) where
  in_order : T (is_sorted name_cmp es)
  in_order = passes (is_sorted name_cmp es) sorted

  -- the entries of the map are the rows
  pub entries_are : entries (from_sorted {R = name_cmp} es) ≡ es
  entries_are = entries-from_sorted name_cmp es in_order

  -- and so many
  pub len_is : len (from_sorted {R = name_cmp} es) ≡ length es
  len_is = len-entries (from_sorted {R = name_cmp} es) ∙ ap length entries_are

  -- a name at a place is found there
  pub get_at : (q : List ℕ) (i : ℕ) → IsAt es q i → (d : Entry) → get (from_sorted {R = name_cmp} es) q ≡ Some (get_or es i d).1
  get_at q i at d =
      get-from_sorted name_cmp es q in_order
      ∙ ap (λ k. find name_cmp k es) (sym (at.named d))
      ∙ find_at nat_list_cmp_total es in_order i d at.within

  -- a name in a gap is not
  pub get_gap : (q : List ℕ) (i : ℕ) → IsGapFor es q i → get (from_sorted {R = name_cmp} es) q ≡ None
  get_gap q i gap = get-from_sorted name_cmp es q in_order ∙ find_gap nat_list_cmp_total es q i gap.below gap.above

  -- rows with an entry put among them are the map with it inserted
  put_is : (fs : List Entry) (q : List ℕ) (v : FileSystem) → put name_cmp q v es ≡ fs → from_sorted {R = name_cmp} fs ≡ finmap.insert (from_sorted {R = name_cmp} es) q v
  put_is fs q v e =
      let ordered : T (is_sorted name_cmp fs) = subst (λ xs. T (is_sorted name_cmp xs)) e (is_sorted-put name_cmp nat_list_cmp_total q v es in_order) in
      same_entries_map _ _ (entries-from_sorted name_cmp fs ordered ∙ sym e ∙ ap (put name_cmp q v) (sym entries_are) ∙ sym (entries-insert nat_list_cmp_total (from_sorted {R = name_cmp} es) q v))

  put_sorted : (fs : List Entry) (q : List ℕ) (v : FileSystem) → put name_cmp q v es ≡ fs → IsTrue (is_sorted name_cmp fs)
  put_sorted fs q v e = true_from _ (subst (λ xs. T (is_sorted name_cmp xs)) e (is_sorted-put name_cmp nat_list_cmp_total q v es in_order))

  put_here : (q : List ℕ) (v : FileSystem) (i : ℕ) → IsAt es q i → (d : Entry) → put name_cmp q v es ≡ set es i (q, v)
  put_here q v i at d = subst (λ k. put name_cmp k v es ≡ set es i (k, v)) (at.named d) (put_at nat_list_cmp_total es in_order i d v at.within)

  -- another file system under a name that is there
  set_is : (q : List ℕ) (v : FileSystem) (i : ℕ) → IsAt es q i → from_sorted {R = name_cmp} (set es i (q, v)) ≡ finmap.insert (from_sorted {R = name_cmp} es) q v
  set_is q v i at = put_is _ q v (put_here q v i at (q, v))

  set_sorted : (q : List ℕ) (v : FileSystem) (i : ℕ) → IsAt es q i → IsTrue (is_sorted name_cmp (set es i (q, v)))
  set_sorted q v i at = put_sorted _ q v (put_here q v i at (q, v))

  -- a file system under a name that isn't there
  pub insert_is : (q : List ℕ) (v : FileSystem) (i : ℕ) → IsGapFor es q i → from_sorted {R = name_cmp} (insert es i (q, v)) ≡ finmap.insert (from_sorted {R = name_cmp} es) q v
  insert_is q v i gap = put_is _ q v (put_gap nat_list_cmp_total es q v i gap.within gap.below gap.above)

  pub insert_sorted : (q : List ℕ) (v : FileSystem) (i : ℕ) → IsGapFor es q i → IsTrue (is_sorted name_cmp (insert es i (q, v)))
  insert_sorted q v i gap = put_sorted _ q v (put_gap nat_list_cmp_total es q v i gap.within gap.below gap.above)

  -- whether a name is there, by a search
  pub found_is : (q : List ℕ) (r : Result ℕ ℕ) → IfOk r (IsAt es q) → IfErr r (IsGapFor es q) → is_ok r ≡ contains_key (from_sorted {R = name_cmp} es) q
  found_is q (Ok i) at gap = ap is_some (sym (get_at q i at (q, empty_file_system)))
  found_is q (Err i) at gap = ap is_some (sym (get_gap q i gap))

-- what holds of the row that the element at a place makes holds of the row at that place
at_row : {A : Type 0} (g : A → Entry) (P : Entry → Type 0) (xs : List A) (i : ℕ) → i < length xs → ((d : A) → P (g (get_or xs i d))) → (e : Entry) → P (get_or (map g xs) i e)
at_row g P [] i lt h e = absurd (omega arith)
at_row g P (x ∷ xs) i lt h e = subst P (sym (get_or-map g (x ∷ xs) i x e lt)) (h x)

-- the element at a place makes the row at that place
pub row_of : {A B : Type 0} (g : A → B) (xs : List A) (i : ℕ) (a : A) → a ≡ get_or xs i a → g a ≡ get_or (map g xs) i (g a)
row_of g xs i a is = ap g is ∙ sym (get_or-map_same g xs i a)

-- an element that a look at its place finds makes the row there
pub at_looked_up : {A : Type 0} (g : A → Entry) (xs : List A) (i : ℕ) (r : Option (Bor A)) (a : Bor A) (q : List ℕ) → IsItemAt xs i r → r ≡ Some a → (g a.now).0 ≡ q → IsAt (map g xs) q i
at_looked_up g xs i r a q looked is named =
    let there = (subst (IsItemAt xs i) is looked).3 in
    let long = length-map xs g in
    record { within = omega (arith, there.0, long); named = at_row g (λ e. e.0 ≡ q) xs i there.0 (λ d. subst (λ y. (g y).0 ≡ q) (there.1 d) named) }

-- a binary search among elements that make rows ends at the name, or at the gap for it
module _ {A : Type 0} (g : A → Entry) (xs : List A) (sorted : IsTrue (is_sorted name_cmp (map g xs))) where
  risen : (q : List ℕ) → IsNonDecreasingBy (λ (a : A). ordering_index (name_cmp (g a).0 q)) xs
  risen q i j d le within =
      let rows = comparisons_rise nat_list_cmp_total (map g xs) (passes (is_sorted name_cmp (map g xs)) sorted) q in
      let ends : j < length (map g xs) = omega (arith, length-map xs g) in
      rw (← get_or-map_same g xs i d, ← get_or-map_same g xs j d) (rows i j (g d) le ends)

  pub searched : (q : List ℕ) (r : Result ℕ ℕ) → IsSearchInRange r (length xs) → IsBinarySearchResult (λ (a : A). name_cmp (g a).0 q) xs r → (IfOk r (IsAt (map g xs) q)) × (IfErr r (IsGapFor (map g xs) q))
  searched q (Ok i) within equal =
      let long = length-map xs g in
      (record { within = omega arith; named = at_row g (λ e. e.0 ≡ q) xs i within (λ d. same_name _ q (equal d)) }, tt)
  searched q (Err i) within parted =
      let long = length-map xs g in
      let parts = parted (risen q) in (
        tt,
        record {
          within = omega arith;
          below = λ j e lt. at_row g (λ r. name_cmp r.0 q ≡ Less) xs j (omega arith) (λ d. parts.0 j d (omega arith) lt) e;
          above = λ j e le lt. at_row g (λ r. name_cmp r.0 q ≡ Greater) xs j (omega arith) (λ d. parts.1 j d le (omega arith)) e;
        },
      )

-- a live map that was changed is the one that is there
live_changed : (m : FileSystems) (k : List ℕ) (s : FileSystem) → get m k ≡ Some s → (live : Map) → live_of (with_live m k live) k ≡ live
live_changed m k s was live =
    ap (λ o. live_of (option_map_or (λ (f : FileSystem). finmap.insert m k (record f { live = live })) o m) k) was
    ∙ ap (λ o. option_map_or (λ (f : FileSystem). f.live) o finmap.empty)
    (get-insert nat_list_cmp_total m k (record s { live = live }) k ∙ ap (λ t. cond (is_eq t) (Some (record s { live = live })) (get m k)) (tied_itself nat_list_cmp_total k))

-- a live map that became that of the newest snapshot
pub rolled_live : (m : FileSystems) (k : List ℕ) → option_map_or (λ (f : FileSystem). finmap.insert m k (record f { live = newest_map f.live f.snaps })) (get m k) m
    ≡ with_live m k (newest_map (live_of m k) (snaps_at m k))
rolled_live m k = at (get m k)
  where
    at : (o : Option FileSystem) → option_map_or (λ (f : FileSystem). finmap.insert m k (record f { live = newest_map f.live f.snaps })) o m
        ≡ option_map_or (λ (f : FileSystem). finmap.insert m k (record f { live = newest_map (option_map_or (λ (g : FileSystem). g.live) o finmap.empty) (option_map_or (λ (g : FileSystem). g.snaps) o []) })) o m
    at None = refl
    at (Some f) = refl

-- the row at a place
module _ (es : List Entry) (sorted : IsTrue (is_sorted name_cmp es)) (q : List ℕ) (i : ℕ) (at : IsAt es q i) (e : Entry) (is : e ≡ get_or es i e) where
  pub its_name : e.0 ≡ q
  its_name = ap (λ (r : Entry). r.0) is ∙ at.named e

  pub got : get (from_sorted {R = name_cmp} es) q ≡ Some e.1
  got = get_at es sorted q i at e ∙ ap (λ (r : Entry). Some r.1) (sym is)

  pub is_there : IsSome (get (from_sorted {R = name_cmp} es) q)
  is_there = ap is_some got

  -- its live map, as the map tells it
  pub live_is : live_of (from_sorted {R = name_cmp} es) q ≡ e.1.live
  live_is = ap (λ o. option_map_or (λ (f : FileSystem). f.live) o finmap.empty) got

  -- its snapshots, as the map tells them
  pub snaps_are : snaps_at (from_sorted {R = name_cmp} es) q ≡ e.1.snaps
  snaps_are = ap (λ o. option_map_or (λ (f : FileSystem). f.snaps) o []) got

  -- another file system at its place
  module _ (v : FileSystem) (r : Entry) (others : r ≡ (e.0, v)) where
    placed : set es i r ≡ set es i (q, v)
    placed = ap (set es i) (others ∙ ap (λ n. (n, v)) its_name)

    pub placed_sorted : IsTrue (is_sorted name_cmp (set es i r))
    placed_sorted = subst (λ fs. IsTrue (is_sorted name_cmp fs)) (sym placed) (set_sorted es sorted q v i at)

    pub placed_is : from_sorted {R = name_cmp} (set es i r) ≡ finmap.insert (from_sorted {R = name_cmp} es) q v
    placed_is = ap (from_sorted {R = name_cmp}) placed ∙ set_is es sorted q v i at

  -- changed by a function of its file system, as the map tells it
  pub made_is : (change : FileSystem → FileSystem) (r : Entry) → r ≡ (e.0, change e.1)
      → from_sorted {R = name_cmp} (set es i r) ≡ option_map_or (λ f. finmap.insert (from_sorted {R = name_cmp} es) q (change f)) (get (from_sorted {R = name_cmp} es) q) (from_sorted {R = name_cmp} es)
  made_is change r others =
      placed_is (change e.1) r others
      ∙ sym (ap (λ o. option_map_or (λ f. finmap.insert (from_sorted {R = name_cmp} es) q (change f)) o (from_sorted {R = name_cmp} es)) got)

  -- it keeps the rule that its file system keeps
  pub rule_here : (P : FileSystem → Type 0) → IfSome (get (from_sorted {R = name_cmp} es) q) P → P e.1
  rule_here P h = subst (λ o. IfSome o P) got h

  module _ (live : Map) where
    abbrev changed : List Entry
    changed = set es i (e.0, record e.1 { live = live })

    renamed : changed ≡ set es i (q, record e.1 { live = live })
    renamed = ap (λ n. set es i (n, record e.1 { live = live })) its_name

    -- another live map at its place
    changed_is : from_sorted {R = name_cmp} changed ≡ with_live (from_sorted {R = name_cmp} es) q live
    changed_is =
        ap (from_sorted {R = name_cmp}) renamed
        ∙ set_is es sorted q (record e.1 { live = live }) i at
        ∙ sym (ap (λ o. option_map_or (λ f. finmap.insert (from_sorted {R = name_cmp} es) q (record f { live = live })) o (from_sorted {R = name_cmp} es)) got)

    changed_sorted : IsTrue (is_sorted name_cmp changed)
    changed_sorted = subst (λ fs. IsTrue (is_sorted name_cmp fs)) (sym renamed) (set_sorted es sorted q (record e.1 { live = live }) i at)

entries_empty : (es : List Entry) → length es ≡ 0 → es ≡ []
entries_empty [] e = refl
entries_empty (x ∷ es) e = absurd (omega arith)

-- one file system alone
pub fresh_is : (name : List ℕ) (v : FileSystem) → from_sorted {R = name_cmp} ((name, v) ∷ []) ≡ finmap.insert empty name v
fresh_is name v = put_is [] refl ((name, v) ∷ []) name v refl ∙ ap (λ m. finmap.insert m name v) none
  where
    none : from_sorted {R = name_cmp} [] ≡ empty {X = FileSystem} {R = name_cmp}
    none = same_entries_map (from_sorted {R = name_cmp} []) (empty {X = FileSystem} {R = name_cmp}) (entries-from_sorted name_cmp [] tt ∙ sym (entries_empty _ (sym (len-entries (empty {X = FileSystem} {R = name_cmp})) ∙ len-empty name_cmp FileSystem)))

-- what is told of the row that comes to its place, which differs in its live map alone
module _ (es : List Entry) (sorted : IsTrue (is_sorted name_cmp es)) (q : List ℕ) (i : ℕ) (at : IsAt es q i) (e : Entry) (is : e ≡ get_or es i e)
    (r : Entry) (others : r ≡ (e.0, record e.1 { live = r.1.live })) where
  pub row_sorted : IsTrue (is_sorted name_cmp (set es i r))
  row_sorted = subst (λ x. IsTrue (is_sorted name_cmp (set es i x))) (sym others) (changed_sorted es sorted q i at e is r.1.live)

  pub row_is : from_sorted {R = name_cmp} (set es i r) ≡ with_live (from_sorted {R = name_cmp} es) q r.1.live
  row_is = ap (λ x. from_sorted {R = name_cmp} (set es i x)) others ∙ changed_is es sorted q i at e is r.1.live

  pub row_live : live_of (from_sorted {R = name_cmp} (set es i r)) q ≡ r.1.live
  row_live = ap (λ m. live_of m q) row_is ∙ live_changed (from_sorted {R = name_cmp} es) q e.1 (got es sorted q i at e is) r.1.live

  pub row_alone : from_sorted {R = name_cmp} (set es i r) ≡ with_live (from_sorted {R = name_cmp} es) q (live_of (from_sorted {R = name_cmp} (set es i r)) q)
  row_alone = row_is ∙ ap (with_live (from_sorted {R = name_cmp} es) q) (sym row_live)

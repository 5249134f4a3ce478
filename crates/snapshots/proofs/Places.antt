-- Entries in order as a map: a search, an entry more, an entry less.
use Rattle.std.proofs.Common.{◌≡◌, ℕ, zero, suc, ◌<◌, Bool, true, false, cond, T, List, [], ◌∷◌, length, get_or, map, Some, None, is_some, refl, sym, ap, subst, ◌∙◌, arith}
use Rattle.std.proofs.lemmas.List.{length-map, get_or-map}
use Rattle.std.proofs.Math.ListN.{get_or-map as get_or-map_same}
use Rattle.std.specs.Prelude.{IsTrue, IfOk, IfErr, Result, Ok, Err, is_ok, remove}
use Rattle.std.specs.Bool.{passes}
use Rattle.std.specs.declared.cmp.Ordering.{Ordering}
use Rattle.std.specs.declared.cmp.Ordering.TheVariants.{Less, Greater}
use Rattle.std.specs.Ordering.{is_eq, ordering_index}
use Rattle.std.specs.List.{insert}
use Rattle.std.specs.List.Sorted.{IsSearchInRange, IsBinarySearchResult, IsNonDecreasingBy}
use Rattle.std.specs.FinMap as finmap
use Rattle.std.specs.FinMap.{get, contains_key, len, entries, find, put, is_sorted, from_sorted, from_entries, get-from_sorted, get-from_entries, entries-from_sorted, entries-insert, same_entries_map, same_map, get-remove, get-empty, len-entries}
use Rattle.std.specs.FinMap.Entries.{is_sorted-put}
use Rattle.snapshots.specs.Places.{IsAt, IsGapFor}
use Rattle.snapshots.proofs.Sorted.{IsExactOrder, comparisons_rise, find_at, find_gap, put_gap, left_sorted, find_left}

pub true_from : (b : Bool) → T b → b ≡ true
true_from true h = refl
true_from false h = absurd h

at_row : {A B : Type 0} (g : A → B) (P : B → Type 0) (xs : List A) (i : ℕ) → i < length xs → ((d : A) → P (g (get_or xs i d))) → (e : B) → P (get_or (map g xs) i e)
at_row g P [] i lt h e = absurd (omega arith)
at_row g P (x ∷ xs) i lt h e = subst P (sym (get_or-map g (x ∷ xs) i x e lt)) (h x)

pub map_inserted : {A B : Type 0} (f : A → B) (xs : List A) (i : ℕ) (x : A) → map f (insert xs i x) ≡ insert (map f xs) i (f x)
map_inserted f xs zero x = refl
map_inserted f [] (suc i) x = refl
map_inserted f (y ∷ xs) (suc i) x = ap (λ l. f y ∷ l) (map_inserted f xs i x)

pub map_removed : {A B : Type 0} (f : A → B) (xs : List A) (i : ℕ) → map f (remove xs i) ≡ remove (map f xs) i
map_removed f [] zero = refl
map_removed f [] (suc i) = refl
map_removed f (x ∷ xs) zero = refl
map_removed f (x ∷ xs) (suc i) = ap (λ l. f x ∷ l) (map_removed f xs i)

-- the first of some
first : {A : Type 0} (xs : List A) (i : ℕ) → i < length xs → A
first [] i lt = absurd (omega arith)
first (x ∷ xs) i lt = x

module _ {K X : Type 0} {R : K → K → Ordering} (o : IsExactOrder R) where
  -- no entries are the empty map
  pub nothing_is : from_sorted {R = R} [] ≡ finmap.empty {X = X} {R = R}
  nothing_is = same_map o.total o.exact _ _ (λ q. get-from_sorted R [] q tt ∙ sym (get-empty R q))

  module _ (es : List (K × X)) (sorted : IsTrue (is_sorted R es)) where
    in_order : T (is_sorted R es)
    in_order = passes (is_sorted R es) sorted

    -- the entries of the map are these
    pub entries_are : entries (from_sorted {R = R} es) ≡ es
    entries_are = entries-from_sorted R es in_order

    -- and so many
    pub len_is : len (from_sorted {R = R} es) ≡ length es
    len_is = len-entries (from_sorted {R = R} es) ∙ ap length entries_are

    -- a map that is made of entries in order, one by one
    pub made_is : from_entries {R = R} es ≡ from_sorted {R = R} es
    made_is = same_map o.total o.exact _ _ (λ q. get-from_entries o.total es q ∙ sym (get-from_sorted R es q in_order))

    -- a key at a place is found there
    pub get_at : (q : K) (i : ℕ) → IsAt es q i → (d : K × X) → get (from_sorted {R = R} es) q ≡ Some (get_or es i d).1
    get_at q i at d = get-from_sorted R es q in_order ∙ ap (λ k. find R k es) (sym (at.named d)) ∙ find_at o.total es in_order i d at.within

    -- a key in a gap is not
    pub get_gap : (q : K) (i : ℕ) → IsGapFor R es q i → get (from_sorted {R = R} es) q ≡ None
    get_gap q i gap = get-from_sorted R es q in_order ∙ find_gap o.total es q i gap.below gap.above

    -- a search finds a key that is there
    pub there_is : (q : K) (r : Result ℕ ℕ) → IfOk r (IsAt es q) → IfErr r (IsGapFor R es q) → is_ok r ≡ contains_key (from_sorted {R = R} es) q
    there_is q (Ok i) at gap = sym (ap is_some (get_at q i at (first es i at.within)))
    there_is q (Err i) at gap = sym (ap is_some (get_gap q i gap))

    -- ---- an entry more, in its gap

    put_sorted : (fs : List (K × X)) (q : K) (v : X) → put R q v es ≡ fs → T (is_sorted R fs)
    put_sorted fs q v e = subst (λ xs. T (is_sorted R xs)) e (is_sorted-put R o.total q v es in_order)

    put_is : (fs : List (K × X)) (q : K) (v : X) → put R q v es ≡ fs → from_sorted {R = R} fs ≡ finmap.insert (from_sorted {R = R} es) q v
    put_is fs q v e =
        same_entries_map _ _ (entries-from_sorted R fs (put_sorted fs q v e) ∙ sym e ∙ ap (put R q v) (sym entries_are) ∙ sym (entries-insert o.total (from_sorted {R = R} es) q v))

    pub inserted_sorted : (q : K) (v : X) (i : ℕ) → IsGapFor R es q i → IsTrue (is_sorted R (insert es i (q, v)))
    inserted_sorted q v i gap = true_from _ (put_sorted _ q v (put_gap o.total es q v i gap.within gap.below gap.above))

    pub inserted_is : (q : K) (v : X) (i : ℕ) → IsGapFor R es q i → from_sorted {R = R} (insert es i (q, v)) ≡ finmap.insert (from_sorted {R = R} es) q v
    inserted_is q v i gap = put_is _ q v (put_gap o.total es q v i gap.within gap.below gap.above)

    -- ---- an entry less, from its place

    pub removed_sorted : (i : ℕ) → IsTrue (is_sorted R (remove es i))
    removed_sorted i = true_from _ (left_sorted o.total es i in_order)

    pub removed_is : (q : K) (i : ℕ) → IsAt es q i → K × X → from_sorted {R = R} (remove es i) ≡ finmap.remove (from_sorted {R = R} es) q
    removed_is q i at d = same_map o.total o.exact _ _ (λ k.
        get-from_sorted R (remove es i) k (left_sorted o.total es i in_order)
        ∙ find_left o.total es i d in_order at.within k
        ∙ ap (λ n. cond (is_eq (R k n)) None (find R k es)) (at.named d)
        ∙ ap (cond (is_eq (R k q)) None) (sym (get-from_sorted R es k in_order))
        ∙ sym (get-remove o.total (from_sorted {R = R} es) q k))

  -- a binary search among elements that make entries ends at the key, or at the gap for it
  module _ {A : Type 0} (g : A → K × X) (xs : List A) (sorted : IsTrue (is_sorted R (map g xs))) where
    risen : (q : K) → IsNonDecreasingBy (λ (a : A). ordering_index (R (g a).0 q)) xs
    risen q i j d le within =
        let rows = comparisons_rise o.total (map g xs) (passes (is_sorted R (map g xs)) sorted) q in
        let ends : j < length (map g xs) = omega (arith, length-map xs g) in
        rw (← get_or-map_same g xs i d, ← get_or-map_same g xs j d) (rows i j (g d) le ends)

    pub searched : (q : K) (r : Result ℕ ℕ) → IsSearchInRange r (length xs) → IsBinarySearchResult (λ (a : A). R (g a).0 q) xs r → (IfOk r (IsAt (map g xs) q)) × (IfErr r (IsGapFor R (map g xs) q))
    searched q (Ok i) within equal =
        let long = length-map xs g in
        (record { within = omega arith; named = at_row g (λ e. e.0 ≡ q) xs i within (λ d. o.exact _ q (equal d)) }, tt)
    searched q (Err i) within parted =
        let long = length-map xs g in
        let parts = parted (risen q) in (
          tt,
          record {
            within = omega arith;
            below = λ j e lt. at_row g (λ r. R r.0 q ≡ Less) xs j (omega arith) (λ d. parts.0 j d (omega arith) lt) e;
            above = λ j e le lt. at_row g (λ r. R r.0 q ≡ Greater) xs j (omega arith) (λ d. parts.1 j d le (omega arith)) e;
          },
        )

-- Bookmarks in order of their groups, and then of their names.
use Rattle.std.proofs.Common.{◌≡◌, ℕ, zero, suc, ◌<◌, Bool, true, false, cond, T, ◌&&◌, List, [], ◌∷◌, ◌++◌, length, get_or, map, take, Some, None, refl, sym, ap, subst, ◌∙◌, arith}
use Rattle.std.proofs.lemmas.List.{map-append}
use Rattle.std.specs.Prelude.{IsTrue}
use Rattle.std.specs.Arc.{arc_value}
use Rattle.std.specs.Cmp.{tied_then}
use Rattle.std.specs.declared.cmp.Ordering.{Ordering}
use Rattle.std.specs.declared.cmp.Ordering.TheVariants.{Less, Equal, Greater}
use Rattle.std.specs.Ordering.{nat_cmp, is_eq, is_lt}
use Rattle.std.specs.List.{insert}
use Rattle.std.specs.declared.alloc.Global.{Global}
use Rattle.std.specs.declared.sync.Arc.{Arc}
use Rattle.std.specs.FinMap as finmap
use Rattle.std.specs.FinMap.{FinMap, entries, entries_sorted, find, put, is_sorted, from_entries, get-entries, get-from_entries, entries-insert, from_entries_push, len-entries, len-empty}
use Rattle.std.specs.FinMap.Entries.{below_all, by_order}
use Rattle.base.specs.Names.{name_cmp}
use Rattle.model.specs.Properties.{bookmark_cmp, bookmarks_in_order}
use Rattle.snapshots.specs.declared.bookmarks.mark.Mark.{Mark}
use Rattle.snapshots.specs.Marks.{Entry, Marks, entry_of, entry_in, name_in, order_key, keyed, keyed_in, marks_in_order, alone}
use Rattle.snapshots.specs.Places.{IsGapFor}
use Rattle.snapshots.proofs.Orders.{by_name, by_group}
use Rattle.snapshots.proofs.Places.{true_from, map_inserted}
use Rattle.snapshots.proofs.Sorted.{less_from, T_left, T_right, turned, put_gap}

abbrev pub Owned : Type 0
Owned = Arc Mark Global

-- a bookmark under its group and its name, as a pair of the map that is ordered so
abbrev pub Keyed : Type 0
Keyed = (ℕ × List ℕ) × Entry

-- the map of these bookmarks by their groups and names
abbrev pub by_key : List Owned → FinMap bookmark_cmp Entry
by_key xs = from_entries {R = bookmark_cmp} (map keyed_in xs)

-- ---- the one at a place isn't among those in front of it

below_in : (k : List ℕ) (xs : List Owned) (i : ℕ) (d : Owned) → T (below_all name_cmp k (map entry_in xs)) → i < length xs → name_cmp k (name_in (get_or xs i d)) ≡ Less
below_in k [] i d h lt = absurd (omega arith)
below_in k (x ∷ xs) zero d h lt = less_from (name_cmp k (name_in x)) (T_left (is_lt (name_cmp k (name_in x))) (below_all name_cmp k (map entry_in xs)) h)
below_in k (x ∷ xs) (suc i) d h lt = below_in k xs i d (T_right (is_lt (name_cmp k (name_in x))) (below_all name_cmp k (map entry_in xs)) h) (omega arith)

never : (b : Bool) → (b && false) ≡ false
never true = refl
never false = refl

apart : (p q : ℕ × List ℕ) → name_cmp q.1 p.1 ≡ Less → is_eq (bookmark_cmp p q) ≡ false
apart p q less =
    sym (tied_then (nat_cmp p.0 q.0) (name_cmp p.1 q.1))
    ∙ ap (λ r. is_eq (nat_cmp p.0 q.0) && is_eq r) (turned by_name.total q.1 p.1 Less less)
    ∙ never (is_eq (nat_cmp p.0 q.0))

pub new_here : (xs : List Owned) (i : ℕ) (d : Owned) → T (is_sorted name_cmp (map entry_in xs)) → i < length xs → find bookmark_cmp (order_key (entry_in (get_or xs i d))) (map keyed_in (take i xs)) ≡ None
new_here [] i d h lt = absurd (omega arith)
new_here (x ∷ xs) zero d h lt = refl
new_here (x ∷ xs) (suc i) d h lt =
    let key = order_key (entry_in (get_or xs i d)) in
    let less = below_in (name_in x) xs i d (T_left (below_all name_cmp (name_in x) (map entry_in xs)) (is_sorted name_cmp (map entry_in xs)) h) (omega arith) in
    ap (λ b. cond b (Some (entry_in x)) (find bookmark_cmp key (map keyed_in (take i xs)))) (apart key (order_key (entry_in x)) less)
    ∙ new_here xs i d (T_right (below_all name_cmp (name_in x) (map entry_in xs)) (is_sorted name_cmp (map entry_in xs)) h) (omega arith)

-- ---- one more in its gap

-- those that are there stand in order
pub made_sorted : (ys xs : List Owned) → map keyed_in ys ≡ entries (by_key xs) → IsTrue (is_sorted bookmark_cmp (map keyed_in ys))
made_sorted ys xs e = true_from _ (subst (λ l. T (is_sorted bookmark_cmp l)) (sym e) (entries_sorted (by_key xs)))

-- none of them has a key that none was made of
pub made_lacks : (ys xs : List Owned) (q : ℕ × List ℕ) → map keyed_in ys ≡ entries (by_key xs) → find bookmark_cmp q (map keyed_in xs) ≡ None → find bookmark_cmp q (map keyed_in ys) ≡ None
made_lacks ys xs q e none = ap (find bookmark_cmp q) e ∙ sym (get-entries (by_key xs) q) ∙ get-from_entries by_group.total (map keyed_in xs) q ∙ none

pub made_more : (ys xs : List Owned) (a b : Owned) (i : ℕ) → entry_in a ≡ entry_in b → map keyed_in ys ≡ entries (by_key xs) → find bookmark_cmp (order_key (entry_in b)) (map keyed_in xs) ≡ None
    → IsGapFor bookmark_cmp (map keyed_in ys) (order_key (entry_in b)) i → map keyed_in (insert ys i a) ≡ entries (by_key (xs ++ b ∷ []))
made_more ys xs a b i same e none gap =
    map_inserted keyed_in ys i a
    ∙ ap (λ (x : Entry). insert (map keyed_in ys) i (keyed x)) same
    ∙ sym (put_gap by_group.total (map keyed_in ys) (order_key (entry_in b)) (entry_in b) i gap.within gap.below gap.above)
    ∙ ap (put bookmark_cmp (order_key (entry_in b)) (entry_in b)) e
    ∙ sym (entries-insert by_group.total (by_key xs) (order_key (entry_in b)) (entry_in b))
    ∙ ap entries (sym (from_entries_push by_group.total by_group.exact (map keyed_in xs) (order_key (entry_in b)) (entry_in b) none))
    ∙ ap (λ l. entries (from_entries {R = bookmark_cmp} l)) (sym (map-append keyed_in xs (b ∷ [])))

no_length : {A : Type 0} (xs : List A) → length xs ≡ 0 → xs ≡ []
no_length [] e = refl
no_length (x ∷ xs) e = absurd (omega arith)

none_in : {X : Type 0} → entries (finmap.empty {X = X} {R = bookmark_cmp}) ≡ []
none_in {X} = no_length _ (sym (len-entries (finmap.empty {X = X} {R = bookmark_cmp})) ∙ len-empty bookmark_cmp X)

-- none are in order
pub made_none : (ys : List Owned) → ys ≡ [] → map keyed_in ys ≡ entries (by_key [])
made_none ys e = ap (map keyed_in) e ∙ sym none_in

-- ---- what stands in that order

-- an entry with another value
abbrev lifted : Keyed → (ℕ × List ℕ) × List ℕ
lifted p = (p.0, p.1.0)

put_lifted : (k : ℕ × List ℕ) (v : Entry) (es : List Keyed) → map lifted (put bookmark_cmp k v es) ≡ put bookmark_cmp k v.0 (map lifted es)
put_lifted k v [] = refl
put_lifted k v (e ∷ es) = by (bookmark_cmp k e.0) (put_lifted k v es)
  where
    by : (r : Ordering) → map lifted (put bookmark_cmp k v es) ≡ put bookmark_cmp k v.0 (map lifted es)
        → map lifted (by_order r ((k, v) ∷ e ∷ es) ((e.0, v) ∷ es) (e ∷ put bookmark_cmp k v es)) ≡ by_order r ((k, v.0) ∷ lifted e ∷ map lifted es) ((e.0, v.0) ∷ map lifted es) (lifted e ∷ put bookmark_cmp k v.0 (map lifted es))
    by Less rest = refl
    by Equal rest = refl
    by Greater rest = ap (λ l. lifted e ∷ l) rest

-- the names alone stand in the same order
entries_lifted : (es : List Entry) → entries (from_entries {R = bookmark_cmp} (map (λ e. (order_key e, e.0)) es)) ≡ map lifted (entries (from_entries {R = bookmark_cmp} (map keyed es)))
entries_lifted [] = none_in ∙ ap (map lifted) (sym none_in)
entries_lifted (e ∷ es) =
    entries-insert by_group.total (from_entries {R = bookmark_cmp} (map (λ x. (order_key x, x.0)) es)) (order_key e) e.0
    ∙ ap (put bookmark_cmp (order_key e) e.0) (entries_lifted es)
    ∙ sym (put_lifted (order_key e) e (entries (from_entries {R = bookmark_cmp} (map keyed es))))
    ∙ ap (map lifted) (sym (entries-insert by_group.total (from_entries {R = bookmark_cmp} (map keyed es)) (order_key e) e))

map_twice : {A B C : Type 0} (f : A → B) (g : B → C) (xs : List A) → map g (map f xs) ≡ map (λ x. g (f x)) xs
map_twice f g [] = refl
map_twice f g (x ∷ xs) = ap (λ l. g (f x) ∷ l) (map_twice f g xs)

module _ (ys : List Owned) (m : Marks) (made : map keyed_in ys ≡ entries (from_entries {R = bookmark_cmp} (map keyed (entries m)))) where
  pub all_in_order : map entry_in ys ≡ marks_in_order m
  all_in_order = sym (map_twice keyed_in (λ (p : Keyed). p.1) ys) ∙ ap (map (λ (p : Keyed). p.1)) made

  pub names_in_order : map name_in ys ≡ bookmarks_in_order (alone m)
  names_in_order =
      sym (map_twice keyed_in (λ (p : Keyed). p.0.1) ys)
      ∙ ap (map (λ (p : Keyed). p.0.1)) made
      ∙ sym (map_twice lifted (λ p. p.0.1) (entries (from_entries {R = bookmark_cmp} (map keyed (entries m)))))
      ∙ ap (map (λ p. p.0.1)) (sym (entries_lifted (entries m)))
      ∙ sym (map_twice (λ p. p.0) (λ k. k.1) (entries (from_entries {R = bookmark_cmp} (map (λ (e : Entry). (order_key e, e.0)) (entries m)))))

-- bookmarks are keyed as their entries are
pub keyed_twice : (xs : List Owned) → map keyed_in xs ≡ map keyed (map entry_in xs)
keyed_twice xs = sym (map_twice entry_in keyed xs)

-- rows of the same bookmarks have the same entries
pub same_entries : (xs ys : List Owned) → map arc_value xs ≡ map arc_value ys → map entry_in xs ≡ map entry_in ys
same_entries xs ys e = sym (map_twice arc_value entry_of xs) ∙ ap (map entry_of) e ∙ map_twice arc_value entry_of ys

-- Rows once one is gone.
use Rattle.std.proofs.Common.{◌≡◌, ℕ, zero, suc, ◌<◌, Bool, true, false, cond, T, List, [], ◌∷◌, length, get_or, map, Option, Some, None, refl, sym, ap, ◌∙◌, arith, length-append, true≢false}
use Rattle.std.specs.Prelude.{◌&&◌, IsTrue, remove}
use Rattle.std.specs.Bool.{passes}
use Rattle.std.specs.declared.cmp.Ordering.{Ordering}
use Rattle.std.specs.declared.cmp.Ordering.TheVariants.{Less, Equal}
use Rattle.std.specs.Ordering.{is_lt, is_eq}
use Rattle.std.specs.Cmp.{IsTotalOrder}
use Rattle.std.specs.Cmp.Lexicographic.{nat_list_cmp_total}
use Rattle.std.specs.FinMap as finmap
use Rattle.std.specs.FinMap.{find, is_sorted, from_sorted, get-from_sorted, get-remove, same_map}
use Rattle.std.specs.FinMap.Entries.{below_all}
use Rattle.base.specs.Names.{name_cmp}
use Rattle.datasets.specs.Places.{IsAt}
use Rattle.file_system.specs.Rows.{Entry, snap_count}
use Rattle.datasets.proofs.Rows.{same_name, true_from}
use Rattle.datasets.proofs.Counts.{counted, snaps_in}
use Rattle.snapshots.proofs.Sorted.{sorted_at, less_from, equal_from, T_left, T_right}

pub T_both : (a b : Bool) → T a → T b → T (a && b)
T_both true b h k = k
T_both false b h k = h

gone : {X : Type 0} (b : Bool) (x : X) (r : Option X) → (b ≡ true → r ≡ None) → r ≡ cond b None (cond b (Some x) r)
gone true x r h = h refl
gone false x r h = refl

passed : {X : Type 0} (a b : Bool) (x : X) (r : Option X) → (a ≡ true → b ≡ true → ⊥) → cond a (Some x) (cond b None r) ≡ cond b None (cond a (Some x) r)
passed true true x r h = absurd (h refl refl)
passed true false x r h = refl
passed false b x r h = refl

module _ {K X : Type 0} {R : K → K → Ordering} (o : IsTotalOrder R) where
  below_left : (k : K) (es : List (K × X)) (i : ℕ) → T (below_all R k es) → T (below_all R k (remove es i))
  below_left k [] zero h = h
  below_left k [] (suc i) h = h
  below_left k (e ∷ es) zero h = T_right (is_lt (R k e.0)) (below_all R k es) h
  below_left k (e ∷ es) (suc i) h = T_both (is_lt (R k e.0)) (below_all R k (remove es i)) (T_left (is_lt (R k e.0)) (below_all R k es) h) (below_left k es i (T_right (is_lt (R k e.0)) (below_all R k es) h))

  -- they stay in order
  pub left_sorted : (es : List (K × X)) (i : ℕ) → T (is_sorted R es) → T (is_sorted R (remove es i))
  left_sorted [] zero h = h
  left_sorted [] (suc i) h = h
  left_sorted (e ∷ es) zero h = T_right (below_all R e.0 es) (is_sorted R es) h
  left_sorted (e ∷ es) (suc i) h = T_both (below_all R e.0 (remove es i)) (is_sorted R (remove es i)) (below_left e.0 es i (T_left (below_all R e.0 es) (is_sorted R es) h)) (left_sorted es i (T_right (below_all R e.0 es) (is_sorted R es) h))

  -- a key that is below all is found nowhere among them
  pub none_below : (q k : K) (es : List (K × X)) → R q k ≡ Equal → T (below_all R k es) → find R q es ≡ None
  none_below q k [] e h = refl
  none_below q k (x ∷ es) e h =
      let less : R q x.0 ≡ Less = o.congr q k x.0 e ∙ less_from (R k x.0) (T_left (is_lt (R k x.0)) (below_all R k es) h) in
      ap (λ r. cond (is_eq r) (Some x.1) (find R q es)) less ∙ none_below q k es e (T_right (is_lt (R k x.0)) (below_all R k es) h)

  -- the one that is gone isn't found, and the others are
  pub find_left : (es : List (K × X)) (i : ℕ) (d : K × X) → T (is_sorted R es) → i < length es → (q : K) → find R q (remove es i) ≡ cond (is_eq (R q (get_or es i d).0)) None (find R q es)
  find_left [] i d h lt q = absurd (omega arith)
  find_left (e ∷ es) zero d h lt q =
      gone (is_eq (R q e.0)) e.1 (find R q es) (λ s. none_below q e.0 es (equal_from (R q e.0) s) (T_left (below_all R e.0 es) (is_sorted R es) h))
  find_left (e ∷ es) (suc i) d h lt q =
      ap (λ r. cond (is_eq (R q e.0)) (Some e.1) r) (find_left es i d (T_right (below_all R e.0 es) (is_sorted R es) h) (omega arith) q)
      ∙ passed (is_eq (R q e.0)) (is_eq (R q (get_or es i d).0)) e.1 (find R q es)
      (λ a b.
      let less : R e.0 (get_or es i d).0 ≡ Less = sorted_at o (e ∷ es) h zero (suc i) d (omega arith) (omega arith) in
      let first : R q (get_or es i d).0 ≡ Less = o.congr q e.0 (get_or es i d).0 (equal_from (R q e.0) a) ∙ less in
      true≢false (sym b ∙ ap is_eq first))

-- a row gone from its place is its name gone from the map
module _ (es : List Entry) (sorted : IsTrue (is_sorted name_cmp es)) (q : List ℕ) (i : ℕ) (at : IsAt es q i) where
  in_order : T (is_sorted name_cmp es)
  in_order = passes (is_sorted name_cmp es) sorted

  still_in_order : T (is_sorted name_cmp (remove es i))
  still_in_order = left_sorted nat_list_cmp_total es i in_order

  pub removed_sorted : IsTrue (is_sorted name_cmp (remove es i))
  removed_sorted = true_from (is_sorted name_cmp (remove es i)) still_in_order

  pub removed_is : (d : Entry) → from_sorted {R = name_cmp} (remove es i) ≡ finmap.remove (from_sorted {R = name_cmp} es) q
  removed_is d = same_map nat_list_cmp_total same_name _ _ (λ k.
      get-from_sorted name_cmp (remove es i) k still_in_order
      ∙ find_left nat_list_cmp_total es i d in_order at.within k
      ∙ ap (λ n. cond (is_eq (name_cmp k n)) None (find name_cmp k es)) (at.named d)
      ∙ ap (cond (is_eq (name_cmp k q)) None) (sym (get-from_sorted name_cmp es k in_order))
      ∙ sym (get-remove nat_list_cmp_total (from_sorted {R = name_cmp} es) q k))

-- one without snapshots takes none away
fewer_rows : (es : List Entry) (i : ℕ) (d : Entry) → i < length es → length (get_or es i d).1.snaps ≡ 0 → length (snaps_in (remove es i)) ≡ length (snaps_in es)
fewer_rows [] i d lt bare = absurd (omega arith)
fewer_rows (e ∷ es) zero d lt bare = let l = length-append e.1.snaps (snaps_in es) in omega arith
fewer_rows (e ∷ es) (suc i) d lt bare =
    let rest = fewer_rows es i d (omega arith) bare in
    omega (arith, length-append e.1.snaps (snaps_in (remove es i)), length-append e.1.snaps (snaps_in es))

pub removed_counted : (es : List Entry) (i : ℕ) (d : Entry) (count : ℕ) → IsTrue (is_sorted name_cmp es) → IsTrue (is_sorted name_cmp (remove es i)) → i < length es → length (get_or es i d).1.snaps ≡ 0
    → count ≡ snap_count (from_sorted {R = name_cmp} es) → count ≡ snap_count (from_sorted {R = name_cmp} (remove es i))
removed_counted es i d count sorted after lt bare counts = counts ∙ counted es sorted ∙ sym (fewer_rows es i d lt bare) ∙ sym (counted (remove es i) after)

-- the rows of elements of which one is gone
pub map_removed : {A B : Type 0} (g : A → B) (xs ys : List A) (i : ℕ) → ys ≡ remove xs i → map g ys ≡ remove (map g xs) i
map_removed {A} {B} g xs ys i e = ap (map g) e ∙ by xs i
  where
    by : (xs : List A) (i : ℕ) → map g (remove xs i) ≡ remove (map g xs) i
    by [] zero = refl
    by [] (suc i) = refl
    by (x ∷ xs) zero = refl
    by (x ∷ xs) (suc i) = ap (λ l. g x ∷ l) (by xs i)

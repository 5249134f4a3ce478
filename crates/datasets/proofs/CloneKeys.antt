-- Clones in order of their origins and names, as a set.
use Rattle.std.proofs.Common.{◌≡◌, ℕ, ◌<◌, ◌≤◌, Bool, true, false, cond, T, ◌&&◌, List, [], ◌∷◌, length, get_or, map, Some, None, refl, sym, ap, subst, ◌∙◌, arith}
use Rattle.std.proofs.lemmas.List.{length-map, get_or-map}
use Rattle.std.proofs.Math.ListN.{get_or-map as get_or-map_same}
use Rattle.std.proofs.lemmas.Cmp.{on_total, then_total, nat_cmp_total}
use Rattle.std.proofs.lemmas.Map.Lookups.{exact_pairs, exact_unsigned}
use Rattle.std.specs.Prelude.{IsTrue, IfOk, IfErr, Result, Ok, Err, remove}
use Rattle.std.specs.Bool.{passes}
use Rattle.std.specs.Cmp.{IsTotalOrder, unsigned_tied, tied_then}
use Rattle.std.specs.Cmp.Lexicographic.{nat_list_cmp_total}
use Rattle.std.specs.declared.cmp.Ordering.TheVariants.{Less, Equal, Greater}
use Rattle.std.specs.Ordering.{nat_cmp, is_eq, eq_by_cmp, ordering_index}
use Rattle.std.specs.List.{insert}
use Rattle.std.specs.List.Sorted.{IsSearchInRange, IsBinarySearchResult, IsNonDecreasingBy}
use Rattle.std.specs.FinMap as finmap
use Rattle.std.specs.FinMap.{get, entries, find, put, is_sorted, from_sorted, get-from_sorted, entries-from_sorted, entries-insert, same_entries_map, same_map, get-insert, get-remove, get-empty}
use Rattle.std.specs.FinMap.Entries.{is_sorted-put}
use Rattle.base.specs.Names.{name_cmp}
use Rattle.model.specs.World.{SnapId, same_id}
use Rattle.world.specs.Sets.{IsExactOrder}
use Rattle.world.specs.Shapes.{Name, name_order}
use Rattle.datasets.specs.declared.clones.CloneName.{CloneName}
use Rattle.datasets.specs.CloneNames.{CloneKey, CloneEntry, id_cmp, key_cmp, key_in, with_key, IsCloneAt, IsCloneGap}
use Rattle.datasets.proofs.Rows.{true_from}
use Rattle.datasets.proofs.RowGone.{left_sorted, find_left}
use Rattle.snapshots.proofs.Sorted.{equal_from, comparisons_rise, find_at, put_gap, find_gap}

-- ---- the order

as_id : ℕ × ℕ → SnapId
as_id p = record { group = p.0; guid = p.1 }

pub exact_ids : (a b : SnapId) → id_cmp a b ≡ Equal → a ≡ b
unfolding as_id
exact_ids a b h = ap as_id (exact_pairs nat_cmp nat_cmp exact_unsigned exact_unsigned (a.group, a.guid) (b.group, b.guid) h)

pub id_total : IsTotalOrder id_cmp
id_total = then_total (on_total (λ (s : SnapId). s.group) nat_cmp_total) (on_total (λ (s : SnapId). s.guid) nat_cmp_total)

-- only equal clones tie
pub key_order : IsExactOrder key_cmp
key_order = record {
  total = then_total (on_total (λ (k : CloneKey). k.0) id_total) (on_total (λ (k : CloneKey). k.1) nat_list_cmp_total);
  exact = exact_pairs id_cmp name_cmp exact_ids name_order.exact;
}

-- identities tie where they are the same
pub ids_tie : (a b : SnapId) → is_eq (id_cmp a b) ≡ same_id a b
ids_tie a b = sym (tied_then (nat_cmp a.group b.group) (nat_cmp a.guid b.guid)) ∙ (λ i. unsigned_tied a.group b.group i && unsigned_tied a.guid b.guid i)

-- clones tie where their origins are the same and their names tie
pub keys_tie : (a b : SnapId) (p q : Name) → eq_by_cmp key_cmp (a, p) (b, q) ≡ (same_id a b && is_eq (name_cmp p q))
keys_tie a b p q = sym (tied_then (id_cmp a b) (name_cmp p q)) ∙ ap (λ x. x && is_eq (name_cmp p q)) (ids_tie a b)

-- ---- clones put in and taken out

module _ (es : List CloneEntry) (sorted : IsTrue (is_sorted key_cmp es)) where
  in_order : T (is_sorted key_cmp es)
  in_order = passes (is_sorted key_cmp es) sorted

  -- its entries are these
  pub entries_are : entries (from_sorted {R = key_cmp} es) ≡ es
  entries_are = entries-from_sorted key_cmp es in_order

  put_sorted : (fs : List CloneEntry) (k : CloneKey) → put key_cmp k tt es ≡ fs → T (is_sorted key_cmp fs)
  put_sorted fs k e = subst (λ xs. T (is_sorted key_cmp xs)) e (is_sorted-put key_cmp key_order.total k tt es in_order)

  put_is : (fs : List CloneEntry) (k : CloneKey) → put key_cmp k tt es ≡ fs → from_sorted {R = key_cmp} fs ≡ with_key (from_sorted {R = key_cmp} es) k
  put_is fs k e =
      same_entries_map _ _ (entries-from_sorted key_cmp fs (put_sorted fs k e) ∙ sym e ∙ ap (put key_cmp k tt) (sym (entries-from_sorted key_cmp es in_order)) ∙ sym (entries-insert key_order.total (from_sorted {R = key_cmp} es) k tt))

  -- one in its gap
  pub entered_sorted : (k : CloneKey) (i : ℕ) → IsCloneGap es k i → IsTrue (is_sorted key_cmp (insert es i (k, tt)))
  entered_sorted k i gap = true_from _ (put_sorted _ k (put_gap key_order.total es k tt i gap.within gap.below gap.above))

  pub entered_is : (k : CloneKey) (i : ℕ) → IsCloneGap es k i → from_sorted {R = key_cmp} (insert es i (k, tt)) ≡ with_key (from_sorted {R = key_cmp} es) k
  entered_is k i gap = put_is _ k (put_gap key_order.total es k tt i gap.within gap.below gap.above)

  -- one that is there is no new one
  pub there_is : (k : CloneKey) (i : ℕ) → IsCloneAt es k i → from_sorted {R = key_cmp} es ≡ with_key (from_sorted {R = key_cmp} es) k
  there_is k i at = same_map key_order.total key_order.exact _ _ (λ q. by_test q (eq_by_cmp key_cmp q k) refl ∙ sym (get-insert key_order.total (from_sorted {R = key_cmp} es) k tt q))
    where
      got : get (from_sorted {R = key_cmp} es) k ≡ Some tt
      got = get-from_sorted key_cmp es k in_order ∙ ap (λ x. find key_cmp x es) (sym (at.named (k, tt))) ∙ find_at key_order.total es in_order i (k, tt) at.within

      by_test : (q : CloneKey) (b : Bool) → eq_by_cmp key_cmp q k ≡ b → get (from_sorted {R = key_cmp} es) q ≡ cond b (Some tt) (get (from_sorted {R = key_cmp} es) q)
      by_test q true e = ap (get (from_sorted {R = key_cmp} es)) (key_order.exact q k (equal_from (key_cmp q k) e)) ∙ got
      by_test q false e = refl

  -- one goes from its place
  pub left_in_order : (i : ℕ) → IsTrue (is_sorted key_cmp (remove es i))
  left_in_order i = true_from _ (left_sorted key_order.total es i in_order)

  pub left_is : (k : CloneKey) (i : ℕ) → IsCloneAt es k i → from_sorted {R = key_cmp} (remove es i) ≡ finmap.remove (from_sorted {R = key_cmp} es) k
  left_is k i at = same_map key_order.total key_order.exact _ _ (λ q.
      get-from_sorted key_cmp (remove es i) q (left_sorted key_order.total es i in_order)
      ∙ find_left key_order.total es i (k, tt) in_order at.within q
      ∙ ap (λ n. cond (is_eq (key_cmp q n)) None (find key_cmp q es)) (at.named (k, tt))
      ∙ ap (cond (is_eq (key_cmp q k)) None) (sym (get-from_sorted key_cmp es q in_order))
      ∙ sym (get-remove key_order.total (from_sorted {R = key_cmp} es) k q))

  -- one that isn't there doesn't go
  pub absent_is : (k : CloneKey) (i : ℕ) → IsCloneGap es k i → from_sorted {R = key_cmp} es ≡ finmap.remove (from_sorted {R = key_cmp} es) k
  absent_is k i gap = same_map key_order.total key_order.exact _ _ (λ q. by_test q (eq_by_cmp key_cmp q k) refl ∙ sym (get-remove key_order.total (from_sorted {R = key_cmp} es) k q))
    where
      none : get (from_sorted {R = key_cmp} es) k ≡ None
      none = get-from_sorted key_cmp es k in_order ∙ find_gap key_order.total es k i gap.below gap.above

      by_test : (q : CloneKey) (b : Bool) → eq_by_cmp key_cmp q k ≡ b → get (from_sorted {R = key_cmp} es) q ≡ cond b None (get (from_sorted {R = key_cmp} es) q)
      by_test q true e = ap (get (from_sorted {R = key_cmp} es)) (key_order.exact q k (equal_from (key_cmp q k) e)) ∙ none
      by_test q false e = refl

-- no clone is in no list
pub nothing_is : from_sorted {R = key_cmp} [] ≡ finmap.empty {X = Unit {0}} {R = key_cmp}
nothing_is = same_map key_order.total key_order.exact _ _ (λ q. get-from_sorted key_cmp [] q tt ∙ sym (get-empty key_cmp q))

-- ---- a search

at_key : (P : CloneEntry → Type 0) (xs : List CloneName) (i : ℕ) → i < length xs → ((d : CloneName) → P (key_in (get_or xs i d))) → (e : CloneEntry) → P (get_or (map key_in xs) i e)
at_key P [] i lt h e = absurd (omega arith)
at_key P (x ∷ xs) i lt h e = subst P (sym (get_or-map key_in (x ∷ xs) i x e lt)) (h x)

-- a binary search among clones ends at the clone, or at the gap for it
module _ (xs : List CloneName) (sorted : IsTrue (is_sorted key_cmp (map key_in xs))) where
  risen : (q : CloneKey) → IsNonDecreasingBy (λ (a : CloneName). ordering_index (key_cmp (key_in a).0 q)) xs
  risen q i j d le within =
      let rows = comparisons_rise key_order.total (map key_in xs) (passes (is_sorted key_cmp (map key_in xs)) sorted) q in
      let ends : j < length (map key_in xs) = omega (arith, length-map xs key_in) in
      subst (λ (e : CloneEntry). ordering_index (key_cmp e.0 q) ≤ ordering_index (key_cmp (key_in (get_or xs j d)).0 q)) (get_or-map_same key_in xs i d)
      (subst (λ (e : CloneEntry). ordering_index (key_cmp (get_or (map key_in xs) i (key_in d)).0 q) ≤ ordering_index (key_cmp e.0 q)) (get_or-map_same key_in xs j d) (rows i j (key_in d) le ends))

  pub sought : (q : CloneKey) (r : Result ℕ ℕ) → IsSearchInRange r (length xs) → IsBinarySearchResult (λ (a : CloneName). key_cmp (key_in a).0 q) xs r → (IfOk r (IsCloneAt (map key_in xs) q)) × (IfErr r (IsCloneGap (map key_in xs) q))
  sought q (Ok i) within equal =
      let long = length-map xs key_in in
      (record { within = omega arith; named = at_key (λ e. e.0 ≡ q) xs i within (λ d. key_order.exact _ q (equal d)) }, tt)
  sought q (Err i) within parted =
      let long = length-map xs key_in in
      let parts = parted (risen q) in (
        tt,
        record {
          within = omega arith;
          below = λ j e lt. at_key (λ r. key_cmp r.0 q ≡ Less) xs j (omega arith) (λ d. parts.0 j d (omega arith) lt) e;
          above = λ j e le lt. at_key (λ r. key_cmp r.0 q ≡ Greater) xs j (omega arith) (λ d. parts.1 j d le (omega arith)) e;
        },
      )

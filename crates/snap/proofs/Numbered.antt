-- Entries in rising order of their numbers as a map: with one more at the end, and without the one of a number.
use Rattle.std.proofs.Common.{◌≡◌, ℕ, ◌+◌, ◌<◌, Bool, true, false, cond, not, T, List, [], ◌∷◌, ◌++◌, length, Option, Some, None, refl, sym, ap, subst, ◌∙◌, arith, ⊎_elim, inl, inr}
use Rattle.std.specs.Prelude.{IsTrue, ◌==◌}
use Rattle.std.specs.Bool.{passes}
use Rattle.std.specs.Ordering.{nat_cmp, eq_by_cmp}
use Rattle.std.specs.declared.cmp.Ordering.TheVariants.{Greater}
use Rattle.std.specs.Cmp.{nat_cmp_total, nat_cmp_is, unsigned_tied}
use Rattle.std.specs.FinMap as finmap
use Rattle.std.specs.FinMap.{get, len, entries, insert, find, put, is_sorted, from_sorted, entries-from_sorted, get-from_sorted, len-entries, entries-insert, same_entries_map, get-remove, same_map, empty_of_len, nat_cmp-IsAntisymmetric}
use Rattle.std.specs.FinMap.Entries.{by_order, where_key, is_sorted-put, is_sorted-where_key, find-where_key}
use Rattle.model.specs.World.{SnapId}
use Rattle.model.specs.State.{Views}
use Rattle.world.specs.Shapes.{view_order}
use Rattle.world.specs.Usage.{IsEntry}
use Rattle.world.proofs.lists.Maps.{key_cases, get-insert_other, at_entry, no_value}

-- a view's number, and the identity of the snapshot that it shows
abbrev pub Entry : Type 0
Entry = ℕ × SnapId

-- the map of entries
abbrev pub views_of : List Entry → Views
views_of es = from_sorted {R = nat_cmp} es

-- each number of the map is below this one
abbrev pub AreBelow : Views → ℕ → Type 0
AreBelow m next = (n : ℕ) (id : SnapId) → get m n ≡ Some id → n < next

-- the entries, and one more behind them
abbrev pub with_last : List Entry → ℕ → SnapId → List Entry
with_last es n id = es ++ (n, id) ∷ []

-- the entries of other numbers
abbrev pub without : List Entry → ℕ → List Entry
without es k = where_key nat_cmp (λ n. not (n == k)) es

true_from : (b : Bool) → T b → b ≡ true
true_from true h = refl
true_from false h = absurd h

-- an entry above all others stands behind them
put_last : (es : List Entry) (k : ℕ) (id : SnapId) → ((n : ℕ) (i : SnapId) → IsEntry es n i → n < k) → put nat_cmp k id es ≡ with_last es k id
put_last [] k id below = refl
put_last (e ∷ es) k id below =
    ap (λ r. by_order r ((k, id) ∷ e ∷ es) ((e.0, id) ∷ es) (e ∷ put nat_cmp k id es)) (sym (nat_cmp_is k e.0 Greater (below e.0 e.1 (inl (refl, refl)))))
    ∙ ap (λ xs. e ∷ xs) (put_last es k id (λ n i at. below n i (inr at)))

turned : {A : Type 0} (b : Bool) (x y : A) → cond (not b) x y ≡ cond b y x
turned true x y = refl
turned false x y = refl

left_value : {A : Type 0} (b : Bool) (o : Option A) (a : A) → cond b None o ≡ Some a → o ≡ Some a
left_value true o a h = absurd (no_value a h)
left_value false o a h = h

module _ (es : List Entry) (sorted : IsTrue (is_sorted nat_cmp es)) where
  in_order : T (is_sorted nat_cmp es)
  in_order = passes (is_sorted nat_cmp es) sorted

  -- the entries of the map are these
  pub entries_are : entries (views_of es) ≡ es
  entries_are = entries-from_sorted nat_cmp es in_order

  -- and so many
  pub len_is : len (views_of es) ≡ length es
  len_is = len-entries (views_of es) ∙ ap length entries_are

  pub get_is : (q : ℕ) → get (views_of es) q ≡ find nat_cmp q es
  get_is q = get-from_sorted nat_cmp es q in_order

  -- an entry is found by its number
  pub find_entry : (q : ℕ) (id : SnapId) → IsEntry es q id → find nat_cmp q es ≡ Some id
  find_entry q id at = sym (get_is q) ∙ at_entry view_order (views_of es) q id (subst (λ xs. IsEntry xs q id) (sym entries_are) at)

  -- one more entry, with a number above all others
  module _ (next : ℕ) (id : SnapId) (below : AreBelow (views_of es) next) where
    all_below : (n : ℕ) (i : SnapId) → IsEntry es n i → n < next
    all_below n i at = below n i (get_is n ∙ find_entry n i at)

    with_last_in_order : T (is_sorted nat_cmp (with_last es next id))
    with_last_in_order = subst (λ xs. T (is_sorted nat_cmp xs)) (put_last es next id all_below) (is_sorted-put nat_cmp nat_cmp_total next id es in_order)

    pub with_last_sorted : IsTrue (is_sorted nat_cmp (with_last es next id))
    with_last_sorted = true_from _ with_last_in_order

    pub with_last_is : views_of (with_last es next id) ≡ insert (views_of es) next id
    with_last_is =
        same_entries_map _ _ (entries-from_sorted nat_cmp (with_last es next id) with_last_in_order ∙ sym (put_last es next id all_below)
        ∙ ap (put nat_cmp next id) (sym entries_are) ∙ sym (entries-insert nat_cmp_total (views_of es) next id))

    pub with_last_below : AreBelow (views_of (with_last es next id)) (next + 1)
    with_last_below n i at = ⊎_elim (λ is. omega arith) (λ other. let old = below n i (sym (get-insert_other view_order (views_of es) next id n other) ∙ ap (λ m. get m n) (sym with_last_is) ∙ at) in omega arith) (key_cases view_order n next)

  -- without one number
  module _ (k : ℕ) where
    without_in_order : T (is_sorted nat_cmp (without es k))
    without_in_order = is_sorted-where_key nat_cmp (λ n. not (n == k)) es in_order

    pub without_sorted : IsTrue (is_sorted nat_cmp (without es k))
    without_sorted = true_from _ without_in_order

    pub without_is : views_of (without es k) ≡ finmap.remove (views_of es) k
    without_is = same_map nat_cmp_total nat_cmp-IsAntisymmetric _ _ (λ q.
        get-from_sorted nat_cmp (without es k) q without_in_order
        ∙ find-where_key nat_cmp (λ n. not (n == k)) q (λ x tied. ap (λ n. not (n == k)) (sym (nat_cmp-IsAntisymmetric q x tied))) es
        ∙ turned (q == k) (find nat_cmp q es) None
        ∙ ap (λ b. cond b None (find nat_cmp q es)) (sym (unsigned_tied q k))
        ∙ ap (cond (eq_by_cmp nat_cmp q k) None) (sym (get_is q))
        ∙ sym (get-remove nat_cmp_total (views_of es) k q))

    pub without_below : (next : ℕ) → AreBelow (views_of es) next → AreBelow (views_of (without es k)) next
    without_below next below n i at = below n i (left_value (eq_by_cmp nat_cmp n k) (get (views_of es) n) i (sym (get-remove nat_cmp_total (views_of es) k n) ∙ ap (λ m. get m n) (sym without_is) ∙ at))

-- no entries are the empty map
pub none_are : views_of [] ≡ finmap.empty
none_are = empty_of_len (views_of []) (len_is [] refl)

pub none_below : (next : ℕ) → AreBelow (views_of []) next
none_below next n id at = absurd (no_value id (sym (get_is [] refl n) ∙ at))

-- Lists of entries in the order of their keys, by places.
use Rattle.std.proofs.Common.{◌≡◌, ℕ, zero, suc, ◌<◌, ◌≤◌, Bool, true, false, cond, T, List, [], ◌∷◌, length, get_or, set, Option, Some, None, refl, sym, ap, subst, ◌∙◌, arith, true≢false}
use Rattle.std.specs.declared.cmp.Ordering.{Ordering}
use Rattle.std.specs.declared.cmp.Ordering.TheVariants.{Less, Equal, Greater}
use Rattle.std.specs.Prelude.{◌&&◌, remove}
use Rattle.std.specs.Ordering.{is_lt, is_eq, ordering_reverse, ordering_index}
use Rattle.std.specs.Cmp.{IsTotalOrder, tied_itself}
use Rattle.std.proofs.Common.{inl, inr}
use Rattle.std.proofs.lemmas.Bool.{cases_lt}
use Rattle.std.specs.List.{insert}
use Rattle.std.specs.List.Sorted.{IsNonDecreasingBy}
use Rattle.std.specs.FinMap.{IsAntisymmetric, find, put, is_sorted}
use Rattle.std.specs.FinMap.Entries.{below_all, by_order}

-- a total order in which only equal keys tie
pub record IsExactOrder {K : Type 0} (R : K → K → Ordering) : Type 0 where
  pub total : IsTotalOrder R
  pub exact : IsAntisymmetric R

pub less_from : (r : Ordering) → T (is_lt r) → r ≡ Less
less_from Less h = refl
less_from Equal h = absurd h
less_from Greater h = absurd h

pub equal_from : (r : Ordering) → is_eq r ≡ true → r ≡ Equal
equal_from Less h = absurd (true≢false (sym h))
equal_from Equal h = refl
equal_from Greater h = absurd (true≢false (sym h))

pub T_left : (a b : Bool) → T (a && b) → T a
T_left true b h = tt
T_left false b h = absurd h

pub T_right : (a b : Bool) → T (a && b) → T b
T_right true b h = h
T_right false b h = absurd h

module _ {K : Type 0} {R : K → K → Ordering} (o : IsTotalOrder R) where
  -- what is above turns into what is below
  pub turned : (x y : K) (r : Ordering) → R x y ≡ r → R y x ≡ ordering_reverse r
  turned x y r e = o.antisymm y x ∙ ap ordering_reverse e

  -- the comparisons with a key rise from a lower key to a higher one
  rises : (x y q : K) → R x y ≡ Less → (r : Ordering) → R x q ≡ r → ordering_index (R x q) ≤ ordering_index (R y q)
  rises x y q below Less e = rw e (omega arith)
  rises x y q below Equal e =
      let same : R q y ≡ Less = sym (o.congr x q y e) ∙ below in
      let above : R y q ≡ Greater = turned q y Less same in
      rw (e, above) (omega arith)
  rises x y q below Greater e =
      let under : R q x ≡ Less = turned x q Greater e in
      let above : R y q ≡ Greater = turned q y Less (o.trans q x y under below) in
      rw (e, above) (omega arith)

  level : (x y q : K) → x ≡ y → ordering_index (R x q) ≤ ordering_index (R y q)
  level x y q e = subst (λ z. ordering_index (R x q) ≤ ordering_index (R z q)) e (omega arith)

module _ {K X : Type 0} {R : K → K → Ordering} (o : IsTotalOrder R) where
  below_at : (k : K) (es : List (K × X)) → T (below_all R k es) → (j : ℕ) (d : K × X) → j < length es → R k (get_or es j d).0 ≡ Less
  below_at k [] h j d lt = absurd (omega arith)
  below_at k (e ∷ es) h zero d lt = less_from (R k e.0) (T_left (is_lt (R k e.0)) (below_all R k es) h)
  below_at k (e ∷ es) h (suc j) d lt = below_at k es (T_right (is_lt (R k e.0)) (below_all R k es) h) j d (omega arith)

  -- an earlier key is below a later one
  pub sorted_at : (es : List (K × X)) → T (is_sorted R es) → (i j : ℕ) (d : K × X) → i < j → j < length es → R (get_or es i d).0 (get_or es j d).0 ≡ Less
  sorted_at [] h i j d lt within = absurd (omega arith)
  sorted_at (e ∷ es) h i zero d lt within = absurd (omega arith)
  sorted_at (e ∷ es) h zero (suc j) d lt within = below_at e.0 es (T_left (below_all R e.0 es) (is_sorted R es) h) j d (omega arith)
  sorted_at (e ∷ es) h (suc i) (suc j) d lt within = sorted_at es (T_right (below_all R e.0 es) (is_sorted R es) h) i j d (omega arith) (omega arith)

  -- along a list in order the comparisons with a key rise, as a binary search asks
  pub comparisons_rise : (es : List (K × X)) → T (is_sorted R es) → (q : K) → IsNonDecreasingBy (λ (e : K × X). ordering_index (R e.0 q)) es
  comparisons_rise es h q i j d le within = elim (cases_lt i j) [
    | inl lt ↦ rises o _ _ q (sorted_at es h i j d lt within) _ refl
    | inr ge ↦ let same : i ≡ j = omega arith in level o _ _ q (ap (λ n. (get_or es n d).0) same)
  ]

  -- the entry at a place is found by its key
  pub find_at : (es : List (K × X)) → T (is_sorted R es) → (i : ℕ) (d : K × X) → i < length es → find R (get_or es i d).0 es ≡ Some (get_or es i d).1
  find_at [] h i d lt = absurd (omega arith)
  find_at (e ∷ es) h zero d lt = ap (λ r. cond (is_eq r) (Some e.1) (find R e.0 es)) (tied_itself o e.0)
  find_at (e ∷ es) h (suc i) d lt =
      let below : R e.0 (get_or es i d).0 ≡ Less = below_at e.0 es (T_left (below_all R e.0 es) (is_sorted R es) h) i d (omega arith) in
      ap (λ r. cond (is_eq r) (Some e.1) (find R (get_or es i d).0 es)) (turned o e.0 _ Less below) ∙ find_at es (T_right (below_all R e.0 es) (is_sorted R es) h) i d (omega arith)

  -- another value at the key of a place stands at that place
  pub put_at : (es : List (K × X)) → T (is_sorted R es) → (i : ℕ) (d : K × X) (v : X) → i < length es → put R (get_or es i d).0 v es ≡ set es i ((get_or es i d).0, v)
  put_at [] h i d v lt = absurd (omega arith)
  put_at (e ∷ es) h zero d v lt = ap (λ r. by_order r ((e.0, v) ∷ e ∷ es) ((e.0, v) ∷ es) (e ∷ put R e.0 v es)) (tied_itself o e.0)
  put_at (e ∷ es) h (suc i) d v lt =
      let k = (get_or es i d).0 in
      let below : R e.0 k ≡ Less = below_at e.0 es (T_left (below_all R e.0 es) (is_sorted R es) h) i d (omega arith) in
      ap (λ r. by_order r ((k, v) ∷ e ∷ es) ((e.0, v) ∷ es) (e ∷ put R k v es)) (turned o e.0 k Less below) ∙ ap (λ xs. e ∷ xs) (put_at es (T_right (below_all R e.0 es) (is_sorted R es) h) i d v (omega arith))

  -- a key with lower keys before a place and higher ones from there on is not found
  pub find_gap : (es : List (K × X)) (q : K) (i : ℕ)
      → ((j : ℕ) (d : K × X) → j < i → R (get_or es j d).0 q ≡ Less)
      → ((j : ℕ) (d : K × X) → i ≤ j → j < length es → R (get_or es j d).0 q ≡ Greater)
      → find R q es ≡ None
  find_gap [] q i below above = refl
  find_gap (e ∷ es) q zero below above =
      ap (λ r. cond (is_eq r) (Some e.1) (find R q es)) (turned o e.0 q Greater (above 0 e (omega arith) (omega arith)))
      ∙ find_gap es q zero (λ j d lt. absurd (omega arith)) (λ j d le lt. above (suc j) d (omega arith) (omega arith))
  find_gap (e ∷ es) q (suc i) below above =
      ap (λ r. cond (is_eq r) (Some e.1) (find R q es)) (turned o e.0 q Less (below 0 e (omega arith)))
      ∙ find_gap es q i (λ j d lt. below (suc j) d (omega arith)) (λ j d le lt. above (suc j) d (omega arith) (omega arith))

  -- a new entry for such a key stands at that place
  pub put_gap : (es : List (K × X)) (q : K) (v : X) (i : ℕ) → i ≤ length es
      → ((j : ℕ) (d : K × X) → j < i → R (get_or es j d).0 q ≡ Less)
      → ((j : ℕ) (d : K × X) → i ≤ j → j < length es → R (get_or es j d).0 q ≡ Greater)
      → put R q v es ≡ insert es i (q, v)
  put_gap [] q v zero within below above = refl
  put_gap [] q v (suc i) within below above = absurd (omega arith)
  put_gap (e ∷ es) q v zero within below above =
      ap (λ r. by_order r ((q, v) ∷ e ∷ es) ((e.0, v) ∷ es) (e ∷ put R q v es)) (turned o e.0 q Greater (above 0 e (omega arith) (omega arith)))
  put_gap (e ∷ es) q v (suc i) within below above =
      ap (λ r. by_order r ((q, v) ∷ e ∷ es) ((e.0, v) ∷ es) (e ∷ put R q v es)) (turned o e.0 q Less (below 0 e (omega arith)))
      ∙ ap (λ xs. e ∷ xs) (put_gap es q v i (omega arith) (λ j d lt. below (suc j) d (omega arith)) (λ j d le lt. above (suc j) d (omega arith) (omega arith)))

-- ---- one gone from its place

pub T_both : (a b : Bool) → T a → T b → T (a && b)
T_both true b h k = k
T_both false b h k = h

gone : {X : Type 0} (b : Bool) (x : X) (r : Option X) → (b ≡ true → r ≡ None) → r ≡ cond b None (cond b (Some x) r)
gone true x r h = h refl
gone false x r h = refl

passed : {X : Type 0} (a b : Bool) (x : X) (r : Option X) → (a ≡ true → b ≡ true → ⊥) → cond a (Some x) (cond b None r) ≡ cond b None (cond a (Some x) r)
passed true true x r h = absurd (h refl refl)
passed true false x r h = refl
passed false b x r h = refl

module _ {K X : Type 0} {R : K → K → Ordering} (o : IsTotalOrder R) where
  below_left : (k : K) (es : List (K × X)) (i : ℕ) → T (below_all R k es) → T (below_all R k (remove es i))
  below_left k [] zero h = h
  below_left k [] (suc i) h = h
  below_left k (e ∷ es) zero h = T_right (is_lt (R k e.0)) (below_all R k es) h
  below_left k (e ∷ es) (suc i) h = T_both (is_lt (R k e.0)) (below_all R k (remove es i)) (T_left (is_lt (R k e.0)) (below_all R k es) h) (below_left k es i (T_right (is_lt (R k e.0)) (below_all R k es) h))

  -- they stay in order
  pub left_sorted : (es : List (K × X)) (i : ℕ) → T (is_sorted R es) → T (is_sorted R (remove es i))
  left_sorted [] zero h = h
  left_sorted [] (suc i) h = h
  left_sorted (e ∷ es) zero h = T_right (below_all R e.0 es) (is_sorted R es) h
  left_sorted (e ∷ es) (suc i) h = T_both (below_all R e.0 (remove es i)) (is_sorted R (remove es i)) (below_left e.0 es i (T_left (below_all R e.0 es) (is_sorted R es) h)) (left_sorted es i (T_right (below_all R e.0 es) (is_sorted R es) h))

  -- a key that is below all is found nowhere among them
  pub none_below : (q k : K) (es : List (K × X)) → R q k ≡ Equal → T (below_all R k es) → find R q es ≡ None
  none_below q k [] e h = refl
  none_below q k (x ∷ es) e h =
      let less : R q x.0 ≡ Less = o.congr q k x.0 e ∙ less_from (R k x.0) (T_left (is_lt (R k x.0)) (below_all R k es) h) in
      ap (λ r. cond (is_eq r) (Some x.1) (find R q es)) less ∙ none_below q k es e (T_right (is_lt (R k x.0)) (below_all R k es) h)

  -- the one that is gone isn't found, and the others are
  pub find_left : (es : List (K × X)) (i : ℕ) (d : K × X) → T (is_sorted R es) → i < length es → (q : K) → find R q (remove es i) ≡ cond (is_eq (R q (get_or es i d).0)) None (find R q es)
  find_left [] i d h lt q = absurd (omega arith)
  find_left (e ∷ es) zero d h lt q =
      gone (is_eq (R q e.0)) e.1 (find R q es) (λ s. none_below q e.0 es (equal_from (R q e.0) s) (T_left (below_all R e.0 es) (is_sorted R es) h))
  find_left (e ∷ es) (suc i) d h lt q =
      ap (λ r. cond (is_eq (R q e.0)) (Some e.1) r) (find_left es i d (T_right (below_all R e.0 es) (is_sorted R es) h) (omega arith) q)
      ∙ passed (is_eq (R q e.0)) (is_eq (R q (get_or es i d).0)) e.1 (find R q es)
      (λ a b.
      let less : R e.0 (get_or es i d).0 ≡ Less = sorted_at o (e ∷ es) h zero (suc i) d (omega arith) (omega arith) in
      let first : R q (get_or es i d).0 ≡ Less = o.congr q e.0 (get_or es i d).0 (equal_from (R q e.0) a) ∙ less in
      true≢false (sym b ∙ ap is_eq first))

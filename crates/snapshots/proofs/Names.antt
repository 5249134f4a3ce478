-- Kept snapshots in the byte order of their names.
use Rattle.std.proofs.Common.{◌≡◌, ℕ, zero, suc, ◌<◌, ◌≤◌, Bool, true, false, cond, List, [], ◌∷◌, ◌++◌, length, take, drop, get_or, set, slice_get, Option, Some, None, refl, sym, ap, subst, ◌∙◌, true≢false, arith}
use Rattle.std.specs.Prelude.{◌&&◌, not, insert, remove}
use Rattle.std.specs.List.{list_all, find}
use Rattle.std.specs.List.Sorted.{IsPartitionedBy, IsPartitionPoint}
use Rattle.std.specs.Option.{IsSome}
use Rattle.std.specs.Ordering.{is_lt, is_eq, ordering_reverse}
use Rattle.std.specs.declared.cmp.Ordering.{Ordering}
use Rattle.std.specs.declared.cmp.Ordering.TheVariants.{Less, Equal, Greater}
use Rattle.std.specs.Cmp.Lexicographic.{nat_list_cmp_total, texts_ties, same_text}
use Rattle.std.proofs.lemmas.List.{take-append-drop}
use Rattle.base.specs.Names.{name_cmp, same_name}
use Rattle.snapshots.specs.declared.kept.Kept.{Kept}
use Rattle.snapshots.specs.Order.{IsPlaceFor, is_below, is_named, names_rise}

-- tests
both_so : (a b : Bool) → a ≡ true → b ≡ true → (a && b) ≡ true
both_so true b e f = f
both_so false b e f = absurd (true≢false (sym e))

left_so : (a b : Bool) → (a && b) ≡ true → a ≡ true
left_so true b h = refl
left_so false b h = h

right_so : (a b : Bool) → (a && b) ≡ true → b ≡ true
right_so true b h = h
right_so false b h = absurd (true≢false (sym h))

pub from_not : (b : Bool) → (b ≡ true → ⊥) → b ≡ false
from_not true f = absurd (f refl)
from_not false f = refl

not_false : (b : Bool) → not b ≡ true → b ≡ false
not_false true h = absurd (true≢false (sym h))
not_false false h = refl

-- two names
less_from : (r : Ordering) → is_lt r ≡ true → r ≡ Less
less_from Less h = refl
less_from Equal h = absurd (true≢false (sym h))
less_from Greater h = absurd (true≢false (sym h))

below_on : (a b q : List ℕ) → is_lt (name_cmp a b) ≡ true → is_lt (name_cmp b q) ≡ true → is_lt (name_cmp a q) ≡ true
below_on a b q e f = ap is_lt (nat_list_cmp_total.trans a b q (less_from _ e) (less_from _ f))

below_differs : (a q : List ℕ) → is_lt (name_cmp a q) ≡ true → same_name a q ≡ false
below_differs a q e = texts_ties a q ∙ ap is_eq (less_from _ e)

above_differs : (a b q : List ℕ) → is_lt (name_cmp a q) ≡ false → is_lt (name_cmp a b) ≡ true → same_name b q ≡ false
above_differs a b q h e = from_not _ (λ s. true≢false (sym (subst (λ n. is_lt (name_cmp a n) ≡ true) (same_text b q (sym s)) e) ∙ h))

turned : (r : Ordering) → is_lt r ≡ false → is_eq r ≡ false → is_lt (ordering_reverse r) ≡ true
turned Less h e = absurd (true≢false h)
turned Equal h e = absurd (true≢false e)
turned Greater h e = refl

above : (a q : List ℕ) → is_lt (name_cmp a q) ≡ false → same_name a q ≡ false → is_lt (name_cmp q a) ≡ true
above a q h e = ap is_lt (nat_list_cmp_total.antisymm q a) ∙ turned (name_cmp a q) h (sym (texts_ties a q) ∙ e)

-- one of those of which all pass
all_at : (p : Kept → Bool) (ks : List Kept) (j : ℕ) (d : Kept) → list_all p ks ≡ true → j < length ks → p (get_or ks j d) ≡ true
all_at p [] j d h lt = absurd (omega arith)
all_at p (x ∷ ks) zero d h lt = left_so (p x) (list_all p ks) h
all_at p (x ∷ ks) (suc j) d h lt = all_at p ks j d (right_so (p x) (list_all p ks) h) (omega arith)

-- those below a name come first
pub parted : (q : List ℕ) (ks : List Kept) → names_rise ks ≡ true → IsPartitionedBy (is_below q) ks
parted q [] r i j d le lt e = absurd (omega arith)
parted q (x ∷ ks) r zero zero d le lt e = e
parted q (x ∷ ks) r zero (suc j) d le lt e =
    let later = left_so (list_all (λ j. is_below j.snapshot.name x) ks) (names_rise ks) r in
    let y = get_or ks j d in
    below_on x.snapshot.name y.snapshot.name q (all_at (λ j. is_below j.snapshot.name x) ks j d later (omega arith)) e
parted q (x ∷ ks) r (suc i) zero d le lt e = absurd (omega arith)
parted q (x ∷ ks) r (suc i) (suc j) d le lt e = parted q ks (right_so (list_all (λ j. is_below j.snapshot.name x) ks) (names_rise ks) r) i j d (omega arith) (omega arith) e

-- a place that tells those below a name from the others
all_before : (p : Kept → Bool) (ks : List Kept) (i : ℕ) → i ≤ length ks → ((k : ℕ) (d : Kept) → k < i → p (get_or ks k d) ≡ true) → list_all p (take i ks) ≡ true
all_before p ks zero le h = refl
all_before p [] (suc i) le h = absurd (omega arith)
all_before p (x ∷ ks) (suc i) le h = both_so (p x) (list_all p (take i ks)) (h zero x (omega arith)) (all_before p ks i (omega arith) (λ k d lt. h (suc k) d (omega arith)))

none_after : (p : Kept → Bool) (ks : List Kept) (i : ℕ) → ((k : ℕ) (d : Kept) → i ≤ k → k < length ks → p (get_or ks k d) ≡ false) → list_all (λ k. not (p k)) (drop i ks) ≡ true
none_after p [] zero h = refl
none_after p [] (suc i) h = refl
none_after p (x ∷ ks) zero h = both_so (not (p x)) (list_all (λ k. not (p k)) ks) (ap not (h zero x (omega arith) (omega arith))) (none_after p ks zero (λ k d ge lt. h (suc k) d (omega arith) (omega arith)))
none_after p (x ∷ ks) (suc i) h = none_after p ks i (λ k d ge lt. h (suc k) d (omega arith) (omega arith))

pub place_at : (q : List ℕ) (ks : List Kept) (i : ℕ) → i ≤ length ks → IsPartitionPoint (λ k. is_below q k ≡ true) (λ k. is_below q k ≡ false) ks i → IsPlaceFor q ks i
place_at q ks i le point = record {
  within = le;
  before = all_before (is_below q) ks i le (λ k d lt. point.0 k d (omega arith) lt);
  after = none_after (is_below q) ks i (λ k d ge lt. point.1 k d ge lt);
}

-- none of those after one that isn't below has the name
later_differ : (q : List ℕ) (k : Kept) (ks : List Kept) → is_below q k ≡ false → list_all (λ j. is_below j.snapshot.name k) ks ≡ true → find (is_named q) ks ≡ None
later_differ q k [] h e = refl
later_differ q k (x ∷ ks) h e =
    let step : is_below x.snapshot.name k ≡ true = left_so (is_below x.snapshot.name k) (list_all (λ j. is_below j.snapshot.name k) ks) e in
    let rest = right_so (is_below x.snapshot.name k) (list_all (λ j. is_below j.snapshot.name k) ks) e in
    ap (λ b. cond b (Some x) (find (is_named q) ks)) (above_differs k.snapshot.name x.snapshot.name q h step) ∙ later_differ q k ks h rest

-- what a search finds by a place
pub found : (q : List ℕ) (ks : List Kept) (i : ℕ) (k : Kept) → names_rise ks ≡ true → list_all (is_below q) (take i ks) ≡ true → list_all (λ j. not (is_below q j)) (drop i ks) ≡ true → slice_get ks i ≡ Some k → find (is_named q) ks ≡ cond (is_named q k) (Some k) None
found q [] i k r b a e = absurd (no_item i e)
  where
    no_item : (i : ℕ) → slice_get {X = Kept} [] i ≡ Some k → ⊥
    no_item i e = cc
found q (x ∷ ks) zero k r b a e =
    let same : x ≡ k = cc in
    let later = left_so (list_all (λ j. is_below j.snapshot.name x) ks) (names_rise ks) r in
    let first = not_false (is_below q x) (left_so (not (is_below q x)) (list_all (λ j. not (is_below q j)) ks) a) in
    ap (λ o. cond (is_named q x) (Some x) o) (later_differ q x ks first later) ∙ ap (λ j. cond (is_named q j) (Some j) None) same
found q (x ∷ ks) (suc i) k r b a e =
    let first = left_so (is_below q x) (list_all (is_below q) (take i ks)) b in
    let others = right_so (is_below q x) (list_all (is_below q) (take i ks)) b in
    let rest = right_so (list_all (λ j. is_below j.snapshot.name x) ks) (names_rise ks) r in
    ap (λ t. cond t (Some x) (find (is_named q) ks)) (below_differs x.snapshot.name q first) ∙ found q ks i k rest others a e

pub found_none : (q : List ℕ) (ks : List Kept) (i : ℕ) → list_all (is_below q) (take i ks) ≡ true → slice_get ks i ≡ None → find (is_named q) ks ≡ None
found_none q [] i b e = refl
found_none q (x ∷ ks) zero b e = cc
found_none q (x ∷ ks) (suc i) b e =
    let first = left_so (is_below q x) (list_all (is_below q) (take i ks)) b in
    let others = right_so (is_below q x) (list_all (is_below q) (take i ks)) b in
    ap (λ t. cond t (Some x) (find (is_named q) ks)) (below_differs x.snapshot.name q first) ∙ found_none q ks i others e

-- a snapshot that isn't found
pub miss : (b : Bool) (x : Kept) (o : Option Kept) → cond b (Some x) o ≡ None → (b ≡ false) × (o ≡ None)
miss true x o h = cc
miss false x o h = (refl, h)

-- one more between those below and those above
put_before : (y : Kept) (high : List Kept) → names_rise high ≡ true → list_all (λ j. not (is_below y.snapshot.name j)) high ≡ true → find (is_named y.snapshot.name) high ≡ None → list_all (λ j. is_below j.snapshot.name y) high ≡ true
put_before y [] r a n = refl
put_before y (x ∷ high) r a n =
    let both = miss (is_named y.snapshot.name x) x (find (is_named y.snapshot.name) high) n in
    let first = not_false (is_below y.snapshot.name x) (left_so (not (is_below y.snapshot.name x)) (list_all (λ j. not (is_below y.snapshot.name j)) high) a) in
    let others = right_so (not (is_below y.snapshot.name x)) (list_all (λ j. not (is_below y.snapshot.name j)) high) a in
    let rest = right_so (list_all (λ j. is_below j.snapshot.name x) high) (names_rise high) r in
    both_so (is_below x.snapshot.name y) (list_all (λ j. is_below j.snapshot.name y) high) (above x.snapshot.name y.snapshot.name first both.0) (put_before y high rest others both.1)

all_with : (p : Kept → Bool) (low high : List Kept) (y : Kept) → list_all p (low ++ high) ≡ true → p y ≡ true → list_all p (low ++ y ∷ high) ≡ true
all_with p [] high y h e = both_so (p y) (list_all p high) e h
all_with p (x ∷ low) high y h e = both_so (p x) (list_all p (low ++ y ∷ high)) (left_so (p x) (list_all p (low ++ high)) h) (all_with p low high y (right_so (p x) (list_all p (low ++ high)) h) e)

pub put_rises : (low high : List Kept) (y : Kept) → names_rise (low ++ high) ≡ true → list_all (is_below y.snapshot.name) low ≡ true → list_all (λ j. not (is_below y.snapshot.name j)) high ≡ true → find (is_named y.snapshot.name) (low ++ high) ≡ None → names_rise (low ++ y ∷ high) ≡ true
put_rises [] high y r b a n = both_so (list_all (λ j. is_below j.snapshot.name y) high) (names_rise high) (put_before y high r a n) r
put_rises (x ∷ low) high y r b a n =
    let both = miss (is_named y.snapshot.name x) x (find (is_named y.snapshot.name) (low ++ high)) n in
    let later = left_so (list_all (λ j. is_below j.snapshot.name x) (low ++ high)) (names_rise (low ++ high)) r in
    let rest = right_so (list_all (λ j. is_below j.snapshot.name x) (low ++ high)) (names_rise (low ++ high)) r in
    let first = left_so (is_below y.snapshot.name x) (list_all (is_below y.snapshot.name) low) b in
    let others = right_so (is_below y.snapshot.name x) (list_all (is_below y.snapshot.name) low) b in
    both_so (list_all (λ j. is_below j.snapshot.name x) (low ++ y ∷ high)) (names_rise (low ++ y ∷ high)) (all_with (λ j. is_below j.snapshot.name x) low high y later first) (put_rises low high y rest others a both.1)

-- it is found by its name, and the others by theirs
pub swapped : (a b : Bool) (x y : Kept) (o : Option Kept) → (a ≡ true → b ≡ true → ⊥) → cond a (Some x) (cond b (Some y) o) ≡ cond b (Some y) (cond a (Some x) o)
swapped true true x y o h = absurd (h refl refl)
swapped true false x y o h = refl
swapped false b x y o h = refl

pub put_found : (low high : List Kept) (y : Kept) → find (is_named y.snapshot.name) (low ++ high) ≡ None → (n : List ℕ) → find (is_named n) (low ++ y ∷ high) ≡ cond (is_named n y) (Some y) (find (is_named n) (low ++ high))
put_found [] high y e n = refl
put_found (x ∷ low) high y e n =
    let both = miss (is_named y.snapshot.name x) x (find (is_named y.snapshot.name) (low ++ high)) e in
    ap (λ o. cond (is_named n x) (Some x) o) (put_found low high y both.1 n)
    ∙ swapped (is_named n x) (is_named n y) x y (find (is_named n) (low ++ high)) (λ s t. true≢false (sym (subst (λ m. same_name x.snapshot.name m ≡ true) (sym (same_text y.snapshot.name n (sym t))) s) ∙ both.0))

-- a snapshot put in at its place
module _ (ks new : List Kept) (q : List ℕ) (y : Kept) (i : ℕ) (rises : names_rise ks ≡ true) (its : q ≡ y.snapshot.name) (place : IsPlaceFor q ks i)
    (none : find (is_named y.snapshot.name) ks ≡ None) (put : new ≡ insert ks i y) where
  its_place : IsPlaceFor y.snapshot.name ks i
  its_place = subst (λ n. IsPlaceFor n ks i) its place

  absent : find (is_named y.snapshot.name) (take i ks ++ drop i ks) ≡ None
  absent = ap (find (is_named y.snapshot.name)) (take-append-drop i ks) ∙ none

  pub rises_after : names_rise new ≡ true
  rises_after = ap names_rise put ∙ put_rises (take i ks) (drop i ks) y (ap names_rise (take-append-drop i ks) ∙ rises) its_place.before its_place.after absent

  pub found_after : (n : List ℕ) → find (is_named n) new ≡ cond (is_named n y) (Some y) (find (is_named n) ks)
  found_after n =
      ap (find (is_named n)) put
      ∙ put_found (take i ks) (drop i ks) y absent n
      ∙ ap (λ ys. cond (is_named n y) (Some y) (find (is_named n) ys)) (take-append-drop i ks)

-- some stands at each place
pub some_at : (ks : List Kept) (i : ℕ) → i < length ks → (k : Kept) × (slice_get ks i ≡ Some k)
some_at [] i lt = absurd (omega arith)
some_at (x ∷ ks) zero lt = (x, refl)
some_at (x ∷ ks) (suc i) lt = some_at ks i (omega arith)

pub none_past : (ks : List Kept) (i : ℕ) → length ks ≤ i → slice_get ks i ≡ None
none_past [] zero le = refl
none_past [] (suc i) le = refl
none_past (x ∷ ks) zero le = absurd (omega arith)
none_past (x ∷ ks) (suc i) le = none_past ks i (omega arith)

-- the name of one that is found
named_of : (b : Bool) (k : Kept) → IsSome (cond b (Some k) None) → b ≡ true
named_of true k h = refl
named_of false k h = absurd (true≢false (sym h))

all_set : (p : Kept → Bool) (ks : List Kept) (i : ℕ) (k y : Kept) → slice_get ks i ≡ Some k → (p k ≡ true → p y ≡ true) → list_all p ks ≡ true → list_all p (set ks i y) ≡ true
all_set p [] i k y e f h = refl
all_set p (x ∷ ks) zero k y e f h =
    let same : x ≡ k = cc in
    both_so (p y) (list_all p ks) (f (ap p (sym same) ∙ left_so (p x) (list_all p ks) h)) (right_so (p x) (list_all p ks) h)
all_set p (x ∷ ks) (suc i) k y e f h = both_so (p x) (list_all p (set ks i y)) (left_so (p x) (list_all p ks) h) (all_set p ks i k y e f (right_so (p x) (list_all p ks) h))

set_rises : (ks : List Kept) (i : ℕ) (k y : Kept) → names_rise ks ≡ true → slice_get ks i ≡ Some k → k.snapshot.name ≡ y.snapshot.name → names_rise (set ks i y) ≡ true
set_rises [] i k y r e s = refl
set_rises (x ∷ ks) zero k y r e s =
    let same : x.snapshot.name ≡ y.snapshot.name = cc in
    ap (λ n. list_all (λ j. is_lt (name_cmp n j.snapshot.name)) ks && names_rise ks) (sym same) ∙ r
set_rises (x ∷ ks) (suc i) k y r e s =
    let later = left_so (list_all (λ j. is_below j.snapshot.name x) ks) (names_rise ks) r in
    let rest = right_so (list_all (λ j. is_below j.snapshot.name x) ks) (names_rise ks) r in
    let moved = all_set (λ j. is_below j.snapshot.name x) ks i k y e (λ h. ap (λ n. is_lt (name_cmp x.snapshot.name n)) (sym s) ∙ h) later in
    both_so (list_all (λ j. is_below j.snapshot.name x) (set ks i y)) (names_rise (set ks i y)) moved (set_rises ks i k y rest e s)

-- one of those of which all pass
all_some : (p : Kept → Bool) (ks : List Kept) (i : ℕ) (k : Kept) → slice_get ks i ≡ Some k → list_all p ks ≡ true → p k ≡ true
all_some p [] i k e h = absurd (nothing i e)
  where
    nothing : (i : ℕ) → slice_get {X = Kept} [] i ≡ Some k → ⊥
    nothing i e = cc
all_some p (x ∷ ks) zero k e h = let same : x ≡ k = cc in ap p (sym same) ∙ left_so (p x) (list_all p ks) h
all_some p (x ∷ ks) (suc i) k e h = all_some p ks i k e (right_so (p x) (list_all p ks) h)

pub once_more : (b : Bool) (x y : Kept) (o : Option Kept) → cond b (Some y) o ≡ cond b (Some y) (cond b (Some x) o)
once_more true x y o = refl
once_more false x y o = refl

-- two that stand in order don't have one name
not_both : (x k : Kept) (n : List ℕ) → is_below k.snapshot.name x ≡ true → is_named n x ≡ true → is_named n k ≡ true → ⊥
not_both x k n below a b =
    let other = below_differs x.snapshot.name k.snapshot.name below in
    true≢false (sym (subst (λ m. same_name x.snapshot.name m ≡ true) (sym (same_text k.snapshot.name n (sym b))) a) ∙ other)

set_found : (ks : List Kept) (i : ℕ) (k y : Kept) → names_rise ks ≡ true → slice_get ks i ≡ Some k → k.snapshot.name ≡ y.snapshot.name → (n : List ℕ) → find (is_named n) (set ks i y) ≡ cond (is_named n y) (Some y) (find (is_named n) ks)
set_found [] i k y r e s n = absurd (nothing i e)
  where
    nothing : (i : ℕ) → slice_get {X = Kept} [] i ≡ Some k → ⊥
    nothing i e = cc
set_found (x ∷ ks) zero k y r e s n =
    let same : x.snapshot.name ≡ y.snapshot.name = cc in
    once_more (is_named n y) x y (find (is_named n) ks) ∙ ap (λ m. cond (is_named n y) (Some y) (cond (same_name m n) (Some x) (find (is_named n) ks))) (sym same)
set_found (x ∷ ks) (suc i) k y r e s n =
    let later = left_so (list_all (λ j. is_below j.snapshot.name x) ks) (names_rise ks) r in
    let rest = right_so (list_all (λ j. is_below j.snapshot.name x) ks) (names_rise ks) r in
    let below = all_some (λ j. is_below j.snapshot.name x) ks i k e later in
    ap (λ o. cond (is_named n x) (Some x) o) (set_found ks i k y rest e s n)
    ∙ swapped (is_named n x) (is_named n y) x y (find (is_named n) ks) (λ a b. not_both x k n below a (ap (λ m. same_name m n) s ∙ b))

all_removed : (p : Kept → Bool) (ks : List Kept) (i : ℕ) → list_all p ks ≡ true → list_all p (remove ks i) ≡ true
all_removed p [] zero h = refl
all_removed p [] (suc i) h = refl
all_removed p (x ∷ ks) zero h = right_so (p x) (list_all p ks) h
all_removed p (x ∷ ks) (suc i) h = both_so (p x) (list_all p (remove ks i)) (left_so (p x) (list_all p ks) h) (all_removed p ks i (right_so (p x) (list_all p ks) h))

pub removed_rises : (ks : List Kept) (i : ℕ) → names_rise ks ≡ true → names_rise (remove ks i) ≡ true
removed_rises [] zero r = refl
removed_rises [] (suc i) r = refl
removed_rises (x ∷ ks) zero r = right_so (list_all (λ j. is_below j.snapshot.name x) ks) (names_rise ks) r
removed_rises (x ∷ ks) (suc i) r =
    let later = left_so (list_all (λ j. is_below j.snapshot.name x) ks) (names_rise ks) r in
    let rest = right_so (list_all (λ j. is_below j.snapshot.name x) ks) (names_rise ks) r in
    both_so (list_all (λ j. is_below j.snapshot.name x) (remove ks i)) (names_rise (remove ks i)) (all_removed (λ j. is_below j.snapshot.name x) ks i later) (removed_rises ks i rest)

pub dropped_one : (b : Bool) (x : Kept) (o : Option Kept) → (b ≡ true → o ≡ None) → o ≡ cond b None (cond b (Some x) o)
dropped_one true x o h = h refl
dropped_one false x o h = refl

pub passed : (a b : Bool) (x : Kept) (o : Option Kept) → (a ≡ true → b ≡ true → ⊥) → cond a (Some x) (cond b None o) ≡ cond b None (cond a (Some x) o)
passed true true x o h = absurd (h refl refl)
passed true false x o h = refl
passed false b x o h = refl

removed_found : (ks : List Kept) (i : ℕ) (k : Kept) → names_rise ks ≡ true → slice_get ks i ≡ Some k → (n : List ℕ) → find (is_named n) (remove ks i) ≡ cond (is_named n k) None (find (is_named n) ks)
removed_found [] i k r e n = absurd (nothing i e)
  where
    nothing : (i : ℕ) → slice_get {X = Kept} [] i ≡ Some k → ⊥
    nothing i e = cc
removed_found (x ∷ ks) zero k r e n =
    let same : x ≡ k = cc in
    let later = left_so (list_all (λ j. is_below j.snapshot.name x) ks) (names_rise ks) r in
    let differ : is_named n x ≡ true → find (is_named n) ks ≡ None = λ h. later_differ n x ks (from_not (is_below n x) (λ b. true≢false (sym h ∙ below_differs x.snapshot.name n b))) later in
    dropped_one (is_named n x) x (find (is_named n) ks) differ ∙ ap (λ y. cond (is_named n y) None (cond (is_named n x) (Some x) (find (is_named n) ks))) same
removed_found (x ∷ ks) (suc i) k r e n =
    let later = left_so (list_all (λ j. is_below j.snapshot.name x) ks) (names_rise ks) r in
    let rest = right_so (list_all (λ j. is_below j.snapshot.name x) ks) (names_rise ks) r in
    let below = all_some (λ j. is_below j.snapshot.name x) ks i k e later in
    ap (λ o. cond (is_named n x) (Some x) o) (removed_found ks i k rest e n)
    ∙ passed (is_named n x) (is_named n k) x (find (is_named n) ks) (not_both x k n below)

-- where a name that is there has its place
module _ (ks : List Kept) (q : List ℕ) (i : ℕ) (rises : names_rise ks ≡ true) (place : IsPlaceFor q ks i) (there : IsSome (find (is_named q) ks)) where
  pub is_inside : length ks ≤ i → ⊥
  is_inside le =
      let none = found_none q ks i place.before (none_past ks i le) in
      let gone : IsSome {T = Kept} None = subst (λ o. IsSome o) none there in
      true≢false (sym gone)

  at_name : (k : Kept) → slice_get ks i ≡ Some k → k.snapshot.name ≡ q
  at_name k e =
      let is = found q ks i k rises place.before place.after e in
      same_text k.snapshot.name q (sym (named_of (is_named q k) k (subst (λ o. IsSome o) is there)))

  -- another in its place
  module _ (new : List Kept) (y : Kept) (its : q ≡ y.snapshot.name) (lt : i < length ks) (put : new ≡ set ks i y) where
    pub rises_with : names_rise new ≡ true
    rises_with =
        let old = some_at ks i lt in
        ap names_rise put ∙ set_rises ks i old.0 y rises old.1 (at_name old.0 old.1 ∙ its)

    pub found_with : (n : List ℕ) → find (is_named n) new ≡ cond (is_named n y) (Some y) (find (is_named n) ks)
    found_with n =
        let old = some_at ks i lt in
        ap (find (is_named n)) put ∙ set_found ks i old.0 y rises old.1 (at_name old.0 old.1 ∙ its) n

  -- none in its place
  pub found_without : (new : List Kept) → i < length ks → new ≡ remove ks i → (n : List ℕ) → find (is_named n) new ≡ cond (same_name q n) None (find (is_named n) ks)
  found_without new lt rest n =
      let old = some_at ks i lt in
      ap (find (is_named n)) rest ∙ removed_found ks i old.0 rises old.1 n ∙ ap (λ m. cond (same_name m n) None (find (is_named n) ks)) (at_name old.0 old.1)

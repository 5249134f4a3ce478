-- The snapshots once one is gone, or another is in its place, and an index over them.
use Rattle.std.proofs.Common.{◌≡◌, ℕ, zero, suc, ◌+◌, ◌<◌, length, arith, Bool, true, false, cond, List, [], ◌∷◌, set, slice_get, Option, Some, None, is_some, refl, sym, ap, subst, ◌∙◌, true≢false, add-one, ◌++◌}
use Rattle.std.specs.Prelude.{remove, IfSome}
use Rattle.std.specs.List.{find}
use Rattle.std.specs.Option.{IsSome, option_map}
use Rattle.std.specs.Ordering.{is_eq}
use Rattle.std.specs.Cmp.{tied_itself}
use Rattle.std.specs.Cmp.Lexicographic.{nat_list_cmp_total, texts_ties, same_text}
use Rattle.base.specs.Names.{same_name}
use Rattle.snapshots.specs.declared.kept.Kept.{Kept}
use Rattle.snapshots.specs.Index.{IsIndex, AreNamesOnce}
use Rattle.snapshots.specs.Order.{is_named}
use Rattle.snapshots.proofs.Names.{miss, dropped_one, passed, once_more, swapped, from_not}

-- ---- what stands at a place

nothing : (i : ℕ) (k : Kept) → slice_get {X = Kept} [] i ≡ Some k → ⊥
nothing i k e = cc

-- one of that name
pub named_at : (o : Option Kept) (n : List ℕ) → option_map (λ (k : Kept). k.snapshot.name) o ≡ Some n → (k : Kept) × (o ≡ Some k) × (k.snapshot.name ≡ n)
named_at None n e = absurd (cc)
named_at (Some k) n e = (k, refl, cc)

pub same_itself : (n : List ℕ) → same_name n n ≡ true
same_itself n = texts_ties n n ∙ ap is_eq (tied_itself nat_list_cmp_total n)

-- it is found by its name
found_at : (ks : List Kept) (i : ℕ) (k : Kept) → slice_get ks i ≡ Some k → is_some (find (is_named k.snapshot.name) ks) ≡ true
found_at [] i k e = absurd (nothing i k e)
found_at (x ∷ ks) zero k e =
    let same : x ≡ k = cc in
    ap (λ b. is_some (cond b (Some x) (find (is_named k.snapshot.name) ks))) (ap (λ (y : Kept). same_name y.snapshot.name k.snapshot.name) same ∙ same_itself k.snapshot.name)
found_at (x ∷ ks) (suc i) k e = by (is_named k.snapshot.name x) (found_at ks i k e)
  where
    by : (b : Bool) → is_some (find (is_named k.snapshot.name) ks) ≡ true → is_some (cond b (Some x) (find (is_named k.snapshot.name) ks)) ≡ true
    by true h = refl
    by false h = h

pub found_named : (ks : List Kept) (i : ℕ) (n : List ℕ) → option_map (λ (k : Kept). k.snapshot.name) (slice_get ks i) ≡ Some n → is_some (find (is_named n) ks) ≡ true
found_named ks i n e =
    let k = named_at (slice_get ks i) n e in
    subst (λ m. is_some (find (is_named m) ks) ≡ true) k.2 (found_at ks i k.0 k.1)

-- two don't have one name
not_twice : (x k : Kept) (ks : List Kept) (i : ℕ) (n : List ℕ) → find (is_named x.snapshot.name) ks ≡ None → slice_get ks i ≡ Some k → is_named n x ≡ true → is_named n k ≡ true → ⊥
not_twice x k ks i n none at a b =
    let first : x.snapshot.name ≡ n = same_text x.snapshot.name n (sym a) in
    let second : k.snapshot.name ≡ n = same_text k.snapshot.name n (sym b) in
    let there : is_some (find (is_named x.snapshot.name) ks) ≡ true = subst (λ m. is_some (find (is_named m) ks) ≡ true) (second ∙ sym first) (found_at ks i k at) in
    true≢false (sym there ∙ ap is_some none)

-- ---- one gone

gone_found : (ks : List Kept) (i : ℕ) (k : Kept) → AreNamesOnce ks → slice_get ks i ≡ Some k → (n : List ℕ) → find (is_named n) (remove ks i) ≡ cond (is_named n k) None (find (is_named n) ks)
gone_found [] i k o e n = absurd (nothing i k e)
gone_found (x ∷ ks) zero k o e n =
    let same : x ≡ k = cc in
    let differ : is_named n x ≡ true → find (is_named n) ks ≡ None = λ h. ap (λ m. find (is_named m) ks) (sym (same_text x.snapshot.name n (sym h))) ∙ o.0 in
    dropped_one (is_named n x) x (find (is_named n) ks) differ ∙ ap (λ (y : Kept). cond (is_named n y) None (cond (is_named n x) (Some x) (find (is_named n) ks))) same
gone_found (x ∷ ks) (suc i) k o e n =
    ap (λ r. cond (is_named n x) (Some x) r) (gone_found ks i k o.1 e n)
    ∙ passed (is_named n x) (is_named n k) x (find (is_named n) ks) (not_twice x k ks i n o.0 e)

still_none : (p : Kept → Bool) (ks : List Kept) (i : ℕ) → find p ks ≡ None → find p (remove ks i) ≡ None
still_none p [] zero e = refl
still_none p [] (suc i) e = refl
still_none p (x ∷ ks) zero e = (miss (p x) x (find p ks) e).1
still_none p (x ∷ ks) (suc i) e =
    let both = miss (p x) x (find p ks) e in
    ap (λ b. cond b (Some x) (find p (remove ks i))) both.0 ∙ still_none p ks i both.1

-- the others' names are each one's still
pub once_without : (ks : List Kept) (i : ℕ) → AreNamesOnce ks → AreNamesOnce (remove ks i)
once_without [] zero o = tt
once_without [] (suc i) o = tt
once_without (x ∷ ks) zero o = o.1
once_without (x ∷ ks) (suc i) o = (still_none (is_named x.snapshot.name) ks i o.0, once_without ks i o.1)

-- the one after it comes to its place
pub after_it : (ks : List Kept) (i : ℕ) → slice_get (remove ks i) i ≡ slice_get ks (suc i)
after_it [] zero = refl
after_it [] (suc i) = refl
after_it (x ∷ ks) zero = refl
after_it (x ∷ ks) (suc i) = after_it ks i

pub named_after : (ks : List Kept) (i : ℕ) (n : List ℕ) → option_map (λ (k : Kept). k.snapshot.name) (slice_get ks (i + 1)) ≡ Some n
    → option_map (λ (k : Kept). k.snapshot.name) (slice_get (remove ks i) i) ≡ Some n
named_after ks i n e = ap (option_map (λ (k : Kept). k.snapshot.name)) (after_it ks i ∙ ap (slice_get ks) (sym (add-one i))) ∙ e

-- ---- another in its place

set_found : (ks : List Kept) (i : ℕ) (k y : Kept) → AreNamesOnce ks → slice_get ks i ≡ Some k → k.snapshot.name ≡ y.snapshot.name → (n : List ℕ) → find (is_named n) (set ks i y) ≡ cond (is_named n y) (Some y) (find (is_named n) ks)
set_found [] i k y o e s n = absurd (nothing i k e)
set_found (x ∷ ks) zero k y o e s n =
    let same : x.snapshot.name ≡ y.snapshot.name = cc in
    once_more (is_named n y) x y (find (is_named n) ks) ∙ ap (λ m. cond (is_named n y) (Some y) (cond (same_name m n) (Some x) (find (is_named n) ks))) (sym same)
set_found (x ∷ ks) (suc i) k y o e s n =
    ap (λ r. cond (is_named n x) (Some x) r) (set_found ks i k y o.1 e s n)
    ∙ swapped (is_named n x) (is_named n y) x y (find (is_named n) ks) (λ a b. not_twice x k ks i n o.0 e a (ap (λ m. same_name m n) s ∙ b))

-- ---- an index

-- from which the one that is gone was taken
pub forgotten : (b c ks : List Kept) (i : ℕ) (name : List ℕ) → ((q : List ℕ) → find (is_named q) b ≡ find (is_named q) ks) → AreNamesOnce ks
    → option_map (λ (k : Kept). k.snapshot.name) (slice_get ks i) ≡ Some name
    → ((q : List ℕ) → find (is_named q) c ≡ cond (same_name name q) None (find (is_named q) b))
    → (q : List ℕ) → find (is_named q) c ≡ find (is_named q) (remove ks i)
forgotten b c ks i name own once at gone q =
    let k = named_at (slice_get ks i) name at in
    gone q ∙ ap (cond (same_name name q) None) (own q) ∙ ap (λ m. cond (same_name m q) None (find (is_named q) ks)) (sym k.2) ∙ sym (gone_found ks i k.0 once k.1 q)

-- in which the other was put in its place
pub replaced : (b c ks : List Kept) (i : ℕ) (y : Kept) → ((q : List ℕ) → find (is_named q) b ≡ find (is_named q) ks) → AreNamesOnce ks
    → option_map (λ (k : Kept). k.snapshot.name) (slice_get ks i) ≡ Some y.snapshot.name
    → ((q : List ℕ) → find (is_named q) c ≡ cond (is_named q y) (Some y) (find (is_named q) b))
    → (q : List ℕ) → find (is_named q) c ≡ find (is_named q) (set ks i y)
replaced b c ks i y own once at put q =
    let k = named_at (slice_get ks i) y.snapshot.name at in
    put q ∙ ap (cond (is_named q y) (Some y)) (own q) ∙ sym (set_found ks i k.0 y once k.1 k.2 q)

-- it has one that the list has at a place
pub index_has : (o : Option (List Kept)) (ks : List Kept) (i : ℕ) (n : List ℕ) → IsIndex o ks → option_map (λ (k : Kept). k.snapshot.name) (slice_get ks i) ≡ Some n
    → IfSome o (λ index. IsSome (find (λ k. same_name k.snapshot.name n) index))
index_has None ks i n own e = tt
index_has (Some b) ks i n own e = ap is_some (own n) ∙ found_named ks i n e

-- ---- names that stay each one's

-- one of a new name more
pub once_longer : (ks : List Kept) (k : Kept) → AreNamesOnce ks → find (is_named k.snapshot.name) ks ≡ None → AreNamesOnce (ks ++ k ∷ [])
once_longer [] k o none = (refl, tt)
once_longer (x ∷ ks) k o none =
    let both = miss (is_named k.snapshot.name x) x (find (is_named k.snapshot.name) ks) none in
    (none_more (is_named x.snapshot.name) ks k o.0 (from_not (is_named x.snapshot.name k) (λ h. true≢false (sym (turned_name k.snapshot.name x.snapshot.name h) ∙ both.0))), once_longer ks k o.1 both.1)
  where
    turned_name : (a b : List ℕ) → same_name a b ≡ true → same_name b a ≡ true
    turned_name a b h = ap (λ n. same_name n a) (sym (same_text a b (sym h))) ∙ same_itself a

    none_more : (p : Kept → Bool) (ks : List Kept) (k : Kept) → find p ks ≡ None → p k ≡ false → find p (ks ++ k ∷ []) ≡ None
    none_more p [] k none h = ap (λ b. cond b (Some k) None) h
    none_more p (y ∷ ys) k none h =
        let both = miss (p y) y (find p ys) none in
        ap (λ b. cond b (Some y) (find p (ys ++ k ∷ []))) both.0 ∙ none_more p ys k both.1 h

-- another of the same name in its place
pub once_with : (ks : List Kept) (i : ℕ) (y : Kept) → AreNamesOnce ks → option_map (λ (k : Kept). k.snapshot.name) (slice_get ks i) ≡ Some y.snapshot.name → AreNamesOnce (set ks i y)
once_with ks i y o at = let k = named_at (slice_get ks i) y.snapshot.name at in by ks i k.0 o k.1 k.2
  where
    none_set : (q : List ℕ) (ks : List Kept) (i : ℕ) (k : Kept) → slice_get ks i ≡ Some k → k.snapshot.name ≡ y.snapshot.name → find (is_named q) ks ≡ None → find (is_named q) (set ks i y) ≡ None
    none_set q [] i k e s none = absurd (nothing i k e)
    none_set q (x ∷ ks) zero k e s none =
        let same : x ≡ k = cc in
        let both = miss (is_named q x) x (find (is_named q) ks) none in
        ap (λ b. cond b (Some y) (find (is_named q) ks)) (ap (λ m. same_name m q) (sym (ap (λ (z : Kept). z.snapshot.name) same ∙ s)) ∙ both.0) ∙ both.1
    none_set q (x ∷ ks) (suc i) k e s none =
        let both = miss (is_named q x) x (find (is_named q) ks) none in
        ap (λ b. cond b (Some x) (find (is_named q) (set ks i y))) both.0 ∙ none_set q ks i k e s both.1

    by : (ks : List Kept) (i : ℕ) (k : Kept) → AreNamesOnce ks → slice_get ks i ≡ Some k → k.snapshot.name ≡ y.snapshot.name → AreNamesOnce (set ks i y)
    by [] i k o e s = absurd (nothing i k e)
    by (x ∷ ks) zero k o e s = let same : x ≡ k = cc in (ap (λ n. find (is_named n) ks) (sym (ap (λ (z : Kept). z.snapshot.name) same ∙ s)) ∙ o.0, o.1)
    by (x ∷ ks) (suc i) k o e s = (none_set x.snapshot.name ks i k e s o.0, by ks i k o.1 e s)

-- ---- another name at a place

none_split : (b : Bool) (k : Kept) (o : Option Kept) → cond b (Some k) o ≡ None → (b ≡ false) × (o ≡ None)
none_split true k o e = absurd cc
none_split false k o e = (refl, e)

-- one of a new name is found at its place as it would be in front
found_moved : (ks : List Kept) (i : ℕ) (y : Kept) → i < length ks → find (is_named y.snapshot.name) ks ≡ None → (q : List ℕ) → find (is_named q) (y ∷ remove ks i) ≡ find (is_named q) (set ks i y)
found_moved [] i y lt none q = absurd (omega arith)
found_moved (k ∷ ks) zero y lt none q = refl
found_moved (k ∷ ks) (suc i) y lt none q =
    let n = none_split (is_named y.snapshot.name k) k (find (is_named y.snapshot.name) ks) none in
    swapped (is_named q y) (is_named q k) y k (find (is_named q) (remove ks i))
    (λ a b. true≢false (sym b ∙ ap (same_name k.snapshot.name) (sym (same_text y.snapshot.name q (sym a))) ∙ n.0))
    ∙ ap (cond (is_named q k) (Some k)) (found_moved ks i y (omega arith) n.1 q)

-- where one goes, no other comes
pub none_left : (ks : List Kept) (i : ℕ) (q : List ℕ) → find (is_named q) ks ≡ None → find (is_named q) (remove ks i) ≡ None
none_left [] zero q e = refl
none_left [] (suc i) q e = refl
none_left (k ∷ ks) zero q e = (none_split (is_named q k) k (find (is_named q) ks) e).1
none_left (k ∷ ks) (suc i) q e =
    let n = none_split (is_named q k) k (find (is_named q) ks) e in
    ap (λ b. cond b (Some k) (find (is_named q) (remove ks i))) n.0 ∙ none_left ks i q n.1

-- an index of that one in front of the others is one of the list with it at its place
pub index_moved : (o : Option (List Kept)) (ks : List Kept) (i : ℕ) (y : Kept) → i < length ks → find (is_named y.snapshot.name) ks ≡ None → IsIndex o (y ∷ remove ks i) → IsIndex o (set ks i y)
index_moved None ks i y lt none own = tt
index_moved (Some b) ks i y lt none own = λ q. own q ∙ found_moved ks i y lt none q

-- File systems that stand once in a list.
use Rattle.std.proofs.Common.{◌≡◌, ℕ, zero, suc, ◌+◌, ◌≤◌, Bool, true, false, cond, List, [], ◌∷◌, map, drop, refl, sym, ap, subst, ◌∙◌, inl, inr, ⊎_elim, arith}
use Rattle.std.specs.List.{filter, sum_by}
use Rattle.std.specs.List.Sorted.{IsPermutation}
use Rattle.std.specs.FinMap.{entries}
use Rattle.std.proofs.lemmas.List.Sums.{sum_by-cons}
use Rattle.std.proofs.lemmas.List.Sorted.{sum_by-IsPermutation}
use Rattle.base.specs.Names.{same_name}
use Rattle.base.specs.Surveys.{IsIn, AreDifferent}
use Rattle.datasets.specs.Rows.{Entry}
use Rattle.world.specs.Shapes.{Name, name_order}
use Rattle.world.specs.Usage.{AreApart}
use Rattle.world.specs.Worlds.{FileSystems}
use Rattle.world.proofs.lineage.Bridge.{from_entries}
use Rattle.world.proofs.lists.Finding.{from_filter, name_itself, one_name}
use Rattle.world.proofs.lists.Listed.{in_map, map_in}
use Rattle.world.proofs.lists.Maps.{entries_apart}

abbrev pub name_in : Entry → Name
name_in e = e.0

-- the names of a map's entries
apart_names : (es : List Entry) → AreApart es → AreDifferent (map name_in es)
apart_names [] a = tt
apart_names (e ∷ es) a = ((λ i. let k = in_map name_in es e.0 i in a.0 k.0.0 k.0.1 (from_entries es k.0 k.1) (sym k.2)), apart_names es a.1)

pub names_once : (ss : FileSystems) → AreDifferent (map name_in (entries ss))
names_once ss = apart_names (entries ss) (entries_apart name_order ss)

-- some of them
pub once_filtered : {A B : Type 0} (f : A → B) (p : A → Bool) (xs : List A) → AreDifferent (map f xs) → AreDifferent (map f (filter p xs))
once_filtered f p [] d = tt
once_filtered f p (x ∷ xs) d = by_test (p x) (once_filtered f p xs d.1)
  where
    by_test : (b : Bool) → AreDifferent (map f (filter p xs)) → AreDifferent (map f (cond b (x ∷ filter p xs) (filter p xs)))
    by_test false ih = ih
    by_test true ih = ((λ i. let k = in_map f (filter p xs) (f x) i in d.0 (subst (λ b. IsIn (map f xs) b) (sym k.2) (map_in f xs k.0 (from_filter p xs k.0 k.1).0))), ih)

-- ---- in another order

abbrev at_name : Name → Entry → ℕ
at_name n e = cond (same_name e.0 n) 1 0

-- how often it stands there
abbrev count : Name → List Entry → ℕ
count n es = sum_by (at_name n) es

none_at : (n : Name) (es : List Entry) → (IsIn (map name_in es) n → ⊥) → count n es ≡ 0
none_at n [] out = refl
none_at n (e ∷ es) out = sum_by-cons (at_name n) e es ∙ by_test (same_name e.0 n) refl (none_at n es (λ i. out (inr i)))
  where
    by_test : (b : Bool) → same_name e.0 n ≡ b → count n es ≡ 0 → at_name n e + count n es ≡ 0
    by_test true k none = absurd (out (inl (sym (one_name e.0 n k))))
    by_test false k none = let zero : at_name n e ≡ 0 = ap (λ b. cond b 1 0) k in omega (arith, zero, none)

once_at : (n : Name) (es : List Entry) → AreDifferent (map name_in es) → count n es ≤ 1
once_at n [] d = omega arith
once_at n (e ∷ es) d = by_test (same_name e.0 n) refl (once_at n es d.1)
  where
    by_test : (b : Bool) → same_name e.0 n ≡ b → count n es ≤ 1 → count n (e ∷ es) ≤ 1
    by_test true k le =
        let none = none_at n es (λ i. d.0 (subst (λ q. IsIn (map name_in es) q) (sym (one_name e.0 n k)) i)) in
        let all = sum_by-cons (at_name n) e es in
        let one : at_name n e ≡ 1 = ap (λ b. cond b 1 0) k in
        omega (arith, none, all, one)
    by_test false k le =
        let all = sum_by-cons (at_name n) e es in
        let zero : at_name n e ≡ 0 = ap (λ b. cond b 1 0) k in
        omega (arith, all, zero, le)

some_at : (n : Name) (es : List Entry) → IsIn (map name_in es) n → 1 ≤ count n es
some_at n [] i = absurd i
some_at n (e ∷ es) i =
    let all = sum_by-cons (at_name n) e es in
    ⊎_elim
    (λ (same : n ≡ e.0).
    let one : at_name n e ≡ 1 = ap (λ b. cond b 1 0) (ap (λ q. same_name e.0 q) same ∙ name_itself e.0) in
    omega (arith, all, one))
    (λ k. let le = some_at n es k in omega (arith, all, le))
    i

fewer_left : {A : Type 0} (value : A → Entry) (n : Name) (xs : List A) (k : ℕ) → count n (map value (drop k xs)) ≤ count n (map value xs)
fewer_left value n [] zero = omega arith
fewer_left value n [] (suc k) = omega arith
fewer_left value n (x ∷ xs) zero = omega arith
fewer_left value n (x ∷ xs) (suc k) =
    let le = fewer_left value n xs k in
    let all = sum_by-cons (at_name n) (value x) (map value xs) in
    omega (arith, all, le)

-- a name doesn't come again behind it
pub not_again : {A : Type 0} (value : A → Entry) (all : List Entry) (xs : List A) → AreDifferent (map name_in all) → IsPermutation all (map value xs)
    → (k : ℕ) (a : A) (rest : List A) → drop k xs ≡ a ∷ rest → IsIn (map name_in (map value rest)) (value a).0 → ⊥
not_again value all xs once order k a rest is i =
    let n : Name = (value a).0 in
    let whole : count n (map value xs) ≡ count n all = sum_by-IsPermutation (at_name n) all (map value xs) order in
    let most = once_at n all once in
    let left = fewer_left value n xs k in
    let parts : count n (map value (drop k xs)) ≡ at_name n (value a) + count n (map value rest) =
    ap (λ l. count n (map value l)) is ∙ sum_by-cons (at_name n) (value a) (map value rest) in
    let one : at_name n (value a) ≡ 1 = ap (λ b. cond b 1 0) (name_itself n) in
    let more = some_at n (map value rest) i in
    omega (arith, whole, most, left, parts, one, more)

-- Deadlists in another order, and what a set has that another hasn't, counted the other way round.
use Rattle.std.proofs.Common.{◌≡◌, ◌+◌, ◌≤◌, Bool, true, false, cond, List, [], ◌∷◌, length, map, sym, ap, subst, ◌∙◌, inl, inr, ⊎_elim, arith}
use Rattle.std.specs.List.{Contains}
use Rattle.std.specs.List.Sorted.{IsPermutation}
use Rattle.std.specs.FinSet.{contains, union, difference, len, from_list, len-insert, len-empty}
use Rattle.std.proofs.lemmas.List.Elements.{Contains-append_left, Contains-append_right, Contains-append_cases, Contains-push, Contains-push_cases}
use Rattle.std.proofs.lemmas.List.Sorted.{Contains-permutation, IsPermutation-map, IsPermutation-sym, length_permutation}
use Rattle.base.specs.Surveys.{IsIn, AreDifferent}
use Rattle.base.specs.Map.{Block, BlockSet, block_cmp}
use Rattle.model.specs.Sums.{size_without}
use Rattle.world.specs.Blocks.{block_order as o}
use Rattle.world.specs.Deadlists.{Lists}
use Rattle.world.proofs.lists.SetCounts.{same_members, in_union_left, in_union_right, from_union, len-union, len-difference}
use Rattle.world.proofs.lists.Lists.{in_listed, from_listed, len-from_list}
use Rattle.world.proofs.lineage.Deadlists.{dead_counts}

pub to_contains : {A : Type 0} (xs : List A) (x : A) → IsIn xs x → Contains xs x
to_contains [] x h = absurd h
to_contains (y ∷ ys) x h = ⊎_elim
    (λ (e : x ≡ y). Contains-append_left (y ∷ []) ys x (subst (Contains (y ∷ [])) (sym e) (Contains-push [] y)))
    (λ k. Contains-append_right (y ∷ []) ys x (to_contains ys x k))
    h

pub from_contains : {A : Type 0} (xs : List A) (x : A) → Contains xs x → IsIn xs x
from_contains [] x h = let l = h.1 in absurd (omega arith)
from_contains (y ∷ ys) x h = ⊎_elim
    (λ k. ⊎_elim (λ n. let l = n.1 in absurd (omega arith)) (λ e. inl (sym e)) (Contains-push_cases [] y x k))
    (λ k. inr (from_contains ys x k))
    (Contains-append_cases (y ∷ []) ys x h)

-- the elements stay
pub stays_in : {A : Type 0} (xs ys : List A) (x : A) → IsPermutation xs ys → IsIn xs x → IsIn ys x
stays_in xs ys x p h = from_contains ys x (Contains-permutation xs ys x p (to_contains xs x h))

abbrev set_of : List Block → BlockSet
set_of ks = from_list ks

-- a set has no more members than a list that it is of, and one fewer at each that stands there twice
few : (ks : List Block) → len (set_of ks) ≤ length ks
few [] = let e = len-empty block_cmp in omega arith
few (k ∷ ks) = at (contains (set_of ks) k) (len-insert o.total (set_of ks) k) (few ks)
  where
    at : (b : Bool) → len (set_of (k ∷ ks)) ≡ cond b (len (set_of ks)) (len (set_of ks) + 1) → len (set_of ks) ≤ length ks → len (set_of (k ∷ ks)) ≤ length (k ∷ ks)
    at true e l = omega arith
    at false e l = omega arith

once_by_count : (ks : List Block) → length ks ≤ len (set_of ks) → AreDifferent ks
once_by_count [] h = tt
once_by_count (k ∷ ks) h = (
  λ i.
      let e : len (set_of (k ∷ ks)) ≡ len (set_of ks) = len-insert o.total (set_of ks) k ∙ ap (λ b. cond b (len (set_of ks)) (len (set_of ks) + 1)) (in_listed o ks k i) in
      let l = few ks in
      absurd (omega arith),
  once_by_count ks (at (contains (set_of ks) k) (len-insert o.total (set_of ks) k) h),
)
  where
    at : (b : Bool) → len (set_of (k ∷ ks)) ≡ cond b (len (set_of ks)) (len (set_of ks) + 1) → length (k ∷ ks) ≤ len (set_of (k ∷ ks)) → length ks ≤ len (set_of ks)
    at true e l = omega arith
    at false e l = omega arith

in_any_order : (ks js : List Block) (s : BlockSet) → IsPermutation ks js → Lists ks s → Lists js s
in_any_order ks js s p own =
    let same : set_of js ≡ set_of ks = same_members o (set_of js) (set_of ks)
    (λ b h. in_listed o ks b (stays_in js ks b (IsPermutation-sym ks js p) (from_listed o js b h)))
    (λ b h. in_listed o js b (stays_in ks js b p (from_listed o ks b h))) in
    let sizes = ap len same in
    let longs = length_permutation ks js p in
    let count = len-from_list o ks own.once in
    record { once = once_by_count js (omega arith); is = same ∙ own.is }

-- a list in another order lists the same set
pub lists_shuffled : {A : Type 0} (f : A → Block) (xs ys : List A) (s : BlockSet) → IsPermutation xs ys → Lists (map f xs) s → Lists (map f ys) s
lists_shuffled f xs ys s p own = in_any_order (map f xs) (map f ys) s (IsPermutation-map f xs ys p) own

-- what the first set has that the second hasn't, by the deadlist of what the second has that the first hasn't
pub written_is : (a b : BlockSet) (ds : List Block) → Lists ds (difference b a) → size_without a b + len b ≡ len a + length ds
written_is a b ds own =
    let both : union a b ≡ union b a = same_members o (union a b) (union b a)
    (λ k h. ⊎_elim (λ i. in_union_right o b a k i) (λ i. in_union_left o b a k i) (from_union o a b k h))
    (λ k h. ⊎_elim (λ i. in_union_right o a b k i) (λ i. in_union_left o a b k i) (from_union o b a k h)) in
    let sizes = ap len both in
    let left = len-union o a b in
    let right = len-union o b a in
    let count = (dead_counts ds (difference b a) 0 own).0 in
    omega arith

-- it is a part of the first
pub written_few : (a b : BlockSet) → size_without a b ≤ len a
written_few a b = let e = len-difference o a b in omega arith

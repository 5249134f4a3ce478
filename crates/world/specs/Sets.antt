-- Words on finite sets, in an order that tells all keys apart.
use Rattle.std.specs.Prelude.{◌≡◌, ℕ, ◌+◌, ◌⊎◌, true, List, [], ◌∷◌}
use Rattle.std.specs.Cmp.{IsTotalOrder}
use Rattle.std.proofs.Common.{Ordering}
use Rattle.std.specs.FinSet.{FinSet, IsAntisymmetric, contains, union, len, empty}

-- a total order in which only equal keys tie (profile)
pub record IsExactOrder {K : Type 0} (R : K → K → Ordering) : Type 0 where
  pub total : IsTotalOrder R
  pub exact : IsAntisymmetric R

-- the key is a member of the set (profile)
abbrev pub Has : {K : Type 0} {R : K → K → Ordering} → FinSet R → K → Type 0
Has s q = contains s q ≡ true

-- every member of the first is one of the second (profile)
abbrev pub IsSubset : {K : Type 0} {R : K → K → Ordering} → FinSet R → FinSet R → Type 0
IsSubset {K} s t = (q : K) → Has s q → Has t q

-- no key is a member of both (profile)
abbrev pub AreDisjoint : {K : Type 0} {R : K → K → Ordering} → FinSet R → FinSet R → Type 0
AreDisjoint {K} s t = (q : K) → Has s q → Has t q → ⊥

-- the union of a list of sets (profile)
abbrev pub union_all : {K : Type 0} {R : K → K → Ordering} → List (FinSet R) → FinSet R
union_all [] = empty
union_all (s ∷ ss) = union s (union_all ss)

-- the sizes of a list of sets together (profile)
abbrev pub sum_len : {K : Type 0} {R : K → K → Ordering} → List (FinSet R) → ℕ
sum_len [] = 0
sum_len (s ∷ ss) = len s + sum_len ss

-- no two sets of the list have a member in common (profile)
abbrev pub ArePairwiseDisjoint : {K : Type 0} {R : K → K → Ordering} → List (FinSet R) → Type 0
ArePairwiseDisjoint [] = Unit {0}
ArePairwiseDisjoint (s ∷ ss) = AreDisjoint s (union_all ss) × ArePairwiseDisjoint ss

-- the key is a member of one of the sets (profile)
abbrev pub IsInOne : {K : Type 0} {R : K → K → Ordering} → List (FinSet R) → K → Type 0
IsInOne [] q = ⊥
IsInOne (s ∷ ss) q = Has s q ⊎ IsInOne ss q

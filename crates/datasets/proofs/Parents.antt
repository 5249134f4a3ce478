-- The parent's name, from the end of a name on.
use Rattle.std.proofs.Common.{◌≡◌, ◌<◌, ℕ, ◌+◌, false, List, [], ◌∷◌, ◌++◌, length, take, get_or, Some, None, if◌then◌else◌, refl, ap, ◌∙◌, arith, add-one}
use Rattle.std.specs.Prelude.{◌==◌}
use Rattle.std.proofs.lemmas.Bool.Decides.{nat_tests}
use Rattle.std.proofs.Math.Seq.{take-suc}
use Rattle.base.specs.Names.{parent_of, before_slash, slash}

-- a slash at the end ends the parent's name
parent-slash : (xs : List ℕ) → parent_of (xs ++ slash ∷ []) ≡ Some xs
parent-slash [] = refl
parent-slash (x ∷ xs) = ap (before_slash x) (parent-slash xs)

-- another byte at the end says nothing of the parent's name
parent-other : (xs : List ℕ) (b : ℕ) → (b == slash) ≡ false → parent_of (xs ++ b ∷ []) ≡ parent_of xs
parent-other [] b h = ap (λ t. if t then Some [] else None) h
parent-other (x ∷ xs) b h = ap (before_slash x) (parent-other xs b h)

-- the byte before a place is a slash: the parent's name ends there
pub ends_here : (name : List ℕ) (i j : ℕ) → j ≡ i + 1 → i < length name → get_or name i 0 ≡ slash → parent_of (take j name) ≡ Some (take i name)
ends_here name i j next lt here =
    ap (λ n. parent_of (take n name)) next ∙ rw (add-one, take-suc name i 0 lt, here) (parent-slash (take i name))

-- it is another byte: the parent's name ends before it, if at all
pub ends_before : (name : List ℕ) (i j : ℕ) → j ≡ i + 1 → i < length name → (get_or name i 0 ≡ slash → ⊥) → parent_of (take j name) ≡ parent_of (take i name)
ends_before name i j next lt other =
    ap (λ n. parent_of (take n name)) next ∙ rw (add-one, take-suc name i 0 lt) (parent-other (take i name) (get_or name i 0) (not_equal _ other))
  where
    not_equal : (b : ℕ) → (b ≡ slash → ⊥) → (b == slash) ≡ false
    not_equal b other = grind (arith, nat_tests)

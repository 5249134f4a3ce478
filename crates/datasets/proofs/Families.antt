-- Which names are of a family.
use Rattle.std.proofs.Common.{◌≡◌, ℕ, Bool, true, false, ◌&&◌, ◌||◌, List, [], ◌∷◌, ◌++◌, length, take, drop, refl, sym, ap, ◌∙◌, true≢false, ◌≤◌, get_or, nat_eq, arith}
use Rattle.std.proofs.lemmas.Bool.{eqb-true, and_parts}
use Rattle.std.specs.Prelude.{◌==◌}
use Rattle.std.specs.List.{starts_with}
use Rattle.std.specs.Cmp.Lexicographic.{pointwise}
use Rattle.base.specs.Names.{same_name, slash}
use Rattle.model.specs.Hierarchy.{is_in_family}
use Rattle.world.proofs.lists.Names.{either_way, goes_on, goes_on_is}

-- a name that begins with the ancestor's
parted : (a n : List ℕ) → pointwise ◌==◌ (take (length a) n) a ≡ true → n ≡ a ++ drop (length a) n
parted [] n e = refl
parted (x ∷ xs) [] e = absurd (true≢false (sym e))
parted (x ∷ xs) (y ∷ ys) e = let p = and_parts (y == x) (pointwise ◌==◌ (take (length xs) ys) xs) e in λ i. eqb-true y x p.0 i ∷ parted xs ys p.1 i

pub begins : (a n : List ℕ) → pointwise ◌==◌ (take (length a) n) a ≡ true → is_in_family a n ≡ goes_on (drop (length a) n)
begins a n e = ap (is_in_family a) (parted a n e) ∙ goes_on_is a (drop (length a) n)

pub begins_not : (a n : List ℕ) → pointwise ◌==◌ (take (length a) n) a ≡ false → is_in_family a n ≡ false
begins_not [] n e = absurd (true≢false e)
begins_not (x ∷ xs) [] e = refl
begins_not (x ∷ xs) (y ∷ ys) e = at (y == x) (x == y) (either_way y x) e (begins_not xs ys)
  where
    at : (b c : Bool) → b ≡ c → (b && pointwise ◌==◌ (take (length xs) ys) xs) ≡ false → (pointwise ◌==◌ (take (length xs) ys) xs ≡ false → is_in_family xs ys ≡ false)
        → ((b && same_name ys xs) || (c && starts_with ◌==◌ ys (xs ++ slash ∷ []))) ≡ false
    at true true s e ih = ih e
    at true false s e ih = absurd (true≢false s)
    at false true s e ih = absurd (true≢false (sym s))
    at false false s e ih = refl

pub first_byte : (r : List ℕ) → 1 ≤ length r → nat_eq (get_or r 0 0) 47 ≡ goes_on r
first_byte [] h = absurd (omega arith)
first_byte (b ∷ bs) h = either_way b slash

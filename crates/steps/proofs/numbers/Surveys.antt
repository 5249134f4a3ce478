-- The pool's room after a change, from a survey's counts.
use Rattle.std.proofs.Common.{◌≡◌, ◌+◌, Bool, true, false, ◌||◌, List, [], ◌∷◌, refl, sym, ap, ◌∙◌, true≢false, ◌⊎◌, inl, inr, ⊎_elim, length, arith}
use Rattle.std.specs.FinSet.{union, difference, from_list, len, len-empty}
use Rattle.std.specs.Ordering.{eq_by_cmp}
use Rattle.base.specs.Map.{Block, BlockSet, block_cmp}
use Rattle.world.specs.Sets.{Has, IsSubset}
use Rattle.world.specs.Blocks.{block_order as o}
use Rattle.base.specs.Surveys.{IsIn, AreDifferent}
use Rattle.world.proofs.lists.SetCounts.{in_union_left, in_union_right, from_union, in_difference, from_difference, no-empty, Has-cases, len-two_parts, len_insert_new, put_in, equal_keys, same_key}

or_cases2 : (a b : Bool) → (a || b) ≡ true → (a ≡ true) ⊎ (b ≡ true)
or_cases2 true b e = inl e
or_cases2 false b e = inr e

or_left : (a b : Bool) → a ≡ true → (a || b) ≡ true
or_left true b e = refl
or_left false b e = absurd (true≢false (sym e))

or_right2 : (a b : Bool) → b ≡ true → (a || b) ≡ true
or_right2 true b e = refl
or_right2 false b e = e

-- lists of different blocks as sets
pub in_list : (bs : List Block) (b : Block) → IsIn bs b → Has (from_list {R = block_cmp} bs) b
in_list [] b h = absurd h
in_list (x ∷ bs) b h = put_in o (from_list bs) x b ∙ ⊎_elim
    (λ is. or_left _ _ (ap (λ y. eq_by_cmp block_cmp y x) is ∙ same_key o x))
    (λ r. or_right2 _ _ (in_list bs b r)) h

pub from_in_list : (bs : List Block) (b : Block) → Has (from_list {R = block_cmp} bs) b → IsIn bs b
from_in_list [] b h = no-empty o b h
from_in_list (x ∷ bs) b h = ⊎_elim (λ t. inl (equal_keys o b x t)) (λ r. inr (from_in_list bs b r)) (or_cases2 _ _ (sym (put_in o (from_list bs) x b) ∙ h))

false_from : (b : Bool) → (b ≡ true → ⊥) → b ≡ false
false_from true h = absurd (h refl)
false_from false h = refl

pub len-from_list : (bs : List Block) → AreDifferent bs → len (from_list {R = block_cmp} bs) ≡ length bs
len-from_list [] h = len-empty block_cmp
len-from_list (x ∷ bs) h =
    let e = len_insert_new o (from_list bs) x (false_from _ (λ t. h.0 (from_in_list bs x t))) in
    let r = len-from_list bs h.1 in
    omega (arith, e, r)

-- a set of blocks changes by what is dropped and what is made, beside one that stays
module _ (A A' D M L : BlockSet)
    (drops : IsSubset D A) (makes : IsSubset M A')
    (old : (b : Block) → Has A b → Has D b ⊎ Has A' b)
    (new : (b : Block) → Has A' b → Has M b ⊎ (Has A b × (Has D b → ⊥)))
    (apart : (b : Block) → Has M b → (Has A b × (Has D b → ⊥)) ⊎ Has L b → ⊥) where
  abbrev stay : BlockSet
  stay = union (difference A D) L

  in_stay : (b : Block) → Has A b → (Has D b → ⊥) → Has stay b
  in_stay b h n = in_union_left o (difference A D) L b (in_difference o A D b h n)

  from_stay : (b : Block) → Has stay b → (Has A b × (Has D b → ⊥)) ⊎ Has L b
  from_stay b h = ⊎_elim (λ k. inl (from_difference o A D b k)) (λ k. inr k) (from_union o (difference A D) L b h)

  after : len (union A' L) ≡ len stay + len M
  after = len-two_parts o (union A' L) stay M
      (λ b h. ⊎_elim (λ k. ⊎_elim (λ d. absurd (k.1 d)) (λ a. in_union_left o A' L b a) (old b k.0)) (λ l. in_union_right o A' L b l) (from_stay b h))
      (λ b h. in_union_left o A' L b (makes b h))
      (λ b h m. apart b m (from_stay b h))
      (λ b h. ⊎_elim (λ a. ⊎_elim (λ m. inr m) (λ k. inl (in_stay b k.0 k.1)) (new b a)) (λ l. inl (in_union_right o (difference A D) L b l)) (from_union o A' L b h))

  before : len (union A L) ≡ len stay + len (difference D L)
  before = len-two_parts o (union A L) stay (difference D L)
      (λ b h. ⊎_elim (λ k. in_union_left o A L b k.0) (λ l. in_union_right o A L b l) (from_stay b h))
      (λ b h. in_union_left o A L b (drops b (from_difference o D L b h).0))
      (λ b h d. let p = from_difference o D L b d in ⊎_elim (λ k. k.1 p.0) (λ l. p.1 l) (from_stay b h))
      (λ b h. by_last b h (Has-cases o L b))
    where
      by_drop : (b : Block) → Has A b → (Has L b → ⊥) → Has D b ⊎ ¬ (Has D b) → Has stay b ⊎ Has (difference D L) b
      by_drop b a n (inl d) = inr (in_difference o D L b d n)
      by_drop b a n (inr k) = inl (in_stay b a k)

      by_last : (b : Block) → Has (union A L) b → Has L b ⊎ ¬ (Has L b) → Has stay b ⊎ Has (difference D L) b
      by_last b h (inl l) = inl (in_union_right o (difference A D) L b l)
      by_last b h (inr n) = ⊎_elim (λ a. by_drop b a n (Has-cases o D b)) (λ l. absurd (n l)) (from_union o A L b h)

  pub room_after : len (union A' L) + len (difference D L) ≡ len (union A L) + len M
  room_after = omega (arith, after, before)

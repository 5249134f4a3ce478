-- A tree whose blocks all stand is ready for a change.
use Rattle.std.proofs.Common.{◌≡◌, ℕ, zero, suc, ◌<◌, ◌≤◌, Bool, true, false, cond, List, [], ◌∷◌, length, map, Some, refl, sym, ap, subst, ◌∙◌, arith, inl, inr}
use Rattle.std.specs.Prelude.{slice_get, filter, nat_lt}
use Rattle.std.specs.Ordering.{eq_by_cmp}
use Rattle.std.specs.FinMap.{get, len, values, entries, find, get-entries, len-entries}
use Rattle.std.proofs.lemmas.List.{length-map}
use Rattle.base.specs.declared.number.Key.{Key}
use Rattle.base.specs.declared.number.Dead.{Dead}
use Rattle.base.specs.Key.{key_cmp}
use Rattle.base.specs.Map.{Map, Cell, Block, block_of}
use Rattle.base.specs.Surveys.{IsIn, dead_block}
use Rattle.zalloc.specs.declared.BlockState.{BlockState}
use Rattle.zalloc.specs.declared.BlockState.TheVariants.{Allocated}
use Rattle.tree.specs.Walk.{blocks_of, born_after}
use Rattle.tree.proofs.Options.{same_value}
use Rattle.tree.proofs.Lists.{in_at}
use Rattle.batch.proofs.Listing.{from_map}

-- a block that was born up to the group and whose number is Allocated
pub record IsStanding (group : ℕ) (states : List BlockState) (d : Dead) : Type 0 where
  pub born : d.birth.0 ≤ group
  pub allocated : slice_get states d.block.0 ≡ Some Allocated

-- a test that passes as many as there are passes all
few : {A : Type 0} (p : A → Bool) (xs : List A) → length (filter p xs) ≤ length xs
few p [] = omega arith
few p (x ∷ xs) = by (p x) (few p xs)
  where
    by : (b : Bool) → length (filter p xs) ≤ length xs → length (cond b (x ∷ filter p xs) (filter p xs)) ≤ length (x ∷ xs)
    by true h = omega arith
    by false h = omega arith

whole_filter : {A : Type 0} (p : A → Bool) (xs : List A) → length (filter p xs) ≡ length xs → filter p xs ≡ xs
whole_filter p [] e = refl
whole_filter p (x ∷ xs) e = by (p x) e (few p xs) (whole_filter p xs)
  where
    by : (b : Bool) → length (cond b (x ∷ filter p xs) (filter p xs)) ≡ length (x ∷ xs) → length (filter p xs) ≤ length xs → (length (filter p xs) ≡ length xs → filter p xs ≡ xs) → cond b (x ∷ filter p xs) (filter p xs) ≡ x ∷ xs
    by true e h next = ap (λ ys. x ∷ ys) (next (omega arith))
    by false e h next = absurd (omega arith)

-- a cell that the map has is among its blocks
found_in : (k : Key) (c : Cell) (es : List (Key × Cell)) → find key_cmp k es ≡ Some c → IsIn (map block_of (map (λ e. e.1) es)) (block_of c)
found_in k c [] e = cc
found_in k c (x ∷ es) e = by (eq_by_cmp key_cmp k x.0) e (found_in k c es)
  where
    by : (b : Bool) → cond b (Some x.1) (find key_cmp k es) ≡ Some c → (find key_cmp k es ≡ Some c → IsIn (map block_of (map (λ e. e.1) es)) (block_of c)) → IsIn (map block_of (map (λ e. e.1) (x ∷ es))) (block_of c)
    by true e next = inl (ap block_of (sym (same_value x.1 c e)))
    by false e next = inr (next e)

module _ (m : Map) (ds : List Dead) (cut : ℕ) (listed : map dead_block ds ≡ born_after cut (blocks_of m)) (all : length ds ≡ len m) where
  every : map dead_block ds ≡ blocks_of m
  unfolding born_after
  every =
      let a = length-map ds dead_block in
      let b = length-map (values m) block_of in
      let c = length-map (entries m) (λ (e : Key × Cell). e.1) in
      let d = len-entries m in
      let e = ap length listed in
      listed ∙ whole_filter (λ b. nat_lt cut b.birth) (blocks_of m) (omega (arith, a, b, c, d, e))

  pub standing : (group : ℕ) (states : List BlockState) → ((i : ℕ) (d : Dead) → i < length ds → slice_get ds i ≡ Some d → IsStanding group states d) → (k : Key) (c : Cell) → get m k ≡ Some c → (c.birth ≤ group) × (slice_get states c.number ≡ Some Allocated)
  standing group states each k c e =
      let here = found_in k c (entries m) (sym (get-entries m k) ∙ e) in
      let d = from_map dead_block ds (block_of c) (subst (λ bs. IsIn bs (block_of c)) (sym every) here) in
      let at = in_at ds d.0 d.1 in
      let s = each at.0 d.0 (within ds at.0 d.0 at.1) at.1 in
      let birth : d.0.birth.0 ≡ c.birth = ap (λ (b : Block). b.birth) d.2 in
      let number : d.0.block.0 ≡ c.number = ap (λ (b : Block). b.number) d.2 in
      let born = s.born in
      (omega (arith, birth, born), ap (slice_get states) (sym number) ∙ s.allocated)
    where
      within : (ds : List Dead) (i : ℕ) (d : Dead) → slice_get ds i ≡ Some d → i < length ds
      within [] i d e = cc
      within (x ∷ ds) zero d e = omega arith
      within (x ∷ ds) (suc i) d e = let h = within ds i d e in omega (arith, h)

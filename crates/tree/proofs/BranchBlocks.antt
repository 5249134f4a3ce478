-- The blocks of a branch are its top's and those of the branches directly below.
use Rattle.std.proofs.Common.{◌≡◌, ℕ, zero, suc, ◌+◌, ◌*◌, ◌-◌, ◌<◌, ◌≤◌, List, ◌∷◌, ◌++◌, map, Option, Some, None, refl, sym, ap, subst, ◌∙◌, arith, append-nil}
use Rattle.std.specs.List.{cons_option, filter_map, flat_map, range_with_len}
use Rattle.std.specs.Option.{option_map}
use Rattle.std.specs.FinMap as fin
use Rattle.std.proofs.lemmas.List.{map-append}
use Rattle.base.specs.declared.number.Key.{Key}
use Rattle.base.specs.Key.{key_cmp}
use Rattle.base.specs.Map.{Cell, Block, block_of}
use Rattle.tree.specs.Branch.{Branch, child_of, branches_below, branch_blocks}
use Rattle.tree.specs.BranchParts.{branch_at}
use Rattle.tree.proofs.Branches.{children}
use Rattle.node.specs.Entries.{key_at, entries_from, width, IsWell}
use Rattle.node.specs.Kid.{IsSound}
use Rattle.node.specs.Shape.{Forest, Part, done, gap, grown, part_at}
use Rattle.node.proofs.Order.{entries_sorted}

-- the blocks of entries
abbrev blocks_in : List (Key × Cell) → List Block
blocks_in es = map block_of (map (λ e. e.1) es)

-- the blocks of two lists, one after the other
blocks-append : (xs ys : List (Key × Cell)) → blocks_in (xs ++ ys) ≡ blocks_in xs ++ blocks_in ys
blocks-append xs ys = ap (map block_of) (map-append (λ (e : Key × Cell). e.1) xs ys) ∙ map-append block_of (map (λ e. e.1) xs) (map (λ e. e.1) ys)

-- the blocks of a part that stands at a key
own_blocks : (l : ℕ) (k : Key) (p : Part) → k.level ≡ l → IsSound l p → branch_blocks (branch_at k p) ≡ blocks_in (entries_from k.level k.index (grown p.cell p.below done))
unfolding branch_at branch_blocks
own_blocks l k p e s =
    let well : IsWell k.level p.cell.birth (grown p.cell p.below done) = subst (λ n. IsWell n p.cell.birth (grown p.cell p.below done)) (sym e) (omega arith, s.0, s.1, tt) in
    ap blocks_in (fin.entries-from_sorted key_cmp (entries_from k.level k.index (grown p.cell p.below done)) (entries_sorted k.level k.index p.cell.birth (grown p.cell p.below done) well))

-- those of places side by side
module _ (h : ℕ → Option Branch) where
  abbrev blocks_from : ℕ → ℕ → List Block
  blocks_from i n = flat_map branch_blocks (filter_map h (range_with_len i n))

  -- with the place before
  absent_first : (i n : ℕ) → h i ≡ None → blocks_from i (suc n) ≡ blocks_from (i + 1) n
  absent_first i n e = ap (λ o. flat_map branch_blocks (cons_option o (filter_map h (range_with_len (i + 1) n)))) e

  present_first : (i n : ℕ) (b : Branch) → h i ≡ Some b → blocks_from i (suc n) ≡ branch_blocks b ++ blocks_from (i + 1) n
  present_first i n b e = ap (λ o. flat_map branch_blocks (cons_option o (filter_map h (range_with_len (i + 1) n)))) e

  side_by_side : (l j g i n : ℕ) (f : Forest) → IsWell l g f → width f ≤ n
      → ((k x y : ℕ) → k < n → x ≡ i + k → y ≡ j + k → h x ≡ option_map (branch_at (key_at l y)) (part_at f k))
      → blocks_from i n ≡ blocks_in (entries_from l j f)
  side_by_side l j g i zero done w few is = refl
  side_by_side l j g i (suc n) done w few is =
      absent_first i n (is 0 i j (omega arith) (omega arith) (omega arith))
      ∙ side_by_side l j g (i + 1) n done w (omega arith) (λ k x y lt e d. is (suc k) x (y + 1) (omega arith) (omega arith) (omega arith))
  side_by_side l j g i zero (gap r) w few is = absurd (omega arith)
  side_by_side l j g i (suc n) (gap r) w few is =
      absent_first i n (is 0 i j (omega arith) (omega arith) (omega arith))
      ∙ side_by_side l (j + 1) g (i + 1) n r w (omega arith) (λ k x y lt e d. is (suc k) x y (omega arith) (omega arith) (omega arith))
  side_by_side l j g i zero (grown c b r) w few is = absurd (omega arith)
  side_by_side l j g i (suc n) (grown c b r) w few is =
      let own = own_blocks l (key_at l j) (record { cell = c; below = b }) refl (w.1, w.2) in
      present_first i n (branch_at (key_at l j) (record { cell = c; below = b })) (is 0 i j (omega arith) (omega arith) (omega arith))
      ∙ ap (λ ys. ys ++ blocks_from (i + 1) n) (own ∙ ap (λ es. block_of c ∷ blocks_in es) (append-nil (entries_from (l - 1) (16 * j) b)))
      ∙ ap (λ ys. block_of c ∷ (blocks_in (entries_from (l - 1) (16 * j) b) ++ ys)) (side_by_side l (j + 1) g (i + 1) n r w.3 (omega arith) (λ k x y lt e d. is (suc k) x y (omega arith) (omega arith) (omega arith)))
      ∙ ap (λ ys. block_of c ∷ ys) (sym (blocks-append (entries_from (l - 1) (16 * j) b) (entries_from l (j + 1) r)))

-- no more than the sixteen places
few_below : (l : ℕ) (p : Part) → IsSound l p → width p.below ≤ 16
few_below zero p s = let e = ap width s.0.0 in omega arith
few_below (suc l) p s = let e = s.0.0 in omega arith

-- a branch's blocks, from the top
pub top_blocks : (l : ℕ) (k : Key) (p : Part) → k.level ≡ l → IsSound l p → branch_blocks (branch_at k p) ≡ block_of p.cell ∷ flat_map branch_blocks (branches_below (branch_at k p))
unfolding branches_below
top_blocks l k p e s =
    own_blocks l k p e s
    ∙ ap (λ es. block_of p.cell ∷ blocks_in es) (append-nil (entries_from (k.level - 1) (16 * k.index) p.below))
    ∙ ap (λ ys. block_of p.cell ∷ ys) (sym (side_by_side (child_of (branch_at k p)) (k.level - 1) (16 * k.index) p.cell.birth 0 16 p.below (subst (λ n. IsWell (n - 1) p.cell.birth p.below) (sym e) s.1) (few_below l p s)
    (λ i x y lt is at.
    let same : x ≡ i = omega (arith, is) in
    ap (child_of (branch_at k p)) same ∙ children l i k p e s lt ∙ ap (λ n. option_map (branch_at (key_at (k.level - 1) n)) (part_at p.below i)) (sym at))))

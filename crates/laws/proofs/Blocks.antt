-- Where blocks are shared and births rise, all that is below a shared block is shared.
use Rattle.std.proofs.Common.{◌≡◌, ℕ, zero, suc, ◌+◌, ◌-◌, ◌*◌, ◌/◌, ◌^◌, ◌<◌, ◌≤◌, Option, Some, None, refl, sym, ap, subst, ◌∙◌, arith}
use Rattle.std.specs.Prelude.{IsTrue, nat_le, ◌==◌}
use Rattle.std.specs.Option.{option_map}
use Rattle.std.specs.FinMap.{get}
use Rattle.std.proofs.lemmas.Bool.{eqb-true, leb-true, and_parts}
use Rattle.std.proofs.lemmas.Nat.{pow-add}
use Rattle.std.proofs.Math.Nat.{div-div-eq-div-mul}
use Rattle.base.specs.declared.number.Key.{Key}
use Rattle.base.specs.Key.{is_at_or_below, parent, first_leaf}
use Rattle.base.specs.Map.{Map, Cell, Block, block_of, IsTree}
use Rattle.laws.specs.Records.{SharesBlocks, AreBirthsRising, SharesUntil}
use Rattle.laws.specs.Laws.{BlocksAreEnough, OldBlocksAreEnough, SourcesBecomeSnapshots}
use Rattle.laws.proofs.Applied.{sends_difference}
use Rattle.laws.proofs.RecordKeys.{over, covers_from, key_over, next_over, power_positive}
use Rattle.world.proofs.lists.Maps.{same_value, no_value, some_of}
use Rattle.laws.proofs.Sent.{some_there}

no_block : (o : Option Cell) → option_map block_of o ≡ None → o ≡ None
no_block None e = refl
no_block (Some c) e = cc

module _ (g : ℕ) (s t : Map) (shares : SharesBlocks g s t) where
  -- what is absent below a shared block is absent in the source
  none_below : (k q : Key) (c : Cell) → get t k ≡ Some c → c.birth ≤ g → IsTrue (is_at_or_below k q) → get t q ≡ None → get s q ≡ get t q
  none_below k q c there low at e = no_block (get s q) ((shares k c there low).below q at ∙ ap (option_map block_of) e) ∙ sym e

  -- a shared block is the source's, bytes and all
  one_cell : (q : Key) (y : Cell) → get t q ≡ Some y → y.birth ≤ g → get s q ≡ get t q
  one_cell q y e old =
      let r = shares q y e old in
      let number = ap (λ (b : Block). b.number) r.block in
      let birth = ap (λ (b : Block). b.birth) r.block in
      let bytes = r.bytes in
      let same : r.cell ≡ y = λ i. record { number = number i; birth = birth i; bytes = bytes i } in
      r.there ∙ ap Some same ∙ sym e

module _ (n : ℕ) (t : Map) (tree : IsTree n t) (rise : AreBirthsRising t) where
  births_up : (x l j : ℕ) (y : Cell) → l + j ≤ 5 → get t (over x l) ≡ Some y → (p : Cell) × (get t (over x (l + j)) ≡ Some p) × (y.birth ≤ p.birth)
  births_up x l zero y h there = (y, (let e : l ≡ l + 0 = omega arith in subst (λ i. get t (over x i) ≡ Some y) e there), omega arith)
  births_up x l (suc j) y h there =
      let rest = births_up x l j y (omega arith) there in
      let above = some_of (get t (parent (over x (l + j)))) (tree.parents (over x (l + j)) (some_there (get t (over x (l + j))) rest.0 rest.1) (omega arith)) in
      let higher = rise (over x (l + j)) rest.0 above.0 rest.1 above.1 in
      let low = rest.2 in
      let e : (l + j) + 1 ≡ l + suc j = omega arith in
      (above.0, subst (λ i. get t (over x i) ≡ Some above.0) e (subst (λ k. get t k ≡ Some above.0) (next_over x (l + j)) above.1), omega arith)

  older_below : (k q : Key) (c y : Cell) → IsTrue (is_at_or_below k q) → get t k ≡ Some c → get t q ≡ Some y → y.birth ≤ c.birth
  older_below k q c y at there here =
      let parts = and_parts (nat_le q.level k.level) (q.index / 16 ^ (k.level - q.level) == k.index) at in
      let le = leb-true q.level k.level parts.0 in
      let index : q.index / 16 ^ (k.level - q.level) ≡ k.index = eqb-true _ _ parts.1 in
      let top = (tree.keys k (some_there (get t k) c there)).level in
      let x = first_leaf q in
      let p = power_positive q.level in
      let high : x < (q.index + 1) * 16 ^ q.level = omega arith in
      let mine : x / 16 ^ q.level ≡ q.index = covers_from q x (omega arith) high in
      let sum : q.level + (k.level - q.level) ≡ k.level = omega arith in
      let its : x / 16 ^ k.level ≡ k.index =
      ap (λ i. x / 16 ^ i) (sym sum) ∙ ap (λ i. x / i) (pow-add 16 q.level (k.level - q.level)) ∙ sym (div-div-eq-div-mul x (16 ^ q.level) (16 ^ (k.level - q.level)))
      ∙ ap (λ i. i / 16 ^ (k.level - q.level)) mine ∙ index in
      let r = births_up x q.level (k.level - q.level) y (omega arith) (ap (get t) (key_over q x mine) ∙ here) in
      let same : Some r.0 ≡ Some c = sym r.1 ∙ ap (λ i. get t (over x i)) sum ∙ ap (get t) (key_over k x its) ∙ there in
      let cell : r.0 ≡ c = cc in
      subst (λ (z : Cell). y.birth ≤ z.birth) cell r.2

  below_same : (g : ℕ) (s : Map) → SharesBlocks g s t → SharesUntil g s t
  below_same g s shares k q c there low at = by_cell (get t q) refl
    where
      by_cell : (o : Option Cell) → get t q ≡ o → get s q ≡ get t q
      by_cell None e = none_below g s t shares k q c there low at e
      by_cell (Some y) e = let old = older_below k q c y at there e in one_cell g s t shares q y e (omega (arith, old, low))

pub blocks_are_enough : BlocksAreEnough
blocks_are_enough n g s t tree rise shares = below_same n t tree rise g s shares

-- what is below a block that was born by g is in the source the same block, so it was born by g too
pub old_blocks_are_enough : OldBlocksAreEnough
old_blocks_are_enough g s t born shares k q c there low at = by_cell (get t q) refl
  where
    by_source : (y : Cell) (o : Option Cell) → get s q ≡ o → option_map block_of o ≡ Some (block_of y) → y.birth ≤ g
    by_source y None i e = absurd (no_value (block_of y) e)
    by_source y (Some z) i e =
        let old = born q z i in
        let same = ap (λ (b : Block). b.birth) (same_value (block_of z) (block_of y) e) in
        omega (arith, old, same)

    by_cell : (o : Option Cell) → get t q ≡ o → get s q ≡ get t q
    by_cell None e = none_below g s t shares k q c there low at e
    by_cell (Some y) e =
        one_cell g s t shares q y e (by_source y (get s q) refl ((shares k c there low).below q at ∙ ap (option_map block_of) e))

pub sources_become_snapshots : SourcesBecomeSnapshots
sources_become_snapshots n m g s t source tree born shares = sends_difference n m g s t source tree (old_blocks_are_enough g s t born shares)

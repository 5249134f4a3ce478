-- One map becomes another, and its new blocks are written.
use Rattle.std.proofs.Common.{◌≡◌, ◌≤◌, ℕ, Bool, true, false, List, Some, refl, sym, ap, subst, ◌∙◌, ◌⊎◌, ⊎_elim, arith}
use Rattle.std.specs.Prelude.{IsTrue, nat_le, ◌/◌, ◌^◌, ◌-◌, ◌+◌}
use Rattle.std.specs.FinMap.{get}
use Rattle.std.proofs.lemmas.Bool.{and_from, le-leb, eq-eqb}
use Rattle.base.specs.declared.number.Key.{Key}
use Rattle.base.specs.Key.{is_at_or_below, parent}
use Rattle.base.specs.Map.{Map, Cell}
use Rattle.base.specs.Rewrite.{Changes, rewrite, is_touched}
use Rattle.base.proofs.Untouched.{untouched_below, rewrite_keeps, rewrite_makes}
use Rattle.model.specs.Numbers.{IsOneBlock}
use Rattle.node.specs.Unique.{IsUnique}
use Rattle.tree.specs.Branch.{child_key}
use Rattle.world.specs.Worlds.{AreCellsOne}
use Rattle.image.specs.HasBlocks.{HasBlocks, AreBirthsRising}
use Rattle.image.specs.ImageBlocks.{bytes_of}
use Rattle.image.proofs.AfterChange.{same_bytes, child_below}
use Rattle.image.specs.Stored.{AreStored, AreDrawnBeside}
use Rattle.image.proofs.Drawing.{empty_has, empty_rises}

pub below_parent : (k : Key) → IsTrue (is_at_or_below (parent k) k)
below_parent k =
    let one : (k.level + 1) - k.level ≡ 1 = omega arith in
    and_from (nat_le k.level (k.level + 1)) _ (le-leb k.level (k.level + 1) (omega arith)) (eq-eqb _ _ (ap (λ d. k.index / 16 ^ d) one ∙ omega arith))

-- one block has the same bytes in two maps
pub one_bytes : (m n : Map) (j k : Key) (a b : Cell) → IsOneBlock m n j k a b → bytes_of n k b ≡ bytes_of m j a
one_bytes m n j k a b one =
    ap (λ q. bytes_of n q b) (sym one.0) ∙ ap (bytes_of n j) (sym one.1)
    ∙ sym (same_bytes m n j a (λ high i small. sym (one.2 (child_key j i) (subst (λ q. IsTrue (is_at_or_below q (child_key j i))) one.0 (child_below j i high small)))))

-- no block of a family has the number of two keys of one map
pub unique_in : {D : Type 0} (maps : D → Map) (d : D) (m : Map) → maps d ≡ m → AreCellsOne maps → IsUnique m
unique_in maps d m is cells = subst IsUnique is (record { one = λ j k a b h i e. (cells d d j k a b h i e).0 })

-- births rise in a rewrite by a group that none is after
pub rewrite_rises : (m : Map) (c : Changes) (g : ℕ) (number : Key → ℕ) → AreBirthsRising m → ((k : Key) (x : Cell) → get m k ≡ Some x → x.birth ≤ g) → AreBirthsRising (rewrite m c g number)
rewrite_rises m c g number rises born k x p h i = by_touch (is_touched m c (parent k)) refl
  where
    young : (b : Bool) → is_touched m c k ≡ b → x.birth ≤ g
    young true t = let e = (rewrite_makes m c g number k x t h).1 in omega (arith, e)
    young false t = born k x (sym (rewrite_keeps m c g number k t) ∙ h)

    by_touch : (b : Bool) → is_touched m c (parent k) ≡ b → x.birth ≤ p.birth
    by_touch true t = let e = (rewrite_makes m c g number (parent k) p t i).1 in let y = young (is_touched m c k) refl in omega (arith, e, y)
    by_touch false t = rises k x p
        (sym (rewrite_keeps m c g number k (untouched_below m c (parent k) k t (below_parent k))) ∙ h)
        (sym (rewrite_keeps m c g number (parent k) t) ∙ i)

-- where the new image has the blocks of the new map, and at each number that none of these has what the old one had, it has all maps
module _ {D E : Type 0} (maps : D → Map) (later : E → Map) (m : Map) (at : E) (here : later at ≡ m) (before after : ℕ → List ℕ) (from : AreDrawnBeside m maps later) (cells : AreCellsOne later)
    (made : HasBlocks after m) (rest : (q : ℕ) → ((k : Key) × (x : Cell) × (get m k ≡ Some x) × (x.number ≡ q)) ⊎ (after q ≡ before q)) where
  pub blocks_written : ((d : D) → HasBlocks before (maps d)) → (e : E) → HasBlocks after (later e)
  blocks_written holds e = ⊎_elim
      (λ none. subst (HasBlocks after) (sym none) (empty_has after))
      (λ r. ⊎_elim old (λ is. subst (HasBlocks after) (sym is) made) r)
      (from e)
    where
      old : (d : D) × (later e ≡ maps d) → HasBlocks after (later e)
      old p k x there = ⊎_elim
          (λ n.
          let one = cells at e n.0 k n.1 x (ap (λ y. get y n.0) here ∙ n.2) there n.3 in
          ap after (sym n.3) ∙ made n.0 n.1 n.2 ∙ ap (λ y. bytes_of y n.0 n.1) (sym here) ∙ sym (one_bytes (later at) (later e) n.0 k n.1 x one))
          (λ same. same ∙ subst (λ y. HasBlocks before y) (sym p.1) (holds p.0) k x there)
          (rest x.number)

  pub stored_written : AreBirthsRising m → AreStored maps before → AreStored later after
  stored_written rises stored = record {
    blocks = blocks_written stored.blocks;
    rising = λ e. ⊎_elim
        (λ none. subst AreBirthsRising (sym none) empty_rises)
        (λ r. ⊎_elim (λ p. subst AreBirthsRising (sym p.1) (stored.rising p.0)) (λ is. subst AreBirthsRising (sym is) rises) r)
        (from e);
  }

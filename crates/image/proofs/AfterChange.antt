-- What an image holds after a change of a map, once the new blocks are written.
use Rattle.std.proofs.Common.{◌≡◌, ℕ, zero, suc, ◌+◌, ◌-◌, ◌*◌, ◌/◌, ◌^◌, ◌<◌, ◌≤◌, ◌⊎◌, ⊎_elim, Bool, true, false, cond, List, ◌∷◌, Option, Some, map, refl, sym, ap, subst, ◌∙◌, arith, true≢false}
use Rattle.std.specs.Prelude.{◌==◌, nat_le, IsTrue}
use Rattle.std.specs.List.{range_with_len}
use Rattle.std.specs.Option.{option_map}
use Rattle.std.specs.FinMap.{get}
use Rattle.base.specs.declared.number.Key.{Key}
use Rattle.base.specs.Key.{is_at_or_below}
use Rattle.std.proofs.lemmas.Bool.{cases_lt, eq-eqb, le-leb, and_from}
use Rattle.base.specs.Map.{Map, Cell, Block, block_of}
use Rattle.tree.specs.Branch.{child_key}
use Rattle.image.specs.ImageBlocks.{pointers_bytes, pointers_of, bytes_of}
use Rattle.image.specs.HasBlocks.{HasBlocks}
use Rattle.image.specs.BlockWrites.{blocks_put, AreWritesOf, AreApart}
use Rattle.image.proofs.Unwritten.{unwritten, written_there}

-- What a change leaves: the keys that it doesn't touch have the cells that they had, and so have those below them
pub record LeavesUntouched (old new : Map) (touched : Key → Bool) : Type 0 where
  pub kept : (k : Key) → touched k ≡ false → get new k ≡ get old k
  pub below : (k q : Key) → touched k ≡ false → IsTrue (is_at_or_below k q) → touched q ≡ false

-- What the writes of a change do: each new block stands at its number, and at the numbers of the others stands what stood there
pub record WritesNew (old new : Map) (touched : Key → Bool) (before after : ℕ → List ℕ) : Type 0 where
  pub made : (k : Key) (c : Cell) → touched k ≡ true → get new k ≡ Some c → after c.number ≡ bytes_of new k c
  pub others : (k : Key) (c : Cell) → touched k ≡ false → get old k ≡ Some c → after c.number ≡ before c.number

same_places : (f g : ℕ → Option Block) (k a : ℕ) → ((i : ℕ) → a ≤ i → i < a + k → f i ≡ g i) → map f (range_with_len a k) ≡ map g (range_with_len a k)
same_places f g zero a h = refl
same_places f g (suc k) a h = λ z. h a (omega arith) (omega arith) z ∷ same_places f g k (a + 1) (λ i low high. h i (omega arith) (omega arith)) z

-- the bytes of a block are the same where its contents and the sixteen children are
pub same_bytes : (old new : Map) (k : Key) (c : Cell) → (0 < k.level → (i : ℕ) → i < 16 → get new (child_key k i) ≡ get old (child_key k i)) → bytes_of old k c ≡ bytes_of new k c
unfolding bytes_of pointers_of
same_bytes old new k c same = at (k.level == 0) refl
  where
    at : (b : Bool) → (k.level == 0) ≡ b
        → cond (k.level == 0) c.bytes (pointers_bytes (k.level - 1) (map (λ i. option_map block_of (get old (child_key k i))) (range_with_len 0 16)))
        ≡ cond (k.level == 0) c.bytes (pointers_bytes (k.level - 1) (map (λ i. option_map block_of (get new (child_key k i))) (range_with_len 0 16)))
    at true e = rw e refl
    at false e =
        let high : 0 < k.level = ⊎_elim (λ (h : 0 < k.level). h) (λ (h : k.level ≤ 0). absurd (true≢false (sym (eq-eqb k.level 0 (omega arith)) ∙ e))) (cases_lt 0 k.level) in
        ap (λ ps. cond (k.level == 0) c.bytes (pointers_bytes (k.level - 1) ps))
        (same_places (λ i. option_map block_of (get old (child_key k i))) (λ i. option_map block_of (get new (child_key k i))) 16 0
        (λ i low small. ap (option_map block_of) (sym (same high i small))))

-- a child stands below its block
pub child_below : (k : Key) (i : ℕ) → 0 < k.level → i < 16 → IsTrue (is_at_or_below k (child_key k i))
child_below k i high small =
    and_from (nat_le (k.level - 1) k.level) _ (le-leb _ _ (omega arith))
    (let one : k.level - (k.level - 1) ≡ 1 = omega arith in
    eq-eqb _ _ (ap (λ d. (16 * k.index + i) / 16 ^ d) one ∙ omega arith))

-- a change of a map, once its new blocks were written, and no block that stays was
pub holds_after : (old new : Map) (touched : Key → Bool) (before after : ℕ → List ℕ) → LeavesUntouched old new touched → WritesNew old new touched before after → HasBlocks before old → HasBlocks after new
holds_after old new touched before after change writes holds k c there = by_touch (touched k) refl
  where
    by_touch : (b : Bool) → touched k ≡ b → after c.number ≡ bytes_of new k c
    by_touch true t = writes.made k c t there
    by_touch false t =
        let was : get old k ≡ Some c = sym (change.kept k t) ∙ there in
        writes.others k c t was ∙ holds k c was
        ∙ same_bytes old new k c (λ high i small. change.kept (child_key k i) (change.below k (child_key k i) t (child_below k i high small)))

pub written_new : (old new : Map) (touched : Key → Bool) (image : ℕ → List ℕ) (ws : List (ℕ × List ℕ)) → AreWritesOf new touched ws → AreApart old touched new touched → WritesNew old new touched image (blocks_put image ws)
written_new old new touched image ws w apart = record {
  made = λ k x t there. written_there image ws x.number (bytes_of new k x) w.once (w.each k x t there);
  others = λ k x t there. unwritten image ws x.number (λ v i e. let o = w.only v i in apart k o.0 x o.1 there t o.2 o.3 (sym e ∙ o.4));
}

-- One map of a family changes: the image in which its new blocks were written holds all maps of the family
module _ {D : Type 0} (old new : D → Map) (at : D) (touched : Key → Bool) (image : ℕ → List ℕ) (ws : List (ℕ × List ℕ))
    (change : LeavesUntouched (old at) (new at) touched)
    (rest : (e : D) → ((¬ (e ≡ at)) × (new e ≡ old e)) ⊎ (e ≡ at))
    (apart : (e : D) (j k : Key) (b c : Cell) → get (old e) j ≡ Some b → touched k ≡ true → get (new at) k ≡ Some c → b.number ≡ c.number → (e ≡ at) × (touched j ≡ true))
    (writes : AreWritesOf (new at) touched ws) where
  pub holds_family : ((e : D) → HasBlocks image (old e)) → (e : D) → HasBlocks (blocks_put image ws) (new e)
  holds_family holds e = ⊎_elim
      (λ (r : (¬ (e ≡ at)) × (new e ≡ old e)). subst (λ m. HasBlocks (blocks_put image ws) m) (sym r.1)
      (λ k c there. unwritten image ws c.number (λ v i f. let o = writes.only v i in r.0 (apart e k o.0 c o.1 there o.2 o.3 (sym f ∙ o.4)).0) ∙ holds e k c there))
      (λ (same : e ≡ at). subst (λ d. HasBlocks (blocks_put image ws) (new d)) (sym same)
      (holds_after (old at) (new at) touched image (blocks_put image ws) change
      (written_new (old at) (new at) touched image ws writes (λ j k x y there stays t made number. true≢false (sym (apart at j k x y there t made number).1 ∙ stays)))
      (holds at)))
      (rest e)

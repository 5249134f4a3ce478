-- The writes of a change: of one path, or of all its new blocks.
use Rattle.std.proofs.Common.{◌≡◌, ℕ, zero, suc, ◌<◌, ◌≤◌, Bool, true, false, List, [], ◌∷◌, Option, Some, None, refl, sym, ap, subst, ◌∙◌, ◌⊎◌, inl, inr, ⊎_elim, arith, true≢false}
use Rattle.std.specs.Prelude.{◌==◌}
use Rattle.std.specs.FinMap.{get}
use Rattle.std.proofs.lemmas.Bool.{eqb-true, eq-eqb, cases_lt}
use Rattle.base.specs.declared.number.Key.{Key}
use Rattle.base.specs.Map.{Map, Cell, Block, IsTree}
use Rattle.base.specs.Rewrite.{Changes, rewrite, is_touched}
use Rattle.base.specs.Surveys.{IsIn}
use Rattle.base.proofs.Untouched.{rewrite_keeps, rewrite_makes}
use Rattle.node.specs.Unique.{IsUnique}
use Rattle.tree.specs.Change.{Shown, IsChange}
use Rattle.tree.specs.Reading.{key_over}
use Rattle.zalloc.specs.declared.BlockState.{BlockState}
use Rattle.image.specs.BlockWrites.{blocks_put, writes_of, AreWritesOf, AreApart}
use Rattle.image.specs.HasBlocks.{HasBlocks}
use Rattle.image.specs.PathWrites.{path_writes, IsPathChange}
use Rattle.image.proofs.AfterRewrite.{holds_rewritten}
use Rattle.image.proofs.Made.{made_writes}
use Rattle.image.proofs.PathHeld.{path_held, path_leaves}
use Rattle.image.proofs.Unwritten.{unwritten}

-- each number is that of a block of the map, or has what it had
abbrev pub IsWrittenIn : Map → (ℕ → List ℕ) → (ℕ → List ℕ) → Type 0
IsWrittenIn m before after = (q : ℕ) → ((k : Key) × (x : Cell) × (get m k ≡ Some x) × (x.number ≡ q)) ⊎ (after q ≡ before q)

-- whether a number is that of a block of a path, up to a level
on_levels : (new : Map) (leaf q n : ℕ)
    → ((l : ℕ) × (x : Cell) × (l < n) × (get new (key_over leaf l) ≡ Some x) × (x.number ≡ q)) ⊎ ((l : ℕ) (x : Cell) → l < n → get new (key_over leaf l) ≡ Some x → x.number ≡ q → ⊥)
on_levels new leaf q zero = inr (λ l x low. absurd (omega (arith, low)))
on_levels new leaf q (suc n) = ⊎_elim
    (λ p. let low = p.2 in inl (p.0, p.1, omega (arith, low), p.3, p.4))
    (λ none. by_cell (get new (key_over leaf n)) refl none)
    (on_levels new leaf q n)
  where
    none_more : ((l : ℕ) (x : Cell) → l < n → get new (key_over leaf l) ≡ Some x → x.number ≡ q → ⊥) → ((x : Cell) → get new (key_over leaf n) ≡ Some x → x.number ≡ q → ⊥)
        → (l : ℕ) (x : Cell) → l < suc n → get new (key_over leaf l) ≡ Some x → x.number ≡ q → ⊥
    none_more below here l x low there same = ⊎_elim
        (λ (lt : l < n). below l x lt there same)
        (λ (le : n ≤ l). let e : l ≡ n = omega (arith, low, le) in here x (ap (λ j. get new (key_over leaf j)) (sym e) ∙ there) same)
        (cases_lt l n)

    by_number : (x : Cell) → get new (key_over leaf n) ≡ Some x → (b : Bool) → (x.number == q) ≡ b → ((l : ℕ) (x : Cell) → l < n → get new (key_over leaf l) ≡ Some x → x.number ≡ q → ⊥)
        → ((l : ℕ) × (x : Cell) × (l < suc n) × (get new (key_over leaf l) ≡ Some x) × (x.number ≡ q)) ⊎ ((l : ℕ) (x : Cell) → l < suc n → get new (key_over leaf l) ≡ Some x → x.number ≡ q → ⊥)
    by_number x there true e below = inl (n, x, omega arith, there, eqb-true x.number q e)
    by_number x there false e below = inr (none_more below (λ y h same. true≢false (sym (eq-eqb x.number q (ap (λ (c : Cell). c.number) (same_cell x y (sym there ∙ h)) ∙ same)) ∙ e)))
      where
        same_cell : (a b : Cell) → Some a ≡ Some b → a ≡ b
        same_cell a b h = cc

    by_cell : (o : Option Cell) → get new (key_over leaf n) ≡ o → ((l : ℕ) (x : Cell) → l < n → get new (key_over leaf l) ≡ Some x → x.number ≡ q → ⊥)
        → ((l : ℕ) × (x : Cell) × (l < suc n) × (get new (key_over leaf l) ≡ Some x) × (x.number ≡ q)) ⊎ ((l : ℕ) (x : Cell) → l < suc n → get new (key_over leaf l) ≡ Some x → x.number ≡ q → ⊥)
    by_cell None e below = inr (none_more below (λ y h same. absurd (no_cell y (sym e ∙ h))))
      where
        no_cell : (b : Cell) → None ≡ Some b → ⊥
        no_cell b h = cc
    by_cell (Some x) e below = by_number x e (x.number == q) refl below

-- after the writes of a path
module _ (n : ℕ) (image : ℕ → List ℕ) (old new : Map) (leaf : ℕ) (before after : ℕ → Option Block) (bytes : List ℕ) (old_tree : IsTree n old) (new_tree : IsTree n new) (unique : IsUnique new)
    (change : IsPathChange old new leaf before after bytes) (holds : HasBlocks image old) where
  pub path_made : HasBlocks (blocks_put image (path_writes image leaf before after bytes 6)) new
  path_made = path_held n image old new leaf before after bytes old_tree new_tree unique change holds

  pub path_within : IsWrittenIn new image (blocks_put image (path_writes image leaf before after bytes 6))
  path_within q = ⊎_elim
      (λ p. inl (key_over leaf p.0, p.1, p.3, p.4))
      (λ none. inr (path_leaves n image old new leaf before after bytes old_tree new_tree unique change holds q (λ l x low. none l x (omega (arith, low)))))
      (on_levels new leaf q 6)

-- whether one of the writes is to a number
on_writes : (ws : List (ℕ × List ℕ)) (q : ℕ) → ((w : ℕ × List ℕ) × IsIn ws w × (w.0 ≡ q)) ⊎ ((w : ℕ × List ℕ) → IsIn ws w → w.0 ≡ q → ⊥)
on_writes [] q = inr (λ w i. absurd i)
on_writes (v ∷ vs) q = ⊎_elim
    (λ p. inl (p.0, inr p.1, p.2))
    (λ none. by_number (v.0 == q) refl none)
    (on_writes vs q)
  where
    by_number : (b : Bool) → (v.0 == q) ≡ b → ((w : ℕ × List ℕ) → IsIn vs w → w.0 ≡ q → ⊥) → ((w : ℕ × List ℕ) × IsIn (v ∷ vs) w × (w.0 ≡ q)) ⊎ ((w : ℕ × List ℕ) → IsIn (v ∷ vs) w → w.0 ≡ q → ⊥)
    by_number true e none = inl (v, inl refl, eqb-true v.0 q e)
    by_number false e none = inr (λ w i same. ⊎_elim (λ (is : w ≡ v). true≢false (sym (eq-eqb v.0 q (ap (λ (y : ℕ × List ℕ). y.0) (sym is) ∙ same)) ∙ e)) (λ later. none w later same) i)

-- after those of all new blocks of a change
module _ (m : Map) (c : Changes) (g young : ℕ) (states : List BlockState) (v : Shown) (is : IsChange m c g young states v) (unique : IsUnique v.new) where
  abbrev ws : List (ℕ × List ℕ)
  ws = writes_of v.new v.made

  writes : AreWritesOf v.new (is_touched m c) (writes_of v.new v.made)
  writes = made_writes m c g young states v is unique

  at : (k : Key) → get v.new k ≡ get (rewrite m c g is.number) k
  at k = ap (λ y. get y k) is.new_is

  -- each is of a block that is new
  pub each_young : (w : ℕ × List ℕ) → IsIn (writes_of v.new v.made) w → (k : Key) × (x : Cell) × (get v.new k ≡ Some x) × (x.number ≡ w.0) × (x.birth ≡ g)
  each_young w i =
      let k = writes.only w i in
      (k.0, k.1, k.3, sym k.4, (rewrite_makes m c g is.number k.0 k.1 k.2 (sym (at k.0) ∙ k.3)).1)

  apart : AreApart m (is_touched m c) v.new (is_touched m c)
  apart j k x y was stays touched made same =
      let still : get v.new j ≡ Some x = at j ∙ rewrite_keeps m c g is.number j stays ∙ was in
      let key = unique.one j k x y still made same in
      true≢false (sym touched ∙ ap (is_touched m c) (sym key) ∙ stays)

  pub all_made : (image : ℕ → List ℕ) → HasBlocks image m → HasBlocks (blocks_put image (writes_of v.new v.made)) v.new
  all_made image holds = subst (HasBlocks (blocks_put image ws)) (sym is.new_is)
      (holds_rewritten m c g is.number image ws holds (subst (λ y. AreWritesOf y (is_touched m c) ws) is.new_is writes) (subst (λ y. AreApart m (is_touched m c) y (is_touched m c)) is.new_is apart))

  pub all_within : (image : ℕ → List ℕ) → IsWrittenIn v.new image (blocks_put image (writes_of v.new v.made))
  all_within image q = ⊎_elim
      (λ p. let k = each_young p.0 p.1 in inl (k.0, k.1, k.2, k.3 ∙ p.2))
      (λ none. inr (unwritten image ws q none))
      (on_writes ws q)

-- A change that a tree has prepared of one map of a family: the numbers of its new blocks are no other cell's.
use Rattle.std.proofs.Common.{◌≡◌, ℕ, ◌<◌, ◌≤◌, true, List, Option, Some, None, refl, sym, ap, subst, ◌∙◌, ◌⊎◌, inl, inr, ⊎_elim, arith}
use Rattle.std.specs.Prelude.{is_some}
use Rattle.std.specs.FinMap.{get}
use Rattle.std.proofs.lemmas.Bool.Decides.{leb_tells}
use Rattle.base.specs.declared.number.Key.{Key}
use Rattle.base.specs.Map.{Map, Cell, Block}
use Rattle.base.specs.Rewrite.{Changes, rewrite, is_touched}
use Rattle.base.specs.Surveys.{IsIn, IsMadeKey}
use Rattle.world.specs.Numbering.{ChangesKeys, AreNumbersFresh, AreCellsOne}
use Rattle.zalloc.specs.declared.BlockState.{BlockState}
use Rattle.tree.specs.Change.{Shown, IsChange, IsKept}
use Rattle.world.proofs.lists.Maps.{same_value, no_value}
use Rattle.world.proofs.changes.Numbered.{change_keeps_cells}
use Rattle.base.proofs.Presence.{same_presence}
use Rattle.world.proofs.maps.Rewrites.{rewrite_is_change}

module _ (m : Map) (ch : Changes) (g young : ℕ) (number : Key → ℕ) where
  pub made_key : (k : Key) (x : Cell) → is_touched m ch k ≡ true → get (rewrite m ch g number) k ≡ Some x → IsMadeKey m ch k
  made_key k x t h = (t, same_presence m ch 0 g (λ _. 0) number k ∙ ap is_some h)

  -- a key's cell is young, or the key doesn't keep its number
  pub kept_or_fresh : (k : Key) → ((x : Cell) × (get m k ≡ Some x) × (young ≤ x.birth)) ⊎ (IsKept m ch young k → ⊥)
  kept_or_fresh k = by_cell (get m k) refl
    where
      not_young : (x : Cell) → get m k ≡ Some x → x.birth < young → IsKept m ch young k → ⊥
      not_young x e l z =
          let b : z.cell.birth ≡ x.birth = ap (λ (y : Cell). y.birth) (same_value z.cell x (sym z.there ∙ e)) in
          let h = z.born in absurd (omega arith)

      by_cell : (y : Option Cell) → get m k ≡ y → ((x : Cell) × (get m k ≡ Some x) × (young ≤ x.birth)) ⊎ (IsKept m ch young k → ⊥)
      by_cell None e = inr (λ z. no_value z.cell (sym e ∙ z.there))
      by_cell (Some x) e = ⊎_elim (λ t. inl (x, e, t.1)) (λ t. inr (not_young x e t.1)) (leb_tells young x.birth)

-- The map of one member of the family changes. A cell of any member whose number the change takes is a young one that it releases; and
-- a young cell of the changed map is no other member's
module _ {D : Type 0} (maps : D → Map) (at : D) (cells : AreCellsOne maps) (m : Map) (here : maps at ≡ m) (ch : Changes) (g young : ℕ) (states : List BlockState) (v : Shown)
    (is : IsChange m ch g young states v)
    (held : (n : ℕ) (e : D) (j : Key) (x : Cell) → IsIn v.taken n → get (maps e) j ≡ Some x → x.number ≡ n → (b : Block) × IsIn v.released b × (young ≤ b.birth) × (b.number ≡ n))
    (alone : (e : D) (j : Key) (x : Cell) → get (maps e) j ≡ Some x → get m j ≡ Some x → young ≤ x.birth → e ≡ at) where
  abbrev new : Map
  new = rewrite m ch g is.number

  at_here : (k : Key) (x : Cell) → get m k ≡ Some x → get (maps at) k ≡ Some x
  at_here k x h = ap (λ y. get y k) here ∙ h

  -- a cell whose number is taken
  record IsGiven (e : D) (j : Key) : Type 0 where
    is_at : e ≡ at
    leaves : is_touched m ch j ≡ true
    goes : ¬ (IsKept m ch young j)

  given : (n : ℕ) (e : D) (j : Key) (x : Cell) → IsIn v.taken n → get (maps e) j ≡ Some x → x.number ≡ n → IsGiven e j
  given n e j x i h is_n =
      let z = held n e j x i h is_n in
      let r = (is.released z.0).0 z.1 in
      let one = cells e at j r.key x r.cell h (at_here r.key r.cell r.there) (is_n ∙ sym z.3 ∙ ap (λ (y : Block). y.number) (sym r.is)) in
      let born : x.birth ≡ z.0.birth = ap (λ (c : Cell). c.birth) one.1 ∙ ap (λ (y : Block). y.birth) r.is in
      record {
        is_at = alone e j x h (subst (λ q. get m q ≡ Some x) (sym one.0) (r.there ∙ ap Some (sym one.1))) (let l = z.2 in omega arith);
        leaves = ap (is_touched m ch) one.0 ∙ r.touched;
        goes = subst (λ q. IsKept m ch young q → ⊥) (sym one.0) r.goes;
      }

  pub fresh_apart : (e : D) (j k : Key) (b c : Cell) → get (maps e) j ≡ Some b → is_touched m ch k ≡ true → get (rewrite m ch g is.number) k ≡ Some c → b.number ≡ is.number k
      → (e ≡ at) × (is_touched m ch j ≡ true)
  fresh_apart e j k b c h t n is_n =
      let made = made_key m ch g young is.number k c t n in
      ⊎_elim
      (λ y.
      let one = cells e at j k b y.0 h (at_here k y.0 y.1) (is_n ∙ is.kept k y.0 made y.1 y.2) in (
        alone e j b h (subst (λ q. get m q ≡ Some b) (sym one.0) (y.1 ∙ ap Some (sym one.1))) (let l = y.2 in let i = ap (λ (z : Cell). z.birth) one.1 in omega arith),
        ap (is_touched m ch) one.0 ∙ t,
      ))
      (λ f. let z = given (is.number k) e j b (is.fresh k made f) h is_n in (z.is_at, z.leaves))
      (kept_or_fresh m ch g young is.number k)

  -- a key that keeps its number and one that takes one have different numbers
  kept_apart : (j k : Key) (y : Cell) → IsMadeKey m ch j → IsMadeKey m ch k → get m j ≡ Some y → young ≤ y.birth → (IsKept m ch young k → ⊥) → is.number j ≡ is.number k → ⊥
  kept_apart j k y mj mk h l f e =
      (given (is.number k) at j y (is.fresh k mk f) (at_here j y h) (sym (is.kept j y mj h l) ∙ e)).goes (record { made = mj; cell = y; there = h; born = l })

  pub fresh_once : (j k : Key) (a b : Cell) → is_touched m ch j ≡ true → is_touched m ch k ≡ true → get (rewrite m ch g is.number) j ≡ Some a → get (rewrite m ch g is.number) k ≡ Some b
      → is.number j ≡ is.number k → j ≡ k
  fresh_once j k a b t u h i e =
      let mj = made_key m ch g young is.number j a t h in
      let mk = made_key m ch g young is.number k b u i in
      ⊎_elim
      (λ x. ⊎_elim
      (λ z. (cells at at j k x.0 z.0 (at_here j x.0 x.1) (at_here k z.0 z.1) (sym (is.kept j x.0 mj x.1 x.2) ∙ e ∙ is.kept k z.0 mk z.1 z.2)).0)
      (λ f. absurd (kept_apart j k x.0 mj mk x.1 x.2 f e))
      (kept_or_fresh m ch g young is.number k))
      (λ f. ⊎_elim
      (λ z. absurd (kept_apart k j z.0 mk mj z.1 z.2 f (sym e)))
      (λ p. is.once j k mj mk f p e)
      (kept_or_fresh m ch g young is.number k))
      (kept_or_fresh m ch g young is.number j)

  fresh : AreNumbersFresh maps (rewrite m ch g is.number) at (is_touched m ch) is.number
  fresh = record { apart = fresh_apart; once = fresh_once }

  -- so one number names one block again
  pub cells_after : (later : D → Map) → later at ≡ rewrite m ch g is.number → ((e : D) → ((¬ (e ≡ at)) × (later e ≡ maps e)) ⊎ (e ≡ at)) → AreCellsOne later
  cells_after later there rest = change_keeps_cells maps later at (is_touched m ch) g is.number
      (record {
        change = subst (λ x. ChangesKeys (maps at) x (is_touched m ch) g is.number) (sym there)
            (subst (λ x. ChangesKeys x new (is_touched m ch) g is.number) (sym here) (rewrite_is_change m ch g is.number));
        rest = rest;
      })
      (subst (λ x. AreNumbersFresh maps x at (is_touched m ch) is.number) (sym there) fresh)
      cells

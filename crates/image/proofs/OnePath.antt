-- A change of a tree by one update, as the change of one path.
use Rattle.std.proofs.Common.{◌≡◌, ℕ, ◌+◌, ◌/◌, ◌^◌, ◌<◌, ◌≤◌, Bool, true, false, List, [], ◌∷◌, Option, Some, None, map, refl, sym, ap, subst, ◌∙◌, ⊎_elim, arith, true≢false}
use Rattle.std.specs.Prelude.{◌↔◌, IfSome, IsSome, is_some}
use Rattle.std.specs.Option.{option_map}
use Rattle.std.specs.FinMap.{get}
use Rattle.std.proofs.Math.Nat.{div-div-eq-div-mul}
use Rattle.std.proofs.lemmas.Bool.{cases_lt, eqb-true, eq-eqb}
use Rattle.std.proofs.lemmas.Nat.{pow-add}
use Rattle.base.specs.declared.number.Key.{Key}
use Rattle.base.specs.Key.{covers, parent}
use Rattle.base.specs.Map.{Map, Cell, Block, IsTree, block_of}
use Rattle.base.specs.Rewrite.{rewrite, is_touched}
use Rattle.base.specs.Surveys.{IsIn, IsMadeKey}
use Rattle.base.proofs.Presence.{same_presence}
use Rattle.base.proofs.Untouched.{rewrite_keeps, rewrite_makes}
use Rattle.batch.specs.Updates.{changes_of, first_of, IsBatch}
use Rattle.batch.proofs.Listing.{in_map, from_map}
use Rattle.batch.specs.declared.numbers.NewBlock.{NewBlock}
use Rattle.batch.specs.declared.update.Update.{Update}
use Rattle.batch.specs.declared.update.Update.TheVariants.{Write, Punch}
use Rattle.tree.specs.ChangeParts.{made_pair}
use Rattle.tree.specs.Reading.{key_over}
use Rattle.world.proofs.lists.Maps.{no_value}
use Rattle.image.specs.PathWrites.{IsPathChange}
use Rattle.image.specs.Updates.{top_of, ChangesSome, IsWritten}
use Rattle.image.specs.Writes.{ArePlaced}
use Rattle.image.proofs.Touching.{top_covers, touched_near, touched_over, covers_over, gone, leaf_written}

-- what a key at or below that of a punch has
punched : (n : ℕ) (m : Map) → IsTree n m → (u : Update) → IsBatch (u ∷ []) → (g : ℕ) (number : Key → ℕ) (k : Key) (x : ℕ) → k.level ≤ 5 → k.level < (top_of u).level → covers k x ≡ true → covers (top_of u) x ≡ true
    → get (rewrite m (changes_of (u ∷ [])) g number) k ≡ None
punched n m tree (Write leaf bytes) b g number k x shallow low e f = absurd (omega (arith, low))
punched n m tree (Punch key) b g number k x shallow low e f = gone n m tree key b g number k x shallow (omega (arith, low)) e f

has_bytes : (n : ℕ) (m : Map) → IsTree n m → (u : Update) → IsBatch (u ∷ []) → (bytes : List ℕ) → IsWritten u bytes → (g : ℕ) (number : Key → ℕ) (c : Cell)
    → get (rewrite m (changes_of (u ∷ [])) g number) (key_over (first_of u) 0) ≡ Some c → c.bytes ≡ bytes
has_bytes n m tree (Write leaf own) b bytes is g number c there = leaf_written m leaf own b g number c there ∙ sym is
has_bytes n m tree (Punch key) b bytes is g number c there =
    absurd (no_value c (sym (gone n m tree key b g number (key_over (first_of (Punch key)) 0) (first_of (Punch key)) (omega arith) (omega arith) (eq-eqb _ _ refl) (top_covers (Punch key))) ∙ there))

shallow_top : (u : Update) → IsBatch (u ∷ []) → (top_of u).level ≤ 5
shallow_top (Write leaf bytes) b = omega arith
shallow_top (Punch key) b = b.1.level

-- a leaf below a key is below the key above it
covers_parent : (k : Key) (x : ℕ) → covers k x ≡ true → covers (parent k) x ≡ true
covers_parent k x e = eq-eqb _ _
    (let more : k.level + 1 ≡ k.level + 1 = refl in
    ap (λ n. x / n) (pow-add 16 k.level 1) ∙ sym (div-div-eq-div-mul x (16 ^ k.level) 16) ∙ ap (λ n. n / 16) (eqb-true _ _ e))

module _ (n : ℕ) (m new : Map) (tree : IsTree n m) (u : Update) (batch : IsBatch (u ∷ [])) (g : ℕ) (number : Key → ℕ) (is : new ≡ rewrite m (changes_of (u ∷ [])) g number) (some : ChangesSome m u) where
  at : (k : Key) → get new k ≡ get (rewrite m (changes_of (u ∷ [])) g number) k
  at k = ap (λ y. get y k) is

  abbrev leaf : ℕ
  leaf = first_of u

  -- off the path nothing changes, but for what is below a punched key
  off_path : (k : Key) → covers k (first_of u) ≡ false → (k.level < 5 → IsSome (get new (parent k))) → get new k ≡ get m k
  off_path k off above = at k ∙ by_touch (is_touched m (changes_of (u ∷ [])) k) refl
    where
      not_near : (x : ℕ) → covers k x ≡ true → covers (top_of u) x ≡ true → ⊥
      not_near x e f = ⊎_elim
          (λ (low : k.level < (top_of u).level).
          let high = shallow_top u batch in
          ⊎_elim
          (λ (below : k.level + 1 < (top_of u).level). true≢false (sym (above (omega (arith, low, high)))
          ∙ ap is_some (at (parent k) ∙ punched n m tree u batch g number (parent k) x (omega (arith, low, high)) below (covers_parent k x e) f)))
          (λ (same : (top_of u).level ≤ k.level + 1).
          true≢false (sym (above (omega (arith, low, high)))
          ∙ ap is_some (at (parent k) ∙ at_top (parent k) x (omega (arith, low, high)) (omega (arith, low)) (omega (arith, low, same)) (covers_parent k x e) f)))
          (cases_lt (k.level + 1) (top_of u).level))
          (λ (high : (top_of u).level ≤ k.level). true≢false (sym (covers_over (top_of u) k x leaf f (top_covers u) high e) ∙ off))
          (cases_lt k.level (top_of u).level)
        where
          at_top : (q : Key) (x : ℕ) → q.level ≤ 5 → 0 < q.level → q.level ≤ (top_of u).level → covers q x ≡ true → covers (top_of u) x ≡ true → get (rewrite m (changes_of (u ∷ [])) g number) q ≡ None
          at_top q x shallow deep low e f = by_update u batch low f
            where
              by_update : (v : Update) → (b : IsBatch (v ∷ [])) → q.level ≤ (top_of v).level → covers (top_of v) x ≡ true → get (rewrite m (changes_of (v ∷ [])) g number) q ≡ None
              by_update (Write leaf bytes) b low f = absurd (omega (arith, low, deep))
              by_update (Punch key) b low f = gone n m tree key b g number q x shallow low e f

      by_touch : (t : Bool) → is_touched m (changes_of (u ∷ [])) k ≡ t → get (rewrite m (changes_of (u ∷ [])) g number) k ≡ get m k
      by_touch true t = let r = touched_near m u batch k t in absurd (not_near r.0 r.1 r.2)
      by_touch false t = rewrite_keeps m (changes_of (u ∷ [])) g number k t

  -- each block of the path is new
  pub path_young : (l : ℕ) (x : Cell) → l ≤ 5 → get new (key_over (first_of u) l) ≡ Some x → x.birth ≡ g
  path_young l x low there = ⊎_elim
      (λ (below : l < (top_of u).level).
      absurd (no_value x (sym (punched n m tree u batch g number (key_over leaf l) leaf low below (eq-eqb _ _ refl) (top_covers u)) ∙ sym (at (key_over leaf l)) ∙ there)))
      (λ (over : (top_of u).level ≤ l).
      (rewrite_makes m (changes_of (u ∷ [])) g number (key_over leaf l) x (touched_over n m tree u batch some (key_over leaf l) (eq-eqb _ _ refl) over) (sym (at (key_over leaf l)) ∙ there)).1)
      (cases_lt l (top_of u).level)

  -- what is made stands on the path
  made_on_path : (k : Key) → IsMadeKey m (changes_of (u ∷ [])) k → k ≡ key_over (first_of u) k.level
  made_on_path k made =
      let near = touched_near m u batch k made.0 in
      let high = shallow_top u batch in
      ⊎_elim
      (λ (low : k.level < (top_of u).level).
      absurd (true≢false (sym made.1 ∙ ap is_some (punched n m tree u batch 0 (λ _. 0) k near.0 (omega (arith, low, high)) low near.1 near.2))))
      (λ (over : (top_of u).level ≤ k.level).
      λ i. record { level = k.level; index = sym (eqb-true _ _ (covers_over (top_of u) k near.0 leaf near.2 (top_covers u) over near.1)) i })
      (cases_lt k.level (top_of u).level)

  -- and what is there on the path is made
  there_made : (l : ℕ) (x : Cell) → l ≤ 5 → get new (key_over (first_of u) l) ≡ Some x → IsMadeKey m (changes_of (u ∷ [])) (key_over (first_of u) l) × (x.number ≡ number (key_over (first_of u) l)) × (x.birth ≡ g)
  there_made l x low there =
      let here : get (rewrite m (changes_of (u ∷ [])) g number) (key_over leaf l) ≡ Some x = sym (at (key_over leaf l)) ∙ there in
      ⊎_elim
      (λ (below : l < (top_of u).level). absurd (no_value x (sym (punched n m tree u batch g number (key_over leaf l) leaf low below (eq-eqb _ _ refl) (top_covers u)) ∙ here)))
      (λ (over : (top_of u).level ≤ l).
      let touched = touched_over n m tree u batch some (key_over leaf l) (eq-eqb _ _ refl) over in
      let is_new = rewrite_makes m (changes_of (u ∷ [])) g number (key_over leaf l) x touched here in
      ((touched, same_presence m (changes_of (u ∷ [])) 0 g (λ _. 0) number (key_over leaf l) ∙ ap is_some here), is_new.0, is_new.1))
      (cases_lt l (top_of u).level)

  -- so the path has just the new blocks, each at its level
  pub path_known : (made : List NewBlock) → ((k : Key) (q : ℕ) → IsIn (map made_pair made) (k, q) ↔ (IsMadeKey m (changes_of (u ∷ [])) k × (number k ≡ q))) → (after : ℕ → Option Block) → ArePlaced g made after
      → (l : ℕ) → l ≤ 5 → after l ≡ option_map block_of (get new (key_over (first_of u) l))
  path_known made each after placed l low = by_cell (after l) refl (get new (key_over leaf l)) refl
    where
      -- a block of the path is that of the key there
      is_made : (b : Block) → after l ≡ Some b → IsMadeKey m (changes_of (u ∷ [])) (key_over (first_of u) l) × (b ≡ record { number = number (key_over (first_of u) l); birth = g })
      is_made b e =
          let x = placed.only l b low e in
          let a = (each x.0.key x.0.block.0).0 (in_map made_pair made x.0 x.1) in
          let key : x.0.key ≡ key_over leaf l = made_on_path x.0.key a.0 ∙ ap (key_over leaf) x.2 in
          (subst (IsMadeKey m (changes_of (u ∷ []))) key a.0, x.3 ∙ ap (λ q. record { number = q; birth = g }) (sym a.1 ∙ ap number key))

      by_cell : (o : Option Block) → after l ≡ o → (p : Option Cell) → get new (key_over (first_of u) l) ≡ p → o ≡ option_map block_of p
      by_cell None e None f = refl
      by_cell None e (Some c) f =
          let there = there_made l c low f in
          let x = from_map made_pair made (key_over leaf l, number (key_over leaf l)) ((each (key_over leaf l) (number (key_over leaf l))).1 (there.0, refl)) in
          let level : x.0.key.level ≡ l = ap (λ (p : Key × ℕ). p.0.level) x.2 in
          absurd (true≢false (sym (placed.each x.0 x.1 (omega (arith, level, low))) ∙ ap (λ j. is_some (after j)) level ∙ ap is_some e))
      by_cell (Some b) e None f =
          let there = is_made b e in
          absurd (true≢false (sym there.0.1 ∙ same_presence m (changes_of (u ∷ [])) 0 g (λ _. 0) number (key_over leaf l) ∙ ap is_some (sym (at (key_over leaf l)) ∙ f)))
      by_cell (Some b) e (Some c) f =
          let there = there_made l c low f in
          ap Some ((is_made b e).1 ∙ (λ i. record { number = sym there.1 i; birth = sym there.2 i }))

  pub path_change : (bytes : List ℕ) → IsWritten u bytes → (before after : ℕ → Option Block) → ((l : ℕ) → l ≤ 5 → before l ≡ option_map block_of (get m (key_over (first_of u) l))) → ((l : ℕ) → l ≤ 5 → after l ≡ option_map block_of (get new (key_over (first_of u) l)))
      → IsPathChange m new (first_of u) before after bytes
  path_change bytes written before after was now = record {
    before_is = was;
    after_is = now;
    contents = by_leaf (get new (key_over leaf 0)) refl;
    rest = off_path;
  }
    where
      by_leaf : (o : Option Cell) → get new (key_over (first_of u) 0) ≡ o → IfSome o (λ c. c.bytes ≡ bytes)
      by_leaf None e = tt
      by_leaf (Some c) e = has_bytes n m tree u batch bytes written g number c (sym (at (key_over leaf 0)) ∙ e)

-- A part after a batch has its level's shape, and so many cells.
use Rattle.std.proofs.Common.{◌≡◌, ℕ, zero, suc, ◌+◌, ◌*◌, ◌<◌, Bool, true, false, cond, List, [], ◌∷◌, length, Option, Some, None, refl, sym, ap, subst, ◌∙◌, arith, sub-one, length-append, true≢false}
use Rattle.std.specs.Prelude.{is_some, nat_le, not, ◌||◌, count_by}
use Rattle.std.proofs.lemmas.List.Sums.{sum_by-cons, sum_by-append}
use Rattle.base.specs.declared.number.Key.{Key}
use Rattle.base.specs.declared.number.Dead.{Dead}
use Rattle.node.specs.Entries.{key_at, cell_count}
use Rattle.node.specs.Kid.{IsKid, cells, places_of}
use Rattle.node.specs.Shape.{Part, done, forest_of}
use Rattle.batch.specs.Said.{Said, silent, hole, full}
use Rattle.batch.specs.Touch.{any_kid, later_first, touched, stays, leaf_touched, leaf_stays, claims, released, claim_of, let_go, own_block}
use Rattle.node.specs.Cells.{dead_of}
use Rattle.batch.specs.Build.{parts, leaf_rebuilt, remade, rebuilt, is_fresh}
use Rattle.node.proofs.Places.{AreKids, kids_of, forest_width, forest_well, cells-cons, cells-below}
use Rattle.batch.proofs.KidLaws.{length-parts}
use Rattle.batch.proofs.TouchLaws.{touched_at_leaf, stays_down, stays_at_leaf, untouched_stays, untouched_claims, untouched_released, untouched_rebuilt, claims_down, released_down, claims_at_leaf, released_at_leaf}
use Rattle.batch.proofs.MadeLaws.{rebuilt_down, rebuilt_at_leaf}
use Rattle.batch.proofs.Heres.{rebuilt_none}

-- it is present where it stays
leaf_some : (w : Said) (n g : ℕ) (o : Option Part) → is_some (leaf_rebuilt w n g o) ≡ leaf_stays w o
leaf_some silent n g o = refl
leaf_some hole n g o = refl
leaf_some (full bytes) n g o = refl

remade_some : (t p : Bool) (n g : ℕ) (kids : List (Option Part)) (o : Option Part) → (t ≡ false → p ≡ is_some o) → is_some (remade t p n g kids o) ≡ p
remade_some true true n g kids o h = refl
remade_some true false n g kids o h = refl
remade_some false p n g kids o h = sym (h refl)

module _ (s : ℕ → Said) (number : Key → ℕ) (g : ℕ) where
  pub rebuilt_some : (l j : ℕ) (o : Option Part) → is_some (rebuilt s number g l j o) ≡ stays s l j o
  rebuilt_some zero j o = ap is_some (rebuilt_at_leaf s number g j o (s j) refl) ∙ leaf_some (s j) _ g o ∙ sym (stays_at_leaf s j o)
  rebuilt_some (suc l) j o = ap is_some (rebuilt_down s number g l j o) ∙ remade_some (touched s (suc l) j o) (stays s (suc l) j o) _ g _ o (λ t. untouched_stays s (suc l) j o t)

  first_cell : (q : Option Part) (os : List (Option Part)) → is_some q ≡ true → 0 < cell_count (forest_of (λ p. p) (q ∷ os))
  first_cell None os e = absurd (true≢false (sym e))
  first_cell (Some p) os e = omega arith

  later_cell : (q : Option Part) (os : List (Option Part)) → 0 < cell_count (forest_of (λ p. p) os) → 0 < cell_count (forest_of (λ p. p) (q ∷ os))
  later_cell None os h = h
  later_cell (Some p) os h = omega arith

  some_part : (l j : ℕ) (os : List (Option Part)) → any_kid (stays s l) j os ≡ true → 0 < cell_count (forest_of (λ p. p) (parts (rebuilt s number g l) j os))
  some_part l j [] e = absurd (true≢false (sym e))
  some_part l j (o ∷ os) e = by (stays s l j o) refl e (some_part l (j + 1) os)
    where
      by : (b : Bool) → stays s l j o ≡ b → (b || any_kid (stays s l) (j + 1) os) ≡ true → (any_kid (stays s l) (j + 1) os ≡ true → 0 < cell_count (forest_of (λ p. p) (parts (rebuilt s number g l) (j + 1) os)))
          → 0 < cell_count (forest_of (λ p. p) (rebuilt s number g l j o ∷ parts (rebuilt s number g l) (j + 1) os))
      by true f e h = first_cell (rebuilt s number g l j o) (parts (rebuilt s number g l) (j + 1) os) (rebuilt_some l j o ∙ f)
      by false f e h = later_cell (rebuilt s number g l j o) (parts (rebuilt s number g l) (j + 1) os) (h e)

  parts_kids : (l j : ℕ) (os : List (Option Part)) → ((k : ℕ) (o : Option Part) → IsKid l g o → IsKid l g (rebuilt s number g l k o)) → AreKids l g os → AreKids l g (parts (rebuilt s number g l) j os)
  parts_kids l j [] h a = tt
  parts_kids l j (o ∷ os) h a = (h j o a.0, parts_kids l (j + 1) os h a.1)

  leaf_sound : (w : Said) (n : ℕ) (o : Option Part) → ((b : List ℕ) → w ≡ full b → length b ≡ 512) → IsKid 0 g o → IsKid 0 g (leaf_rebuilt w n g o)
  leaf_sound silent n o f k = k
  leaf_sound hole n o f k = tt
  leaf_sound (full bytes) n o f k = (omega arith, ((refl, f bytes refl), tt))

  remade_sound : (l n : ℕ) (t p : Bool) (kids : List (Option Part)) (o : Option Part) → IsKid (suc l) g o → length kids ≡ 16 → AreKids l g kids → (t ≡ true → p ≡ true → 0 < cell_count (forest_of (λ p. p) kids)) → IsKid (suc l) g (remade t p n g kids o)
  remade_sound l n true true kids o k w a c = (omega arith, ((forest_width kids ∙ w, c refl refl, refl), rw sub-one (forest_well l g kids a)))
  remade_sound l n true false kids o k w a c = tt
  remade_sound l n false p kids o k w a c = k

  -- it has its level's shape
  pub rebuilt_sound : ((n : ℕ) (b : List ℕ) → s n ≡ full b → length b ≡ 512) → (l j : ℕ) (o : Option Part) → IsKid l g o → IsKid l g (rebuilt s number g l j o)
  rebuilt_sound f zero j o k = subst (IsKid 0 g) (sym (rebuilt_at_leaf s number g j o (s j) refl)) (leaf_sound (s j) _ o (f j) k)
  rebuilt_sound f (suc l) j o k =
      let kids = kids_of l g o k in
      subst (IsKid (suc l) g) (sym (rebuilt_down s number g l j o))
      (remade_sound l _ (touched s (suc l) j o) (stays s (suc l) j o) (parts (rebuilt s number g l) (16 * j) (places_of o)) o k
      (length-parts (rebuilt s number g l) (16 * j) (places_of o) ∙ kids.0)
      (parts_kids l (16 * j) (places_of o) (λ q x w. rebuilt_sound f l q x w) kids.1)
      (λ t p. some_part l (16 * j) (places_of o) (sym (stays_down s l j o ∙ ap (λ x. cond x (any_kid (stays s l) (16 * j) (places_of o)) (is_some o)) t) ∙ p)))

-- how many cells it has
one_count : {A : Type 0} (p : A → Bool) (x : A) → count_by p (x ∷ []) ≡ cond (p x) 1 0
one_count p x = sum_by-cons (λ z. cond (p z) 1 0) x [] ∙ add_none (cond (p x) 1 0)
  where
    add_none : (n : ℕ) → n + 0 ≡ n
    add_none n = omega arith

fresh_of : (k : Key) (d : Option Dead) → count_by is_fresh (record { key = k; kept = d } ∷ []) ≡ cond (not (is_some d)) 1 0
fresh_of k d = one_count is_fresh (record { key = k; kept = d })

module _ (s : ℕ → Said) (number : Key → ℕ) (g y : ℕ) where
  abbrev IsEven : ℕ → ℕ → Option Part → Type 0
  IsEven l j o = cells (rebuilt s number g l j o) + length (released s y l j o) ≡ cells o + count_by is_fresh (claims s y l j o)

  kids_even : (l h j : ℕ) (os : List (Option Part)) → ((k : ℕ) (o : Option Part) → IsKid l h o → IsEven l k o) → AreKids l h os
      → cell_count (forest_of (λ p. p) (parts (rebuilt s number g l) j os)) + length (later_first (released s y l) j os) ≡ cell_count (forest_of (λ p. p) os) + count_by is_fresh (later_first (claims s y l) j os)
  kids_even l h j [] e a = refl
  kids_even l h j (o ∷ os) e a =
      let r = kids_even l h (j + 1) os e a.1 in
      let here = e j o a.0 in
      let b = cells-cons (rebuilt s number g l j o) (parts (rebuilt s number g l) (j + 1) os) in
      let c = cells-cons o os in
      let d = length-append (later_first (released s y l) (j + 1) os) (released s y l j o) in
      let f = sum_by-append (λ z. cond (is_fresh z) 1 0) (later_first (claims s y l) (j + 1) os) (claims s y l j o) in
      omega (arith, r, here, b, c, d, f)

  leaf_even : (w : Said) (h n : ℕ) (o : Option Part) (k : Key) → IsKid 0 h o → cells (leaf_rebuilt w n g o) + length (let_go (leaf_touched w o) (leaf_stays w o) y (own_block o)) ≡ cells o + count_by is_fresh (claim_of (leaf_touched w o) (leaf_stays w o) k y (own_block o))
  leaf_even silent h n None k i = refl
  leaf_even silent h n (Some p) k i = refl
  leaf_even hole h n None k i = refl
  leaf_even hole h n (Some p) k i = let e : p.below ≡ done = i.1.0.0 in rw e refl
  leaf_even (full bytes) h n None k i = let f = fresh_of k None in omega (arith, f)
  leaf_even (full bytes) h n (Some p) k i = young (nat_le y p.cell.birth) refl
    where
      young : (b : Bool) → nat_le y p.cell.birth ≡ b → cells (leaf_rebuilt (full bytes) n g (Some p)) + length (let_go true true y (own_block (Some p))) ≡ cells (Some p) + count_by is_fresh (claim_of true true k y (own_block (Some p)))
      young true e = let z : p.below ≡ done = i.1.0.0 in let f = fresh_of k (Some (dead_of p.cell)) in rw (e, z) (omega (arith, f))
      young false e = let z : p.below ≡ done = i.1.0.0 in let f = fresh_of k None in rw (e, z) (omega (arith, f))

  own_even : (t p : Bool) (o : Option Part) (n a b r f : ℕ) (kids : List (Option Part)) (k : Key) → t ≡ true → cell_count (forest_of (λ p. p) kids) ≡ a → cell_count (forest_of (λ p. p) (places_of o)) ≡ b → a + r ≡ b + f → (p ≡ false → a ≡ 0)
      → cells (remade t p n g kids o) + (r + length (let_go t p y (own_block o))) ≡ cells o + (f + count_by is_fresh (claim_of t p k y (own_block o)))
  own_even false p o n a b r f kids k t e d h z = absurd (true≢false (sym t))
  own_even true true None n a b r f kids k t e d h z = let q = cells-below None 0 refl in let c = fresh_of k None in omega (arith, e, d, h, q, c)
  own_even true true (Some p) n a b r f kids k t e d h z = young (nat_le y p.cell.birth) refl
    where
      young : (v : Bool) → nat_le y p.cell.birth ≡ v → cells (remade true true n g kids (Some p)) + (r + length (let_go true true y (own_block (Some p)))) ≡ cells (Some p) + (f + count_by is_fresh (claim_of true true k y (own_block (Some p))))
      young true w = let q = cells-below (Some p) (1 + cell_count p.below) refl in let c = fresh_of k (Some (dead_of p.cell)) in rw w (omega (arith, e, d, h, q, c))
      young false w = let q = cells-below (Some p) (1 + cell_count p.below) refl in let c = fresh_of k None in rw w (omega (arith, e, d, h, q, c))
  own_even true false None n a b r f kids k t e d h z = let q = cells-below None 0 refl in let x = z refl in omega (arith, e, d, h, q, x)
  own_even true false (Some p) n a b r f kids k t e d h z = let q = cells-below (Some p) (1 + cell_count p.below) refl in let x = z refl in omega (arith, e, d, h, q, x)

  no_parts : (l j : ℕ) (os : List (Option Part)) → any_kid (stays s l) j os ≡ false → cell_count (forest_of (λ p. p) (parts (rebuilt s number g l) j os)) ≡ 0
  no_parts l j [] e = refl
  no_parts l j (o ∷ os) e =
      let p = both (stays s l j o) (any_kid (stays s l) (j + 1) os) e in
      rw (rebuilt_none s number g l j o p.0) (no_parts l (j + 1) os p.1)
    where
      both : (a b : Bool) → (a || b) ≡ false → (a ≡ false) × (b ≡ false)
      both true b e = absurd (true≢false e)
      both false b e = (refl, e)

  pub rebuilt_cells : (l h j : ℕ) (o : Option Part) → IsKid l h o → IsEven l j o
  rebuilt_cells zero h j o k =
      (λ i. cells (rebuilt_at_leaf s number g j o (s j) refl i) + length ((released_at_leaf s y j o ∙ (λ x. let_go (touched_at_leaf s j o x) (stays_at_leaf s j o x) y (own_block o))) i))
      ∙ leaf_even (s j) h _ o (key_at 0 j) k
      ∙ (λ i. cells o + count_by is_fresh (sym (claims_at_leaf s y j o ∙ (λ x. claim_of (touched_at_leaf s j o x) (stays_at_leaf s j o x) (key_at 0 j) y (own_block o))) i))
  rebuilt_cells (suc l) h j o k = by (touched s (suc l) j o) refl (λ q x w. rebuilt_cells l h q x w)
    where
      kids : (length (places_of o) ≡ 16) × AreKids l h (places_of o)
      kids = kids_of l h o k

      by : (t : Bool) → touched s (suc l) j o ≡ t → ((q : ℕ) (x : Option Part) → IsKid l h x → IsEven l q x) → IsEven (suc l) j o
      by false t ih =
          (λ i. cells (untouched_rebuilt s number g (suc l) j o t i) + length (untouched_released s y (suc l) j o t i))
          ∙ (λ i. cells o + count_by is_fresh (sym (untouched_claims s y (suc l) j o t) i))
      by true t ih =
          let r = kids_even l h (16 * j) (places_of o) ih kids.1 in
          let a = length-append (later_first (released s y l) (16 * j) (places_of o)) (let_go (touched s (suc l) j o) (stays s (suc l) j o) y (own_block o)) in
          let b = sum_by-append (λ z. cond (is_fresh z) 1 0) (later_first (claims s y l) (16 * j) (places_of o)) (claim_of (touched s (suc l) j o) (stays s (suc l) j o) (key_at (suc l) j) y (own_block o)) in
          let c = own_even (touched s (suc l) j o) (stays s (suc l) j o) o (number (key_at (suc l) j)) _ _ _ _ (parts (rebuilt s number g l) (16 * j) (places_of o)) (key_at (suc l) j) t refl refl r
          (λ p. no_parts l (16 * j) (places_of o) (sym (stays_down s l j o ∙ ap (λ x. cond x (any_kid (stays s l) (16 * j) (places_of o)) (is_some o)) t) ∙ p)) in
          (λ i. cells (rebuilt_down s number g l j o i) + length (released_down s y l j o i)) ∙ ap (λ n. cells (remade (touched s (suc l) j o) (stays s (suc l) j o) (number (key_at (suc l) j)) g (parts (rebuilt s number g l) (16 * j) (places_of o)) o) + n) a
          ∙ c ∙ sym (ap (λ n. cells o + n) (ap (count_by is_fresh) (claims_down s y l j o) ∙ b))

-- The two places of a pair, among those of a node.
use Rattle.std.proofs.Common.{◌≡◌, ◌≢◌, ℕ, zero, suc, ◌+◌, ◌*◌, ◌/◌, ◌%◌, ◌<◌, List, [], ◌∷◌, length, get_or, set, replicate, Option, None, refl, sym, ap, ◌∙◌, arith, get_or-set_other, ⊎_elim, length-set}
use Rattle.std.specs.Option.{option_map}
use Rattle.std.proofs.lemmas.List.{get_or_default, get_or-set_same, set-set}
use Rattle.std.proofs.lemmas.Bool.{cases_lt}
use Rattle.std.specs.declared.sync.Arc.{Arc}
use Rattle.std.specs.declared.alloc.Global.{Global}
use Rattle.std.specs.Borrow.{Bor}
use Rattle.node.specs.declared.pair.Pair.{Pair}
use Rattle.node.specs.declared.pair.Pair.TheVariants.{Neither}
use Rattle.node.specs.Shape.{Part, forest_of}
use Rattle.node.specs.Pairs.{left_of, right_of, side_of, places_in}
use Rattle.node.proofs.Options.{twice}
use Rattle.node.proofs.Pairs.{place_side, place_set, length-places_in}
use Rattle.node.proofs.Sameness.{same_forest}

module _ {C : Type 0} (ps : List (Pair C)) (i : ℕ) (d : Pair C) (within : i / 2 < length ps) where
  default : get_or ps (i / 2) Neither ≡ get_or ps (i / 2) d
  default = get_or_default ps (i / 2) Neither d within

  -- what stands at a place
  pub side_here : get_or (places_in ps) i None ≡ side_of (get_or ps (i / 2) d) (i % 2)
  side_here = place_side ps i ∙ ap (λ p. side_of p (i % 2)) default

  -- what stands there after its pair has become another
  pub side_after : (q : Pair C) → get_or (places_in (set ps (i / 2) q)) i None ≡ side_of q (i % 2)
  side_after q = place_side (set ps (i / 2) q) i ∙ ap (λ p. side_of p (i % 2)) (get_or-set_same ps (i / 2) q Neither within)

  -- and nothing else has changed, where the other side hasn't
  pub side_put : (q : Pair C) → (i % 2 ≡ 0 → right_of q ≡ right_of (get_or ps (i / 2) d)) → (i % 2 ≢ 0 → left_of q ≡ left_of (get_or ps (i / 2) d))
      → places_in (set ps (i / 2) q) ≡ set (places_in ps) i (get_or (places_in (set ps (i / 2) q)) i None)
  side_put q r l =
      place_set ps i q (λ e. r e ∙ ap right_of (sym default)) (λ n. l n ∙ ap left_of (sym default))
      ∙ ap (set (places_in ps) i) (sym (side_after q))

-- the same of parts
module _ {C : Type 0} (f : Arc C Global → Part) (ps : List (Pair C)) (i : ℕ) (d : Pair C) (within : i / 2 < length ps) where
  pub part_here : option_map f (get_or (places_in ps) i None) ≡ option_map f (side_of (get_or ps (i / 2) d) (i % 2))
  part_here = ap (option_map f) (side_here ps i d within)

  pub part_after : (q : Pair C) → option_map f (get_or (places_in (set ps (i / 2) q)) i None) ≡ option_map f (side_of q (i % 2))
  part_after q = ap (option_map f) (side_after ps i d within q)

  -- what a reference to its owner has then
  pub owner_after : (q : Pair C) (r : Option (Bor (Arc C Global))) → option_map (λ a. a.now) r ≡ get_or (places_in (set ps (i / 2) q)) i None
      → option_map f (side_of q (i % 2)) ≡ option_map f (side_of (get_or ps (i / 2) d) (i % 2))
      → option_map (λ a. f a.now) r ≡ option_map f (get_or (places_in ps) i None)
  owner_after q r e a = twice (λ b. b.now) f r ∙ ap (option_map f) e ∙ part_after q ∙ a ∙ sym part_here

  -- and what stands there, and beside it, once another was put
  pub part_put : (q : Pair C) (o : Option (Arc C Global)) (ts : List (Option (Arc C Global))) → ts ≡ set (places_in (set ps (i / 2) q)) i o → get_or ts i None ≡ o
  part_put q o ts e =
      let wide = length-places_in (set ps (i / 2) q) in
      let same = length-set ps (i / 2) q in
      ap (λ xs. get_or xs i None) e ∙ get_or-set_same (places_in (set ps (i / 2) q)) i o None (omega (arith, wide, same, within))

  pub beside_put : (q : Pair C) (o : Option (Arc C Global)) (ts : List (Option (Arc C Global))) → ts ≡ set (places_in (set ps (i / 2) q)) i o
      → (i % 2 ≡ 0 → right_of q ≡ right_of (get_or ps (i / 2) d)) → (i % 2 ≢ 0 → left_of q ≡ left_of (get_or ps (i / 2) d)) → ts ≡ set (places_in ps) i (get_or ts i None)
  beside_put q o ts e r l =
      e ∙ ap (λ xs. set xs i o) (side_put ps i d within q r l) ∙ set-set (places_in ps) i (get_or (places_in (set ps (i / 2) q)) i None) o ∙ ap (set (places_in ps) i) (sym (part_put q o ts e))

-- two pairs with the same parts
abbrev pub Alike : {C : Type 0} → (Arc C Global → Part) → Pair C → Pair C → Type 0
Alike f p q = (option_map f (left_of p) ≡ option_map f (left_of q)) × (option_map f (right_of p) ≡ option_map f (right_of q))

alike_side : {C : Type 0} (f : Arc C Global → Part) (p q : Pair C) (k : ℕ) → Alike f p q → option_map f (side_of p k) ≡ option_map f (side_of q k)
alike_side f p q zero a = a.0
alike_side f p q (suc k) a = a.1

-- nodes with the same parts in each pair
pub alike_forest : {C : Type 0} (f : Arc C Global → Part) (ps qs : List (Pair C)) → length ps ≡ length qs → ((i : ℕ) → i < length ps → Alike f (get_or ps i Neither) (get_or qs i Neither)) → forest_of f (places_in ps) ≡ forest_of f (places_in qs)
alike_forest f ps qs n h =
    let wide = length-places_in ps in
    same_forest f (places_in ps) (places_in qs) (wide ∙ ap (λ k. 2 * k) n ∙ sym (length-places_in qs))
    (λ i b. ap (option_map f) (place_side ps i) ∙ alike_side f (get_or ps (i / 2) Neither) (get_or qs (i / 2) Neither) (i % 2) (h (i / 2) (omega (arith, b, wide))) ∙ ap (option_map f) (sym (place_side qs i)))

-- one pair more
pub alike_more : {C : Type 0} (f : Arc C Global → Part) (ps qs : List (Pair C)) (n : ℕ) (q : Pair C) → n < length ps → ((i : ℕ) → i < n → Alike f (get_or ps i Neither) (get_or qs i Neither)) → Alike f q (get_or qs n Neither)
    → (i : ℕ) → i < n + 1 → Alike f (get_or (set ps n q) i Neither) (get_or qs i Neither)
alike_more f ps qs n q w h a i b =
    ⊎_elim
    (λ lt. let e = get_or-set_other ps n i q Neither (λ z. omega (arith, z, lt)) in (ap (λ p. option_map f (left_of p)) e ∙ (h i lt).0, ap (λ p. option_map f (right_of p)) e ∙ (h i lt).1))
    (λ le. let s : i ≡ n = omega (arith, le, b) in
    let e : get_or (set ps n q) i Neither ≡ q = ap (λ k. get_or (set ps n q) k Neither) s ∙ get_or-set_same ps n q Neither w in
    (ap (λ p. option_map f (left_of p)) e ∙ a.0 ∙ ap (λ k. option_map f (left_of (get_or qs k Neither))) (sym s), ap (λ p. option_map f (right_of p)) e ∙ a.1 ∙ ap (λ k. option_map f (right_of (get_or qs k Neither))) (sym s)))
    (cases_lt i n)

-- pairs at whose places nothing stands
all_same : {A : Type 0} (n k : ℕ) (a : A) → get_or (replicate n a) k a ≡ a
all_same zero k a = refl
all_same (suc n) zero a = refl
all_same (suc n) (suc k) a = all_same n k a

nothing_in : {C : Type 0} (ps : List (Pair C)) (n : ℕ) → ((k : ℕ) → get_or (places_in ps) k None ≡ None) → (left_of (get_or ps n Neither) ≡ None) × (right_of (get_or ps n Neither) ≡ None)
nothing_in [] n h = (refl, refl)
nothing_in (p ∷ ps) zero h = (h 0, h 1)
nothing_in (p ∷ ps) (suc n) h = nothing_in ps n (λ k. h (suc (suc k)))

pub nothing_at : {C : Type 0} (empty ps : List (Pair C)) (n : ℕ) (d : Pair C) → n < length ps → places_in empty ≡ replicate 16 None → get_or ps n Neither ≡ get_or empty n Neither → (left_of (get_or ps n d) ≡ None) × (right_of (get_or ps n d) ≡ None)
nothing_at empty ps n d w e s =
    let none = nothing_in empty n (λ k. ap (λ xs. get_or xs k None) e ∙ all_same 16 k None) in
    let same : get_or ps n d ≡ get_or empty n Neither = sym (get_or_default ps n Neither d w) ∙ s in
    (ap left_of same ∙ none.0, ap right_of same ∙ none.1)

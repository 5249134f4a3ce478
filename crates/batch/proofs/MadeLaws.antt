-- The new blocks of a part stand one after another.
use Rattle.std.proofs.Common.{◌≡◌, ℕ, zero, suc, ◌+◌, ◌-◌, ◌*◌, ◌<◌, Bool, true, false, cond, List, [], ◌∷◌, ◌++◌, length, get_or, set, take, drop, map, Option, Some, None, refl, sym, ap, subst, ◌∙◌, arith, length-append}
use Rattle.std.specs.Prelude.{slice_get, is_some, ◌&&◌, ◌==◌}
use Rattle.std.specs.Option.{option_map}
use Rattle.std.proofs.lemmas.Bool.{eqb-true, eq-eqb, and_parts}
use Rattle.std.proofs.lemmas.List.{map-set, length-map}
use Rattle.std.proofs.lemmas.Option.{slice_get-get_or, slice_get_within}
use Rattle.base.specs.declared.number.Key.{Key}
use Rattle.base.specs.Surveys.{IsIn, AreDifferent}
use Rattle.batch.specs.declared.numbers.NewBlock.{NewBlock}
use Rattle.node.specs.Entries.{key_at}
use Rattle.node.specs.Kid.{places_of}
use Rattle.node.specs.Shape.{Part, forest_of}
use Rattle.node.proofs.Places.{forest_of-map}
use Rattle.batch.specs.Said.{Said}
use Rattle.batch.specs.Touch.{any_kid, later_first, touched, stays, leaf_touched, leaf_stays}
use Rattle.batch.specs.Build.{made_keys, parts, rebuilt, remade, leaf_rebuilt, number_of, HasKeys, is_same}
use Rattle.node.proofs.Options.{same_value, mapped}
use Rattle.batch.proofs.KidLaws.{later_split, parts_step}
use Rattle.batch.proofs.TouchLaws.{listing_down, listing_at_leaf, stays_down, touched_at_leaf, stays_at_leaf}

-- the keys of two lists, one after another
pub keys_split : (bs : List NewBlock) (i : ℕ) (xs ys : List Key) → HasKeys bs i (xs ++ ys) → HasKeys bs i xs × HasKeys bs (i + length xs) ys
unfolding HasKeys
keys_split bs i [] ys h = (tt, subst (λ k. HasKeys bs k ys) (let e : i ≡ i + 0 = omega arith in e) h)
keys_split bs i (x ∷ xs) ys h =
    let r = keys_split bs (i + 1) xs ys h.1 in
    let e : i + 1 + length xs ≡ i + suc (length xs) = omega arith in
    ((h.0, r.0), subst (λ k. HasKeys bs k ys) e r.1)

-- the keys of a place, and those of the places before it, where two batches make the same at the place
pub keys_here : (f f' : ℕ → Option Part → List Key) (j back : ℕ) (os : List (Option Part)) (kid : Option Part) (bs : List NewBlock) (i : ℕ) → back < 16 → length os ≡ 16 → kid ≡ get_or os (15 - back) None
    → HasKeys bs i (later_first f j (take (16 - back) os)) → f' (j + (15 - back)) kid ≡ f (j + (15 - back)) kid → HasKeys bs i (f' (j + (15 - back)) kid)
keys_here f f' j back os kid bs i h n at k same =
    subst (HasKeys bs i) (sym (same ∙ ap (f (j + (15 - back))) at)) (keys_split bs i _ _ (subst (HasKeys bs i) (later_split f j back os h n) k)).0

pub keys_rest : (f f' : ℕ → Option Part → List Key) (j back : ℕ) (os : List (Option Part)) (kid : Option Part) (bs : List NewBlock) (i to : ℕ) → back < 16 → length os ≡ 16 → kid ≡ get_or os (15 - back) None
    → HasKeys bs i (later_first f j (take (16 - back) os)) → to ≡ i + length (f' (j + (15 - back)) kid) → f' (j + (15 - back)) kid ≡ f (j + (15 - back)) kid → HasKeys bs to (later_first f j (take (16 - (back + 1)) os))
keys_rest f f' j back os kid bs i to h n at k passed same =
    subst (λ x. HasKeys bs x (later_first f j (take (16 - (back + 1)) os))) (sym (passed ∙ ap (λ xs. i + length xs) (same ∙ ap (f (j + (15 - back))) at)))
    (keys_split bs i _ _ (subst (HasKeys bs i) (later_split f j back os h n) k)).1

pub next_back : (f f' : ℕ → Option Part → List Key) (j back : ℕ) (os : List (Option Part)) (kid : Option Part) (i all to : ℕ) → back < 16 → length os ≡ 16 → kid ≡ get_or os (15 - back) None
    → i + length (later_first f j (take (16 - back) os)) ≡ all → to ≡ i + length (f' (j + (15 - back)) kid) → f' (j + (15 - back)) kid ≡ f (j + (15 - back)) kid → to + length (later_first f j (take (16 - (back + 1)) os)) ≡ all
next_back f f' j back os kid i all to h n at e passed same =
    let m = ap length (later_split f j back os h n) in
    let a = length-append (f (j + (15 - back)) (get_or os (15 - back) None)) (later_first f j (take (16 - (back + 1)) os)) in
    let k = ap length (same ∙ ap (f (j + (15 - back))) at) in
    omega (arith, m, a, k, e, passed)

pub parts_back : {A : Type 0} (p : A → Part) (f f' : ℕ → Option Part → Option Part) (j back : ℕ) (os : List (Option Part)) (kid : Option Part) (kids : List (Option A)) (new : Option A) → back < 16 → length os ≡ 16 → kid ≡ get_or os (15 - back) None → length kids ≡ 16
    → drop (16 - back) (map (option_map p) kids) ≡ drop (16 - back) (parts f j os) → option_map p new ≡ f' (j + (15 - back)) kid → f' (j + (15 - back)) kid ≡ f (j + (15 - back)) kid
    → drop (16 - (back + 1)) (map (option_map p) (set kids (15 - back) new)) ≡ drop (16 - (back + 1)) (parts f j os)
parts_back p f f' j back os kid kids new h n at m e given same =
    let now : 16 - back ≡ 15 - back + 1 = omega arith in
    let next : 15 - back ≡ 16 - (back + 1) = omega arith in
    let wide = length-map kids (option_map p) in
    let here : option_map p new ≡ f (j + (15 - back)) (get_or os (15 - back) None) = given ∙ same ∙ ap (f (j + (15 - back))) at in
    let step = parts_step f j (15 - back) os (map (option_map p) kids) (option_map p new) (omega arith) (wide ∙ m ∙ sym n) (ap (λ k. drop k (map (option_map p) kids)) (sym now) ∙ e ∙ ap (λ k. drop k (parts f j os)) now) here in
    ap (drop (16 - (back + 1))) (map-set (option_map p) kids (15 - back) new)
    ∙ ap (λ k. drop k (set (map (option_map p) kids) (15 - back) (option_map p new))) (sym next) ∙ step ∙ ap (λ k. drop k (parts f j os)) next

is_same-self : (k : Key) → is_same k k ≡ true
is_same-self k = let a = eq-eqb k.level k.level refl in let b = eq-eqb k.index k.index refl in rw (a, b) refl

pub is_same-true : (j k : Key) → is_same j k ≡ true → j ≡ k
is_same-true j k e =
    let p = and_parts (j.level == k.level) (j.index == k.index) e in
    let a : j.level ≡ k.level = eqb-true _ _ p.0 in
    let b : j.index ≡ k.index = eqb-true _ _ p.1 in
    λ i. record { level = a i; index = b i }

-- the number of the new block at a place
pub number_here : (bs : List NewBlock) (i : ℕ) (b : NewBlock) → AreDifferent (map (λ (x : NewBlock). x.key) bs) → slice_get bs i ≡ Some b → number_of bs b.key ≡ b.block.0
unfolding number_of
number_here [] i b d e = cc
number_here (x ∷ bs) zero b d e =
    let s : x ≡ b = same_value x b e in
    let t : is_same x.key b.key ≡ true = ap (λ (z : NewBlock). is_same x.key z.key) (sym s) ∙ is_same-self x.key in
    rw t (ap (λ (z : NewBlock). z.block.0) s)
number_here (x ∷ bs) (suc i) b d e =
    elim (is_same x.key b.key) as (λ t. is_same x.key b.key ≡ t → cond t x.block.0 (number_of bs b.key) ≡ b.block.0) [
      | true ↦ λ t. absurd (d.0 (subst (IsIn (map (λ (z : NewBlock). z.key) bs)) (sym (is_same-true x.key b.key t)) (key_in bs i b e)))
      | false ↦ λ t. number_here bs i b d.1 e
    ] refl
  where
    key_in : (bs : List NewBlock) (i : ℕ) (b : NewBlock) → slice_get bs i ≡ Some b → IsIn (map (λ (z : NewBlock). z.key) bs) b.key
    key_in [] i b e = cc
    key_in (x ∷ bs) zero b e = Rattle.std.proofs.Common.inl (ap (λ (z : NewBlock). z.key) (sym (same_value x b e)))
    key_in (x ∷ bs) (suc i) b e = Rattle.std.proofs.Common.inr (key_in bs i b e)

-- a key's place among the new blocks is there, and has its number
pub key_place : (bs : List NewBlock) (i : ℕ) (k : Key) (ks : List Key) (d : NewBlock) → AreDifferent (map (λ (x : NewBlock). x.key) bs) → HasKeys bs i (k ∷ ks) → (i < length bs) × ((get_or bs i d).block.0 ≡ number_of bs k)
unfolding HasKeys
key_place bs i k ks d a h =
    let b = mapped (λ (x : NewBlock). x.key) (slice_get bs i) k h.0 in
    let w = slice_get_within bs i b.0 b.1 in
    let same : get_or bs i d ≡ b.0 = same_value _ _ (sym (slice_get-get_or bs i d w) ∙ b.1) in
    (w, ap (λ (x : NewBlock). x.block.0) same ∙ sym (number_here bs i b.0 a b.1) ∙ ap (number_of bs) b.2)

-- a part that is made anew comes last among its own
pub made_down : (s : ℕ → Said) (l j : ℕ) (o : Option Part) → made_keys s (suc l) j o ≡ later_first (made_keys s l) (16 * j) (places_of o) ++ cond (touched s (suc l) j o && stays s (suc l) j o) (key_at (suc l) j ∷ []) []
made_down s l j o = listing_down _ l j o

pub made_at_leaf : (s : ℕ → Said) (j : ℕ) (o : Option Part) → made_keys s 0 j o ≡ cond (touched s 0 j o && stays s 0 j o) (key_at 0 j ∷ []) []
made_at_leaf s j o = listing_at_leaf _ j o

pub made_stays : (s : ℕ → Said) (l j : ℕ) (o : Option Part) → touched s (suc l) j o ≡ true → stays s (suc l) j o ≡ true → made_keys s (suc l) j o ≡ later_first (made_keys s l) (16 * j) (places_of o) ++ key_at (suc l) j ∷ []
made_stays s l j o t p = made_down s l j o ∙ ap (λ b. later_first (made_keys s l) (16 * j) (places_of o) ++ cond b (key_at (suc l) j ∷ []) []) (λ i. t i && p i)

both_not : (t p : Bool) → p ≡ false → (t && p) ≡ false
both_not true p e = e
both_not false p e = refl

pub made_goes : (s : ℕ → Said) (l j : ℕ) (o : Option Part) → stays s (suc l) j o ≡ false → made_keys s (suc l) j o ≡ later_first (made_keys s l) (16 * j) (places_of o)
made_goes s l j o p = made_down s l j o ∙ ap (λ b. later_first (made_keys s l) (16 * j) (places_of o) ++ cond b (key_at (suc l) j ∷ []) []) (both_not _ _ p) ∙ Rattle.std.proofs.Common.append-nil _

pub made_same_place : (s : ℕ → Said) (l j : ℕ) (o : Option Part) → touched s (suc l) j o ≡ false → made_keys s (suc l) j o ≡ later_first (made_keys s l) (16 * j) (places_of o)
made_same_place s l j o t = made_down s l j o ∙ ap (λ b. later_first (made_keys s l) (16 * j) (places_of o) ++ cond b (key_at (suc l) j ∷ []) []) (λ i. t i && stays s (suc l) j o) ∙ Rattle.std.proofs.Common.append-nil _

pub keys_of_kids : (s : ℕ → Said) (l j : ℕ) (o : Option Part) (bs : List NewBlock) (i : ℕ) → HasKeys bs i (made_keys s (suc l) j o) → HasKeys bs i (later_first (made_keys s l) (16 * j) (places_of o))
keys_of_kids s l j o bs i h = (keys_split bs i _ _ (subst (HasKeys bs i) (made_down s l j o) h)).0

pub key_of_own : (s : ℕ → Said) (l j : ℕ) (o : Option Part) (bs : List NewBlock) (i : ℕ) → touched s (suc l) j o ≡ true → stays s (suc l) j o ≡ true → HasKeys bs i (made_keys s (suc l) j o) → HasKeys bs (i + length (later_first (made_keys s l) (16 * j) (places_of o))) (key_at (suc l) j ∷ [])
key_of_own s l j o bs i t p h = (keys_split bs i _ _ (subst (HasKeys bs i) (made_stays s l j o t p) h)).1

pub rebuilt_down : (s : ℕ → Said) (number : Key → ℕ) (g l j : ℕ) (o : Option Part) → rebuilt s number g (suc l) j o ≡ remade (touched s (suc l) j o) (stays s (suc l) j o) (number (key_at (suc l) j)) g (parts (rebuilt s number g l) (16 * j) (places_of o)) o
unfolding rebuilt
rebuilt_down s number g l j o = refl

-- where a part is touched, it stays where one of its places does
pub stays_below : (s : ℕ → Said) (l j : ℕ) (o : Option Part) (b : Bool) → touched s (suc l) j o ≡ true → b ≡ any_kid (stays s l) (16 * j) (places_of o) → b ≡ stays s (suc l) j o
stays_below s l j o b t e = e ∙ sym (stays_down s l j o ∙ ap (λ x. cond x (any_kid (stays s l) (16 * j) (places_of o)) (is_some o)) t)

pub rebuilt_gone : (s : ℕ → Said) (number : Key → ℕ) (g l j : ℕ) (o : Option Part) → touched s (suc l) j o ≡ true → stays s (suc l) j o ≡ false → rebuilt s number g (suc l) j o ≡ None
rebuilt_gone s number g l j o t p = rebuilt_down s number g l j o ∙ (λ i. remade (t i) (p i) (number (key_at (suc l) j)) g (parts (rebuilt s number g l) (16 * j) (places_of o)) o)

pub rebuilt_anew : {A : Type 0} (s : ℕ → Said) (number : Key → ℕ) (g l j : ℕ) (o : Option Part) → touched s (suc l) j o ≡ true → stays s (suc l) j o ≡ true
    → (f : A → Part) (kids : List (Option A)) (n : ℕ) → n ≡ number (key_at (suc l) j) → map (option_map f) kids ≡ parts (rebuilt s number g l) (16 * j) (places_of o)
    → Some (record { cell = record { number = n; birth = g; bytes = [] }; below = forest_of f kids }) ≡ rebuilt s number g (suc l) j o
rebuilt_anew s number g l j o t p f kids n e k =
    let below : forest_of f kids ≡ forest_of (λ q. q) (parts (rebuilt s number g l) (16 * j) (places_of o)) = sym (forest_of-map f kids) ∙ ap (forest_of (λ q. q)) k in
    (λ i. Some (record { cell = record { number = e i; birth = g; bytes = [] }; below = below i }))
    ∙ sym (rebuilt_down s number g l j o ∙ (λ i. remade (t i) (p i) (number (key_at (suc l) j)) g (parts (rebuilt s number g l) (16 * j) (places_of o)) o))

-- a leaf
pub rebuilt_at_leaf : (s : ℕ → Said) (number : Key → ℕ) (g j : ℕ) (o : Option Part) (w : Said) → s j ≡ w → rebuilt s number g 0 j o ≡ leaf_rebuilt w (number (key_at 0 j)) g o
unfolding rebuilt
rebuilt_at_leaf s number g j o w e = ap (λ x. leaf_rebuilt x (number (key_at 0 j)) g o) e

pub made_of_leaf : (s : ℕ → Said) (j : ℕ) (o : Option Part) (w : Said) → s j ≡ w → made_keys s 0 j o ≡ cond (leaf_touched w o && leaf_stays w o) (key_at 0 j ∷ []) []
made_of_leaf s j o w e =
    made_at_leaf s j o ∙ (λ i. cond ((touched_at_leaf s j o ∙ ap (λ x. leaf_touched x o) e) i && (stays_at_leaf s j o ∙ ap (λ x. leaf_stays x o) e) i) (key_at 0 j ∷ []) [])

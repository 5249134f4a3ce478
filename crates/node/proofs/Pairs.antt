-- The places of pairs, one by one.
use Rattle.std.proofs.Common.{◌≡◌, ◌≢◌, ℕ, zero, suc, ◌+◌, ◌*◌, ◌/◌, ◌%◌, List, [], ◌∷◌, length, get_or, set, Option, Some, None, refl, sym, ap, ◌∙◌, arith, add-one}
use Rattle.std.specs.Option.{option_map}
use Rattle.std.proofs.Math.Nat.{add-div_right, add-mod_right}
use Rattle.std.specs.declared.sync.Arc.{Arc}
use Rattle.std.specs.declared.alloc.Global.{Global}
use Rattle.std.specs.Borrow.{Bor}
use Rattle.node.specs.declared.pair.Pair.{Pair}
use Rattle.node.specs.declared.pair.Pair.TheVariants.{Neither}
use Rattle.node.specs.Shape.{Part, part_at, forest_of}
use Rattle.node.specs.Pairs.{left_of, right_of, side_of, places_in}
use Rattle.node.proofs.Places.{part_at-places, places-forest_of}

two_more : (n : ℕ) → suc (suc n) / 2 ≡ suc (n / 2)
two_more n = let e : suc (suc n) ≡ n + 2 = omega arith in ap (λ x. x / 2) e ∙ add-div_right n (omega arith) ∙ add-one _

two_more_rest : (n : ℕ) → suc (suc n) % 2 ≡ n % 2
two_more_rest n = let e : suc (suc n) ≡ n + 2 = omega arith in ap (λ x. x % 2) e ∙ add-mod_right n 2

pub length-places_in : {C : Type 0} (ps : List (Pair C)) → length (places_in ps) ≡ 2 * length ps
length-places_in [] = refl
length-places_in (p ∷ ps) = let h = length-places_in ps in omega (arith, h)

side_neither : {C : Type 0} (k : ℕ) → None ≡ side_of {C = C} Neither k
side_neither zero = refl
side_neither (suc k) = refl

-- what stands at a place, by its pair
pub place_side : {C : Type 0} (ps : List (Pair C)) (i : ℕ) → get_or (places_in ps) i None ≡ side_of (get_or ps (i / 2) Neither) (i % 2)
place_side [] i = side_neither (i % 2)
place_side (p ∷ ps) zero = refl
place_side (p ∷ ps) (suc zero) = refl
place_side (p ∷ ps) (suc (suc n)) = rw (two_more n, two_more_rest n) (place_side ps n)

-- another pair, of which one side alone is another
pub place_set : {C : Type 0} (ps : List (Pair C)) (i : ℕ) (q : Pair C) → (i % 2 ≡ 0 → right_of q ≡ right_of (get_or ps (i / 2) Neither)) → (i % 2 ≢ 0 → left_of q ≡ left_of (get_or ps (i / 2) Neither))
    → places_in (set ps (i / 2) q) ≡ set (places_in ps) i (side_of q (i % 2))
place_set [] i q r l = refl
place_set (p ∷ ps) zero q r l = ap (λ x. left_of q ∷ (x ∷ places_in ps)) (r refl)
place_set (p ∷ ps) (suc zero) q r l = ap (λ x. x ∷ (right_of q ∷ places_in ps)) (l (omega arith))
place_set (p ∷ ps) (suc (suc n)) q r l =
    rw (two_more n, two_more_rest n)
    (ap (λ xs. left_of p ∷ (right_of p ∷ xs)) (place_set ps n q
    (λ e. r (two_more_rest n ∙ e) ∙ ap (λ k. right_of (get_or (p ∷ ps) k Neither)) (two_more n))
    (λ e. l (λ z. e (sym (two_more_rest n) ∙ z)) ∙ ap (λ k. left_of (get_or (p ∷ ps) k Neither)) (two_more n))))

-- the part at a place, by a reference to its owner
part_at-get : {A : Type 0} (f : A → Part) (xs : List (Option A)) (k : ℕ) → part_at (forest_of f xs) k ≡ option_map f (get_or xs k None)
part_at-get f xs k = part_at-places (forest_of f xs) k ∙ places-forest_of f xs k

pub part_there : {C : Type 0} (f : Arc C Global → Part) (ps : List (Pair C)) (k : ℕ) (r : Option (Bor (Arc C Global))) (b : Bor (Arc C Global)) → option_map (λ a. a.now) r ≡ get_or (places_in ps) k None → r ≡ Some b → part_at (forest_of f (places_in ps)) k ≡ Some (f b.now)
part_there f ps k r b e i = part_at-get f (places_in ps) k ∙ ap (option_map f) (sym e ∙ ap (option_map (λ a. a.now)) i)

pub part_missing : {C : Type 0} (f : Arc C Global → Part) (ps : List (Pair C)) (k : ℕ) (r : Option (Bor (Arc C Global))) → option_map (λ a. a.now) r ≡ get_or (places_in ps) k None → r ≡ None → part_at (forest_of f (places_in ps)) k ≡ None
part_missing f ps k r e i = part_at-get f (places_in ps) k ∙ ap (option_map f) (sym e ∙ ap (option_map (λ a. a.now)) i)

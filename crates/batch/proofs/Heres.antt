-- The part at each key of a root, and what a batch does to it.
use Rattle.std.proofs.Common.{◌≡◌, ℕ, zero, suc, ◌+◌, ◌*◌, ◌/◌, ◌%◌, ◌^◌, ◌<◌, ◌≤◌, Bool, true, false, cond, List, [], ◌∷◌, length, get_or, Option, Some, None, refl, sym, ap, subst, ◌∙◌, arith, inl, inr, ◌⊎◌, ⊎_elim, true≢false}
use Rattle.std.specs.Prelude.{is_some, ◌||◌, ◌==◌}
use Rattle.std.specs.Option.{option_map}
use Rattle.std.specs.List.{list_any}
use Rattle.std.proofs.lemmas.Bool.{eqb-true, eq-eqb, cases_lt}
use Rattle.std.proofs.Math.Nat.{pow-suc, div-add-mod}
use Rattle.base.specs.declared.number.Key.{Key}
use Rattle.base.specs.Key.{covers}
use Rattle.node.specs.Entries.{key_at, cell_count}
use Rattle.node.specs.Kid.{IsKid, places, places_of}
use Rattle.node.specs.Shape.{Forest, done, gap, grown, Part}
use Rattle.batch.specs.Said.{Said, silent, hole, full}
use Rattle.batch.specs.Touch.{over_kids, any_kid, leaf_stays, touched, stays}
use Rattle.batch.specs.Build.{parts, leaf_rebuilt, remade, rebuilt}
use Rattle.node.proofs.Digits.{high_digits, low_digits, within_place, both_ways}
use Rattle.node.proofs.Places.{AreKids-at, kids_of, places-forest_of, no_place}
use Rattle.node.proofs.Parts.{cell_opt, opt_down}
use Rattle.batch.proofs.KidLaws.{part_of_parts}
use Rattle.batch.proofs.TouchLaws.{any_none, any_absent, touched_down, stays_down, stays_at_leaf, untouched_stays, untouched_rebuilt}
use Rattle.batch.proofs.MadeLaws.{rebuilt_down, rebuilt_at_leaf}

-- what stands at a place of a part that may be absent
abbrev pub kid_of : Option Part → ℕ → Option Part
kid_of o i = get_or (places_of o) i None

-- the part so many levels below, at an index
abbrev pub part_down : ℕ → ℕ → Option Part → Option Part
part_down zero q o = o
part_down (suc d) q o = part_down d (q % 16 ^ d) (kid_of o (q / 16 ^ d))

pub cell_down : (d q : ℕ) (o : Option Part) → cell_opt d o q ≡ option_map (λ (p : Part). p.cell) (part_down d q o)
cell_down zero q None = refl
cell_down zero q (Some p) = refl
cell_down (suc d) q o = opt_down d o q ∙ cell_down d (q % 16 ^ d) (kid_of o (q / 16 ^ d))

-- the same, from the part one level up
pub part_up : (d q : ℕ) (o : Option Part) → q < 16 ^ suc d → part_down (suc d) q o ≡ kid_of (part_down d (q / 16) o) (q % 16)
part_up zero q o h =
    let a : q / 16 ^ 0 ≡ q % 16 = omega arith in
    ap (kid_of o) a
part_up (suc d) q o h =
    let r = q % 16 ^ suc d in
    let w : 16 ^ suc d ≡ 16 ^ d * 16 = pow-suc 16 d in
    let low : r / 16 ≡ (q / 16) % 16 ^ d = sym (low_digits q 1 d (suc d) (let e : 1 + d ≡ suc d = omega arith in e)) in
    let high : q / 16 ^ suc d ≡ (q / 16) / 16 ^ d = sym (high_digits q 1 d (suc d) (let e : 1 + d ≡ suc d = omega arith in e)) in
    let split = div-add-mod q (16 ^ suc d) in
    let scale : 16 ^ suc d * (q / 16 ^ suc d) ≡ 16 * (16 ^ d * (q / 16 ^ suc d)) = ap (λ x. x * (q / 16 ^ suc d)) w ∙ omega arith in
    let last : r % 16 ≡ q % 16 = omega (arith, split, scale) in
    part_up d r (kid_of o (q / 16 ^ suc d)) (within_place q (suc d))
    ∙ (λ i. kid_of (part_down d (low i) (kid_of o (high i))) (last i))

-- the parts below a sound one are sound
pub down_sound : (d l g q : ℕ) (o : Option Part) → IsKid (l + d) g o → IsKid l g (part_down d q o)
down_sound zero l g q o k = let e : l + 0 ≡ l = omega arith in subst (λ n. IsKid n g o) e k
down_sound (suc d) l g q o k =
    let e : l + suc d ≡ suc (l + d) = omega arith in
    let kids = kids_of (l + d) g o (subst (λ n. IsKid n g o) e k) in
    down_sound d l g (q % 16 ^ d) (kid_of o (q / 16 ^ d)) (AreKids-at (l + d) g (places_of o) (q / 16 ^ d) kids.1)

-- the same at each place, by its index
pub kids_at : {A : Type 0} (join : A → A → A) (none : A) (f h : ℕ → Option Part → A) (j : ℕ) (os : List (Option Part))
    → ((i : ℕ) → i < length os → f (j + i) (get_or os i None) ≡ h (j + i) (get_or os i None)) → over_kids join none f j os ≡ over_kids join none h j os
kids_at join none f h j [] e = refl
kids_at join none f h j (o ∷ os) e =
    let z : j + 0 ≡ j = omega arith in
    let first : f j o ≡ h j o = ap (λ n. f n o) (sym z) ∙ e 0 (omega arith) ∙ ap (λ n. h n o) z in
    let rest = kids_at join none f h (j + 1) os (λ i l. let s : j + suc i ≡ j + 1 + i = omega arith in ap (λ n. f n (get_or os i None)) (sym s) ∙ e (suc i) (omega arith) ∙ ap (λ n. h n (get_or os i None)) s) in
    λ i. join (first i) (rest i)

-- leaves that a key covers, by the keys below
or_cross : (a b c d : Bool) → ((a || b) || (c || d)) ≡ ((a || c) || (b || d))
or_cross true b c d = refl
or_cross false true true d = refl
or_cross false true false d = refl
or_cross false false c d = refl

any_or : (f h : ℕ → Option Part → Bool) (j : ℕ) (os : List (Option Part)) → any_kid (λ k o. f k o || h k o) j os ≡ (any_kid f j os || any_kid h j os)
any_or f h j [] = refl
any_or f h j (o ∷ os) = ap (λ b. (f j o || h j o) || b) (any_or f h (j + 1) os) ∙ or_cross (f j o) (h j o) (any_kid f (j + 1) os) (any_kid h (j + 1) os)

or_true : (a b : Bool) → (a || b) ≡ true → (a ≡ true) ⊎ (b ≡ true)
or_true true b e = inl refl
or_true false b e = inr e

or_first : (a b : Bool) → a ≡ true → (a || b) ≡ true
or_first true b e = refl
or_first false b e = absurd (true≢false (sym e))

or_second : (a b : Bool) → b ≡ true → (a || b) ≡ true
or_second true b e = refl
or_second false b e = e

hit : (x j : ℕ) (os : List (Option Part)) → j ≤ x → x < j + length os → any_kid (λ k o. x == k) j os ≡ true
hit x j [] a b = absurd (omega arith)
hit x j (o ∷ os) a b = ⊎_elim
    (λ l. or_second (x == j) _ (hit x (j + 1) os (omega arith) (omega arith)))
    (λ l. or_first (x == j) _ (eq-eqb x j (omega arith)))
    (cases_lt j x)

from_hit : (x j : ℕ) (os : List (Option Part)) → any_kid (λ k o. x == k) j os ≡ true → (j ≤ x) × (x < j + length os)
from_hit x j [] e = absurd (true≢false (sym e))
from_hit x j (o ∷ os) e = ⊎_elim
    (λ t. let s : x ≡ j = eqb-true x j t in (omega arith, omega arith))
    (λ t. let r = from_hit x (j + 1) os t in let a = r.0 in let b = r.1 in (omega arith, omega arith))
    (or_true (x == j) _ e)

sixteen_of : (x j : ℕ) (os : List (Option Part)) → length os ≡ 16 → (x / 16 == j) ≡ any_kid (λ k o. x == k) (16 * j) os
sixteen_of x j os n = both_ways _ _
    (λ t. let s : x / 16 ≡ j = eqb-true _ _ t in hit x (16 * j) os (omega arith) (omega arith))
    (λ t. let r = from_hit x (16 * j) os t in let a = r.0 in let b = r.1 in eq-eqb (x / 16) j (omega arith))

pub any_split : (l j : ℕ) (os : List (Option Part)) → length os ≡ 16 → (ns : List ℕ) → list_any (covers (key_at (suc l) j)) ns ≡ any_kid (λ k o. list_any (covers (key_at l k)) ns) (16 * j) os
any_split l j os n [] = sym (any_none (λ k o. false) (16 * j) os (λ k o. refl))
any_split l j os n (x ∷ ns) =
    let up : x / 16 ^ suc l ≡ (x / 16 ^ l) / 16 = sym (high_digits x l 1 (suc l) (let e : l + 1 ≡ suc l = omega arith in e)) in
    (λ i. (up i == j) || any_split l j os n ns i)
    ∙ ap (λ b. b || any_kid (λ k o. list_any (covers (key_at l k)) ns) (16 * j) os) (sixteen_of (x / 16 ^ l) j os n)
    ∙ sym (any_or (λ k o. x / 16 ^ l == k) (λ k o. list_any (covers (key_at l k)) ns) (16 * j) os)

-- a sound part is present where one of its places is
some_place : (f : Forest) (j : ℕ) → 0 < cell_count f → any_kid (λ k o. is_some o) j (places f) ≡ true
some_place done j h = absurd (omega arith)
some_place (gap r) j h = some_place r (j + 1) h
some_place (grown c b r) j h = refl

pub any_present : (l g j : ℕ) (o : Option Part) → IsKid (suc l) g o → any_kid (λ k q. is_some q) j (places_of o) ≡ is_some o
any_present l g j None k = any_absent (λ k q. is_some q) j 16 (λ k. refl)
any_present l g j (Some p) k = some_place p.below j k.1.0.1

-- what isn't there afterwards
leaf_gone : (w : Said) (n g : ℕ) (o : Option Part) → leaf_stays w o ≡ false → leaf_rebuilt w n g o ≡ None
leaf_gone silent n g None e = refl
leaf_gone silent n g (Some p) e = absurd (true≢false e)
leaf_gone hole n g o e = refl
leaf_gone (full bytes) n g o e = absurd (true≢false e)

none_of : (o : Option Part) → is_some o ≡ false → o ≡ None
none_of None e = refl
none_of (Some p) e = absurd (true≢false e)

remade_gone : (t p : Bool) (n g : ℕ) (kids : List (Option Part)) (o : Option Part) → (t ≡ true → p ≡ false) → (t ≡ false → o ≡ None) → remade t p n g kids o ≡ None
remade_gone true p n g kids o a b = ap (λ x. remade true x n g kids o) (a refl)
remade_gone false p n g kids o a b = b refl

pub rebuilt_none : (s : ℕ → Said) (number : Key → ℕ) (g l j : ℕ) (o : Option Part) → stays s l j o ≡ false → rebuilt s number g l j o ≡ None
rebuilt_none s number g zero j o e = rebuilt_at_leaf s number g j o (s j) refl ∙ leaf_gone (s j) (number (key_at 0 j)) g o (sym (stays_at_leaf s j o) ∙ e)
rebuilt_none s number g (suc l) j o e =
    rebuilt_down s number g l j o
    ∙ remade_gone (touched s (suc l) j o) (stays s (suc l) j o) _ g _ o (λ t. e) (λ t. none_of o (sym (untouched_stays s (suc l) j o t) ∙ e))

pub any_false : (f : ℕ → Option Part → Bool) (j i : ℕ) (os : List (Option Part)) → i < length os → any_kid f j os ≡ false → f (j + i) (get_or os i None) ≡ false
any_false f j i [] h e = absurd (omega arith)
any_false f j zero (o ∷ os) h e = ap (λ n. f n o) (let z : j + 0 ≡ j = omega arith in z) ∙ first_false (f j o) _ e
  where
    first_false : (a b : Bool) → (a || b) ≡ false → a ≡ false
    first_false true b e = absurd (true≢false e)
    first_false false b e = refl
any_false f j (suc i) (o ∷ os) h e = let s : j + suc i ≡ j + 1 + i = omega arith in ap (λ n. f n (get_or os i None)) s ∙ any_false f (j + 1) i os (omega arith) (second_false (f j o) _ e)
  where
    second_false : (a b : Bool) → (a || b) ≡ false → b ≡ false
    second_false true b e = absurd (true≢false e)
    second_false false b e = e

-- a place of a part after a batch
remade_kid : (t p : Bool) (n g : ℕ) (kids : List (Option Part)) (o : Option Part) (i : ℕ) (x : Option Part) → (t ≡ true → p ≡ true → get_or kids i None ≡ x) → (t ≡ true → p ≡ false → x ≡ None) → (t ≡ false → kid_of o i ≡ x) → kid_of (remade t p n g kids o) i ≡ x
remade_kid true true n g kids o i x a b c = places-forest_of (λ q. q) kids i ∙ same_map (get_or kids i None) ∙ a refl refl
  where
    same_map : (o : Option Part) → option_map (λ q. q) o ≡ o
    same_map None = refl
    same_map (Some p) = refl
remade_kid true false n g kids o i x a b c = no_place 16 i ∙ sym (b refl refl)
remade_kid false p n g kids o i x a b c = c refl

pub rebuilt_kid : (s : ℕ → Said) (number : Key → ℕ) (g h l j i : ℕ) (o : Option Part) → IsKid (suc l) h o → i < 16 → kid_of (rebuilt s number g (suc l) j o) i ≡ rebuilt s number g l (16 * j + i) (kid_of o i)
rebuilt_kid s number g h l j i o k b =
    let wide = (kids_of l h o k).0 in
    let within : i < length (places_of o) = omega arith in
    ap (λ x. kid_of x i) (rebuilt_down s number g l j o)
    ∙ remade_kid (touched s (suc l) j o) (stays s (suc l) j o) _ g (parts (rebuilt s number g l) (16 * j) (places_of o)) o i _
    (λ t p. part_of_parts (rebuilt s number g l) (16 * j) i (places_of o) within)
    (λ t p. rebuilt_none s number g l (16 * j + i) (kid_of o i) (any_false (stays s l) (16 * j) i (places_of o) within (sym (stays_down s l j o ∙ ap (λ x. cond x (any_kid (stays s l) (16 * j) (places_of o)) (is_some o)) t) ∙ p)))
    (λ t. sym (untouched_rebuilt s number g l (16 * j + i) (kid_of o i) (any_false (touched s l) (16 * j) i (places_of o) within (sym (touched_down s l j o) ∙ t))))

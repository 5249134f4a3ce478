-- What filters keep, and how long it is.
use Rattle.std.proofs.Common.{◌≡◌, ℕ, zero, suc, ◌+◌, ◌≤◌, Bool, true, false, cond, List, [], ◌∷◌, ◌++◌, length, filter, arith, take, length-append, get_or, ◌<◌}
use Rattle.std.proofs.lemmas.List.Elements.{filter-append}
use Rattle.std.specs.List.{flat_map}
use Rattle.std.proofs.Common.{inl, inr, refl}
use Rattle.std.proofs.lemmas.Bool.{lt-ltb, le-ltb}
use Rattle.std.proofs.lemmas.Bool.Decides.{leb_tells}
use Rattle.base.specs.declared.number.Dead.{Dead}
use Rattle.deadlist.specs.Entries.{is_after, is_upto}

-- a filter keeps no more than there is
pub filter_le : {X : Type 0} (p : X → Bool) (xs : List X) → length (filter p xs) ≤ length xs
filter_le p [] = omega arith
filter_le p (x ∷ xs) = elim (p x) as (λ b. length (cond b (x ∷ filter p xs) (filter p xs)) ≤ length (x ∷ xs)) [ true ↦ omega (arith, filter_le p xs) | false ↦ omega (arith, filter_le p xs) ]

-- the same of a part at the front, with one more piece
pub filter_part_le : {X A : Type 0} (p : X → Bool) (f : A → List X) (xs : List A) (i : ℕ) (d : A) (ys : List X) → i < length xs → length (filter p (flat_map f (take i xs))) + length (filter p (f (get_or xs i d))) ≤ length (flat_map f xs ++ ys)
filter_part_le p f [] i d ys h = absurd (omega arith)
filter_part_le p f (x ∷ xs) zero d ys h = omega (arith, filter_le p (f x), length-append (f x ++ flat_map f xs) ys, length-append (f x) (flat_map f xs))
filter_part_le p f (x ∷ xs) (suc i) d ys h =
    let e = filter-append p (f x) (flat_map f (take i xs)) in
    let l = length-append (filter p (f x)) (filter p (flat_map f (take i xs))) in
    let ih = filter_part_le p f xs i d ys (omega arith) in
    let k = length-append (f x ++ flat_map f xs) ys in
    let m = length-append (f x) (flat_map f xs) in
    let n = length-append (flat_map f xs) ys in
    rw e (omega (arith, filter_le p (f x), l, ih, k, m, n))

-- the same of the whole
pub filter_whole_le : {X A : Type 0} (p : X → Bool) (f : A → List X) (xs : List A) (ys : List X) → length (filter p (flat_map f xs)) + length (filter p ys) ≤ length (flat_map f xs ++ ys)
filter_whole_le p f xs ys = omega (arith, filter_le p (flat_map f xs), filter_le p ys, length-append (flat_map f xs) ys)

-- each entry was born by the cut or after it
pub split_length : (cut : ℕ) (p : List Dead) → length (filter (is_upto cut) p) + length (filter (is_after cut) p) ≡ length p
split_length cut [] = refl
split_length cut (d ∷ ds) =
    let ih = split_length cut ds in
    elim (leb_tells d.birth.0 cut) [
      | inl h ↦ let e = le-ltb cut d.birth.0 h.1 in rw (h.0, e) (omega (arith, ih))
      | inr h ↦ let e = lt-ltb cut d.birth.0 h.1 in rw (h.0, e) (omega (arith, ih))
    ]

-- The same segments, where the entries of each stand in another order.
use Rattle.std.proofs.Common.{◌≡◌, ℕ, zero, suc, ◌+◌, ◌<◌, List, [], ◌∷◌, ◌++◌, length, get_or, take, arith, refl, ap, sym}
use Rattle.std.proofs.lemmas.List.{append_assoc}
use Rattle.std.proofs.lemmas.List.Sorted.{IsPermutation-append_left, IsPermutation-append_right, IsPermutation-trans}
use Rattle.std.specs.List.Sorted.{IsPermutation}
use Rattle.base.specs.declared.number.Dead.{Dead}
use Rattle.deadlist.specs.Segments.{AreAlike, AreCut, upper_of, uppers, entries_in}
use Rattle.deadlist.specs.Spans.{Span}
use Rattle.deadlist.proofs.Orders.{born_from_permuted, born_by_permuted}
use Rattle.deadlist.proofs.Puts.{perm_same}

pub alike_entries : (xs ys : List Span) (p q : List Dead) → AreAlike xs ys → IsPermutation p q → IsPermutation (entries_in xs ++ p) (entries_in ys ++ q)
alike_entries [] [] p q h k = k
alike_entries [] (y ∷ ys) p q h k = absurd h
alike_entries (x ∷ xs) [] p q h k = absurd h
alike_entries (x ∷ xs) (y ∷ ys) p q h k =
    let ih = alike_entries xs ys p q h.2 k in
    let a = IsPermutation-append_left (entries_in xs ++ p) x.pile y.pile h.1 in
    let b = IsPermutation-append_right y.pile (entries_in xs ++ p) (entries_in ys ++ q) ih in
    perm_same ((x.pile ++ entries_in xs) ++ p) ((y.pile ++ entries_in ys) ++ q) (x.pile ++ (entries_in xs ++ p)) (y.pile ++ (entries_in ys ++ q))
    (append_assoc x.pile (entries_in xs) p)
    (append_assoc y.pile (entries_in ys) q)
    (IsPermutation-trans (x.pile ++ (entries_in xs ++ p)) (y.pile ++ (entries_in xs ++ p)) (y.pile ++ (entries_in ys ++ q)) a b)

pub alike_cuts : (xs ys : List Span) → AreAlike xs ys → uppers ys ≡ uppers xs
alike_cuts [] [] h = refl
alike_cuts [] (y ∷ ys) h = absurd h
alike_cuts (x ∷ xs) [] h = absurd h
alike_cuts (x ∷ xs) (y ∷ ys) h = (λ i. upper_of (record { upper = sym h.0 i; pile = [] }) ∷ alike_cuts xs ys h.2 i)

pub alike_cut : (xs ys : List Span) (from : ℕ) (p q : List Dead) → AreAlike xs ys → IsPermutation p q → AreCut from xs p → AreCut from ys q
alike_cut [] [] from p q h k c = born_from_permuted from p q c k
alike_cut [] (y ∷ ys) from p q h k c = absurd h
alike_cut (x ∷ xs) [] from p q h k c = absurd h
alike_cut (x ∷ xs) (y ∷ ys) from p q h k c =
    let e : upper_of x ≡ upper_of y = ap (λ g. g.0) h.0 in
    rw (← e) (c.0, born_from_permuted from x.pile y.pile c.1 h.1, born_by_permuted (upper_of x) x.pile y.pile c.2 h.1, alike_cut xs ys (upper_of x + 1) p q h.2 k c.3)

-- one more segment at the end of each
pub alike_push : (xs ys : List Span) (i : ℕ) (x y : Span) → i < length xs → x ≡ get_or xs i x → AreAlike (take i xs) ys → x.upper ≡ y.upper → IsPermutation x.pile y.pile → AreAlike (take (i + 1) xs) (ys ++ y ∷ [])
alike_push [] ys i x y lt read h e k = absurd (omega arith)
alike_push (s ∷ ss) [] zero x y lt read h e k = rw (← read) (e, k, tt)
alike_push (s ∷ ss) (t ∷ ts) zero x y lt read h e k = absurd h
alike_push (s ∷ ss) [] (suc i) x y lt read h e k = absurd h
alike_push (s ∷ ss) (t ∷ ts) (suc i) x y lt read h e k =
    let step : suc i + 1 ≡ suc (i + 1) = omega arith in
    rw step (h.0, h.1, alike_push ss ts i x y (omega arith) read h.2 e k)

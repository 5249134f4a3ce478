-- More entries and more cuts, step by step.
use Rattle.std.proofs.Common.{◌≡◌, ℕ, zero, suc, ◌+◌, ◌≤◌, ◌<◌, List, [], ◌∷◌, ◌++◌, length, get_or, take, arith, refl, ap, sym, ◌∙◌}
use Rattle.std.proofs.lemmas.List.{append_assoc, append-nil, take_more}
use Rattle.std.proofs.lemmas.List.Sorted.{IsPermutation-refl, IsPermutation-trans, IsPermutation-append_left, IsPermutation-append_right, IsPermutation-append_comm}
use Rattle.std.specs.List.{flat_map}
use Rattle.std.specs.List.Sorted.{IsPermutation}
use Rattle.base.specs.declared.number.Dead.{Dead}
use Rattle.deadlist.specs.Spans.{Span}
use Rattle.deadlist.specs.Segments.{AreCut, with_cut, with_cuts}
use Rattle.deadlist.proofs.Births.{born_from_weaker}

-- nothing more
pub perm_none : {X : Type 0} (es : List X) → IsPermutation (es ++ []) es
perm_none es = rw append-nil (IsPermutation-refl es)

-- what came so far, and then more
pub perm_more : {X : Type 0} (es so now more new : List X) → IsPermutation (es ++ so) now → IsPermutation (now ++ more) new → IsPermutation (es ++ (so ++ more)) new
perm_more es so now more new h k = rw (← append_assoc) (IsPermutation-trans ((es ++ so) ++ more) (now ++ more) new (IsPermutation-append_left more (es ++ so) now h) k)

pub flat_map_take : {X A : Type 0} (f : A → List X) (xs : List A) (i : ℕ) (x : A) → i < length xs → x ≡ get_or xs i x → flat_map f (take (i + 1) xs) ≡ flat_map f (take i xs) ++ f x
flat_map_take f [] i x lt read = absurd (omega arith)
flat_map_take f (y ∷ ys) zero x lt read = ap (λ v. f v ++ []) (sym read) ∙ append-nil (f x)
flat_map_take f (y ∷ ys) (suc i) x lt read =
    let ih = flat_map_take f ys i x (omega arith) read in
    let e = append_assoc (f y) (flat_map f (take i ys)) (f x) in
    let step : suc i + 1 ≡ suc (i + 1) = omega arith in
    rw step cc

-- the same, one piece of a list of pieces
pub perm_piece : {X A : Type 0} (f : A → List X) (es now new : List X) (xs : List A) (i : ℕ) (x : A) → i < length xs → x ≡ get_or xs i x → IsPermutation (es ++ flat_map f (take i xs)) now → IsPermutation (now ++ f x) new → IsPermutation (es ++ flat_map f (take (i + 1) xs)) new
perm_piece f es now new xs i x lt read h k =
    let e = flat_map_take f xs i x lt read in
    rw e (perm_more es (flat_map f (take i xs)) now (f x) new h k)

pub cut_weaker : (xs : List Span) (from low : ℕ) (last : List Dead) → AreCut from xs last → low ≤ from → AreCut low xs last
cut_weaker [] from low last c le = born_from_weaker from low last c le
cut_weaker (s ∷ ss) from low last c le = (omega (arith, c.0), born_from_weaker from low s.pile c.1 le, c.2, c.3)

pub with_cuts_push : (cs gs : List ℕ) (g : ℕ) → with_cuts cs (gs ++ g ∷ []) ≡ with_cut g (with_cuts cs gs)
with_cuts_push cs [] g = refl
with_cuts_push cs (h ∷ gs) g = with_cuts_push (with_cut h cs) gs g

-- the same, one element
pub perm_element : {X : Type 0} (es now new xs : List X) (i : ℕ) (d : X) → i < length xs → IsPermutation (es ++ take i xs) now → IsPermutation (now ++ get_or xs i d ∷ []) new → IsPermutation (es ++ take (i + 1) xs) new
perm_element es now new xs i d lt h k =
    let e = take_more xs i d lt in
    rw e (perm_more es (take i xs) now (get_or xs i d ∷ []) new h k)

-- two lists with more behind each, where the two are joined
pub perm_four : {X : Type 0} (es fs gs hs new : List X) → IsPermutation (es ++ gs) new → IsPermutation ((es ++ fs) ++ (gs ++ hs)) (new ++ (fs ++ hs))
perm_four es fs gs hs new h =
    let a = append_assoc es fs (gs ++ hs) in
    let b = append_assoc fs gs hs in
    let d = append_assoc gs fs hs in
    let e = append_assoc es gs (fs ++ hs) in
    let swap = IsPermutation-append_right es ((fs ++ gs) ++ hs) ((gs ++ fs) ++ hs) (IsPermutation-append_left hs (fs ++ gs) (gs ++ fs) (IsPermutation-append_comm fs gs)) in
    let left : (es ++ fs) ++ (gs ++ hs) ≡ es ++ ((fs ++ gs) ++ hs) = a ∙ ap (λ x. es ++ x) (sym b) in
    let right : es ++ ((gs ++ fs) ++ hs) ≡ (es ++ gs) ++ (fs ++ hs) = ap (λ x. es ++ x) d ∙ sym e in
    rw left (IsPermutation-trans (es ++ ((fs ++ gs) ++ hs)) (es ++ ((gs ++ fs) ++ hs)) (new ++ (fs ++ hs)) swap (rw right (IsPermutation-append_left (fs ++ hs) (es ++ gs) new h)))

-- A block's bytes copied within a slice that is cut in two between them.
use Rattle.std.proofs.Common.{◌≡◌, ℕ, ◌+◌, ◌-◌, ◌≤◌, List, [], ◌++◌, length, take, drop, sym, ap, ◌∙◌, arith, append-nil, append_assoc, length-append, length-drop}
use Rattle.std.proofs.lemmas.List.{drop-drop, take_all, take-append-drop, take-append-le, drop-append-le, length-take-le}
use Rattle.std.proofs.Math.ListN.{drop_of_length-le}
use borrow.Rule.Slice.PartMut.{put_mid}
use Rattle.image.specs.BlockWrites.{bytes_put}
use Rattle.image.proofs.Patches.{put_mid_is}

-- elements before a cut, of the part before it
cut_before : (old : List ℕ) (from to n : ℕ) → from + n ≤ to → to ≤ length old → take n (drop from (take to old)) ≡ take n (drop from old)
cut_before old from to n h fits =
    let long : length (take to old) ≡ to = length-take-le to old fits in
    sym (take-append-le n (drop from (take to old)) (drop to old) (omega (arith, h, length-drop from (take to old), long)))
    ∙ ap (take n) (sym (drop-append-le from (take to old) (drop to old) (omega (arith, h, long))) ∙ ap (drop from) (take-append-drop to old))

-- the part before a cut, from a place on, and the part behind it
cut_joined : (old : List ℕ) (at cut : ℕ) → at ≤ cut → cut ≤ length old → drop at (take cut old) ++ drop cut old ≡ drop at old
cut_joined old at cut h fits =
    sym (drop-append-le at (take cut old) (drop cut old) (omega (arith, h, length-take-le cut old fits))) ∙ ap (drop at) (take-append-drop cut old)

pub all_behind : (xs : List ℕ) (at : ℕ) → take (length xs - at) (drop at xs) ≡ drop at xs
all_behind xs at = take_all (length xs - at) (drop at xs) (omega (arith, length-drop at xs))

pub length_block : (old : List ℕ) (from : ℕ) → from + 512 ≤ length old → length (take 512 (drop from old)) ≡ 512
length_block old from fits = length-take-le 512 (drop from old) (omega (arith, fits, length-drop from old))

-- from the part before the cut to the front of the part behind it
pub copied_up : (old before behind out : List ℕ) (from to : ℕ) → before ≡ take to old → behind ≡ drop to old → from + 512 ≤ to → to + 512 ≤ length old
    → out ≡ take 512 (drop from before) ++ drop 512 behind → before ++ out ≡ bytes_put old to (take 512 (drop from old))
unfolding bytes_put
copied_up old before behind out from to front back h fits is =
    let block : take 512 (drop from before) ≡ take 512 (drop from old) = ap (λ xs. take 512 (drop from xs)) front ∙ cut_before old from to 512 h (omega (arith, fits)) in
    let rest : drop 512 behind ≡ drop (to + length (take 512 (drop from old))) old =
    ap (drop 512) back ∙ drop-drop 512 to old ∙ ap (λ n. drop (to + n) old) (sym (length_block old from (omega (arith, h, fits)))) in
    ap (λ xs. before ++ xs) is ∙ (λ i. front i ++ (block i ++ rest i))

-- from the front of the part behind the cut to a place before it
pub copied_down : (old before behind out : List ℕ) (from to : ℕ) → before ≡ take from old → behind ≡ drop from old → to + 512 ≤ from → from + 512 ≤ length old
    → out ≡ take 512 behind ++ drop 512 (drop to before) → put_mid to (length before - to) before out ++ behind ≡ bytes_put old to (take 512 (drop from old))
unfolding bytes_put
copied_down old before behind out from to front back h fits is =
    let block : List ℕ = take 512 (drop from old) in
    let size : length (take 512 (drop from old)) ≡ 512 = length_block old from fits in
    let cut : length (take from old) ≡ from = length-take-le from old (omega (arith, fits)) in
    let whole : out ≡ take 512 (drop from old) ++ drop (to + 512) (take from old) =
    is ∙ (λ i. take 512 (back i) ++ drop 512 (drop to (front i))) ∙ ap (λ xs. take 512 (drop from old) ++ xs) (drop-drop 512 to (take from old)) in
    let long : length out ≡ from - to = ap length whole ∙ omega (arith, h, size, cut, length-append (take 512 (drop from old)) (drop (to + 512) (take from old)), length-drop (to + 512) (take from old)) in
    let none : drop (to + length out) (take from old) ≡ [] = drop_of_length-le (take from old) (omega (arith, long, cut, h)) in
    let low : take to (take from old) ≡ take to old = sym (take-append-le to (take from old) (drop from old) (omega (arith, h, cut))) ∙ ap (take to) (take-append-drop from old) in
    ap (λ xs. xs ++ behind) (put_mid_is before out to (length before - to) (omega (arith, long, ap length front, cut)))
    ∙ (λ i. (take to (front i) ++ (out ++ drop (to + length out) (front i))) ++ back i)
    ∙ (λ i. (low i ++ (out ++ none i)) ++ drop from old)
    ∙ ap (λ xs. (take to old ++ xs) ++ drop from old) (append-nil out ∙ whole)
    ∙ append_assoc (take to old) (take 512 (drop from old) ++ drop (to + 512) (take from old)) (drop from old)
    ∙ ap (λ xs. take to old ++ xs) (append_assoc (take 512 (drop from old)) (drop (to + 512) (take from old)) (drop from old)
    ∙ ap (λ xs. take 512 (drop from old) ++ xs) (cut_joined old (to + 512) from h (omega (arith, fits)) ∙ ap (λ n. drop (to + n) old) (sym size)))

-- Blocks of pieces as they are taken off.
use Rattle.std.proofs.Common.{◌≡◌, ℕ, zero, suc, ◌+◌, ◌-◌, ◌<◌, List, [], ◌∷◌, ◌++◌, take, drop, sym, ap, ◌∙◌, arith, append_assoc}
use Rattle.std.specs.List.{flat_map}
use Rattle.std.proofs.lemmas.List.{reverse-append, map-append, take-append-drop, drop-drop}
use Rattle.base.specs.declared.number.Dead.{Dead}
use Rattle.base.specs.Map.{Block}
use Rattle.base.specs.Surveys.{dead_block}
use Rattle.snap.specs.declared.piece.Piece.{Piece}
use Rattle.tree.specs.Branch.{Branch}
use Rattle.snap.proofs.Peeling.{last_top}
use Rattle.snap.specs.Members.{dead_blocks, piece_blocks, members, born_after, tops_after}

-- one more piece
pub last_piece : (ps : List Piece) (p : Piece) → members (ps ++ p ∷ []) ≡ piece_blocks p ++ members ps
last_piece ps p = ap (flat_map piece_blocks) (reverse-append ps (p ∷ []))

-- the entries of a dead list that are taken, and those that are left
pub entries_off : (olds news entries later : List Dead) (more : List Block) → news ≡ olds ++ entries
    → dead_blocks news ++ (dead_blocks later ++ more) ≡ dead_blocks olds ++ (dead_blocks (entries ++ later) ++ more)
entries_off olds news entries later more is =
    ap (λ xs. xs ++ (dead_blocks later ++ more)) (ap dead_blocks is ∙ map-append dead_block olds entries)
    ∙ append_assoc (dead_blocks olds) (dead_blocks entries) (dead_blocks later ++ more)
    ∙ ap (λ xs. dead_blocks olds ++ xs) (sym (append_assoc (dead_blocks entries) (dead_blocks later) more) ∙ ap (λ xs. xs ++ more) (sym (map-append dead_block entries later)))

-- how far the pieces are from being enough: not at all, or one more than their number
abbrev pub left_to : ℕ → ℕ → ℕ
left_to zero n = 0
left_to (suc k) n = suc n

-- one more entry
pub one_more : (ds olds news later : List Dead) (d : Dead) (whole : List Dead) (count counter : ℕ) → counter < count → news ≡ olds ++ d ∷ [] → ds ≡ d ∷ later
    → olds ++ take (count - counter) ds ≡ whole → news ++ take (count - (counter + 1)) later ≡ whole
one_more ds olds news later d whole count counter lt put is e =
    let next : suc (count - (counter + 1)) ≡ count - counter = omega arith in
    ap (λ xs. xs ++ take (count - (counter + 1)) later) put
    ∙ append_assoc olds (d ∷ []) (take (count - (counter + 1)) later)
    ∙ ap (λ k. olds ++ take k (d ∷ later)) next
    ∙ ap (λ xs. olds ++ take (count - counter) xs) (sym is)
    ∙ e

-- the entries from an index on, in two parts
pub entries_left : (xs : List Dead) (first count : ℕ) → take count (drop first xs) ++ drop (first + count) xs ≡ drop first xs
entries_left xs first count = ap (λ ys. take count (drop first xs) ++ ys) (sym (drop-drop count first xs)) ∙ take-append-drop count (drop first xs)

-- what is left of some blocks goes back
pub some_off : (olds news left all kept_old kept_new : List Block) → news ++ left ≡ olds ++ all → kept_new ≡ left ++ kept_old
    → news ++ kept_new ≡ olds ++ (all ++ kept_old)
some_off olds news left all kept_old kept_new e kept =
    ap (λ xs. news ++ xs) kept
    ∙ sym (append_assoc news left kept_old)
    ∙ ap (λ xs. xs ++ kept_old) e
    ∙ append_assoc olds all kept_old

-- one more subtree to be put away, beside others and the pieces so far
pub one_top : (cut : ℕ) (few done : List Branch) (top : Branch) (now old : List Block) → tops_after cut few ++ now ≡ tops_after cut done ++ old
    → tops_after cut (few ++ top ∷ []) ++ now ≡ tops_after cut (done ++ top ∷ []) ++ old
one_top cut few done top now old e =
    ap (λ xs. xs ++ now) (last_top cut few top)
    ∙ append_assoc (born_after cut top) (tops_after cut few) now
    ∙ ap (λ xs. born_after cut top ++ xs) e
    ∙ sym (append_assoc (born_after cut top) (tops_after cut done) old)
    ∙ ap (λ xs. xs ++ old) (sym (last_top cut done top))

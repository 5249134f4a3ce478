-- Blocks of subtrees as their tops come off.
use Rattle.std.proofs.Common.{◌≡◌, ℕ, ◌<◌, ◌≤◌, Bool, true, false, cond, List, [], ◌∷◌, ◌++◌, map, refl, sym, ap, subst, ◌∙◌, arith, append_assoc, inl, inr}
use Rattle.std.specs.Prelude.{reverse, IfSome, ltb}
use Rattle.std.specs.List.{flat_map}
use Rattle.std.specs.FinMap.{get, entries}
use Rattle.std.proofs.lemmas.Bool.{lt-ltb, ltb-true}
use Rattle.std.proofs.lemmas.Grind.{flat_map-append}
use Rattle.std.proofs.lemmas.List.Elements.{filter-append}
use Rattle.std.proofs.lemmas.List.{reverse-append}
use Rattle.base.specs.declared.number.Key.{Key}
use Rattle.base.specs.Map.{Cell, Block, block_of}
use Rattle.tree.specs.Branch.{Branch, branch_blocks}
use Rattle.world.specs.Deadlists.{entries_after}
use Rattle.world.specs.Shapes.{key_order}
use Rattle.world.specs.Usage.{IsEntry}
use Rattle.world.proofs.lists.Maps.{at_entry}
use Rattle.snap.specs.Members.{born_after, tops_after}

-- the blocks below that were born after the cut
after_below : (cut : ℕ) (bs : List Branch) → entries_after cut (flat_map branch_blocks bs) ≡ flat_map (born_after cut) bs
after_below cut [] = refl
after_below cut (b ∷ bs) =
    filter-append (λ (x : Block). ltb cut x.birth) (branch_blocks b) (flat_map branch_blocks bs)
    ∙ ap (λ xs. born_after cut b ++ xs) (after_below cut bs)

keeps : (cut : ℕ) (x : Block) (xs : List Block) → cut < x.birth → entries_after cut (x ∷ xs) ≡ x ∷ entries_after cut xs
keeps cut x xs lt = ap (λ b. cond b (x ∷ entries_after cut xs) (entries_after cut xs)) (lt-ltb cut x.birth lt)

-- a top that comes off
pub peeled : (cut : ℕ) (top : Branch) (x : Block) (below news olds : List Branch) (done more : List Block)
    → branch_blocks top ≡ x ∷ flat_map branch_blocks below → cut < x.birth → reverse news ≡ below ++ reverse olds → more ≡ done ++ x ∷ []
    → more ++ tops_after cut news ≡ done ++ (born_after cut top ++ tops_after cut olds)
peeled cut top x below news olds done more all young news-are more-is =
    ap (λ ys. ys ++ tops_after cut news) more-is
    ∙ append_assoc done (x ∷ []) (tops_after cut news)
    ∙ ap (λ ys. done ++ x ∷ ys) (ap (flat_map (born_after cut)) news-are ∙ flat_map-append (born_after cut) below (reverse olds))
    ∙ ap (λ ys. done ++ (ys ++ tops_after cut olds)) (sym (ap (entries_after cut) all ∙ keeps cut x (flat_map branch_blocks below) young ∙ ap (λ ys. x ∷ ys) (after_below cut below)))

-- a top that doesn't has nothing below it either
drops : (cut : ℕ) (x : Block) (xs : List Block) → x.birth ≤ cut → entries_after cut (x ∷ xs) ≡ entries_after cut xs
drops cut x xs le = by (ltb cut x.birth) refl
  where
    by : (b : Bool) → ltb cut x.birth ≡ b → cond b (x ∷ entries_after cut xs) (entries_after cut xs) ≡ entries_after cut xs
    by true e = let l = ltb-true cut x.birth e in absurd (omega arith)
    by false e = refl

none_in : (cut : ℕ) (es : List (Key × Cell)) → ((k : Key) (c : Cell) → IsEntry es k c → c.birth ≤ cut) → entries_after cut (map block_of (map (λ e. e.1) es)) ≡ []
none_in cut [] h = refl
none_in cut (e ∷ es) h =
    drops cut (block_of e.1) (map block_of (map (λ e. e.1) es)) (h e.0 e.1 (inl (refl, refl)))
    ∙ none_in cut es (λ k c i. h k c (inr i))

pub none_after : (cut : ℕ) (top : Branch) → ((k : Key) → IfSome (get top.map k) (λ c. c.birth ≤ cut)) → born_after cut top ≡ []
unfolding branch_blocks
none_after cut top h = none_in cut (entries top.map) (λ k c i. subst (λ o. IfSome o (λ (c : Cell). c.birth ≤ cut)) (at_entry key_order top.map k c i) (h k))

-- the last of several
pub last_top : (cut : ℕ) (tops : List Branch) (top : Branch) → tops_after cut (tops ++ top ∷ []) ≡ born_after cut top ++ tops_after cut tops
last_top cut tops top = ap (flat_map (born_after cut)) (reverse-append tops (top ∷ []))

-- What a walk gathers: the blocks born after a group.
use Rattle.std.proofs.Common.{◌≡◌, ℕ, zero, suc, ◌+◌, ◌*◌, ◌-◌, ◌<◌, ◌≤◌, List, [], ◌∷◌, ◌++◌, length, get_or, drop, Option, Some, None, refl, sym, ap, subst, ◌∙◌, arith, add-one, drop-cons, append_assoc, append-nil}
use Rattle.std.specs.Prelude.{nat_lt, map}
use Rattle.std.proofs.lemmas.Bool.{lt-ltb, le-ltb}
use Rattle.std.proofs.lemmas.List.Elements.{filter-append}
use Rattle.std.proofs.lemmas.List.{map-append}
use Rattle.base.specs.Map.{Block, block_of}
use Rattle.base.specs.Key.{key_cmp}
use Rattle.base.specs.Counting.{counted, most}
use Rattle.node.specs.Shape.{Forest, done, gap, grown, Part, forest_of}
use Rattle.node.specs.Entries.{IsWell, width, map_of, entries_from}
use Rattle.node.specs.Kid.{IsSound}
use Rattle.node.specs.Walk.{forest_blocks, part_blocks, born_after, blocks_of}
use Rattle.std.specs.FinMap as fin
use Rattle.node.proofs.Order.{entries_sorted}

-- a part at a place of a well-shaped forest
pub sound_at : {A : Type 0} (f : A → Part) (xs : List (Option A)) (l g i : ℕ) (d : Option A) (a : A) → IsWell l g (forest_of f xs) → i < length xs → get_or xs i d ≡ Some a → ((f a).cell.birth ≤ g) × IsSound l (f a)
sound_at f [] l g i d a w h e = absurd (omega arith)
sound_at f (None ∷ xs) l g zero d a w h e = cc
sound_at f (None ∷ xs) l g (suc i) d a w h e = sound_at f xs l g i d a w (omega arith) e
sound_at f (Some x ∷ xs) l g zero d a w h e =
    let same : x ≡ a = cc in
    subst (λ y. ((f y).cell.birth ≤ g) × IsSound l (f y)) same (w.0, (w.1, w.2))
sound_at f (Some x ∷ xs) l g (suc i) d a w h e = sound_at f xs l g i d a w.3 (omega arith) e

pub born_after-append : (cut : ℕ) (xs ys : List Block) → born_after cut (xs ++ ys) ≡ born_after cut xs ++ born_after cut ys
unfolding born_after
born_after-append cut xs ys = filter-append (λ b. nat_lt cut b.birth) xs ys

-- below a part that is no younger than the cut nothing is
pub none_young : (l g cut : ℕ) (f : Forest) → IsWell l g f → g ≤ cut → born_after cut (forest_blocks f) ≡ []
unfolding born_after
none_young l g cut done w h = refl
none_young l g cut (gap r) w h = none_young l g cut r w h
none_young l g cut (grown c b r) w h =
    let young : born_after cut (forest_blocks b) ≡ [] = none_young (l - 1) c.birth cut b w.2 (omega (arith, w.0)) in
    let later : born_after cut (forest_blocks r) ≡ [] = none_young l g cut r w.3 h in
    rw (le-ltb cut c.birth (omega (arith, w.0)), born_after-append cut (forest_blocks b) (forest_blocks r), young, later) refl

pub part_young : (cut : ℕ) (p : Part) → cut < p.cell.birth → born_after cut (part_blocks p) ≡ block_of p.cell ∷ born_after cut (forest_blocks p.below)
unfolding born_after
part_young cut p h = rw (lt-ltb _ _ h) refl

pub part_old : (l cut : ℕ) (p : Part) → IsSound l p → p.cell.birth ≤ cut → born_after cut (part_blocks p) ≡ []
unfolding born_after
part_old l cut p w h = rw (le-ltb _ _ h) (none_young (l - 1) p.cell.birth cut p.below w.1 h)

-- the places from one on
pub rest_some : {A : Type 0} (f : A → Part) (xs : List (Option A)) (cut i : ℕ) (d : Option A) (a : A) → i < length xs → get_or xs i d ≡ Some a → born_after cut (forest_blocks (forest_of f (drop i xs))) ≡ born_after cut (part_blocks (f a)) ++ born_after cut (forest_blocks (forest_of f (drop (i + 1) xs)))
unfolding born_after
rest_some f xs cut i d a h e =
    rw (drop-cons xs i d h, e, add-one) (born_after-append cut (part_blocks (f a)) (forest_blocks (forest_of f (drop (suc i) xs))))

pub rest_none : {A : Type 0} (f : A → Part) (xs : List (Option A)) (cut i : ℕ) (d : Option A) → i < length xs → get_or xs i d ≡ None → born_after cut (forest_blocks (forest_of f (drop i xs))) ≡ born_after cut (forest_blocks (forest_of f (drop (i + 1) xs)))
unfolding born_after
rest_none f xs cut i d h e = rw (drop-cons xs i d h, e, add-one) refl

-- one step of the walk, on the lists alone
pub step_lists : (out0 out1 total rest rest1 more : List Block) → out0 ++ rest ≡ total → rest ≡ more ++ rest1 → out1 ≡ out0 ++ more → out1 ++ rest1 ≡ total
step_lists out0 out1 total rest rest1 more e r o = rw (o, append_assoc, ← r) e

pub step_meter : (m0 m m1 all rest rest1 more : ℕ) → counted m0 all ≤ counted m rest → rest ≡ more + rest1 → counted m more ≤ m1 → counted m0 all ≤ counted m1 rest1
unfolding counted most
step_meter m0 m m1 all rest rest1 more a b c = omega arith

pub rest_end : {A : Type 0} (f : A → Part) (xs : List (Option A)) (i : ℕ) → width (forest_of f xs) ≤ i → forest_of f (drop i xs) ≡ done
rest_end f [] zero h = refl
rest_end f [] (suc i) h = refl
rest_end f (None ∷ xs) zero h = absurd (omega arith)
rest_end f (None ∷ xs) (suc i) h = rest_end f xs i (omega arith)
rest_end f (Some x ∷ xs) zero h = absurd (omega arith)
rest_end f (Some x ∷ xs) (suc i) h = rest_end f xs i (omega arith)

pub born_after-none : (cut : ℕ) → born_after cut [] ≡ []
unfolding born_after
born_after-none cut = refl

pub ended : (out rest total : List Block) → out ++ rest ≡ total → rest ≡ [] → out ≡ total
ended out rest total e n = sym (append-nil out) ∙ ap (λ r. out ++ r) (sym n) ∙ e

-- the blocks of a forest are those of its entries
blocks-entries : (l j : ℕ) (f : Forest) → map block_of (map (λ e. e.1) (entries_from l j f)) ≡ forest_blocks f
blocks-entries l j done = refl
blocks-entries l j (gap r) = blocks-entries l (j + 1) r
blocks-entries l j (grown c b r) =
    ap (λ xs. block_of c ∷ xs)
    (ap (map block_of) (map-append (λ e. e.1) (entries_from (l - 1) (16 * j) b) (entries_from l (j + 1) r))
    ∙ map-append block_of (map (λ e. e.1) (entries_from (l - 1) (16 * j) b)) _
    ∙ ap (λ xs. xs ++ map block_of (map (λ e. e.1) (entries_from l (j + 1) r))) (blocks-entries (l - 1) (16 * j) b)
    ∙ ap (λ xs. forest_blocks b ++ xs) (blocks-entries l (j + 1) r))

pub blocks-map_of : (g : ℕ) (f : Forest) → IsWell 5 g f → blocks_of (map_of f) ≡ forest_blocks f
unfolding map_of
blocks-map_of g f w =
    ap (λ es. map block_of (map (λ e. e.1) es)) (fin.entries-from_sorted key_cmp (entries_from 5 0 f) (entries_sorted 5 0 g f w)) ∙ blocks-entries 5 0 f

pub none_more : (out more : List Block) → more ≡ [] → out ≡ out ++ more
none_more out more e = sym (append-nil out) ∙ ap (λ r. out ++ r) (sym e)

pub first_lists : (old new rest all : List Block) (b : Block) → new ≡ old ++ (b ∷ []) → all ≡ b ∷ rest → new ++ rest ≡ old ++ all
first_lists old new rest all b n a = ap (λ xs. xs ++ rest) n ∙ append_assoc old (b ∷ []) rest ∙ ap (λ xs. old ++ xs) (sym a)

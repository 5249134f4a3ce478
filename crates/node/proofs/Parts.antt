-- Parts that may be absent, by their places.
use Rattle.std.proofs.Common.{◌≡◌, ℕ, zero, suc, ◌+◌, ◌*◌, ◌/◌, ◌%◌, ◌^◌, ◌≤◌, List, [], ◌∷◌, length, get_or, Option, Some, None, refl, sym, ap, arith}
use Rattle.std.specs.Option.{option_and_then}
use Rattle.std.proofs.Math.Nat.{pow-suc}
use Rattle.base.specs.Map.{Cell}
use Rattle.node.specs.Shape.{done, Part, forest_of, cell_below}
use Rattle.node.specs.Entries.{cell_count}
use Rattle.node.specs.Kid.{IsKid, cells, places, places_of}
use Rattle.node.proofs.Order.{span_positive}
use Rattle.node.proofs.Places.{AreKids, kids_of, part_at-places, no_place, cells-below, cells-cons}

-- the cell so far below a part that may be absent
abbrev pub cell_opt : ℕ → Option Part → ℕ → Option Cell
cell_opt d o q = option_and_then (λ p. cell_below d p q) o

pub opt_down : (d : ℕ) (o : Option Part) (q : ℕ) → cell_opt (suc d) o q ≡ cell_opt d (get_or (places_of o) (q / 16 ^ d) None) (q % 16 ^ d)
opt_down d None q = ap (λ o. cell_opt d o (q % 16 ^ d)) (sym (no_place 16 (q / 16 ^ d)))
opt_down d (Some p) q = ap (λ o. cell_opt d o (q % 16 ^ d)) (part_at-places p.below (q / 16 ^ d))

kids_bound : (l h b : ℕ) (os : List (Option Part)) → ((o : Option Part) → IsKid l h o → cells o + 1 ≤ b) → AreKids l h os → cell_count (forest_of (λ p. p) os) + length os ≤ length os * b
kids_bound l h b [] each a = omega arith
kids_bound l h b (o ∷ os) each a = let c = cells-cons o os in let e = each o a.0 in let r = kids_bound l h b os each a.1 in omega (arith, c, e, r)

-- how many cells a part can have
pub cells_bound : (l h : ℕ) (o : Option Part) → IsKid l h o → cells o + 1 ≤ 2 * 16 ^ l
cells_bound l h None k = let p = span_positive l in omega (arith, p)
cells_bound zero h (Some p) k = let e : p.below ≡ done = k.1.0.0 in rw e (omega arith)
cells_bound (suc l) h (Some p) k =
    let kids = kids_of l h (Some p) k in
    let most = kids_bound l h (2 * 16 ^ l) (places p.below) (λ o w. cells_bound l h o w) kids.1 in
    let n : length (places p.below) ≡ 16 = kids.0 in
    let most16 = rw n at most in
    let w = pow-suc 16 l in
    let z = cells-below (Some p) (1 + cell_count p.below) refl in
    let one = span_positive l in
    omega (arith, most16, w, z, one)

-- Parts and forests that are the same, and the maps that they stand for.
use Rattle.std.proofs.Common.{◌≡◌, ℕ, zero, suc, ◌+◌, ◌*◌, ◌/◌, ◌%◌, ◌-◌, ◌^◌, ◌<◌, ◌≤◌, List, [], ◌∷◌, length, get_or, Option, Some, None, refl, sym, ap, subst, ◌∙◌, arith}
use Rattle.std.proofs.lemmas.List.{ext_get_or}
use Rattle.std.proofs.Math.Nat.{mul-add-div_right, div-eq_of_lt, div-add-mod, mul-le-mul_right, pow-suc}
use Rattle.std.specs.Option.{option_map}
use Rattle.std.specs.FinMap as fin
use Rattle.std.specs.declared.sync.Arc.{Arc}
use Rattle.std.specs.declared.alloc.Global.{Global}
use Rattle.base.specs.declared.number.Key.{Key}
use Rattle.node.specs.Shape.{Part, forest_of}
use Rattle.node.specs.Entries.{key_at, map_of}
use Rattle.node.specs.Kid.{IsKid, birth_of, places, places_of}
use Rattle.node.specs.Node.{Root, whole, root_forest, root_part, shared_part}
use Rattle.node.specs.Sound.{IsSoundTree}
use Rattle.node.proofs.Options.{same_value}
use Rattle.node.proofs.Parts.{cell_opt, opt_down}
use Rattle.node.proofs.Places.{AreKids-at, kids_of, forest-places, forest_of-map, places-forest_of, length-places}
use Rattle.node.proofs.Roots.{get-here, root_kid}

-- places side by side are the same where each is
pub same_forest : {A : Type 0} (f : A → Part) (xs ys : List (Option A)) → length xs ≡ length ys → ((i : ℕ) → i < length xs → option_map f (get_or xs i None) ≡ option_map f (get_or ys i None)) → forest_of f xs ≡ forest_of f ys
same_forest f xs ys n h =
    let wide = length-places f xs in
    let same : places (forest_of f xs) ≡ places (forest_of f ys) =
    ext_get_or None _ _ (wide ∙ n ∙ sym (length-places f ys)) (λ i b. places-forest_of f xs i ∙ h i (omega (arith, wide, b)) ∙ sym (places-forest_of f ys i)) in
    sym (forest-places (forest_of f xs)) ∙ ap (forest_of (λ p. p)) same ∙ forest-places (forest_of f ys)

-- and then the same part stands at each place
pub same_place : {A : Type 0} (f : A → Part) (xs ys : List (Option A)) (i : ℕ) → forest_of f xs ≡ forest_of f ys → option_map f (get_or xs i None) ≡ option_map f (get_or ys i None)
same_place f xs ys i e = sym (places-forest_of f xs i) ∙ ap (λ t. get_or (places t) i None) e ∙ places-forest_of f ys i

-- an index, from a place and the rest
pub place_in : (i q s : ℕ) → q < s → (i * s + q) / s ≡ i
place_in i q s h = let p : 0 < s = omega arith in let z : q / s ≡ 0 = div-eq_of_lt h in mul-add-div_right p i q ∙ (omega (arith, z))

pub rest_in : (i q s : ℕ) → q < s → (i * s + q) % s ≡ q
rest_in i q s h = let p : 0 < s = omega arith in let e = place_in i q s h in let d = div-add-mod (i * s + q) s in let m = ap (λ n. s * n) e in omega (arith, d, m)

pub part_of : (a b : Part) → a.cell ≡ b.cell → a.below ≡ b.below → a ≡ b
part_of a b c d = λ i. record { cell = c i; below = d i }

-- sound parts with the same cells are the same
pub same_cells : (l g h : ℕ) (o p : Option Part) → IsKid l g o → IsKid l h p → ((d q : ℕ) → d ≤ l → q < 16 ^ d → cell_opt d o q ≡ cell_opt d p q) → o ≡ p
same_cells l g h None None a b e = refl
same_cells l g h None (Some p) a b e = let c = e 0 0 (omega arith) (omega arith) in cc
same_cells l g h (Some o) None a b e = let c = e 0 0 (omega arith) (omega arith) in cc
same_cells zero g h (Some o) (Some p) a b e =
    ap Some (part_of o p (same_value _ _ (e 0 0 (omega arith) (omega arith))) (a.1.0.0 ∙ sym b.1.0.0))
same_cells (suc l) g h (Some o) (Some p) a b e =
    let x = kids_of l g (Some o) a in
    let y = kids_of l h (Some p) b in
    let each : (i : ℕ) → i < length (places o.below) → get_or (places o.below) i None ≡ get_or (places p.below) i None =
    λ i n. same_cells l g h _ _ (AreKids-at l g (places o.below) i x.1) (AreKids-at l h (places p.below) i y.1) (λ d q low small.
    let w : 16 ^ suc d ≡ 16 ^ d * 16 = pow-suc 16 d in
    let m = mul-le-mul_right {m = i + 1} {n = 16} (16 ^ d) (let s = x.0 in omega (arith, n, s)) in
    let within : i * 16 ^ d + q < 16 ^ suc d = omega (arith, w, m) in
    let at : (r : Option Part) → cell_opt (suc d) r (i * 16 ^ d + q) ≡ cell_opt d (get_or (places_of r) i None) q =
    λ r. opt_down d r (i * 16 ^ d + q) ∙ (λ z. cell_opt d (get_or (places_of r) (place_in i q (16 ^ d) small z) None) (rest_in i q (16 ^ d) small z)) in
    sym (at (Some o)) ∙ e (suc d) (i * 16 ^ d + q) (omega arith) within ∙ at (Some p)) in
    let same : places o.below ≡ places p.below = ext_get_or None _ _ (x.0 ∙ sym y.0) each in
    let below : o.below ≡ p.below = sym (forest-places o.below) ∙ ap (forest_of (λ p. p)) same ∙ forest-places p.below in
    ap Some (part_of o p (same_value _ _ (e 0 0 (omega arith) (omega arith))) below)

-- the key of an index so many levels below the root
module _ (r s : Option (Arc Root Global)) where
  -- sound trees with the same map are the same
  pub same_map : (m n : ℕ) → IsSoundTree r m → IsSoundTree s n → map_of (root_forest r) ≡ map_of (root_forest s) → whole r ≡ whole s
  same_map m n a b e =
      same_cells 5 (birth_of (whole r)) (birth_of (whole s)) (whole r) (whole s) (root_kid (shared_part root_part) r (birth_of (whole r)) a.well (omega arith)) (root_kid (shared_part root_part) s (birth_of (whole s)) b.well (omega arith)) (λ d q low small.
      let k : Key = key_at (5 - d) q in
      let back : 5 - (5 - d) ≡ d = omega arith in
      let level : 5 - d ≤ 5 = omega arith in
      let within : q < 16 ^ (5 - (5 - d)) = subst (λ n. q < 16 ^ n) (sym back) small in
      ap (λ n. cell_opt n (whole r) q) (sym back) ∙ sym (get-here r _ a.well k level within) ∙ ap (λ f. fin.get f k) e ∙ get-here s _ b.well k level within ∙ ap (λ n. cell_opt n (whole s) q) back)

  -- the same parts have the same map
  pub map_same : whole r ≡ whole s → map_of (root_forest r) ≡ map_of (root_forest s)
  map_same e = sym (ap map_of (root_places r)) ∙ ap (λ o. map_of (forest_of (λ p. p) (o ∷ []))) e ∙ ap map_of (root_places s)
    where
      root_places : (r : Option (Arc Root Global)) → forest_of (λ p. p) (whole r ∷ []) ≡ root_forest r
      root_places r = forest_of-map (shared_part root_part) (r ∷ [])

-- The nodes on the paths to several leaves, a level at a time.
use Rattle.std.proofs.Common.{◌≡◌, ℕ, zero, suc, ◌+◌, ◌*◌, ◌/◌, ◌%◌, ◌^◌, ◌<◌, ◌≤◌, Bool, true, false, cond, List, [], ◌∷◌, length, get_or, set, take, min, Option, Some, None, refl, sym, ap, subst, ◌∙◌, arith, add-one}
use Rattle.std.specs.Prelude.{nat_lt, sum_by, slice_index}
use Rattle.std.specs.Option.{option_map}
use Rattle.std.specs.Borrow.{Bor}
use Rattle.std.specs.FinMap.{len}
use Rattle.std.specs.declared.sync.Arc.{Arc}
use Rattle.std.specs.declared.alloc.Global.{Global}
use Rattle.std.proofs.lemmas.Bool.{ltb-true, ltb-false}
use Rattle.std.proofs.lemmas.List.{get_or-set_same, get_or-set_other, take_min}
use Rattle.std.proofs.lemmas.List.Sums.{sum_by_more}
use Rattle.std.proofs.Math.Nat.{mod-eq_of_lt, div-one}
use Rattle.base.specs.Map.{Map}
use Rattle.node.specs.declared.node.Inner.{Inner}
use Rattle.node.specs.Entries.{map_of, IsWell}
use Rattle.node.specs.Kid.{IsKid, birth_of}
use Rattle.node.specs.Node.{Root, inner_part, root_part, root_forest, whole, part_of_node, shared_part}
use Rattle.node.specs.Pairs.{places_in}
use Rattle.node.specs.Shape.{Part, part_at, steps_in, steps_below}
use Rattle.node.specs.Sound.{IsSoundTree}
use Rattle.node.proofs.Digits.{low_digits}
use Rattle.node.proofs.Find.{len-map_of}
use Rattle.node.proofs.Options.{twice}
use Rattle.node.proofs.Places.{AreKids-at, kids_of, part_at-places, places-forest_of}
use Rattle.node.proofs.Roots.{get-root, get-past}
use Rattle.tree.proofs.Branches.{low_rest}
use Rattle.tree.proofs.Present.{present-root, present-past}
use Rattle.tree.proofs.Told.{over_within}
use Rattle.tree.specs.Ahead.{nodes_to, present_on_paths}
use Rattle.tree.specs.Reading.{key_over, present_on_path}

-- the node at a place of another
module _ {C : Type 0} (part : C → Part) (node : Inner C) (place : ℕ) (kid : Option (Bor C)) (is : option_map (λ k. k.now) kid ≡ option_map (λ a. a.value) (get_or (places_in node.kids) place None)) where
  part_of_kid : part_of_node part kid ≡ part_at (inner_part part node).below place
  part_of_kid =
      twice (λ k. k.now) part kid
      ∙ ap (option_map part) is
      ∙ sym (twice (λ a. a.value) part (get_or (places_in node.kids) place None))
      ∙ sym (part_at-places (inner_part part node).below place ∙ places-forest_of (shared_part part) (places_in node.kids) place)

  -- a path's nodes from a node down are that node, and those from the one at its place down
  pub level_step : (l leaf : ℕ) → place ≡ leaf / 16 ^ l % 16 → steps_below (suc l) (inner_part part node) (leaf % 16 ^ suc l) ≡ 1 + steps_in (part_of_node part kid) (λ k. steps_below l k (leaf % 16 ^ l))
  level_step l leaf at =
      let next : l + 1 ≡ suc l = omega arith in
      let digit : (leaf % 16 ^ suc l) / 16 ^ l ≡ place = sym (low_digits leaf l 1 (suc l) next) ∙ sym at in
      (λ i. 1 + steps_in (part_at (inner_part part node).below (digit i)) (λ k. steps_below l k (low_rest leaf l i)))
      ∙ ap (λ o. 1 + steps_in o (λ k. steps_below l k (leaf % 16 ^ l))) (sym part_of_kid)

  pub kid_sound : (h g : ℕ) → IsKid (suc h) g (Some (inner_part part node)) → IsKid h g (part_of_node part kid)
  kid_sound h g s =
      subst (IsKid h g) (sym (part_of_kid ∙ part_at-places (inner_part part node).below place)) (AreKids-at h g _ place (kids_of h g (Some (inner_part part node)) s).1)

-- what stands from an index on doesn't count before it
pub nodes_to-set : {C : Type 0} (part : C → Part) (l n i : ℕ) (nodes : List (Option (Bor C))) (x : Option (Bor C)) (leaves : List ℕ) → n ≤ i → nodes_to part l n (set nodes i x) leaves ≡ nodes_to part l n nodes leaves
nodes_to-set part l zero i nodes x leaves h = refl
nodes_to-set part l (suc n) i nodes x leaves h =
    let before = nodes_to-set part l n i nodes x leaves (omega arith) in
    let here = ap (λ o. steps_in (part_of_node part o) (λ p. steps_below l p (slice_index leaves n % 16 ^ l))) (get_or-set_other nodes i n x None (λ e. omega arith)) in
    omega (arith, before, here)

-- one more leaf: its node, and those from the node below it down
pub more_there : {C : Type 0} (part : C → Part) (l n there before : ℕ) (nodes : List (Option (Bor (Inner C)))) (below : List (Option (Bor C))) (leaves : List ℕ) (node : Bor (Inner C)) (kid : Option (Bor C)) (place : ℕ)
    → get_or nodes n None ≡ Some node → n < length below → place ≡ slice_index leaves n / 16 ^ l % 16 → option_map (λ k. k.now) kid ≡ option_map (λ a. a.value) (get_or (places_in node.now.kids) place None)
    → there + nodes_to part l n below leaves ≡ before + nodes_to (inner_part part) (suc l) n nodes leaves
    → (there + 1) + nodes_to part l (n + 1) (set below n kid) leaves ≡ before + nodes_to (inner_part part) (suc l) (n + 1) nodes leaves
more_there part l n there before nodes below leaves node kid place here small at is so_far =
    let same = nodes_to-set part l n n below kid leaves (omega arith) in
    let own = ap (λ o. steps_in (part_of_node (inner_part part) o) (λ p. steps_below (suc l) p (slice_index leaves n % 16 ^ suc l))) here ∙ level_step part node.now place kid is l (slice_index leaves n) at in
    let next = ap (λ o. steps_in (part_of_node part o) (λ p. steps_below l p (slice_index leaves n % 16 ^ l))) (get_or-set_same below n kid None small) in
    rw (add-one n) (omega (arith, so_far, same, own, next))

-- one more leaf whose path has ended
pub more_gone : {C : Type 0} (part : C → Part) (l n there before : ℕ) (nodes : List (Option (Bor (Inner C)))) (below : List (Option (Bor C))) (leaves : List ℕ)
    → get_or nodes n None ≡ None → get_or below n None ≡ None
    → there + nodes_to part l n below leaves ≡ before + nodes_to (inner_part part) (suc l) n nodes leaves
    → there + nodes_to part l (n + 1) below leaves ≡ before + nodes_to (inner_part part) (suc l) (n + 1) nodes leaves
more_gone part l n there before nodes below leaves here below_it so_far =
    let own = ap (λ o. steps_in (part_of_node (inner_part part) o) (λ p. steps_below (suc l) p (slice_index leaves n % 16 ^ suc l))) here in
    let next = ap (λ o. steps_in (part_of_node part o) (λ p. steps_below l p (slice_index leaves n % 16 ^ l))) below_it in
    rw (add-one n) (omega (arith, so_far, own, next))

-- what holds of each place and of another value holds once the value stands at a place
pub set_each : {X : Type 0} (P : Option X → Type 0) (xs : List (Option X)) (n : ℕ) (x : Option X) → ((i : ℕ) → P (get_or xs i None)) → P x → (i : ℕ) → P (get_or (set xs n x) i None)
set_each P [] n x h p i = h i
set_each P (y ∷ ys) zero x h p zero = p
set_each P (y ∷ ys) zero x h p (suc i) = h (suc i)
set_each P (y ∷ ys) (suc n) x h p zero = h zero
set_each P (y ∷ ys) (suc n) x h p (suc i) = set_each P ys n x (λ j. h (suc j)) p i

-- a place without a node
pub none_there : {X : Type 0} (o : Option X) → ((x : X) → o ≡ Some x → ⊥) → o ≡ None
none_there None h = refl
none_there (Some x) h = absurd (h x refl)

-- a shift by four bits for each level is a quotient by the leaves below
pub digit : (leaf l : ℕ) → l < 5 → leaf / 2 ^ (4 * l) ≡ leaf / 16 ^ l
digit leaf zero h = refl
digit leaf (suc zero) h = refl
digit leaf (suc (suc zero)) h = refl
digit leaf (suc (suc (suc zero))) h = refl
digit leaf (suc (suc (suc (suc zero)))) h = refl
digit leaf (suc (suc (suc (suc (suc l))))) h = absurd (omega arith)

-- from the root down, the nodes are the present keys
module _ (m : Map) (p : Part) (roots : List (Option (Bor Root))) (leaves : List ℕ)
    (each : (i : ℕ) → i < min 16 (length leaves) → part_of_node root_part (get_or roots i None) ≡ cond (nat_lt (get_or leaves i 0) 1048576) (Some p) None)
    (here : (leaf : ℕ) → leaf < 1048576 → present_on_path m (key_over leaf 0) ≡ steps_below 5 p leaf)
    (past : (leaf : ℕ) → 1048576 ≤ leaf → present_on_path m (key_over leaf 0) ≡ 0) where
  -- the path to one leaf
  one : (leaf : ℕ) (b : Bool) → nat_lt leaf 1048576 ≡ b → steps_in (cond b (Some p) None) (λ p. steps_below 5 p (leaf % 16 ^ 5)) ≡ present_on_path m (key_over leaf 0)
  one leaf true e = let small : leaf < 1048576 = ltb-true leaf 1048576 e in ap (steps_below 5 p) (mod-eq_of_lt small) ∙ sym (here leaf small)
  one leaf false e = sym (past leaf (ltb-false leaf 1048576 e))

  -- the paths to the leaves so far
  so_far : (n : ℕ) → n ≤ min 16 (length leaves) → nodes_to root_part 5 n roots leaves ≡ sum_by (λ leaf. present_on_path m (key_over leaf 0)) (take n leaves)
  so_far zero h = refl
  so_far (suc n) h =
      let next : present_on_path m (key_over (get_or leaves n 0) 0) ≡ steps_in (part_of_node root_part (get_or roots n None)) (λ p. steps_below 5 p (slice_index leaves n % 16 ^ 5)) =
      sym (ap (λ o. steps_in o (λ p. steps_below 5 p (slice_index leaves n % 16 ^ 5))) (each n (omega arith)) ∙ one (slice_index leaves n) (nat_lt (slice_index leaves n) 1048576) refl) in
      (λ i. so_far n (omega arith) i + sym next i)
      ∙ sym (ap (λ k. sum_by (λ leaf. present_on_path m (key_over leaf 0)) (take k leaves)) (sym (add-one n)) ∙ sum_by_more (λ leaf. present_on_path m (key_over leaf 0)) leaves n 0 (omega arith))

  pub from_root : nodes_to root_part 5 (min 16 (length leaves)) roots leaves ≡ present_on_paths m leaves
  unfolding present_on_paths
  from_root = so_far (min 16 (length leaves)) (omega arith) ∙ ap (sum_by (λ leaf. present_on_path m (key_over leaf 0))) (take_min 16 leaves)

-- a tree's stored count is how many keys its map has
pub count-len : (m : Map) (root : Option (Arc Root Global)) (count : ℕ) → map_of (root_forest root) ≡ m → IsSoundTree root count → count ≡ len m
count-len m root count is sound = sound.counted ∙ sym (len-map_of (birth_of (whole root)) (root_forest root) sound.well) ∙ ap len is

-- what the map of a root has on the path to a leaf, and past the last leaf
module _ (m : Map) (a : Arc Root Global) (g : ℕ) (is : map_of (root_forest (Some a)) ≡ m) (well : IsWell 5 g (root_forest (Some a))) where
  pub leaf_here : (leaf : ℕ) → leaf < 1048576 → present_on_path m (key_over leaf 0) ≡ steps_below 5 (root_part a.value) leaf
  leaf_here leaf small =
      ap (λ m. present_on_path m (key_over leaf 0)) (sym is)
      ∙ present-root (map_of (root_forest (Some a))) (root_part a.value) (key_over leaf 0) (omega arith) (over_within leaf 0 small (omega arith)) (λ j l b. get-root j _ a g l b refl well)
      ∙ ap (steps_below 5 (root_part a.value)) (div-one leaf)

  pub leaf_past : (leaf : ℕ) → 1048576 ≤ leaf → present_on_path m (key_over leaf 0) ≡ 0
  leaf_past leaf large =
      ap (λ m. present_on_path m (key_over leaf 0)) (sym is)
      ∙ present-past (map_of (root_forest (Some a))) (key_over leaf 0) (let one = div-one leaf in omega (arith, one, large)) (λ j l h. get-past j (Some a) g l h well)

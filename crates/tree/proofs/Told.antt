-- The block that a tree tells at a key has the bytes that its map gives it.
use Rattle.std.proofs.Common.{◌≡◌, ◌≢◌, ℕ, zero, suc, ◌+◌, ◌-◌, ◌*◌, ◌/◌, ◌%◌, ◌^◌, ◌<◌, ◌≤◌, false, cond, List, length, map, set, get_or, Option, Some, None, refl, sym, ap, subst, ◌∙◌, arith, sub-one, ⊎_elim}
use Rattle.std.specs.Prelude.{◌==◌}
use Rattle.std.specs.List.{range_with_len}
use Rattle.std.specs.Option.{option_map, option_and_then}
use Rattle.std.specs.FinMap.{get}
use Rattle.std.proofs.lemmas.List.{same_lists, get_or-map, length-map, get_or-set_same, get_or-set_other}
use Rattle.std.proofs.lemmas.Nat.{pow-add}
use Rattle.std.proofs.Math.Nat.{pow-suc, div-add-mod, mod-lt, div-one, div-lt_iff_lt-mul}
use Rattle.base.specs.declared.number.Key.{Key}
use Rattle.base.specs.Key.{parent}
use Rattle.base.specs.Map.{Map, Cell, Block, block_of}
use Rattle.node.specs.Shape.{Part, part_at, cell_below, grown, done, forest_of}
use Rattle.node.specs.Entries.{IsWell}
use Rattle.node.specs.Kid.{IsSound, places}
use Rattle.node.proofs.Digits.{high_digits, low_digits}
use Rattle.node.proofs.Options.{same_value}
use Rattle.node.proofs.Order.{span_positive}
use Rattle.node.proofs.Places.{part_at-places, length-places-width, length-places, places-forest_of}
use Rattle.node.proofs.Sameness.{place_in, rest_in}
use Rattle.tree.proofs.Branches.{kid_at}
use Rattle.tree.specs.Branch.{child_key}
use Rattle.std.proofs.lemmas.Bool.{eqb-true, false_from_ne_true, cases_lt}
use Rattle.tree.specs.declared.block.Root.{Root}
use Rattle.tree.specs.Bytes.{pointers_bytes, pointers_of, bytes_of, root_block, maybe_block, AreBirthsRising}
use Rattle.tree.specs.Telling.{part_block, part_bytes, part_below}

pub part_below-deep : (d : ℕ) (p : Part) (q : ℕ) → d ≢ 0 → part_below d p q ≡ option_and_then (λ k. part_below (d - 1) k (q % 16 ^ (d - 1))) (part_at p.below (q / 16 ^ (d - 1)))
part_below-deep zero p q h = absurd (h refl)
part_below-deep (suc d) p q h = rw sub-one refl

-- the cell of the part below
cell_is : (d : ℕ) (p : Part) (q : ℕ) → cell_below d p q ≡ option_map (λ (r : Part). r.cell) (part_below d p q)
cell_is zero p q = refl
cell_is (suc d) p q = at (part_at p.below (q / 16 ^ d)) (λ k. cell_is d k (q % 16 ^ d))
  where
    at : (o : Option Part) → ((k : Part) → cell_below d k (q % 16 ^ d) ≡ option_map (λ (r : Part). r.cell) (part_below d k (q % 16 ^ d)))
        → option_and_then (λ k. cell_below d k (q % 16 ^ d)) o ≡ option_map (λ (r : Part). r.cell) (option_and_then (λ k. part_below d k (q % 16 ^ d)) o)
    at None h = refl
    at (Some k) h = h k

-- the cell at a place of a part
abbrev cell_at : ℕ → Part → Option Cell
cell_at i r = option_map (λ (k : Part). k.cell) (part_at r.below i)

-- the cell of a level, from the part at the place on the way to it
pub cell_deeper : (level l : ℕ) (p : Part) (at : ℕ) → l < level
    → cell_below (level - l) p (at / 16 ^ l) ≡ option_and_then (λ k. cell_below (level - 1 - l) k ((at % 16 ^ (level - 1)) / 16 ^ l)) (part_at p.below (at / 16 ^ (level - 1)))
cell_deeper level l p at h =
    let deep : level - l ≡ suc (level - 1 - l) = omega arith in
    let levels : l + (level - 1 - l) ≡ level - 1 = omega arith in
    ap (λ n. cell_below n p (at / 16 ^ l)) deep
    ∙ (λ z. option_and_then (λ k. cell_below (level - 1 - l) k (low_digits at l (level - 1 - l) (level - 1) levels z)) (part_at p.below (high_digits at l (level - 1 - l) (level - 1) levels z)))

-- where the blocks are on the way to a leaf, from a part at a level above 0 down
module _ (level at : ℕ) (path : List (Option Root)) (r : Root) (p : Part) (six : level < length path) (own : root_block r ≡ block_of p.cell) (deep : 0 < level) where
  abbrev marked : List (Option Root)
  marked = set path level (Some r)

  here : maybe_block (get_or marked level None) ≡ option_map block_of (cell_below (level - level) p (at / 16 ^ level))
  here =
      let none : 0 ≡ level - level = omega arith in
      ap maybe_block (get_or-set_same path level (Some r) None six) ∙ ap Some own ∙ ap (λ n. option_map block_of (cell_below n p (at / 16 ^ level))) none

  pub trace_kid : (k : Part) (new : List (Option Root)) → part_at p.below (at / 16 ^ (level - 1)) ≡ Some k
      → ((l : ℕ) → l ≤ level - 1 → maybe_block (get_or new l None) ≡ option_map block_of (cell_below (level - 1 - l) k ((at % 16 ^ (level - 1)) / 16 ^ l)))
      → ((l : ℕ) → level - 1 < l → get_or new l None ≡ get_or marked l None)
      → (l : ℕ) → l ≤ level → maybe_block (get_or new l None) ≡ option_map block_of (cell_below (level - l) p (at / 16 ^ l))
  trace_kid k new there below above l low = ⊎_elim
      (λ (lt : l < level). below l (omega arith) ∙ sym (ap (option_map block_of) (cell_deeper level l p at lt ∙ ap (option_and_then (λ k. cell_below (level - 1 - l) k ((at % 16 ^ (level - 1)) / 16 ^ l))) there)))
      (λ (ge : level ≤ l).
      let same : l ≡ level = omega arith in
      ap maybe_block (above l (omega arith)) ∙ ap (λ n. maybe_block (get_or marked n None)) same ∙ here ∙ ap (λ n. option_map block_of (cell_below (level - n) p (at / 16 ^ n))) (sym same))
      (cases_lt l level)

  pub trace_gap : part_at p.below (at / 16 ^ (level - 1)) ≡ None → ((l : ℕ) → l ≤ level → get_or path l None ≡ None)
      → (l : ℕ) → l ≤ level → maybe_block (get_or marked l None) ≡ option_map block_of (cell_below (level - l) p (at / 16 ^ l))
  trace_gap there empty l low = ⊎_elim
      (λ (lt : l < level).
      ap maybe_block (get_or-set_other path level l (Some r) None (λ e. omega arith) ∙ empty l low)
      ∙ sym (ap (option_map block_of) (cell_deeper level l p at lt ∙ ap (option_and_then (λ k. cell_below (level - 1 - l) k ((at % 16 ^ (level - 1)) / 16 ^ l))) there)))
      (λ (ge : level ≤ l).
      let same : l ≡ level = omega arith in
      ap (λ n. maybe_block (get_or marked n None)) same ∙ here ∙ ap (λ n. option_map block_of (cell_below (level - n) p (at / 16 ^ n))) (sym same))
      (cases_lt l level)

-- the key of a level over a leaf is one of its level's
pub over_within : (leaf l : ℕ) → leaf < 1048576 → l ≤ 5 → leaf / 16 ^ l < 16 ^ (5 - l)
over_within leaf l small low =
    let levels : 5 - l + l ≡ 5 = omega arith in
    let all : 16 ^ (5 - l) * 16 ^ l ≡ 16 ^ 5 = sym (pow-add 16 (5 - l) l) ∙ ap (λ n. 16 ^ n) levels in
    (div-lt_iff_lt-mul {k = 16 ^ l} {x = leaf} {y = 16 ^ (5 - l)} (span_positive l)).1 (omega (arith, all, small))

-- the index one level further down, by the place and the rest
further : (d q i : ℕ) → i < 16 → ((16 * q + i) / 16 ^ suc d ≡ q / 16 ^ d) × ((16 * q + i) % 16 ^ suc d ≡ 16 * (q % 16 ^ d) + i)
further d q i h =
    let s : ℕ = 16 ^ d in
    let positive = span_positive d in
    let power : 16 ^ suc d ≡ 16 ^ d * 16 = pow-suc 16 d in
    let rest : q % 16 ^ d < 16 ^ d = mod-lt q positive in
    let parts : 16 ^ d * (q / 16 ^ d) + q % 16 ^ d ≡ q = div-add-mod q (16 ^ d) in
    let turn : 16 ^ d * (q / 16 ^ d) ≡ (q / 16 ^ d) * 16 ^ d = omega arith in
    let times : (q / 16 ^ d) * 16 ^ suc d ≡ 16 * ((q / 16 ^ d) * 16 ^ d) = ap (λ x. (q / 16 ^ d) * x) power ∙ omega arith in
    let small : 16 * (q % 16 ^ d) + i < 16 ^ suc d = omega (arith, power, rest, h) in
    let whole : 16 * q + i ≡ (q / 16 ^ d) * 16 ^ suc d + (16 * (q % 16 ^ d) + i) = omega (arith, times, turn, parts) in (
      ap (λ x. x / 16 ^ suc d) whole ∙ place_in (q / 16 ^ d) (16 * (q % 16 ^ d) + i) (16 ^ suc d) small,
      ap (λ x. x % 16 ^ suc d) whole ∙ rest_in (q / 16 ^ d) (16 * (q % 16 ^ d) + i) (16 ^ suc d) small,
    )

-- the cell at a place of the part below
cell_further : (d : ℕ) (p : Part) (q i : ℕ) → q < 16 ^ d → i < 16 → cell_below (suc d) p (16 * q + i) ≡ option_and_then (cell_at i) (part_below d p q)
cell_further zero p q i small h =
    let none : q ≡ 0 = omega arith in
    let index : (16 * q + i) / 16 ^ zero ≡ i = div-one (16 * q + i) ∙ omega (arith, none) in
    ap (λ x. option_and_then (λ k. cell_below zero k ((16 * q + i) % 16 ^ zero)) (part_at p.below x)) index ∙ at (part_at p.below i)
  where
    at : (o : Option Part) → option_and_then (λ k. cell_below zero k ((16 * q + i) % 16 ^ zero)) o ≡ option_map (λ (k : Part). k.cell) o
    at None = refl
    at (Some k) = refl
cell_further (suc d) p q i small h =
    let f = further d q i h in
    (λ z. option_and_then (λ k. cell_below (suc d) k (f.1 z)) (part_at p.below (f.0 z))) ∙ at (part_at p.below (q / 16 ^ d)) (λ k. cell_further d k (q % 16 ^ d) i (mod-lt q (span_positive d)) h)
  where
    at : (o : Option Part) → ((k : Part) → cell_below (suc d) k (16 * (q % 16 ^ d) + i) ≡ option_and_then (cell_at i) (part_below d k (q % 16 ^ d)))
        → option_and_then (λ k. cell_below (suc d) k (16 * (q % 16 ^ d) + i)) o ≡ option_and_then (cell_at i) (option_and_then (λ k. part_below d k (q % 16 ^ d)) o)
    at None e = refl
    at (Some k) e = e k

-- a part below has its level's shape
sound_below : (d l : ℕ) (p r : Part) (q : ℕ) → IsSound (d + l) p → part_below d p q ≡ Some r → IsSound l r
sound_below zero l p r q s e =
    let same : p ≡ r = same_value p r e in
    let level : 0 + l ≡ l = omega arith in
    subst (IsSound l) same (subst (λ n. IsSound n p) level s)
sound_below (suc d) l p r q s e = at (part_at p.below (q / 16 ^ d)) refl e (λ k h f. sound_below d l k r (q % 16 ^ d) h f)
  where
    at : (o : Option Part) → part_at p.below (q / 16 ^ d) ≡ o → option_and_then (λ k. part_below d k (q % 16 ^ d)) o ≡ Some r
        → ((k : Part) → IsSound (d + l) k → part_below d k (q % 16 ^ d) ≡ Some r → IsSound l r) → IsSound l r
    at None there f rest = let g : None ≡ Some r = f in absurd (cc)
    at (Some k) there f rest =
        let level : suc d + l ≡ suc (d + l) = omega arith in
        rest k (kid_at (d + l) (q / 16 ^ d) p k (subst (λ n. IsSound n p) level s) there).1 f

sixteen_places : (l : ℕ) (r : Part) → IsSound (suc l) r → length (places r.below) ≡ 16
sixteen_places l r s = length-places-width r.below ∙ s.0.0

pub at_range : {X : Type 0} (f : ℕ → X) (d : X) (k a i : ℕ) → i < k → get_or (map f (range_with_len a k)) i d ≡ f (a + i)
at_range f d zero a i h = absurd (omega arith)
at_range f d (suc k) a zero h = let e : a ≡ a + 0 = omega arith in ap f e
at_range f d (suc k) a (suc i) h = at_range f d k (a + 1) i (omega arith) ∙ (let e : (a + 1) + i ≡ a + suc i = omega arith in ap f e)

pub range_long : {X : Type 0} (f : ℕ → X) (k a : ℕ) → length (map f (range_with_len a k)) ≡ k
range_long f zero a = refl
range_long f (suc k) a = ap suc (range_long f k (a + 1))

twice : (o : Option Part) → option_map block_of (option_map (λ (k : Part). k.cell) o) ≡ option_map part_block o
twice None = refl
twice (Some k) = refl

-- what the map has at the keys below a part's are the cells of its places
pub record HasPlaces (m : Map) (k : Key) (r : Part) : Type 0 where
  pub sixteen : length (places r.below) ≡ 16
  pub each : (i : ℕ) → i < 16 → get m (child_key k i) ≡ option_map (λ (x : Part). x.cell) (part_at r.below i)

same_pointers : (m : Map) (k : Key) (r : Part) → HasPlaces m k r → map (option_map part_block) (places r.below) ≡ pointers_of m k
unfolding pointers_of
same_pointers m k r h =
    let f : ℕ → Option Block = λ i. option_map block_of (get m (child_key k i)) in
    same_lists (map (option_map part_block) (places r.below)) (map f (range_with_len 0 16)) (length-map (places r.below) (option_map part_block) ∙ h.sixteen ∙ sym (range_long f 16 0)) (λ i d small.
    let within : i < 16 = omega (arith, length-map (places r.below) (option_map part_block), h.sixteen, small) in
    let index : 0 + i ≡ i = omega arith in
    get_or-map (option_map part_block) (places r.below) i None d (omega (arith, h.sixteen, within))
    ∙ sym (at_range f d 16 0 i within ∙ ap f index ∙ ap (option_map block_of) (h.each i within ∙ ap (option_map (λ (x : Part). x.cell)) (part_at-places r.below i)) ∙ twice (get_or (places r.below) i None)))

-- the bytes of a part are those that a map gives its block
pub same_bytes : (m : Map) (k : Key) (r : Part) → (0 < k.level → HasPlaces m k r) → part_bytes k.level r ≡ bytes_of m k r.cell
unfolding part_bytes bytes_of
same_bytes m k r h = at k.level refl
  where
    at : (l : ℕ) → k.level ≡ l → cond (k.level == 0) r.cell.bytes (pointers_bytes (k.level - 1) (map (option_map part_block) (places r.below))) ≡ cond (k.level == 0) r.cell.bytes (pointers_bytes (k.level - 1) (pointers_of m k))
    at zero e = rw e refl
    at (suc l) e = ap (λ ps. cond (k.level == 0) r.cell.bytes (pointers_bytes (k.level - 1) ps)) (same_pointers m k r (h (omega arith)))

-- a map that has at each key what stands below a part at the root
module _ (m : Map) (p : Part) (sound : IsSound 5 p) (has : (j : Key) → j.level ≤ 5 → j.index < 16 ^ (5 - j.level) → get m j ≡ cell_below (5 - j.level) p j.index) where
  module _ (k : Key) (low : k.level ≤ 5) (within : k.index < 16 ^ (5 - k.level)) where
    places_there : (r : Part) → part_below (5 - k.level) p k.index ≡ Some r → 0 < k.level → HasPlaces m k r
    places_there r e high =
        let lower : k.level - 1 ≤ 5 = omega arith in
        let deeper : 5 - (k.level - 1) ≡ suc (5 - k.level) = omega (arith, high, low) in
        let d : ℕ = 5 - k.level in
        record {
          sixteen =
              let levels : (5 - k.level) + suc (k.level - 1) ≡ 5 = omega (arith, high, low) in
              sixteen_places (k.level - 1) r (sound_below (5 - k.level) (suc (k.level - 1)) p r k.index (subst (λ n. IsSound n p) (sym levels) sound) e);
          each = λ i small.
              let power : 16 ^ suc (5 - k.level) ≡ 16 ^ (5 - k.level) * 16 = pow-suc 16 (5 - k.level) in
              let child_within : 16 * k.index + i < 16 ^ (5 - (k.level - 1)) = subst (λ n. 16 * k.index + i < 16 ^ n) (sym deeper) (omega (arith, power, within, small)) in
              has (child_key k i) lower child_within ∙ ap (λ n. cell_below n p (16 * k.index + i)) deeper
              ∙ cell_further (5 - k.level) p k.index i within small ∙ ap (option_and_then (cell_at i)) e;
        }

    pub tells : option_map (part_bytes k.level) (part_below (5 - k.level) p k.index) ≡ option_map (bytes_of m k) (get m k)
    tells = at (part_below (5 - k.level) p k.index) refl
      where
        at : (o : Option Part) → part_below (5 - k.level) p k.index ≡ o → option_map (part_bytes k.level) (part_below (5 - k.level) p k.index) ≡ option_map (bytes_of m k) (get m k)
        at None e = ap (option_map (part_bytes k.level)) e ∙ sym (ap (option_map (bytes_of m k)) (has k low within ∙ cell_is (5 - k.level) p k.index ∙ ap (option_map (λ (x : Part). x.cell)) e))
        at (Some r) e =
            ap (option_map (part_bytes k.level)) e ∙ ap Some (same_bytes m k r (places_there r e))
            ∙ sym (ap (option_map (bytes_of m k)) (has k low within ∙ cell_is (5 - k.level) p k.index ∙ ap (option_map (λ (x : Part). x.cell)) e))

  -- a block is no younger than the one that points to it
  births : (k : Key) (c x : Cell) → k.level < 5 → k.index < 16 ^ (5 - k.level) → get m k ≡ Some c → get m (parent k) ≡ Some x → c.birth ≤ x.birth
  births k c x low within here above =
      let l : ℕ = k.level in
      let d : ℕ = 4 - k.level in
      let deep : 5 - k.level ≡ suc (4 - k.level) = omega (arith, low) in
      let up : 5 - (k.level + 1) ≡ 4 - k.level = omega arith in
      let power : 16 ^ suc (4 - k.level) ≡ 16 ^ (4 - k.level) * 16 = pow-suc 16 (4 - k.level) in
      let width : 16 ^ (5 - k.level) ≡ 16 ^ suc (4 - k.level) = ap (λ n. 16 ^ n) deep in
      let outer : k.index / 16 < 16 ^ (4 - k.level) = omega (arith, within, width, power) in
      let outer' : k.index / 16 < 16 ^ (5 - (k.level + 1)) = subst (λ n. k.index / 16 < 16 ^ n) (sym up) outer in
      let rest : k.index % 16 < 16 = omega arith in
      let index : 16 * (k.index / 16) + k.index % 16 ≡ k.index = omega arith in
      let parent_cell : cell_below (4 - k.level) p (k.index / 16) ≡ Some x = sym (has (parent k) (omega arith) outer' ∙ ap (λ n. cell_below n p (k.index / 16)) up) ∙ above in
      let own_cell : option_and_then (cell_at (k.index % 16)) (part_below (4 - k.level) p (k.index / 16)) ≡ Some c =
      sym (cell_further (4 - k.level) p (k.index / 16) (k.index % 16) outer rest) ∙ ap (cell_below (suc (4 - k.level)) p) index
      ∙ sym (has k (omega arith) within ∙ ap (λ n. cell_below n p k.index) deep) ∙ here in
      at (part_below (4 - k.level) p (k.index / 16)) refl (sym (cell_is (4 - k.level) p (k.index / 16)) ∙ parent_cell) own_cell
    where
      by_kid : (r : Part) (o : Option Part) → IsSound (suc k.level) r → r.cell ≡ x → part_at r.below (k.index % 16) ≡ o → option_map (λ (y : Part). y.cell) o ≡ Some c → c.birth ≤ x.birth
      by_kid r None s e there f = let g : None ≡ Some c = f in absurd (cc)
      by_kid r (Some q) s e there f =
          let kid = kid_at k.level (k.index % 16) r q s there in
          let same : q.cell ≡ c = same_value q.cell c f in
          let young = kid.0 in
          let b = ap (λ (y : Cell). y.birth) same in
          let t = ap (λ (y : Cell). y.birth) e in
          omega (arith, young, b, t)

      at : (o : Option Part) → part_below (4 - k.level) p (k.index / 16) ≡ o → option_map (λ (y : Part). y.cell) (part_below (4 - k.level) p (k.index / 16)) ≡ Some x
          → option_and_then (cell_at (k.index % 16)) (part_below (4 - k.level) p (k.index / 16)) ≡ Some c → c.birth ≤ x.birth
      at None e f g = let n : None ≡ Some x = sym (ap (option_map (λ (y : Part). y.cell)) e) ∙ f in absurd (cc)
      at (Some r) e f g =
          let levels : (4 - k.level) + suc k.level ≡ 5 = omega (arith, low) in
          let s = sound_below (4 - k.level) (suc k.level) p r (k.index / 16) (subst (λ n. IsSound n p) (sym levels) sound) e in
          by_kid r (part_at r.below (k.index % 16)) s (same_value r.cell x (sym (ap (option_map (λ (y : Part). y.cell)) e) ∙ f)) refl (sym (ap (option_and_then (cell_at (k.index % 16))) e) ∙ g)

  pub births_rise : ((j : Key) → 5 < j.level → get m j ≡ None) → ((j : Key) → j.level ≤ 5 → 16 ^ (5 - j.level) ≤ j.index → get m j ≡ None) → AreBirthsRising m
  births_rise high past k c x here above =
      ⊎_elim
      (λ (low : k.level < 5). ⊎_elim
      (λ (within : k.index < 16 ^ (5 - k.level)). births k c x low within here above)
      (λ (over : 16 ^ (5 - k.level) ≤ k.index). let n : None ≡ Some c = sym (past k (omega arith) over) ∙ here in absurd (cc))
      (cases_lt k.index (16 ^ (5 - k.level))))
      (λ (top : 5 ≤ k.level). let n : None ≡ Some x = sym (high (parent k) (omega arith)) ∙ above in absurd (cc))
      (cases_lt k.level 5)

-- a node's own block
pub tells_here : (level d at : ℕ) (p : Part) (ps : List (Option Block)) → d ≡ 0 → 0 < level → ps ≡ map (option_map part_block) (places p.below) → Some (pointers_bytes (level - 1) ps) ≡ option_map (part_bytes (level - d)) (part_below d p at)
unfolding part_bytes
tells_here level d at p ps none high e =
    let same : level - 0 ≡ level = omega arith in
    let inner : (level == 0) ≡ false = false_from_ne_true _ (λ t. let z = eqb-true level 0 t in omega (arith, z, high)) in
    ap (λ qs. Some (pointers_bytes (level - 1) qs)) e
    ∙ ap (λ b. Some (cond b p.cell.bytes (pointers_bytes (level - 1) (map (option_map part_block) (places p.below))))) (sym inner)
    ∙ ap (λ l. Some (part_bytes l p)) (sym same)
    ∙ ap (λ x. option_map (part_bytes (level - x)) (part_below x p at)) (sym none)

-- the root's part of a well shaped tree
pub root_sound : (p : Part) (g : ℕ) → IsWell 5 g (grown p.cell p.below done) → IsSound 5 p
root_sound p g w = (w.1, w.2)

-- lists of sixteen places
pub same_roots : {A : Type 0} (f : A → Part) (roots : List (Option Root)) (kids : List (Option A)) → length roots ≡ 16 → length kids ≡ 16
    → ((i : ℕ) → i < 16 → maybe_block (get_or roots i None) ≡ option_map part_block (option_map f (get_or kids i None))) → map maybe_block roots ≡ map (option_map part_block) (places (forest_of f kids))
same_roots f roots kids lr lk each =
    same_lists (map maybe_block roots) (map (option_map part_block) (places (forest_of f kids)))
    (length-map roots maybe_block ∙ lr ∙ sym (length-map (places (forest_of f kids)) (option_map part_block) ∙ length-places f kids ∙ lk))
    (λ i d small.
    let within : i < 16 = omega (arith, length-map roots maybe_block, lr, small) in
    get_or-map maybe_block roots i None d (omega (arith, lr, within)) ∙ each i within
    ∙ sym (get_or-map (option_map part_block) (places (forest_of f kids)) i None d (omega (arith, length-places f kids, lk, within)) ∙ ap (option_map part_block) (places-forest_of f kids i)))

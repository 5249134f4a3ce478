-- What one write alone does to a key on the way to its leaf, by what it does to the place below.
use Rattle.std.proofs.Common.{◌≡◌, ℕ, suc, ◌+◌, ◌-◌, ◌*◌, ◌/◌, ◌%◌, ◌^◌, ◌<◌, ◌≤◌, true, false, List, [], ◌∷◌, ◌++◌, length, get_or, set, take, Option, None, refl, sym, ap, ◌∙◌, arith, append_assoc, sub-one}
use Rattle.std.specs.Prelude.{Bool, cond, is_some}
use Rattle.std.proofs.lemmas.Grind.{get_or-set_at}
use Rattle.std.proofs.lemmas.List.{length-set, take-set-le}
use Rattle.base.specs.Counting.{counted}
use Rattle.base.specs.declared.number.Dead.{Dead}
use Rattle.node.specs.Entries.{key_at}
use Rattle.node.specs.Kid.{IsKid, places_of}
use Rattle.node.specs.Shape.{Part}
use Rattle.batch.specs.declared.findings.Claim.{Claim}
use Rattle.batch.specs.Said.{Said, IsOneLeaf, IsWay}
use Rattle.batch.specs.Touch.{touched, stays, claims, released, dropped, claim_of, let_go, own_block, young_one}
use Rattle.batch.specs.Way.{way_claims, way_released}
use Rattle.batch.proofs.Metering.{part_counted}
use Rattle.batch.proofs.OneLeaf.{next_index, on_touched, on_stays, claims_below, released_below, dropped_below}
use Rattle.batch.proofs.WayLaws.{way_more, gone_more}
use Rattle.batch.proofs.TouchLaws.{own_claims, own_released, claims_at_leaf, released_at_leaf, claims_down, released_down, dropped_down}

-- the leaf
module _ (s : ℕ → Said) (leaf : ℕ) (one : IsOneLeaf s leaf true) (g j level : ℕ) (o : Option Part) (k : IsKid 0 g o) (fits : level ≡ 0) (at : j ≡ leaf / 16 ^ level) where
  own_leaf : j ≡ leaf / 16 ^ 0
  own_leaf = at ∙ ap (λ n. leaf / 16 ^ n) fits

  pub claims_of_leaf : (y : ℕ) (d : Option Dead) → d ≡ own_block o → claim_of true true (record { level = level; index = j }) y d ≡ claims s y 0 j o
  claims_of_leaf y d e =
      own_claims s y 0 j level o true true d fits (sym (on_touched s leaf one 0 g j o own_leaf k)) (sym (on_stays s leaf one 0 g j o own_leaf k)) e
      ∙ sym (claims_at_leaf s y j o)

  pub released_of_leaf : (y : ℕ) (d : Option Dead) → d ≡ own_block o → let_go true true y d ≡ released s y 0 j o
  released_of_leaf y d e =
      own_released s y 0 j o true true d (sym (on_touched s leaf one 0 g j o own_leaf k)) (sym (on_stays s leaf one 0 g j o own_leaf k)) e
      ∙ sym (released_at_leaf s y j o)

-- a key above the leaves, with the place below it on the way
module _ (s : ℕ → Said) (leaf : ℕ) (one : IsOneLeaf s leaf true) (l g j level below place : ℕ) (o kid : Option Part) (k : IsKid (suc l) g o) (fits : level ≡ suc l) (at : j ≡ leaf / 16 ^ level) (next : below ≡ leaf / 16 ^ (level - 1)) (is : place ≡ below % 16) (there : kid ≡ get_or (places_of o) place None) where
  own_key : j ≡ leaf / 16 ^ suc l
  own_key = at ∙ ap (λ n. leaf / 16 ^ n) fits

  own_below : below ≡ leaf / 16 ^ l
  own_below = next ∙ ap (λ n. leaf / 16 ^ (n - 1)) fits ∙ rw sub-one refl

  same : 16 * j + place ≡ below
  same = let n = next_index s leaf one l j own_key in omega (arith, n, is, own_below)

  way : IsWay s l j place true
  way = record { leaf = leaf; one = one; few = omega (arith, is); at = same ∙ own_below }

  is_touched : true ≡ touched s (suc l) j o
  is_touched = sym (on_touched s leaf one (suc l) g j o own_key k)

  is_kept : true ≡ stays s (suc l) j o
  is_kept = sym (on_stays s leaf one (suc l) g j o own_key k)

  pub claims_above : (y : ℕ) (d : Option Dead) (xs ys zs : List Claim) → d ≡ own_block o → ys ≡ xs ++ claims s y l below kid → zs ≡ ys ++ claim_of true true (record { level = level; index = j }) y d
      → zs ≡ xs ++ claims s y (suc l) j o
  claims_above y d xs ys zs e f h =
      let own = own_claims s y (suc l) j level o true true d fits is_touched is_kept e in
      let mine = claim_of (touched s (suc l) j o) (stays s (suc l) j o) (key_at (suc l) j) y (own_block o) in
      let under = claims_below s l g j place true way o k y ∙ (λ i. claims s y l (same i) (sym there i)) in
      h ∙ (λ i. f i ++ own i) ∙ append_assoc xs (claims s y l below kid) mine ∙ ap (λ cs. xs ++ cs) (sym (claims_down s y l j o ∙ ap (λ cs. cs ++ mine) under))

  pub released_above : (y : ℕ) (d : Option Dead) (xs ys zs : List Dead) → d ≡ own_block o → ys ≡ xs ++ released s y l below kid → zs ≡ ys ++ let_go true true y d
      → zs ≡ xs ++ released s y (suc l) j o
  released_above y d xs ys zs e f h =
      let own = own_released s y (suc l) j o true true d is_touched is_kept e in
      let mine = let_go (touched s (suc l) j o) (stays s (suc l) j o) y (own_block o) in
      let under = released_below s l g j place true way o k y ∙ (λ i. released s y l (same i) (sym there i)) in
      h ∙ (λ i. f i ++ own i) ∙ append_assoc xs (released s y l below kid) mine ∙ ap (λ ds. xs ++ ds) (sym (released_down s y l j o ∙ ap (λ ds. ds ++ mine) under))

  pub counted_above : (y m own all : ℕ) (b : Bool) → b ≡ is_some o → own ≡ counted m (cond b 1 0) → counted own (length (dropped s y l below kid)) ≤ all → counted m (length (dropped s y (suc l) j o)) ≤ all
  counted_above y m own all b e h f =
      let mine = let_go (touched s (suc l) j o) false y (own_block o) in
      let under = dropped_below s l g j place true way o k y ∙ (λ i. dropped s y l (same i) (sym there i)) in
      part_counted m own all (touched s (suc l) j o) b y o (dropped s y l below kid) (dropped s y (suc l) j o) (dropped_down s y l j o ∙ ap (λ ds. ds ++ mine) under) e h f

-- the block of one level more
module _ (y leaf level l : ℕ) (blocks : List (Option Dead)) (own : Option Dead) (fits : level ≡ l) (low : level ≤ 5) (within : level < length blocks) where
  long : l < length (set blocks level own)
  long = let n = length-set blocks level own in omega (arith, n, fits, within)

  same_below : take l (set blocks level own) ≡ take l blocks
  same_below = take-set-le l blocks level own (omega (arith, fits))

  here : own ≡ get_or (set blocks level own) l None
  here = sym (get_or-set_at blocks level l own None (sym fits) within)

  pub claims_on_top : way_claims y leaf (take (suc l) (set blocks level own)) ≡ way_claims y leaf (take l blocks) ++ claim_of true true (record { level = level; index = leaf / 16 ^ level }) y own
  claims_on_top =
      sym (way_more y leaf (set blocks level own) l (leaf / 16 ^ level) own (omega (arith, fits, low)) long (ap (λ n. leaf / 16 ^ n) fits) here)
      ∙ (λ i. way_claims y leaf (same_below i) ++ record { key = record { level = sym fits i; index = leaf / 16 ^ level }; kept = young_one y own } ∷ [])

  pub released_on_top : way_released y (take (suc l) (set blocks level own)) ≡ way_released y (take l blocks) ++ let_go true true y own
  released_on_top = sym (gone_more y (set blocks level own) l own long here) ∙ ap (λ bs. way_released y bs ++ let_go true true y own) same_below

-- What a survey has counted at least: the blocks of the touched keys.
use Rattle.std.proofs.Common.{◌≡◌, ℕ, ◌+◌, ◌-◌, ◌<◌, ◌≤◌, Bool, true, false, cond, List, [], ◌++◌, length, get_or, take, Option, Some, None, ap, ◌∙◌, arith, length-append}
use Rattle.std.specs.Prelude.{is_some}
use Rattle.base.specs.Counting.{counted, most}
use Rattle.base.specs.declared.number.Dead.{Dead}
use Rattle.node.specs.Shape.{Part}
use Rattle.batch.specs.Touch.{later_first, let_go, own_block}
use Rattle.batch.proofs.KidLaws.{later_split}

-- nothing is counted where nothing is dropped
pub none_counted : {A : Type 0} (m : ℕ) (xs : List A) → xs ≡ [] → counted m (length xs) ≤ m
unfolding counted most
none_counted m xs e = let n = ap length e in omega (arith, n)

-- a key drops one block at most, and none where it is absent
own_few : (t : Bool) (y : ℕ) (q : Option Part) → length (let_go t false y (own_block q)) ≤ cond (is_some q) 1 0
own_few t y None = omega arith
own_few true y (Some p) = omega arith
own_few false y (Some p) = omega arith

-- a part's block is counted, and those below it
pub part_counted : (m own all : ℕ) (t b : Bool) (y : ℕ) (q : Option Part) (below xs : List Dead) → xs ≡ below ++ let_go t false y (own_block q) → b ≡ is_some q → own ≡ counted m (cond b 1 0)
    → counted own (length below) ≤ all → counted m (length xs) ≤ all
unfolding counted most
part_counted m own all t b y q below xs e s o h =
    let n = ap length e in
    let a = length-append below (let_go t false y (own_block q)) in
    let f = own_few t y q in
    let k = ap {B = ℕ} (λ (x : Bool). cond x 1 0) s in
    omega (arith, n, a, f, k, o, h)

pub leaf_counted : (m all : ℕ) (t b : Bool) (y : ℕ) (q : Option Part) (xs : List Dead) → xs ≡ let_go t false y (own_block q) → b ≡ is_some q → all ≡ counted m (cond b 1 0) → counted m (length xs) ≤ all
unfolding counted most
leaf_counted m all t b y q xs e s o =
    let n = ap length e in
    let f = own_few t y q in
    let k = ap {B = ℕ} (λ (x : Bool). cond x 1 0) s in
    omega (arith, n, f, k, o)

-- a step over the places, by how many were passed
pub meter_back : (f f' : ℕ → Option Part → List Dead) (j back : ℕ) (os : List (Option Part)) (kid : Option Part) (first now next all : ℕ) → back < 16 → length os ≡ 16 → kid ≡ get_or os (15 - back) None
    → counted first all ≤ counted now (length (later_first f j (take (16 - back) os))) → counted now (length (f' (j + (15 - back)) kid)) ≤ next → f' (j + (15 - back)) kid ≡ f (j + (15 - back)) kid
    → counted first all ≤ counted next (length (later_first f j (take (16 - (back + 1)) os)))
unfolding counted most
meter_back f f' j back os kid first now next all h n at e given same =
    let s = ap length (later_split f j back os h n) in
    let a = length-append (f (j + (15 - back)) (get_or os (15 - back) None)) (later_first f j (take (16 - (back + 1)) os)) in
    let k = ap length (same ∙ ap (f (j + (15 - back))) at) in
    omega (arith, s, a, k, e, given)

-- and where all were passed
pub meter_end : (first now n all : ℕ) → n ≡ 0 → counted first all ≤ counted now n → counted first all ≤ now
unfolding counted most
meter_end first now n all z h = omega (arith, z, h)

-- What putting a batch in force has counted at least: the blocks of the touched keys, and the new ones.
use Rattle.std.proofs.Common.{◌≡◌, ℕ, ◌+◌, ◌-◌, ◌≤◌, Bool, true, false, List, ◌++◌, length, Option, Some, None, ap, arith, length-append}
use Rattle.base.specs.Counting.{counted, most}
use Rattle.base.specs.declared.number.Dead.{Dead}
use Rattle.node.specs.Shape.{Part}
use Rattle.batch.specs.Touch.{let_go, own_block}

-- a key drops one block at most
own_few : (t : Bool) (y : ℕ) (q : Option Part) → length (let_go t false y (own_block q)) ≤ 1
own_few t y None = omega arith
own_few true y (Some p) = omega arith
own_few false y (Some p) = omega arith

-- a leaf is counted once
pub leaf_counted : (m all : ℕ) (t : Bool) (y : ℕ) (q : Option Part) (xs : List Dead) → xs ≡ let_go t false y (own_block q) → all ≡ counted m 1 → counted m (length xs) ≤ all
unfolding counted most
leaf_counted m all t y q xs e o =
    let n = ap length e in
    let f = own_few t y q in
    omega (arith, n, f, o)

-- a node is counted once, and those below it
pub node_counted : (m own all : ℕ) (t : Bool) (y : ℕ) (q : Option Part) (below xs : List Dead) → xs ≡ below ++ let_go t false y (own_block q) → own ≡ counted m 1 → counted own (length below) ≤ all → counted m (length xs) ≤ all
unfolding counted most
node_counted m own all t y q below xs e o h =
    let n = ap length e in
    let a = length-append below (let_go t false y (own_block q)) in
    let f = own_few t y q in
    omega (arith, n, a, f, o, h)

-- new blocks, by the places before and after: a node makes one at most
pub one_made : (m all next to : ℕ) → all ≡ counted m 1 → to ≤ next + 1 → counted m (to - next) ≤ all
unfolding counted most
one_made m all next to o l = omega (arith, o, l)

pub more_made : (m own all next at to : ℕ) → own ≡ counted m 1 → counted own (at - next) ≤ all → to ≤ at + 1 → counted m (to - next) ≤ all
unfolding counted most
more_made m own all next at to o h l = omega (arith, o, h, l)

pub none_made : (m next : ℕ) → counted m (next - next) ≤ m
unfolding counted most
none_made m next = omega arith

-- those of places in turn
pub made_in_turn : (m now all next at to : ℕ) → counted m (at - next) ≤ now → counted now (to - at) ≤ all → counted m (to - next) ≤ all
unfolding counted most
made_in_turn m now all next at to h k = omega (arith, h, k)

-- what has been counted since is counted from before, too
pub counted_later : (m n k all : ℕ) → m ≤ n → counted n k ≤ all → counted m k ≤ all
unfolding counted most
counted_later m n k all h c = omega (arith, h, c)

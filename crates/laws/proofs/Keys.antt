-- Maps that are the same at a key and below it.
use Rattle.std.proofs.Common.{◌≡◌, ◌-◌, ◌/◌, ◌^◌, ap, ◌∙◌, arith}
use Rattle.std.specs.Prelude.{IsTrue, nat_le, ◌==◌}
use Rattle.std.specs.FinMap.{get}
use Rattle.std.proofs.lemmas.Bool.{eq-eqb, le-leb, and_from}
use Rattle.std.proofs.Math.Nat.{div-one}
use Rattle.base.specs.declared.number.Key.{Key}
use Rattle.base.specs.Key.{is_at_or_below}
use Rattle.base.specs.Map.{Map}

-- two maps are the same at a key and below it
abbrev pub IsSameBelow : Key → Map → Map → Type 0
IsSameBelow key m n = (q : Key) → IsTrue (is_at_or_below key q) → get m q ≡ get n q

pub itself_below : (k : Key) → IsTrue (is_at_or_below k k)
itself_below k =
    let z : k.level - k.level ≡ 0 = omega arith in
    and_from (nat_le k.level k.level) (k.index / 16 ^ (k.level - k.level) == k.index) (le-leb k.level k.level (omega arith))
    (eq-eqb (k.index / 16 ^ (k.level - k.level)) k.index (ap (λ j. k.index / 16 ^ j) z ∙ div-one k.index))

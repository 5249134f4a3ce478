-- Where the leaves of a key lie.
use Rattle.std.proofs.Common.{◌≡◌, ◌+◌, ◌-◌, ◌*◌, ◌^◌, ◌<◌, ◌≤◌, sym, ap, ◌∙◌, arith}
use Rattle.std.proofs.Math.Nat.{mul-le-mul_left, mul-le-mul_right, one-le-pow}
use Rattle.std.proofs.lemmas.Nat.{pow-add}
use Rattle.base.specs.declared.number.Key.{Key}
use Rattle.base.specs.Key.{IsKey, first_leaf}

-- a key's last leaf is one of the dataset's
pub end_le : (k : Key) → IsKey k → (k.index + 1) * 16 ^ k.level ≤ 1048576
end_le k h =
    let index = h.index in
    let level = h.level in
    let most : (k.index + 1) * 16 ^ k.level ≤ 16 ^ (5 - k.level) * 16 ^ k.level = mul-le-mul_right (16 ^ k.level) (omega arith) in
    let five : (5 - k.level) + k.level ≡ 5 = omega arith in
    let all : 16 ^ (5 - k.level) * 16 ^ k.level ≡ 16 ^ 5 = sym (pow-add 16 (5 - k.level) k.level) ∙ ap (λ n. 16 ^ n) five in
    omega (arith, most, all)

-- a key's first leaf is before its end
pub start_before : (k : Key) → first_leaf k < (k.index + 1) * 16 ^ k.level
start_before k = let positive = one-le-pow k.level 16 (omega arith) in omega arith

-- a key's index is below the number of leaves
pub index_bound : (k : Key) → IsKey k → k.index < 1048576
index_bound k h =
    let positive = one-le-pow k.level 16 (omega arith) in
    let most = end_le k h in
    let once : (k.index + 1) * 1 ≤ (k.index + 1) * 16 ^ k.level = mul-le-mul_left (k.index + 1) positive in
    omega (arith, most, once)

-- a key's index has 4 bytes
pub index_fits : (k : Key) → IsKey k → k.index < 2 ^ 32
index_fits k h = omega (arith, index_bound k h)

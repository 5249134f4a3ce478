-- Logarithms of numbers.
use Rattle.std.proofs.Common.{ℕ, zero, suc, ◌+◌, ◌*◌, ◌/◌, ◌≤◌, ◌<◌, arith}
use Rattle.std.proofs.Math.Nat.{mul-le-mul}
use Rattle.deadlist.specs.Bits.{bits, halvings, search_steps}

halvings_le : (k j m n : ℕ) → m ≤ k → n ≤ j → m ≤ n → halvings k m ≤ halvings j n
halvings_le zero j m n hm hn le = omega arith
halvings_le (suc k) j zero n hm hn le = omega arith
halvings_le (suc k) zero (suc m) n hm hn le = absurd (omega arith)
halvings_le (suc k) (suc j) (suc m) zero hm hn le = absurd (omega arith)
halvings_le (suc k) (suc j) (suc m) (suc n) hm hn le =
    let ih = halvings_le k j (suc m / 2) (suc n / 2) (omega arith) (omega arith) (omega arith) in
    omega (arith, ih)

pub bits_le : (m n : ℕ) → m ≤ n → bits m ≤ bits n
unfolding bits
bits_le m n le = halvings_le m n m n (omega arith) (omega arith) le

-- a number that is no more than half of one has a digit less
pub bits_half : (m n : ℕ) → m + m ≤ n → 0 < n → suc (bits m) ≤ bits n
unfolding bits
bits_half m zero le pos = absurd (omega arith)
bits_half m (suc n) le pos =
    let ih = halvings_le m n m (suc n / 2) (omega arith) (omega arith) (omega arith) in
    omega (arith, ih)

-- and twice it and one more has a digit more at most
pub bits_double : (m : ℕ) → bits (suc (m + m)) ≤ suc (bits m)
unfolding bits
bits_double m =
    let k = halvings_le (m + m) m (suc (m + m) / 2) m (omega arith) (omega arith) (omega arith) in
    omega (arith, k)

pub square_le : (a b : ℕ) → a ≤ b → a * a ≤ b * b
square_le a b le = mul-le-mul le le

pub search_steps_le : (m n : ℕ) → m ≤ n → search_steps m ≤ search_steps n
unfolding search_steps
search_steps_le m n le = let s = square_le (bits m) (bits n) (bits_le m n le) in omega (arith, s)

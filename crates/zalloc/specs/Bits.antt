-- The bits of a word.
use Rattle.std.specs.Prelude.{◌≡◌, ℕ, ◌<◌, ◌≤◌, ◌⊎◌, ◌==◌, Bool, true, false}
use Rattle.std.specs.Int.{bit_at}

-- a bit is one
abbrev pub is_one : ℕ → ℕ → Bool
is_one word i = bit_at word i == 1

-- all bits of a word of 64 are the same
abbrev pub IsEven : ℕ → Type 0
IsEven word = (word ≡ 0) ⊎ (word ≡ 18446744073709551615)

-- the lowest bit that is one, from one on
pub record IsLowest (word start bit : ℕ) : Type 0 where
  pub from : start ≤ bit
  pub within : bit < 64
  pub one : is_one word bit ≡ true
  pub below : (i : ℕ) → start ≤ i → i < bit → is_one word i ≡ false

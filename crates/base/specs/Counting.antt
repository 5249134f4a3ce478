-- Counts that stop at the greatest number of 64 bits (profile).
use Rattle.std.specs.Prelude.{ℕ, ◌+◌, ◌-◌, ◌^◌, min}

-- the greatest number of 64 bits
unfoldable pub most : ℕ
most = 2 ^ 64 - 1

-- a count after n more
unfoldable pub counted : ℕ → ℕ → ℕ
counted count n = min (count + n) most

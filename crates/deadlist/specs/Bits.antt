-- Logarithms of numbers.
use Rattle.std.specs.Prelude.{ℕ, zero, suc, ◌+◌, ◌*◌, ◌/◌}

-- how often a number can be halved, rounded down, until it is 0, but no more often than the first number says
abbrev pub halvings : ℕ → ℕ → ℕ
halvings zero n = zero
halvings (suc most) zero = zero
halvings (suc most) (suc n) = suc (halvings most (suc n / 2))

-- and however often that is: its binary digits, which are one more than its logarithm
unfoldable pub bits : ℕ → ℕ
bits n = halvings n n

-- how many of n entries a sum looks at, at most, where they stand in order: in each of no more than bits n runs as many as it takes to halve
-- it until nothing is left; and those behind the runs that were too few for one more (profile)
unfoldable pub search_steps : ℕ → ℕ
search_steps n = bits n * bits n + 63

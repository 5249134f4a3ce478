-- The numbers of objects and of their blocks.
use Rattle.std.specs.Prelude.{◌≤◌, ◌⊎◌, ℕ}

-- no dataset has such a block of an object: objects are 0 to 255, and their blocks 0 to 4095 (profile)
abbrev pub IsNoBlock : ℕ → ℕ → Type 0
IsNoBlock object block = (256 ≤ object) ⊎ (4096 ≤ block)

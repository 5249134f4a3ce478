-- Entries of a dead list in order of their numbers.
use Rattle.std.specs.Prelude.{ℕ, ◌+◌, ◌≤◌, ◌<◌, List, [], ◌∷◌}
use Rattle.base.specs.declared.number.Dead.{Dead}

-- their numbers rise from the least on, and they were born after one group and by another (profile)
abbrev pub AreRising : ℕ → ℕ → ℕ → List Dead → Type 0
AreRising cut low least [] = Unit {0}
AreRising cut low least (d ∷ ds) = (least ≤ d.block.0) × (cut < d.birth.0) × (d.birth.0 ≤ low) × AreRising cut low (d.block.0 + 1) ds

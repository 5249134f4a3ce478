-- Bytes that are handed out by pieces.
use Rattle.std.specs.Prelude.{◌≡◌, ℕ, ◌-◌, min, List, ◌++◌, length, take, drop}

-- so many bytes were copied into the front of a buffer, those from a place on: as many as fit and are there (profile)
pub record IsPiece (bytes : List ℕ) (from : ℕ) (before after : List ℕ) (count : ℕ) : Type 0 where
  pub size : count ≡ min (length bytes - from) (length before)
  pub copied : after ≡ take count (drop from bytes) ++ drop count before

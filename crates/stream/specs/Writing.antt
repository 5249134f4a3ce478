-- What the parts of a writer put out.
use Rattle.std.specs.Prelude.{Option, ℕ, List, ◌++◌}
use Rattle.std.specs.Io.KnownBytes.{Appends}
use Rattle.sha2.specs.declared.Sha256.{Sha256}
use Rattle.sha2.specs.Hashers.{Holds256}

-- a writer took these bytes, and so did a hasher
pub record Puts (held later : Option (List ℕ)) (old new : Sha256) (bytes : List ℕ) : Type 0 where
  pub written : Appends held later bytes
  pub hashed : (m : List ℕ) → Holds256 old m → Holds256 new (m ++ bytes)

-- The first bytes of names as numbers.
use Rattle.std.specs.Prelude.{ℕ, List}
use Rattle.std.specs.Int.{w64, from_be_bytes}

-- the first eight bytes, the first one highest, with zeros behind a shorter name (profile)
unfoldable pub name_head : List ℕ → ℕ
name_head name = from_be_bytes w64 name

-- The bytes of a leaf that is to be written.
use Rattle.std.specs.Prelude.{ℕ, List, replicate}
use Rattle.image.specs.declared.contents.Held.{Held}
use Rattle.image.specs.declared.contents.Held.TheVariants.{Lent, Own, Zeros}

-- they are lent, or a copy, or zeros (profile)
abbrev pub held_bytes : Held → List ℕ
held_bytes (Lent bytes) = bytes.now
held_bytes (Own bytes) = bytes.value
held_bytes Zeros = replicate 512 0

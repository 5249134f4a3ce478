-- What reading a key reaches.
use Rattle.std.specs.Prelude.{ℕ, zero, suc, ◌+◌, ◌-◌, ◌/◌, ◌^◌, cond, nat_le, is_some}
use Rattle.std.specs.FinMap.{get}
use Rattle.base.specs.declared.number.Key.{Key}
use Rattle.base.specs.Key.{parent}
use Rattle.base.specs.Map.{Map}

-- the key of a level over a leaf (On-Disk Specification, chapter 3)
abbrev pub key_over : ℕ → ℕ → Key
key_over leaf l = record { level = l; index = leaf / 16 ^ l }

-- how many of a key and its next n ancestors are present (On-Disk Specification, chapter 3)
abbrev pub present_up : ℕ → Map → Key → ℕ
present_up zero m k = cond (is_some (get m k)) 1 0
present_up (suc n) m k = cond (is_some (get m k)) 1 0 + present_up n m (parent k)

-- how many present keys stand on the way from the root, at level 5, to a key, its own among them (On-Disk Specification, chapter 3)
unfoldable pub present_on_path : Map → Key → ℕ
present_on_path m k = cond (nat_le k.level 5) (present_up (5 - k.level) m k) 0

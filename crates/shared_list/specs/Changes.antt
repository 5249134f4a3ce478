-- One change of a chunk (profile).
use Rattle.std.specs.Prelude.{◌<◌, ◌≤◌, List, length, insert, remove, slice_set}
use Rattle.shared_list.specs.declared.change.Change.{Change}
use Rattle.shared_list.specs.declared.change.Change.TheVariants.{Put, Set, Take}

-- it can be made: a chunk has 1 to 64 elements before it and after it
abbrev pub CanChange : {X : Type 0} → List X → Change X → Type 0
CanChange xs (Put i a) = (length xs < 64) × (i ≤ length xs)
CanChange xs (Set i a) = i < length xs
CanChange xs (Take i) = (i < length xs) × (1 < length xs)

-- what it leaves
abbrev pub changed : {X : Type 0} → List X → Change X → List X
changed xs (Put i a) = insert xs i a.value
changed xs (Set i a) = slice_set xs i a.value
changed xs (Take i) = remove xs i

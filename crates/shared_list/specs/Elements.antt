-- The elements of shared lists, which stand in chunks (profile).
use Rattle.std.specs.Prelude.{List, map}
use Rattle.std.specs.List.{flat_map}
use Rattle.std.specs.Global.{Global}
use Rattle.std.specs.declared.sync.Arc.{Arc}

-- what the items own
abbrev pub values : {X : Type 0} → List (Arc X Global) → List X
values = map (λ a. a.value)

-- the elements of shared chunks, one chunk after the other
abbrev pub elements : {X : Type 0} → List (Arc (List X) Global) → List X
elements = flat_map (λ a. a.value)

-- the elements of chunks that are seen by their own, one chunk after the other
abbrev pub flattened : {X : Type 0} → List (List X) → List X
flattened = flat_map (λ v. v)

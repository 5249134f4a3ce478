-- Entries of dead lists, and how a group divides them (profile).
use Rattle.std.specs.Prelude.{◌≤◌, ◌<◌, ◌+◌, ◌^◌, ℕ, Bool, List, [], ◌∷◌, nat_lt, nat_le, length}
use Rattle.std.specs.List.{flat_map, sum_by}
use Rattle.base.specs.declared.number.Dead.{Dead}
use Rattle.deadlist.specs.Bits.{bits}

-- the group in which the entry's block was born
abbrev pub birth_of : Dead → ℕ
birth_of d = d.birth.0

-- the entry's block was born after the group
abbrev pub is_after : ℕ → Dead → Bool
is_after cut d = nat_lt cut d.birth.0

-- the entry's block was born by the group
abbrev pub is_upto : ℕ → Dead → Bool
is_upto cut d = nat_le d.birth.0 cut

-- each entry was born from the first group on
abbrev pub AreBornFrom : ℕ → List Dead → Type 0
AreBornFrom from [] = Unit {0}
AreBornFrom from (d ∷ ds) = (from ≤ d.birth.0) × AreBornFrom from ds

-- each entry was born by the group
abbrev pub AreBornBy : ℕ → List Dead → Type 0
AreBornBy to [] = Unit {0}
AreBornBy to (d ∷ ds) = (d.birth.0 ≤ to) × AreBornBy to ds

-- the entries of a run
abbrev pub run_items : List Dead → List Dead
run_items r = r

-- the entries of runs, one run after the other
abbrev pub run_entries : List (List Dead) → List Dead
run_entries = flat_map run_items

-- how many entries a search looks at in a run, and in each of some runs, at most
abbrev pub run_steps : List Dead → ℕ
run_steps r = bits (length r)

abbrev pub runs_steps : List (List Dead) → ℕ
runs_steps = sum_by run_steps

-- each run is more than twice as long as the next one, and the first one shorter than half that number
abbrev pub AreHalvedFrom : ℕ → List (List Dead) → Type 0
AreHalvedFrom above [] = Unit {0}
AreHalvedFrom above (r ∷ rs) = (length r + length r < above) × AreHalvedFrom (length r) rs

abbrev pub AreHalved : List (List Dead) → Type 0
AreHalved rs = AreHalvedFrom (2 ^ 65) rs

-- how long the last one is, or that number where there is none
abbrev pub last_length : ℕ → List (List Dead) → ℕ
last_length above [] = above
last_length above (r ∷ rs) = last_length (length r) rs

-- What a read ahead reaches.
use Rattle.std.specs.Prelude.{ℕ, zero, suc, ◌+◌, ◌%◌, ◌^◌, List, Option, None, sum_by, take, slice_index, slice_index_or}
use Rattle.std.specs.Borrow.{Bor}
use Rattle.base.specs.Map.{Map}
use Rattle.node.specs.Node.{part_of_node}
use Rattle.node.specs.Shape.{Part, steps_in, steps_below}
use Rattle.tree.specs.Reading.{key_over, present_on_path}

-- a tree of fewer blocks isn't read ahead (profile)
abbrev pub many_blocks : ℕ
many_blocks = 4096

-- how many present keys stand on the paths to the first sixteen of these leaves, each once for each path (profile)
unfoldable pub present_on_paths : Map → List ℕ → ℕ
present_on_paths m leaves = sum_by (λ leaf. present_on_path m (key_over leaf 0)) (take 16 leaves)

-- how many nodes stand on the paths to the first n leaves, from these nodes of the level l down (profile)
abbrev pub nodes_to : {C : Type 0} → (C → Part) → ℕ → ℕ → List (Option (Bor C)) → List ℕ → ℕ
nodes_to part l zero nodes leaves = 0
nodes_to part l (suc n) nodes leaves = nodes_to part l n nodes leaves + steps_in (part_of_node part (slice_index_or nodes n None)) (λ p. steps_below l p (slice_index leaves n % 16 ^ l))

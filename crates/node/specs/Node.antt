-- What the nodes of each level stand for.
use Rattle.std.specs.Prelude.{[], ◌∷◌, Option}
use Rattle.std.specs.Option.{option_map}
use Rattle.std.specs.declared.sync.Arc.{Arc}
use Rattle.std.specs.declared.alloc.Global.{Global}
use Rattle.std.specs.Borrow.{Bor}
use Rattle.node.specs.declared.leaf.Leaf.{Leaf}
use Rattle.node.specs.declared.node.Inner.{Inner}
use Rattle.node.specs.Pairs.{places_in}
use Rattle.node.specs.Shape.{Part, Forest, done, forest_of}

-- (profile)
abbrev pub leaf_part : Leaf → Part
leaf_part n = record { cell = record { number = n.block.0; birth = n.birth.0; bytes = n.bytes }; below = done }

-- (profile)
abbrev pub shared_part : {C : Type 0} → (C → Part) → Arc C Global → Part
shared_part part a = part a.value

-- what a place has: the part of its node, where there is one (profile)
abbrev pub part_of_slot : {C : Type 0} → (C → Part) → Option (Arc C Global) → Option Part
part_of_slot part = option_map (shared_part part)

-- the part of a node, by a reference to one of its owners (profile)
abbrev pub part_of_owner : {C : Type 0} → (C → Part) → Option (Bor (Arc C Global)) → Option Part
part_of_owner part = option_map (λ a. part a.now.value)

-- the part of a node, by a reference to it (profile)
abbrev pub part_of_node : {C : Type 0} → (C → Part) → Option (Bor C) → Option Part
part_of_node part = option_map (λ n. part n.now)

-- (profile)
abbrev pub inner_part : {C : Type 0} → (C → Part) → Inner C → Part
inner_part part n = record { cell = record { number = n.block.0; birth = n.birth.0; bytes = [] }; below = forest_of (shared_part part) (places_in n.kids) }

-- (profile)
abbrev pub Root : Type 0
Root = Inner (Inner (Inner (Inner (Inner Leaf))))

-- (profile)
abbrev pub root_part : Root → Part
root_part = inner_part (inner_part (inner_part (inner_part (inner_part leaf_part))))

-- the one place of the root (profile)
abbrev pub root_forest : Option (Arc Root Global) → Forest
root_forest root = forest_of (shared_part root_part) (root ∷ [])

-- the part of the root, where there is one (profile)
abbrev pub whole : Option (Arc Root Global) → Option Part
whole = part_of_slot root_part

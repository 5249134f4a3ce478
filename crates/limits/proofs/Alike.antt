-- What file systems use is told of the file systems alone.
use Rattle.std.proofs.Common.{◌≡◌, ℕ, zero, suc, ◌+◌, List, map, refl, ap, ◌∙◌}
use Rattle.std.specs.Prelude.{max}
use Rattle.std.specs.List.{sum}
use Rattle.std.specs.FinMap.{len}
use Rattle.base.specs.Map.{BlockSet}
use Rattle.model.specs.World.{World, previous_of, map_of, children_of}
use Rattle.model.specs.Hierarchy.{FileSystems}
use Rattle.model.specs.Sums.{written_of, used_here, reservation_of, children_within, used_by_children, used_of}

-- these file systems, whatever is still to be freed and whatever group is open
module _ (m : FileSystems) (freeing freeing' : BlockSet) (group group' : ℕ) where
  abbrev one : World
  one = record { file_systems = m; freeing = freeing; group = group }

  abbrev other : World
  other = record { file_systems = m; freeing = freeing'; group = group' }

  here_alike : (name : List ℕ) → used_here one name ≡ used_here other name
  unfolding written_of map_of previous_of
  here_alike name = refl

  within_alike : (depth : ℕ) (name : List ℕ) → children_within one depth name ≡ children_within other depth name
  within_alike zero name = refl
  within_alike (suc depth) name = λ i. sum (map (λ (child : List ℕ). max (here_alike child i + within_alike depth child i) (reservation_of one child)) (children_of one name))

  used_same : (name : List ℕ) → used_of one name ≡ used_of other name
  unfolding used_of used_by_children
  used_same name = λ i. here_alike name i + within_alike (len m) name i

-- two worlds with the same file systems
pub used_alike : (v w : World) → v.file_systems ≡ w.file_systems → (name : List ℕ) → used_of v name ≡ used_of w name
used_alike v w e name =
    used_same v.file_systems v.freeing w.freeing v.group w.group name
    ∙ ap (λ (m : FileSystems). used_of (record { file_systems = m; freeing = w.freeing; group = w.group }) name) e

-- What is told of the file systems alone is the same in a state's world and in that of its datasets, where nothing is to be freed.
use Rattle.std.proofs.Common.{◌≡◌, ℕ, zero, suc, ◌+◌, List, ◌∷◌, map, Option, Some, None, refl, ap, ◌∙◌}
use Rattle.std.specs.Prelude.{max}
use Rattle.std.specs.List.{sum}
use Rattle.std.specs.FinMap.{len}
use Rattle.model.specs.World.{SnapId, Dataset, Live, Snapped, previous_of, chain, older_of, map_of, union_of, children_of}
use Rattle.model.specs.Sums.{written_of, written_since, used_by_snap, would_free, used_here, reservation_of, children_within, used_by_children, used_of}
use Rattle.model.specs.State.{State}
use Rattle.world.specs.Tables.{world_of}
use Rattle.steps.specs.Edits.{datasets_of}

module _ (s : State) where
  -- the snapshot before a dataset
  previous_alike : (d : Dataset) → previous_of (world_of (datasets_of s)) d ≡ previous_of s.now d
  unfolding previous_of
  previous_alike (Live name) = refl
  previous_alike (Snapped id) = refl

  chain_alike : (most : ℕ) (x : Option SnapId) → chain (world_of (datasets_of s)) most x ≡ chain s.now most x
  chain_alike zero x = refl
  chain_alike (suc most) None = refl
  chain_alike (suc most) (Some id) =
      ap (λ y. id ∷ chain (world_of (datasets_of s)) most y) (previous_alike (Snapped id)) ∙ ap (λ l. id ∷ l) (chain_alike most (previous_of s.now (Snapped id)))

  -- the snapshots before a dataset in its lineage
  pub older_alike : (d : Dataset) → older_of (world_of (datasets_of s)) d ≡ older_of s.now d
  unfolding older_of
  older_alike d = ap (chain (world_of (datasets_of s)) s.now.group) (previous_alike d) ∙ chain_alike s.now.group (previous_of s.now d)

  -- what a dataset has that a snapshot hasn't (zfsprops(7): written@snapshot)
  pub written_since_alike : (d : Dataset) (id : SnapId) → written_since (world_of (datasets_of s)) d id ≡ written_since s.now d id
  unfolding written_since map_of
  written_since_alike (Live name) id = refl
  written_since_alike (Snapped other) id = refl

  -- what a snapshot alone has (zfsprops(7): used)
  pub used_by_snap_alike : (id : SnapId) → used_by_snap (world_of (datasets_of s)) id ≡ used_by_snap s.now id
  unfolding used_by_snap map_of
  used_by_snap_alike id = refl

  -- what would be freed with some (zfs-destroy(8), -nv)
  pub would_free_alike : (ids : List SnapId) → would_free (world_of (datasets_of s)) ids ≡ would_free s.now ids
  unfolding would_free union_of
  would_free_alike ids = refl

  used_here_alike : (name : List ℕ) → used_here (world_of (datasets_of s)) name ≡ used_here s.now name
  unfolding written_of map_of previous_of
  used_here_alike name = refl

  children_alike : (depth : ℕ) (name : List ℕ) → children_within (world_of (datasets_of s)) depth name ≡ children_within s.now depth name
  children_alike zero name = refl
  children_alike (suc depth) name =
      λ i. sum (map (λ (child : List ℕ). max (used_here_alike child i + children_alike depth child i) (reservation_of s.now child)) (children_of s.now name))

  -- what the children of a file system use (zfsprops(7): usedbychildren)
  pub used_by_children_alike : (name : List ℕ) → used_by_children (world_of (datasets_of s)) name ≡ used_by_children s.now name
  unfolding used_by_children
  used_by_children_alike name = children_alike (len s.now.file_systems) name

  -- what it uses with them (zfsprops(7): used)
  pub used_alike : (name : List ℕ) → used_of (world_of (datasets_of s)) name ≡ used_of s.now name
  unfolding used_of
  used_alike name = λ i. used_here_alike name i + used_by_children_alike name i

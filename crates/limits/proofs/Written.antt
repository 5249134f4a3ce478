-- What was written to a dataset since an older snapshot of its lineage.
use Rattle.std.proofs.Common.{◌≡◌, ℕ, ◌+◌, List, [], ◌∷◌, Some, refl, sym, ap, subst, ◌∙◌, arith}
use Rattle.std.specs.Option.{option_map_or}
use Rattle.std.specs.FinSet.{len, difference}
use Rattle.base.specs.Map.{blocks}
use Rattle.model.specs.World.{World, SnapId, Dataset, Live, Snapped, map_of, map_of_snap, previous_of}
use Rattle.model.specs.Sums.{referenced_of, written_since}
use Rattle.world.specs.Blocks.{upto}
use Rattle.world.specs.Lineage.{Row}
use Rattle.world.specs.Space.{AreBornBy, Follow, newest, dead_upto}
use Rattle.world.specs.Shapes.{lineages}
use Rattle.world.specs.Worlds.{shapes, AreFileSystems}
use Rattle.world.specs.Dead.{IsThere, group_of}
use Rattle.world.specs.Sums.{dead_by}
use Rattle.world.proofs.lineage.Moves.{group_is}
use Rattle.world.proofs.lineage.Moves.{group_of as group_in}
use Rattle.world.proofs.space.Space as rows
use Rattle.world.proofs.lineage.Bridge.{row_blocks, row_prev}
use Rattle.world.proofs.lineage.Dead.{there_row, row_dead, in_line}
use Rattle.limits.specs.Space.{IsPath, on_path}

module _ (w : World) (good : AreFileSystems w.file_systems w.group) where
  row_group : (d : Dataset) (n : Row Dataset) → lineages (shapes w.file_systems) w.group d n → n.group ≡ group_of w d
  row_group d n h = group_is (shapes w.file_systems) w.group w.group good.lines (omega arith) w.group d n h ∙ by_case d
    where
      by_case : (e : Dataset) → group_in w.group e ≡ group_of w e
      by_case (Live name) = refl
      by_case (Snapped id) = refl

  -- the row of a dataset whose previous snapshot is this one
  follows : (id : SnapId) (d : Dataset) → previous_of w d ≡ Some id → (n : Row Dataset) → lineages (shapes w.file_systems) w.group d n
      → (n.base ≡ id.group) × (n.below ≡ blocks (map_of w (Snapped id)))
  follows id d e n h = let k = row_prev w w.group good.lines d n h in (
    k.1 ∙ ap (λ x. option_map_or (λ (i : SnapId). i.group) x 0) e,
    k.2 ∙ ap (λ x. blocks (map_of_snap w x)) e,
  )

  -- the rows of a path
  pub path_rows : (id : SnapId) (ids : List SnapId) (d : Dataset) → IsPath w id ids d
      → (xs : List (Row Dataset)) × Follow id.group (blocks (map_of w (Snapped id))) xs × (newest (blocks (map_of w (Snapped id))) xs ≡ blocks (map_of w d))
      × ((cut : ℕ) → dead_upto cut xs ≡ dead_by w cut (on_path ids d))
  path_rows id [] d p =
      let r = there_row w w.group good.lines d p.0 in
      let k = follows id d p.1 r.0 r.1 in (
        r.0 ∷ [],
        (k.0, k.1, good.lines.facts.sound d r.0 r.1, tt),
        row_blocks w w.group good.lines d r.0 r.1,
        λ cut. ap (λ x. len (upto cut x) + 0) (row_dead w w.group good.lines d r.0 r.1),
      )
  path_rows id (j ∷ js) d p =
      let r = there_row w w.group good.lines (Snapped j) p.0 in
      let k = follows id (Snapped j) p.1 r.0 r.1 in
      let ih = path_rows j js d p.2 in
      let same_group = row_group (Snapped j) r.0 r.1 in
      let blocks_are = row_blocks w w.group good.lines (Snapped j) r.0 r.1 in (
        r.0 ∷ ih.0,
        (
          k.0,
          k.1,
          good.lines.facts.sound (Snapped j) r.0 r.1,
          subst (λ n. Follow n r.0.blocks ih.0) (sym same_group) (subst (λ x. Follow j.group x ih.0) (sym blocks_are) ih.1),
        ),
        ap (λ x. newest x ih.0) blocks_are ∙ ih.2,
        λ cut i. len (upto cut (row_dead w w.group good.lines (Snapped j) r.0 r.1 i)) + ih.3 cut i,
      )

  -- written@ a snapshot of the lineage: the dataset's size and the entries of the deadlists on the way that were born by the
  -- snapshot's group, less the snapshot's size
  pub written_since_is : (id : SnapId) (ids : List SnapId) (d : Dataset) → IsThere w (Snapped id) → IsPath w id ids d
      → written_since w d id + referenced_of w (Snapped id) ≡ referenced_of w d + dead_by w id.group (on_path ids d)
  unfolding written_since referenced_of
  written_since_is id ids d there p =
      let r = path_rows id ids d p in
      let born : AreBornBy id.group (blocks (map_of w (Snapped id))) = (in_line w w.group good.lines refl (Snapped id) there).born in
      ap (λ x. len (difference x (blocks (map_of w (Snapped id)))) + len (blocks (map_of w (Snapped id)))) (sym r.2)
      ∙ rows.written_since id.group (blocks (map_of w (Snapped id))) r.0 r.1 born
      ∙ (λ i. len (r.2 i) + r.3 id.group i)

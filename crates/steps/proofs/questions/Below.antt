-- What was written to a dataset of a file system, by its snapshots and what stands below them.
use Rattle.std.proofs.Common.{◌≡◌, List, ◌∷◌, ◌++◌, Some, refl, sym, ap, subst, ◌∙◌}
use Rattle.std.specs.FinMap.{get}
use Rattle.base.specs.Map.{blocks}
use Rattle.base.specs.Surveys.{IsIn}
use Rattle.model.specs.World.{World, FileSystem, Snap, Live, Snapped, id_of, previous_of, map_of, map_of_snap}
use Rattle.model.specs.Sums.{written_of, size_without}
use Rattle.datasets.specs.Clones.{below_in}
use Rattle.datasets.specs.Dead.{newest_blocks}
use Rattle.world.specs.Shapes.{Name}
use Rattle.world.specs.Worlds.{AreFileSystems}
use Rattle.world.proofs.lineage.Bridge.{in_middle, map_of_live, map_of_kept, previous_of_live, previous_of_kept}
use Rattle.world.proofs.lists.Finding.{in_left}
use Rattle.datasets.proofs.Above.{newest_is}

module _ (w : World) (good : AreFileSystems w.file_systems w.group) (name : Name) (f : FileSystem) (at : get w.file_systems name ≡ Some f) where
  -- the live map's blocks that the newest snapshot, or else the origin, hasn't
  pub written_of_live : written_of w (Live name) ≡ size_without (blocks f.live) (newest_blocks (blocks (below_in w.file_systems f.origin)) f.snaps)
  unfolding written_of
  written_of_live = λ i. size_without (blocks (map_of_live w name f at i)) (below i)
    where
      below : blocks (map_of_snap w (previous_of w (Live name))) ≡ newest_blocks (blocks (below_in w.file_systems f.origin)) f.snaps
      below = ap (λ x. blocks (map_of_snap w x)) (previous_of_live w w.group good.lines name f at) ∙ newest_is w w.group good.lines name f at f.snaps (λ u k. k)

  -- a snapshot's blocks that the newest of the older ones, or else the origin, hasn't
  pub written_of_kept : (older : List Snap) (t : Snap) (newer : List Snap) → f.snaps ≡ older ++ t ∷ newer
      → written_of w (Snapped (id_of t)) ≡ size_without (blocks t.map) (newest_blocks (blocks (below_in w.file_systems f.origin)) older)
  unfolding written_of
  written_of_kept older t newer is = λ i. size_without (blocks (own i)) (below i)
    where
      own : map_of w (Snapped (id_of t)) ≡ t.map
      own = map_of_kept w w.group good.lines name f t (id_of t) at (subst (λ l. IsIn l t) (sym is) (in_middle older t newer)) refl

      below : blocks (map_of_snap w (previous_of w (Snapped (id_of t)))) ≡ newest_blocks (blocks (below_in w.file_systems f.origin)) older
      below = ap (λ x. blocks (map_of_snap w x)) (previous_of_kept w w.group good.lines name f older t newer at is)
          ∙ newest_is w w.group good.lines name f at older (λ u k. subst (λ l. IsIn l u) (sym is) (in_left older (t ∷ newer) u k))

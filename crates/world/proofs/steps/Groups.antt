-- The open group goes up; a sync, and the way back to the last synced world.
use Rattle.std.proofs.Common.{◌≡◌, ℕ, ◌+◌, ◌≤◌, refl, sym, subst, ◌⊎◌, inr, ⊎_elim, arith}
use Rattle.std.specs.FinMap as finmap
use Rattle.std.specs.FinSet.{union}
use Rattle.base.specs.Map.{Block, BlockSet}
use Rattle.model.specs.World.{World, Dataset, Live, Snapped, map_of, union_of, reach_of}
use Rattle.model.specs.Edits.{with_next_group}
use Rattle.world.specs.Sets.{Has}
use Rattle.world.specs.Blocks.{block_order as o}
use Rattle.world.specs.Worlds.{FileSystems, AreFileSystems, IsWorld, ArePaired, AreMapsFrom, AreReached, Place, InNow, InLast, maps_of_both}
use Rattle.world.proofs.lists.SetCounts.{in_union_left, in_union_right, from_union}
use Rattle.world.proofs.lineage.Moves.{raise_keeps_world}
use Rattle.world.proofs.changes.Drawn.{cells_from}
use Rattle.world.proofs.changes.Kept.{world_same}

pub same_maps : (ss : FileSystems) → AreMapsFrom ss ss
same_maps ss name s m at h = inr (name, s, at, h)

pub raise_systems : (ss : FileSystems) (g h : ℕ) → AreFileSystems ss g → g ≤ h → AreFileSystems ss h
raise_systems ss g h good up = record {
  lines = (raise_keeps_world _ g h good.lines up).0;
  hierarchy = good.hierarchy;
  tidy = λ name s at. let t = good.tidy name s at in record { names = t.names; bookmarks = λ k b e. let l = t.bookmarks k b e in omega arith };
}

module _ (size : ℕ) (w : World) (good : IsWorld size w) where
  systems_next : AreFileSystems w.file_systems (w.group + 1)
  systems_next = raise_systems w.file_systems w.group (w.group + 1) good.systems (omega arith)

  pub next_keeps : IsWorld size (with_next_group w)
  next_keeps = world_same size w (with_next_group w) good (same_maps w.file_systems) systems_next refl

  next_maps : (d : Dataset) → map_of (with_next_group w) d ≡ map_of w d
  unfolding map_of
  next_maps (Live name) = refl
  next_maps (Snapped id) = refl

  pub next_reach : reach_of (with_next_group w) ≡ reach_of w
  unfolding reach_of union_of
  next_reach = refl

  -- a sync: the last synced world is the one that it leaves
  pub sync_pairs : (last : World) → ArePaired size w last → ArePaired size (with_next_group w) (with_next_group w)
  sync_pairs last pair = record {
    cells = cells_from (maps_of_both w last) (maps_of_both (with_next_group w) (with_next_group w)) from pair.cells;
    reached = subst (λ r. AreReached r r (w.group + 1) (w.group + 1) size) (sym next_reach) (sync_reached (reach_of w) (reach_of last) last.group w.group pair.reached);
  }
    where
      from : (p : Place) → (maps_of_both (with_next_group w) (with_next_group w) p ≡ finmap.empty) ⊎ ((q : Place) × (maps_of_both (with_next_group w) (with_next_group w) p ≡ maps_of_both w last q))
      from (InNow d) = inr (InNow d, next_maps d)
      from (InLast d) = inr (InNow d, next_maps d)

      sync_reached : (now last : BlockSet) (synced group : ℕ) → AreReached now last synced group size → AreReached now now (group + 1) (group + 1) size
      sync_reached now last synced group reached = record {
        unique = λ a b h g n. reached.unique a b (in_both a h) (in_both b g) n;
        small = λ b h. reached.small b (in_both b h);
        since = record { older = λ b h. let l = reached.born b h in omega arith; later = omega arith; stays = λ b h l. h };
        born = λ b h. let l = reached.born b h in omega arith;
      }
        where
          in_both : (b : Block) → Has (union now now) b → Has (union now last) b
          in_both b h = in_union_left o now last b (⊎_elim (λ l. l) (λ l. l) (from_union o now now b h))

-- the way back: the last synced world is the present one again
pub back_pairs : (size : ℕ) (now last : World) → ArePaired size now last → ArePaired size last last
back_pairs size now last pair = record {
  cells = cells_from (maps_of_both now last) (maps_of_both last last) from pair.cells;
  reached = back_reached (reach_of now) (reach_of last) last.group now.group pair.reached;
}
  where
    from : (p : Place) → (maps_of_both last last p ≡ finmap.empty) ⊎ ((q : Place) × (maps_of_both last last p ≡ maps_of_both now last q))
    from (InNow d) = inr (InLast d, refl)
    from (InLast d) = inr (InLast d, refl)

    back_reached : (present synced : BlockSet) (before group : ℕ) → AreReached present synced before group size → AreReached synced synced before before size
    back_reached present synced before group reached = record {
      unique = λ a b h g n. reached.unique a b (in_both a h) (in_both b g) n;
      small = λ b h. reached.small b (in_both b h);
      since = record { older = reached.since.older; later = omega arith; stays = λ b h l. h };
      born = λ b h. let l = reached.since.older b h in omega arith;
    }
      where
        in_both : (b : Block) → Has (union synced synced) b → Has (union present synced) b
        in_both b h = in_union_right o present synced b (⊎_elim (λ l. l) (λ l. l) (from_union o synced synced b h))

-- A live map gives way to another, as a table sees it: of numbers it knows only that the new blocks are no dataset's.
use Rattle.std.proofs.Common.{◌≡◌, Some, sym, ap, ◌∙◌, ◌⊎◌, inl, inr, ⊎_elim, map}
use Rattle.std.specs.FinMap.{get, insert}
use Rattle.std.specs.FinSet.{difference}
use Rattle.base.specs.Map.{Map, Block, blocks}
use Rattle.model.specs.World.{World, FileSystem, Dataset, Live, union_of}
use Rattle.world.specs.Sets.{Has}
use Rattle.world.specs.Blocks.{after}
use Rattle.world.specs.Lineage.{Row, Puts}
use Rattle.world.specs.Shapes.{Name, Before, before_live, row, Writes, lineages, IsGood}
use Rattle.world.specs.Worlds.{FileSystems, snap_shape, shape_of, shapes, AreFileSystems}
use Rattle.world.specs.Dead.{base_of}
use Rattle.world.proofs.lineage.Changes.{write_keeps, puts}
use Rattle.world.proofs.lineage.Bridge.{shape_at, start, starts, live_row, live_there, union_is}
use Rattle.world.proofs.lineage.Put.{put_shape, put_shapes, put_tidy, put_hierarchy}
use Rattle.world.proofs.lineage.Dead.{row_base}

module _ (w : World) (good : AreFileSystems w.file_systems w.group) (name : Name) (s : FileSystem) (at : get w.file_systems name ≡ Some s) (m : Map)
    (new : (b : Block) → Has (blocks m) b → Has (blocks s.live) b ⊎ ((b.birth ≡ w.group) × ¬ (Has (union_of w) b))) where
  abbrev ss : FileSystems
  ss = w.file_systems

  abbrev lines : IsGood (shapes w.file_systems) w.group
  lines = good.lines

  abbrev t : FileSystem
  t = record s { live = m }

  abbrev pub with_map : World
  with_map = record w { file_systems = insert w.file_systems name (record s { live = m }) }

  abbrev q : Before
  q = start ss w.group lines name s at

  abbrev L : Row Dataset
  L = live_row ss w.group lines name s at

  in_L : lineages (shapes w.file_systems) w.group (Live name) (live_row ss w.group lines name s at)
  in_L = live_there ss w.group lines name s at

  base_is : (before_live q (map snap_shape s.snaps)).base ≡ base_of w (Live name)
  base_is = row_base w w.group lines (Live name) L in_L

  each : (b : Block) → Has (blocks m) b → Has (blocks s.live) b ⊎ Has (before_live q (map snap_shape s.snaps)).below b
      ⊎ ((b.birth ≡ w.group) × ((d : Dataset) (n : Row Dataset) → lineages (shapes w.file_systems) w.group d n → ¬ (Has n.blocks b)))
  each b h = ⊎_elim inl (λ k. inr (inr (k.0, λ d n i j. k.1 ((union_is w w.group lines).within d n b i j)))) (new b h)

  abbrev writes : Writes (shapes w.file_systems) (shapes (insert w.file_systems name (record s { live = m }))) name (blocks m)
  writes = record {
    system = shape_of s;
    at = shape_at ss name s at;
    here = put_shape ss name (record s { live = m });
    others = λ other ne. put_shapes ss name (record s { live = m }) other ne;
  }

  pub live_systems : AreFileSystems (insert w.file_systems name (record s { live = m })) w.group
  live_systems = record {
    lines = (write_keeps (shapes ss) (shapes (insert ss name t)) w.group name (blocks m) q lines writes (starts ss w.group lines name s at) each).0;
    hierarchy = put_hierarchy ss name s t at good.hierarchy;
    tidy = put_tidy ss name t w.group good.tidy (let k = good.tidy name s at in record { names = k.names; bookmarks = k.bookmarks });
  }

  -- the live map alone has another row
  pub live_step : Puts Dataset (lineages (shapes w.file_systems) w.group) (lineages (shapes (insert w.file_systems name (record s { live = m }))) w.group) (Live name) (row w.group (before_live q (map snap_shape s.snaps)) (blocks m))
  live_step = puts (shapes ss) (shapes (insert ss name t)) w.group lines name (shape_of s) (shape_at ss name s at) (blocks m) writes.here writes.others q (starts ss w.group lines name s at) each

  -- what is lost
  pub live_loses : difference (union_of w) (union_of with_map) ≡ difference (after (base_of w (Live name)) (blocks s.live)) (blocks m)
  live_loses =
      sym ((write_keeps (shapes ss) (shapes (insert ss name t)) w.group name (blocks m) q lines writes (starts ss w.group lines name s at) each).1
      (union_of w) (union_of with_map) (union_is w w.group lines) (union_is with_map w.group live_systems.lines))
      ∙ ap (λ g. difference (after g (blocks s.live)) (blocks m)) base_is

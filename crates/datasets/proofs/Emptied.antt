-- A file system without snapshots is emptied in a table.
use Rattle.std.proofs.Common.{◌≡◌, [], Option, Some, None, Result, Ok, Err, refl, sym, ap, subst, ◌∙◌, inl, inr, ⊎_elim, map, true≢false}
use Rattle.std.specs.Prelude.{IfOk, OnOk, OnErr, IsSome, is_some}
use Rattle.std.specs.Option.{option_map, option_map_or, option_and_then}
use Rattle.std.specs.FinMap as finmap
use Rattle.std.specs.FinMap.{get, insert, remove}
use Rattle.std.specs.FinSet as set
use Rattle.base.specs.declared.refusal.Refusal.{Refusal}
use Rattle.base.specs.Map.{blocks}
use Rattle.base.specs.Surveys.{IsIn}
use Rattle.model.specs.World.{FileSystem, Live, empty_file_system, maps_of, union_of}
use Rattle.file_system.specs.declared.lost.Lost.{Lost}
use Rattle.datasets.specs.Clones.{origin_at, below_at}
use Rattle.file_system.specs.Losses.{IsLost}
use Rattle.file_system.specs.Origins.{origin_group}
use Rattle.file_system.specs.Rows.{live_of, snaps_at}
use Rattle.file_system.specs.Writes.{newest_group}
use Rattle.world.specs.Blocks.{after, block_order as o}
use Rattle.world.specs.Shapes.{Name, Before, before_live, nothing_before, Makes, RemovesFileSystem, IsGood}
use Rattle.world.specs.Worlds.{FileSystems, snap_shape, shape_of, shapes, AreMapsFrom}
use Rattle.world.specs.Tables.{Datasets, world_of, with_system, without_system, lost_between}
use Rattle.world.proofs.lists.SetCounts.{same_members}
use Rattle.world.proofs.lineage.Moves.{make_keeps, unmake_keeps}
use Rattle.world.proofs.lineage.Bridge.{no_block, shape_at, shape_none, union_is, start, starts, live_row, live_there, previous_of_live}
use Rattle.world.proofs.lineage.Dead.{row_base}
use Rattle.world.proofs.changes.Drawn.{union_from}
use Rattle.world.proofs.lineage.Put.{put_shape, put_shapes, put_other, put_cases, put_tidy, put_maps, put_hierarchy, gone_here, gone_other, gone_cases}
use Rattle.world.proofs.changes.Creations.{bare_tidy}
use Rattle.world.proofs.steps.StateSteps.{begun}
use Rattle.datasets.specs.Table.{IsTable}
use Rattle.datasets.specs.Rollbacks.{Loses}
use Rattle.datasets.proofs.Kept.{numbers_from}
use Rattle.datasets.proofs.Above.{base_at}

-- it is as if it were taken out, and then made
module _ (t : Datasets) (sound : IsTable t) (name : Name) (f : FileSystem) (at : get t.file_systems name ≡ Some f) (bare : f.snaps ≡ []) where
  lines_t : IsGood (shapes t.file_systems) t.group
  lines_t = sound.systems.lines

  abbrev q : Before
  q = start t.file_systems t.group lines_t name f at

  abbrev unmakes : RemovesFileSystem (shapes t.file_systems) (shapes (remove t.file_systems name)) name
  unmakes = record {
    system = shape_of f;
    at = shape_at t.file_systems name f at;
    bare = ap (map snap_shape) bare;
    gone = shape_none (remove t.file_systems name) name (gone_here t.file_systems name);
    others = λ other ne. ap (λ x. option_map shape_of x) (gone_other t.file_systems name other ne);
  }

  gone_lines : IsGood (shapes (remove t.file_systems name)) t.group
  gone_lines = (unmake_keeps (shapes t.file_systems) (shapes (remove t.file_systems name)) t.group name q lines_t unmakes (starts t.file_systems t.group lines_t name f at)).0

  makes : Makes (shapes (remove t.file_systems name)) (shapes (insert t.file_systems name empty_file_system)) name (blocks finmap.empty) None
  makes = record {
    absent = shape_none (remove t.file_systems name) name (gone_here t.file_systems name);
    here = put_shape t.file_systems name empty_file_system;
    others = λ other ne. put_shapes t.file_systems name empty_file_system other ne ∙ sym (ap (λ x. option_map shape_of x) (gone_other t.file_systems name other ne));
  }

  lines : IsGood (shapes (insert t.file_systems name empty_file_system)) t.group
  lines = make_keeps (shapes (remove t.file_systems name)) (shapes (insert t.file_systems name empty_file_system)) t.group name (blocks finmap.empty) None nothing_before gone_lines makes refl
      (begun t.file_systems t.group sound.systems) (λ b h. absurd (no_block b h))

  emptied_table : IsTable (with_system t name empty_file_system)
  emptied_table = record {
    systems = record {
      lines = lines;
      hierarchy = put_hierarchy t.file_systems name f empty_file_system at sound.systems.hierarchy;
      tidy = put_tidy t.file_systems name empty_file_system t.group sound.systems.tidy (bare_tidy t.group finmap.empty None);
    };
    numbers = numbers_from t (with_system t name empty_file_system) sound.systems
        (put_maps t.file_systems name empty_file_system (λ m h. ⊎_elim (λ e. inl e) (λ k. absurd k) h)) sound.numbers;
  }

  -- ---- what is lost with it

  from_gone : AreMapsFrom (remove t.file_systems name) (insert t.file_systems name empty_file_system)
  from_gone p x m h k = ⊎_elim
      (λ i. ⊎_elim (λ e. inl e) (λ n. absurd n) (subst (λ y. IsIn (maps_of y) m) i.1 k))
      (λ i. inr (p, x, gone_other t.file_systems name p i.0 ∙ i.1, k))
      (put_cases t.file_systems name empty_file_system p x h)

  to_gone : AreMapsFrom (insert t.file_systems name empty_file_system) (remove t.file_systems name)
  to_gone p x m h k =
      let i = gone_cases t.file_systems name p x h in
      inr (p, x, put_other t.file_systems name empty_file_system p i.0 ∙ i.1, k)

  same_union : union_of (world_of (with_system t name empty_file_system)) ≡ union_of (world_of (without_system t name))
  same_union = same_members o _ _
      (union_from (world_of (without_system t name)) (world_of (with_system t name empty_file_system)) t.group gone_lines from_gone)
      (union_from (world_of (with_system t name empty_file_system)) (world_of (without_system t name)) t.group lines to_gone)

  base_same : q.base ≡ newest_group (origin_group f.origin) []
  base_same =
      ap (λ l. (before_live q (map snap_shape l)).base) (sym bare)
      ∙ row_base (world_of t) t.group lines_t (Live name) (live_row t.file_systems t.group lines_t name f at) (live_there t.file_systems t.group lines_t name f at)
      ∙ base_at t sound name f at (Live name) (f, at) f.snaps (λ v k. k) (previous_of_live (world_of t) t.group lines_t name f at)
      ∙ ap (newest_group (origin_group f.origin)) bare

  emptied_lost : after (newest_group (origin_group f.origin) []) (blocks f.live) ≡ lost_between t (with_system t name empty_file_system)
  emptied_lost =
      ap (λ n. after n (blocks f.live)) (sym base_same)
      ∙ (unmake_keeps (shapes t.file_systems) (shapes (remove t.file_systems name)) t.group name q lines_t unmakes (starts t.file_systems t.group lines_t name f at)).1
      (union_of (world_of t)) (union_of (world_of (without_system t name))) (union_is (world_of t) t.group lines_t) (union_is (world_of (without_system t name)) t.group gone_lines)
      ∙ ap (λ u. set.difference (union_of (world_of t)) u) (sym same_union)

-- the file system of this name, which has no snapshot
module _ (t : Datasets) (sound : IsTable t) (name : Name) (there : IsSome (get t.file_systems name)) (bare : snaps_at t.file_systems name ≡ []) where
  record IsEmptied : Type 0 where
    table : IsTable (with_system t name empty_file_system)
    lost : after (newest_group (origin_group (origin_at t.file_systems name)) []) (blocks (live_of t.file_systems name)) ≡ lost_between t (with_system t name empty_file_system)

  is_emptied : IsEmptied
  is_emptied = by_system (get t.file_systems name) refl
    where
      by_system : (x : Option FileSystem) → get t.file_systems name ≡ x → IsEmptied
      by_system None e = absurd (true≢false (sym there ∙ ap is_some e))
      by_system (Some f) e =
          let none = sym (ap (λ (x : Option FileSystem). option_map_or (λ (f : FileSystem). f.snaps) x []) e) ∙ bare in
          let live = ap (λ (x : Option FileSystem). option_map_or (λ (f : FileSystem). f.live) x finmap.empty) e in
          let origin = ap (λ (x : Option FileSystem). option_and_then (λ (f : FileSystem). f.origin) x) e in
          record {
            table = emptied_table t sound name f e none;
            lost = (λ i. after (newest_group (origin_group (origin i)) []) (blocks (live i))) ∙ emptied_lost t sound name f e none;
          }

  -- what the file systems answer
  module _ (r : Result Lost Refusal) (new : FileSystems) (ok : OnOk r (new ≡ insert t.file_systems name empty_file_system)) where
    pub vacated_table : OnErr r (new ≡ t.file_systems) → IsTable (record t { file_systems = new })
    vacated_table err = by_result r ok err
      where
        by_result : (x : Result Lost Refusal) → OnOk x (new ≡ insert t.file_systems name empty_file_system) → OnErr x (new ≡ t.file_systems) → IsTable (record t { file_systems = new })
        by_result (Ok l) to e = subst (λ ss. IsTable (record t { file_systems = ss })) (sym to) is_emptied.table
        by_result (Err w) to e = subst (λ ss. IsTable (record t { file_systems = ss })) (sym e) sound

    pub vacated_loses : IfOk r (IsLost (blocks (below_at t.file_systems name)) (origin_group (origin_at t.file_systems name)) (live_of t.file_systems name) []) → IfOk r (Loses t (record t { file_systems = new }))
    vacated_loses = by_result r ok
      where
        by_result : (x : Result Lost Refusal) → OnOk x (new ≡ insert t.file_systems name empty_file_system) → IfOk x (IsLost (blocks (below_at t.file_systems name)) (origin_group (origin_at t.file_systems name)) (live_of t.file_systems name) []) → IfOk x (Loses t (record t { file_systems = new }))
        by_result (Ok l) to h =
            let whole : after l.after.0 (blocks l.tree) ≡ lost_between t (record t { file_systems = new }) =
            (λ i. after (h.after_is i) (blocks (h.tree_is i))) ∙ is_emptied.lost ∙ ap (λ ss. lost_between t (record t { file_systems = ss })) (sym to) in
            record {
              blocks_are = whole;
              counted = h.counted ∙ ap set.len (sym h.blocks_are ∙ ap (λ m. after l.after.0 (blocks m)) (sym h.tree_is) ∙ whole);
            }
        by_result (Err w) to h = tt

-- A snapshot without a clone goes, or a file system without snapshots.
use Rattle.std.proofs.Common.{◌≡◌, ℕ, List, [], ◌∷◌, ◌++◌, Some, refl, sym, ap, subst, ◌∙◌, inl, inr, ⊎_elim, map}
use Rattle.std.specs.Prelude.{IsSome}
use Rattle.std.specs.Option.{option_map}
use Rattle.std.specs.FinMap.{get, insert, remove}
use Rattle.std.specs.FinSet.{difference}
use Rattle.base.specs.Names.{root_name}
use Rattle.base.specs.Map.{blocks}
use Rattle.base.specs.Surveys.{IsIn}
use Rattle.model.specs.World.{World, FileSystem, Snap, SnapId, Dataset, Live, Snapped, id_of, union_of}
use Rattle.world.specs.Blocks.{after}
use Rattle.world.specs.Lineage.{Row, Rows, Splices}
use Rattle.world.specs.Shapes.{Name, Shapes, Before, before_live, HasNoClone, Drops, RemovesFileSystem, lineages, IsGood}
use Rattle.world.specs.Worlds.{FileSystems, snap_shape, shape_of, shapes, HasParent, IsTidy, AreFileSystems, AreMapsFrom}
use Rattle.world.specs.Dead.{base_of, dead_of, HasNoCloneIn, next_in}
use Rattle.world.proofs.lineage.Drops.{drop_is_splice, splices, sD, nD, first_id}
use Rattle.world.proofs.lineage.Steps.{splice_loses}
use Rattle.world.proofs.lineage.Replace.{dataset_cases}
use Rattle.world.proofs.lineage.Moves.{unmake_keeps}
use Rattle.world.proofs.lineage.Bridge.{shape_at, shape_none, from_shape, shapes-append, union_is, start, starts, live_row, live_there}
use Rattle.world.proofs.lists.Finding.{in_left, in_right, in_either}
use Rattle.world.proofs.lists.Listed.{in_map, map_in}
use Rattle.world.proofs.lineage.Put.{put_shape, put_shapes, put_tidy, put_maps, put_hierarchy, gone_here, gone_other, gone_cases, gone_hierarchy}
use Rattle.world.proofs.lineage.Dead.{row_base, row_dead}

pub no_clone_shape : (ss : FileSystems) (id : SnapId) → HasNoCloneIn ss id → HasNoClone (shapes ss) id
no_clone_shape ss id none q f is e =
    let x = from_shape ss q f is in
    none q x.0 x.1 (ap (λ y. y.origin) (sym x.2) ∙ e)

-- ---- a snapshot goes

module _ (ss : FileSystems) (g : ℕ) (good : AreFileSystems ss g) (name : Name) (s : FileSystem) (at : get ss name ≡ Some s)
    (older : List Snap) (t : Snap) (newer : List Snap) (is : s.snaps ≡ older ++ t ∷ newer) (none : HasNoCloneIn ss (id_of t)) where
  abbrev pub shorter : FileSystem
  shorter = record s { snaps = older ++ newer }

  abbrev pub drops : Drops (shapes ss) (shapes (insert ss name (record s { snaps = older ++ newer }))) name (snap_shape t)
  drops = record {
    system = shape_of s;
    older = map snap_shape older;
    newer = map snap_shape newer;
    at = shape_at ss name s at;
    snapshots_are = ap (map snap_shape) is ∙ shapes-append older (t ∷ newer);
    no_clone = no_clone_shape ss (id_of t) none;
    here = put_shape ss name shorter ∙ ap (λ l. Some (record (shape_of s) { snapshots = l })) (shapes-append older newer);
    others = λ other ne. put_shapes ss name shorter other ne;
  }

  was_in : (u : Snap) → IsIn (older ++ newer) u → IsIn s.snaps u
  was_in u h = subst (λ l. IsIn l u) (sym is) (⊎_elim (λ k. in_left older (t ∷ newer) u k) (λ k. in_right older (t ∷ newer) u (inr k)) (in_either older newer u h))

  pub dropped_from : AreMapsFrom ss (insert ss name (record s { snaps = older ++ newer }))
  dropped_from = put_maps ss name shorter (λ m h. inr (
    name,
    s,
    at,
    ⊎_elim inl (λ k. let u = in_map (λ (t : Snap). t.map) (older ++ newer) m k in
        inr (subst (λ y. IsIn (map (λ (t : Snap). t.map) s.snaps) y) (sym u.2) (map_in (λ (t : Snap). t.map) s.snaps u.0 (was_in u.0 u.1)))) h,
  ))

  tidy_shorter : IsTidy g (record s { snaps = older ++ newer })
  tidy_shorter = let k = good.tidy name s at in record { names = λ u v h i e. k.names u v (was_in u h) (was_in v i) e; bookmarks = k.bookmarks }

  pub drop_systems : AreFileSystems (insert ss name (record s { snaps = older ++ newer })) g
  drop_systems = record {
    lines = (drop_is_splice (shapes ss) (shapes (insert ss name shorter)) g name (snap_shape t) good.lines drops).0;
    hierarchy = put_hierarchy ss name s shorter at good.hierarchy;
    tidy = put_tidy ss name shorter g good.tidy tidy_shorter;
  }

module _ (w : World) (good : AreFileSystems w.file_systems w.group) (name : Name) (s : FileSystem) (at : get w.file_systems name ≡ Some s)
    (older : List Snap) (t : Snap) (newer : List Snap) (is : s.snaps ≡ older ++ t ∷ newer) (none : HasNoCloneIn w.file_systems (id_of t)) where
  abbrev ss : FileSystems
  ss = w.file_systems

  abbrev pub without : World
  without = record w { file_systems = insert w.file_systems name (record s { snaps = older ++ newer }) }

  abbrev p : Drops (shapes ss) (shapes (insert ss name (record s { snaps = older ++ newer }))) name (snap_shape t)
  p = drops ss w.group good name s at older t newer is none

  pub drop_good : AreFileSystems (insert ss name (record s { snaps = older ++ newer })) w.group
  drop_good = drop_systems ss w.group good name s at older t newer is none

  -- ---- what is lost, and the deadlists

  abbrev old_rows : Rows Dataset
  old_rows = lineages (shapes ss) w.group

  abbrev later : Shapes
  later = shapes (insert ss name (record s { snaps = older ++ newer }))

  abbrev new_rows : Rows Dataset
  new_rows = lineages (shapes (insert ss name (record s { snaps = older ++ newer }))) w.group

  lines : IsGood (shapes ss) w.group
  lines = good.lines

  -- the snapshot, what comes next in its file system, and their rows
  abbrev S : Dataset
  S = Snapped (id_of t)

  abbrev N : Dataset
  N = first_id name (map snap_shape newer)

  abbrev sRow : Row Dataset
  sRow = sD (shapes ss) w.group lines later name (snap_shape t) p

  abbrev nRow : Row Dataset
  nRow = nD (shapes ss) w.group lines later name (snap_shape t) p

  sp : Splices Dataset old_rows new_rows S sRow N nRow
  sp = splices (shapes ss) w.group lines later name (snap_shape t) p

  next_is : N ≡ next_in name newer
  next_is = by_list newer
    where
      by_list : (ns : List Snap) → first_id name (map snap_shape ns) ≡ next_in name ns
      by_list [] = refl
      by_list (n ∷ ns) = refl

  base_is : sRow.base ≡ base_of w S
  base_is = row_base w w.group lines S sRow sp.before

  next_dead : nRow.dead ≡ dead_of w (next_in name newer)
  next_dead = row_dead w w.group lines N nRow sp.next ∙ ap (dead_of w) next_is

  -- what is lost are the entries of the next one's deadlist that were born after the group before the snapshot
  pub drop_loses : difference (union_of w) (union_of without) ≡ after (base_of w (Snapped (id_of t))) (dead_of w (next_in name newer))
  drop_loses =
      sym (splice_loses dataset_cases old_rows new_rows lines.facts S sRow N nRow sp (union_of w) (union_of without) (union_is w w.group lines) (union_is without w.group drop_good.lines))
      ∙ (λ i. after (base_is i) (next_dead i))
  -- what holds of a world holds again, with what is lost in `freeing`

-- ---- a file system without snapshots goes

module _ (w : World) (good : AreFileSystems w.file_systems w.group) (name : Name) (s : FileSystem) (at : get w.file_systems name ≡ Some s) (bare : s.snaps ≡ [])
    (not_root : ¬ (root_name ≡ name)) (childless : (q : Name) (p : HasParent w.file_systems q) → IsSome (get w.file_systems q) → p.parent ≡ name → ⊥) where
  abbrev pub left : World
  left = record w { file_systems = remove w.file_systems name }

  abbrev left_shapes : Shapes
  left_shapes = shapes (remove w.file_systems name)

  lines_w : IsGood (shapes w.file_systems) w.group
  lines_w = good.lines

  abbrev unmakes : RemovesFileSystem (shapes w.file_systems) (shapes (remove w.file_systems name)) name
  unmakes = record {
    system = shape_of s;
    at = shape_at w.file_systems name s at;
    bare = ap (map snap_shape) bare;
    gone = shape_none (remove w.file_systems name) name (gone_here w.file_systems name);
    others = λ other ne. ap (λ x. option_map shape_of x) (gone_other w.file_systems name other ne);
  }

  abbrev q : Before
  q = start w.file_systems w.group lines_w name s at

  pub unmake_good : AreFileSystems (remove w.file_systems name) w.group
  unmake_good = record {
    lines = (unmake_keeps (shapes w.file_systems) left_shapes w.group name q lines_w unmakes (starts w.file_systems w.group lines_w name s at)).0;
    hierarchy = gone_hierarchy w.file_systems name good.hierarchy not_root childless;
    tidy = λ p x h. good.tidy p x (gone_cases w.file_systems name p x h).1;
  }

  -- what is lost are the blocks of its live map that were born after the group before it
  pub unmake_loses : difference (union_of w) (union_of left) ≡ after (base_of w (Live name)) (blocks s.live)
  unmake_loses =
      sym ((unmake_keeps (shapes w.file_systems) left_shapes w.group name q lines_w unmakes (starts w.file_systems w.group lines_w name s at)).1
      (union_of w) (union_of left) (union_is w w.group lines_w) (union_is left w.group unmake_good.lines))
      ∙ ap (λ x. after x (blocks s.live)) (base_same)
    where
      base_same : q.base ≡ base_of w (Live name)
      base_same = ap (λ l. (before_live q (map snap_shape l)).base) (sym bare) ∙ row_base w w.group lines_w (Live name) (live_row w.file_systems w.group lines_w name s at) (live_there w.file_systems w.group lines_w name s at)

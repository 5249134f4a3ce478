-- A write to a live map: what it asks of the tree, and what it leaves.
use Rattle.std.proofs.Common.{◌≡◌, ◌<◌, ◌≤◌, ◌+◌, ◌⊎◌, ◌↔◌, ℕ, true, List, [], Option, Some, None, Result, Ok, Err, refl, sym, ap, subst, ◌∙◌, inl, inr, ⊎_elim, arith}
use Rattle.std.specs.Prelude.{IfSome, OnOk, OnErr, max, nat_lt, slice_get}
use Rattle.std.specs.List.{filter, last_or}
use Rattle.std.specs.Option.{option_map_or, option_and_then}
use Rattle.std.specs.FinMap as finmap
use Rattle.std.specs.FinMap.{get, insert, get-empty}
use Rattle.base.specs.declared.number.Key.{Key}
use Rattle.base.specs.declared.refusal.Refusal.{Refusal}
use Rattle.base.specs.declared.refusal.Refusal.TheVariants.{NoDataset}
use Rattle.base.specs.Key.{key_cmp}
use Rattle.base.specs.Map.{Map, Cell, Block, block_of, blocks}
use Rattle.base.specs.Rewrite.{Changes, rewrite, is_touched}
use Rattle.base.specs.Surveys.{IsIn}
use Rattle.batch.specs.declared.update.Update.{Update}
use Rattle.zalloc.specs.declared.BlockState.{BlockState}
use Rattle.zalloc.specs.declared.BlockState.TheVariants.{Free, Allocated}
use Rattle.model.specs.World.{FileSystem, SnapId, Dataset, Live, newest_or_origin, previous_of, map_of, union_of}
use Rattle.tree.specs.Asking.{AllowsChange}
use Rattle.tree.specs.Change.{Shown, IsChange}
use Rattle.batch.specs.declared.draft.Draft.{Draft}
use Rattle.datasets.specs.Clones.{origin_at}
use Rattle.file_system.specs.Origins.{origin_group}
use Rattle.file_system.specs.Rows.{live_of, snaps_at, with_live}
use Rattle.file_system.specs.Writes.{newest_group, young_after, IsWritten}
use Rattle.world.specs.Sets.{Has}
use Rattle.world.specs.Blocks.{block_order as o}
use Rattle.world.specs.Shapes.{Name}
use Rattle.world.specs.Worlds.{FileSystems, AreFileSystems}
use Rattle.world.specs.Dead.{base_of}
use Rattle.world.specs.Tables.{Datasets, world_of}
use Rattle.world.proofs.lists.Maps.{no_value}
use Rattle.world.proofs.lists.SetCounts.{Has-cases}
use Rattle.world.proofs.maps.Cells.{in_blocks, from_blocks, from_new_blocks}
use Rattle.world.proofs.maps.Rewrites.{rewrite_is_change}
use Rattle.world.proofs.lineage.Bridge.{in_world, from_world}
use Rattle.world.proofs.lineage.Dead.{in_line}
use Rattle.world.proofs.steps.StateSteps.{begun}
use Rattle.world.proofs.changes.FreshNumbers.{fresh_apart, cells_after}
use Rattle.world.proofs.changes.LiveMaps.{live_alone, live_new, live_rest}
use Rattle.world.proofs.changes.TableWrites.{live_systems}
use Rattle.datasets.specs.Table.{IsTable}
use Rattle.datasets.specs.Writes.{young_of, AllowsWrite, HasWritten}
use Rattle.datasets.proofs.Above.{newest_alone}

if_some : {A : Type 0} {P : A → Type 0} (x : Option A) → ((y : A) → x ≡ Some y → P y) → IfSome x P
if_some None h = tt
if_some (Some y) h = h y refl

not_both : Some Free ≡ Some Allocated → ⊥
not_both e = cc

module _ (t : Datasets) (sound : IsTable t) (name : Name) where
  abbrev ss : FileSystems
  ss = t.file_systems

  -- what stands before the live map is its newest snapshot, or else its origin
  pub base_is : base_of (world_of t) (Live name) ≡ newest_group (origin_group (origin_at t.file_systems name)) (snaps_at t.file_systems name)
  unfolding base_of previous_of
  base_is = at (get t.file_systems name) refl
    where
      at : (x : Option FileSystem) → get t.file_systems name ≡ x
          → option_map_or (λ (i : SnapId). i.group) (option_and_then (λ (f : FileSystem). newest_or_origin f f.snaps) x) 0
          ≡ newest_group (origin_group (option_and_then (λ (f : FileSystem). f.origin) x)) (option_map_or (λ (f : FileSystem). f.snaps) x [])
      at None e = refl
      at (Some f) e = newest_alone (last_or None f.snaps) f.origin

  -- so the same blocks are young
  pub young_is : (synced : ℕ) → young_of t name synced ≡ young_after (origin_group (origin_at t.file_systems name)) (snaps_at t.file_systems name) synced
  young_is synced = ap (λ n. max synced (n + 1)) base_is

  live_is : map_of (world_of t) (Live name) ≡ live_of t.file_systems name
  unfolding map_of
  live_is = refl

  -- a block of the live map is the world's
  inside : (b : Block) → Has (blocks (live_of t.file_systems name)) b → Has (union_of (world_of t)) b
  inside b h = in_world (world_of t) t.group sound.systems.lines (Live name) b (subst (λ m. Has (blocks m) b) (sym live_is) h)

  -- ---- what it asks of the tree

  module _ (us : List Update) (synced : ℕ) (states : List BlockState) (allows : AllowsWrite t us synced states) where
    low : base_of (world_of t) (Live name) < t.group
    low = at (get t.file_systems name) refl
      where
        at : (x : Option FileSystem) → get t.file_systems name ≡ x → base_of (world_of t) (Live name) < t.group
        at None e =
            let l = begun t.file_systems t.group sound.systems in
            let b : newest_group (origin_group (origin_at t.file_systems name)) (snaps_at t.file_systems name) ≡ 0 =
            ap (λ x. newest_group (origin_group (option_and_then (λ (f : FileSystem). f.origin) x)) (option_map_or (λ (f : FileSystem). f.snaps) x [])) e in
            let i = base_is in omega arith
        at (Some f) e = (in_line (world_of t) t.group sound.systems.lines refl (Live name) (f, e)).falls

    born : (k : Key) (x : Cell) → get (live_of t.file_systems name) k ≡ Some x → x.birth ≤ t.group
    born k x h = at (get t.file_systems name) refl
      where
        at : (y : Option FileSystem) → get t.file_systems name ≡ y → x.birth ≤ t.group
        at None e = absurd (no_value x (sym (get-empty key_cmp k) ∙ ap (λ y. get (option_map_or (λ (f : FileSystem). f.live) y finmap.empty) k) (sym e) ∙ h))
        at (Some f) e = (in_line (world_of t) t.group sound.systems.lines refl (Live name) (f, e)).open_group (block_of x)
            (subst (λ m. Has (blocks m) (block_of x)) (sym live_is) (in_blocks (live_of t.file_systems name) k x h))

    pub asks : (since : ℕ) → since ≤ t.group → AllowsChange (live_of t.file_systems name) us t.group (young_after (origin_group (origin_at t.file_systems name)) (snaps_at t.file_systems name) since) states
    asks since not_after = record {
      batch = allows.batch;
      young = let l = low in let b = base_is in omega arith;
      born = λ k. if_some (get (live_of t.file_systems name) k) (λ x h. born k x h);
      allocated = λ k. if_some (get (live_of t.file_systems name) k) (λ x h. allows.allocated (block_of x) (inside (block_of x) (in_blocks (live_of t.file_systems name) k x h)));
    }

    -- ---- what it leaves

    module _ (c : Changes) (young : ℕ) (own_late : base_of (world_of t) (Live name) < young) (v : Shown) (is : IsChange (live_of t.file_systems name) c t.group young states v)
        (f : FileSystem) (at : get t.file_systems name ≡ Some f) where
      abbrev m : Map
      m = live_of t.file_systems name

      abbrev maps : Dataset → Map
      maps = map_of (world_of t)

      at_name : live_of t.file_systems name ≡ f.live
      at_name = ap (λ y. option_map_or (λ (x : FileSystem). x.live) y finmap.empty) at

      held : (n : ℕ) (d : Dataset) (j : Key) (x : Cell) → IsIn v.taken n → get (map_of (world_of t) d) j ≡ Some x → x.number ≡ n → (b : Block) × IsIn v.released b × (young ≤ b.birth) × (b.number ≡ n)
      held n d j x i h is_n = ⊎_elim
          (λ free. absurd (not_both (sym free ∙ ap (slice_get states) (sym is_n)
          ∙ allows.allocated (block_of x) (in_world (world_of t) t.group sound.systems.lines d (block_of x) (in_blocks (map_of (world_of t) d) j x h)))))
          (λ r. r)
          (is.taken_free n i)

      alone : (d : Dataset) (j : Key) (x : Cell) → get (map_of (world_of t) d) j ≡ Some x → get (live_of t.file_systems name) j ≡ Some x → young ≤ x.birth → d ≡ Live name
      alone d j x h l born = live_alone (world_of t) sound.systems name f at d (block_of x) (in_blocks (map_of (world_of t) d) j x h)
          (subst (λ y. Has (blocks y) (block_of x)) at_name (in_blocks m j x l)) (let i = own_late in omega arith)

      -- a block of the world that has a made key's number is the live map's
      of_made : (k : Key) (y : Cell) (b : Block) → is_touched (live_of t.file_systems name) c k ≡ true → get (rewrite (live_of t.file_systems name) c t.group is.number) k ≡ Some y
          → Has (union_of (world_of t)) b → b.number ≡ is.number k → Has (blocks f.live) b
      of_made k y b touched there u e =
          let d = from_world (world_of t) t.group sound.systems.lines b u in
          let x = from_blocks (maps d.0) b d.1 in
          let r = fresh_apart maps (Live name) sound.numbers m live_is c t.group young states v is held alone d.0 x.0 k x.1 y x.2 touched there (ap (λ (z : Block). z.number) x.3 ∙ e) in
          subst (λ z. Has (blocks z) b) (live_is ∙ at_name) (subst (λ z. Has (blocks (maps z)) b) r.0 d.1)

      -- each block of the new map was the live map's, or is born now and no dataset's
      new_or_old : (b : Block) → Has (blocks v.new) b → Has (blocks f.live) b ⊎ ((b.birth ≡ t.group) × ¬ (Has (union_of (world_of t)) b))
      new_or_old b h = ⊎_elim
          (λ w. inl (subst (λ x. Has (blocks x) b) at_name (subst (λ x. Has (blocks m) x) w.3 (in_blocks m w.0 w.1 w.2))))
          (λ w. ⊎_elim
          (λ u. inl (of_made w.0 w.1 b w.3 w.2 u w.5))
          (λ u. inr (w.6, u))
          (Has-cases o (union_of (world_of t)) b))
          (from_new_blocks m (rewrite m c t.group is.number) (is_touched m c) t.group is.number (rewrite_is_change m c t.group is.number) b (subst (λ x. Has (blocks x) b) is.new_is h))

      abbrev systems : AreFileSystems (insert t.file_systems name (record f { live = v.new })) t.group
      systems = live_systems (world_of t) sound.systems name f at v.new new_or_old

      put_table : IsTable (record t { file_systems = insert t.file_systems name (record f { live = v.new }) })
      put_table = record {
        systems = systems;
        numbers = cells_after maps (Live name) sound.numbers m live_is c t.group young states v is held alone
            (map_of (world_of (record t { file_systems = insert t.file_systems name (record f { live = v.new }) })))
            (live_new (world_of t) sound.systems name f at v.new systems.lines ∙ is.new_is) (live_rest (world_of t) sound.systems name f at v.new systems.lines);
      }

      pub written_table : IsTable (record t { file_systems = with_live t.file_systems name v.new })
      written_table = subst (λ ss. IsTable (record t { file_systems = ss }))
          (sym (ap (λ y. option_map_or (λ (x : FileSystem). insert t.file_systems name (record x { live = v.new })) y t.file_systems) at)) put_table

-- one of two values stands under a name
there_or_not : (ss : FileSystems) (name : Name) → ((f : FileSystem) × (get ss name ≡ Some f)) ⊎ (get ss name ≡ None)
there_or_not ss name = at (get ss name) refl
  where
    at : (x : Option FileSystem) → get ss name ≡ x → ((f : FileSystem) × (get ss name ≡ Some f)) ⊎ (get ss name ≡ None)
    at None e = inr e
    at (Some f) e = inl (f, e)

done_not_refused : {T : Type 0} (done : T) → ◌≡◌ {A = Result T Refusal} (Ok done) (Err NoDataset) → ⊥
done_not_refused done e = cc

-- a file systems' write, as a table's
module _ (t : Datasets) (sound : IsTable t) (name : Name)
    (us : List Update) (synced : ℕ) (states : List BlockState) (allows : AllowsWrite t us synced states) (c : Changes) (new : FileSystems) (since : ℕ) where
  abbrev IsDone : Draft → Type 0
  IsDone = IsWritten (live_of t.file_systems name) (live_of new name) (origin_group (origin_at t.file_systems name)) (snaps_at t.file_systems name) c t.group since states

  to_is : (v : Shown) → live_of new name ≡ v.new → new ≡ with_live t.file_systems name (live_of new name) → new ≡ with_live t.file_systems name v.new
  to_is v e is = is ∙ ap (with_live t.file_systems name) e

  -- the file systems as they come, and their group
  module _ (r : Result (Unit {0}) Refusal) (done : Draft) (ok : OnOk r (IsDone done))
      (others : OnOk r (new ≡ with_live t.file_systems name (live_of new name))) where
    pub has_written : OnOk r (HasWritten t (record { file_systems = new; group = t.group }) name c since states done)
    has_written = at r ok others
      where
        at : (x : Result (Unit {0}) Refusal) → OnOk x (IsDone done) → OnOk x (new ≡ with_live t.file_systems name (live_of new name))
            → OnOk x (HasWritten t (record { file_systems = new; group = t.group }) name c since states done)
        at (Ok u) w is = record {
          change = w.change;
          is = subst (λ y. IsChange (live_of t.file_systems name) c t.group y states w.change) (sym (young_is t sound name since)) w.is;
          to_is = λ i. record t { file_systems = to_is w.change w.new_is is i };
          released = w.released ∙ ap (λ n. filter (λ (b : Block). nat_lt n b.birth) w.change.released) (sym (base_is t sound name));
          taken = w.taken;
          made = w.made;
        }
        at (Err e) w is = tt

    pub kept_table : OnErr r (new ≡ t.file_systems) → ((r ≡ Err NoDataset) ↔ (get t.file_systems name ≡ None)) → IsTable (record t { file_systems = new })
    kept_table err no_dataset = at r ok others err no_dataset
      where
        at : (x : Result (Unit {0}) Refusal) → OnOk x (IsDone done) → OnOk x (new ≡ with_live t.file_systems name (live_of new name)) → OnErr x (new ≡ t.file_systems)
            → ((x ≡ Err NoDataset) ↔ (get t.file_systems name ≡ None)) → IsTable (record t { file_systems = new })
        at (Ok u) w is same none = ⊎_elim
            (λ there.
            let late = base_is t sound name in
            subst (λ ss. IsTable (record t { file_systems = ss })) (sym (to_is w.change w.new_is is))
            (written_table t sound name us synced states allows c (young_after (origin_group (origin_at t.file_systems name)) (snaps_at t.file_systems name) since) (omega arith) w.change w.is there.0 there.1))
            (λ gone. absurd (done_not_refused u (none.1 gone)))
            (there_or_not t.file_systems name)
        at (Err e) w is same none = subst (λ ss. IsTable (record t { file_systems = ss })) (sym same) sound

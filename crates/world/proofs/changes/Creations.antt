-- A file system is made: an empty one, or a clone.
use Rattle.std.proofs.Common.{◌≡◌, ℕ, ◌<◌, Option, Some, None, refl, sym, ap, subst, ◌∙◌, inl, inr, ⊎_elim, map, arith}
use Rattle.std.specs.Prelude.{IsTrue}
use Rattle.std.specs.FinMap.{get, insert, len, get-empty}
use Rattle.base.specs.Names.{name_cmp}
use Rattle.world.proofs.lists.Listed.{map_in}
use Rattle.std.specs.FinMap as finmap
use Rattle.base.specs.Map.{Map, blocks}
use Rattle.base.specs.Surveys.{IsIn}
use Rattle.model.specs.World.{World, FileSystem, Snap, SnapId, id_of, empty_file_system, snap_at, map_of_snap, union_of}
use Rattle.model.specs.requests.Create.{with_new_file_system}
use Rattle.world.specs.Sets.{Has, IsSubset}
use Rattle.world.specs.Blocks.{block_order as o}
use Rattle.world.specs.Shapes.{Name, Before, nothing_before, before_next, HasSnapshot, Starts, Makes}
use Rattle.model.specs.Hierarchy.{has_parent}
use Rattle.world.specs.Worlds.{FileSystems, snap_shape, shape_of, shapes, IsTidy, AreFileSystems, IsWorld, ArePaired, AreMapsFrom}
use Rattle.world.specs.Outcomes.{with_clone}
use Rattle.world.proofs.lists.SetCounts.{same_members}
use Rattle.world.proofs.lists.Maps.{no_value}
use Rattle.world.proofs.lineage.Moves.{make_keeps}
use Rattle.world.proofs.lineage.Requests.{lineage_facts}
use Rattle.world.proofs.lineage.Bridge.{shape_at, shape_none, among, no_block, from_snap_at, map_of_found}
use Rattle.world.proofs.lineage.Put.{put_other, put_shape, put_shapes, put_tidy, put_maps, new_hierarchy}
use Rattle.world.proofs.changes.Drawn.{union_from}
use Rattle.world.proofs.changes.Kept.{world_same, pair_same, fewer_blocks}

-- a file system without snapshots and bookmarks is tidy
pub bare_tidy : (g : ℕ) (m : Map) (x : Option SnapId) → IsTidy g (record empty_file_system { live = m; origin = x })
bare_tidy g m x = record {
  names = λ t u h k e. absurd h;
  bookmarks = λ at b h. absurd (no_value b (sym (get-empty name_cmp at) ∙ h));
}

module _ (ss : FileSystems) (g : ℕ) (good : AreFileSystems ss g) (name : Name) (absent : get ss name ≡ None) (p : IsTrue (has_parent ss name)) (room : len ss < 1024)
    (m : Map) (x : Option SnapId) (q : Before) (st : Starts (shapes ss) x q) (low : q.base < g) (within : IsSubset (blocks m) q.below) where
  abbrev made : FileSystem
  made = record empty_file_system { live = m; origin = x }

  makes : Makes (shapes ss) (shapes (insert ss name (record empty_file_system { live = m; origin = x }))) name (blocks m) x
  makes = record {
    absent = shape_none ss name absent;
    here = put_shape ss name made;
    others = λ other ne. put_shapes ss name made other ne;
  }

  pub make_systems : AreFileSystems (insert ss name (record empty_file_system { live = m; origin = x })) g
  make_systems = record {
    lines = make_keeps (shapes ss) (shapes (insert ss name made)) g name (blocks m) x q good.lines makes st low within;
    hierarchy = new_hierarchy ss name made absent good.hierarchy p room;
    tidy = put_tidy ss name made g good.tidy (bare_tidy g m x);
  }

-- the file systems that were there have their maps afterwards
pub made_back : (ss : FileSystems) (name : Name) (t : FileSystem) → get ss name ≡ None → AreMapsFrom (insert ss name t) ss
made_back ss name t absent q s m at h =
    inr (q, s, put_other ss name t q (λ is. no_value s (sym absent ∙ ap (get ss) (sym is) ∙ at)) ∙ at, h)

module _ (size : ℕ) (w : World) (good : IsWorld size w) (name : Name) (absent : get w.file_systems name ≡ None) (p : IsTrue (has_parent w.file_systems name)) (room : len w.file_systems < 1024) where
  -- ---- create

  module _ (begun : 0 < w.group) where
    create_from : AreMapsFrom w.file_systems (with_new_file_system w name).file_systems
    create_from = put_maps w.file_systems name empty_file_system (λ m h. ⊎_elim (λ e. inl e) (λ k. absurd k) h)

    systems_created : AreFileSystems (with_new_file_system w name).file_systems w.group
    systems_created = make_systems w.file_systems w.group good.systems name absent p room finmap.empty None nothing_before refl begun (λ b h. absurd (no_block b h))

    pub create_keeps : IsWorld size (with_new_file_system w name)
    create_keeps = world_same size w (with_new_file_system w name) good create_from systems_created refl

    pub create_pairs : (last : World) → ArePaired size w last → ArePaired size (with_new_file_system w name) last
    create_pairs last = pair_same size w (with_new_file_system w name) good create_from last refl (omega arith)

    pub create_union : union_of (with_new_file_system w name) ≡ union_of w
    create_union = same_members o _ _
        (fewer_blocks size w (with_new_file_system w name) good create_from)
        (union_from (with_new_file_system w name) w w.group systems_created.lines (made_back w.file_systems name empty_file_system absent))

  -- ---- clone

  module _ (id : SnapId) (owner : Name × Snap) (there : snap_at w id ≡ Some owner) where
    abbrev cloned : FileSystem
    cloned = record empty_file_system { live = map_of_snap w (Some id); origin = Some id }

    s : FileSystem
    s = (from_snap_at w id owner there).0

    at : get w.file_systems owner.0 ≡ Some s
    unfolding s
    at = (from_snap_at w id owner there).1

    in_s : IsIn s.snaps owner.1
    unfolding s
    in_s = (from_snap_at w id owner there).2

    is_id : id_of owner.1 ≡ id
    is_id = (from_snap_at w id owner there).3

    has : HasSnapshot (shapes w.file_systems) id (snap_shape owner.1)
    has = (owner.0, shape_of s, shape_at w.file_systems owner.0 s at, among s.snaps owner.1 in_s, is_id)

    live_is : map_of_snap w (Some id) ≡ owner.1.map
    live_is = map_of_found w id owner there

    clone_from : AreMapsFrom w.file_systems (with_clone w id name).file_systems
    clone_from = put_maps w.file_systems name cloned
        (λ m h. ⊎_elim (λ (e : m ≡ map_of_snap w (Some id)). inr (owner.0, s, at, inr (subst (λ y. IsIn (map (λ (t : Snap). t.map) s.snaps) y) (sym (e ∙ live_is)) (map_in (λ (t : Snap). t.map) s.snaps owner.1 in_s)))) (λ k. absurd k) h)

    systems_cloned : AreFileSystems (with_clone w id name).file_systems w.group
    systems_cloned = make_systems w.file_systems w.group good.systems name absent p room (map_of_snap w (Some id)) (Some id) (before_next (snap_shape owner.1))
        (snap_shape owner.1, has, refl)
        (subst (λ (i : SnapId). i.group < w.group) (sym is_id) ((lineage_facts (shapes w.file_systems) w.group good.systems.lines).1 id (snap_shape owner.1) has))
        (λ b h. subst (λ m. Has (blocks m) b) live_is h)

    pub clone_keeps : IsWorld size (with_clone w id name)
    clone_keeps = world_same size w (with_clone w id name) good clone_from systems_cloned refl

    pub clone_pairs : (last : World) → ArePaired size w last → ArePaired size (with_clone w id name) last
    clone_pairs last = pair_same size w (with_clone w id name) good clone_from last refl (omega arith)

    pub clone_union : union_of (with_clone w id name) ≡ union_of w
    clone_union = same_members o _ _
        (fewer_blocks size w (with_clone w id name) good clone_from)
        (union_from (with_clone w id name) w w.group systems_cloned.lines (made_back w.file_systems name cloned absent))

-- A bookmark more of a file system: its group is closed, as those of the others.
use Rattle.std.proofs.Common.{◌≡◌, ◌<◌, ℕ, List, Some, sym, ap, subst, ◌∙◌, ⊎_elim}
use Rattle.std.specs.Option.{option_map}
use Rattle.std.specs.FinMap.{FinMap, get, insert}
use Rattle.base.specs.Surveys.{IsIn}
use Rattle.base.specs.Names.{name_cmp}
use Rattle.base.specs.declared.name.target.Target.{Target}
use Rattle.base.specs.declared.name.target.Target.TheVariants.{FileSystem as OfFileSystem, Snapshot as OfSnapshot, Bookmark as OfBookmark}
use Rattle.model.specs.World.{FileSystem, Snap, Bookmark}
use Rattle.model.specs.requests.Bookmark.{bookmark_of_snap}
use Rattle.model.specs.requests.Rollback.{placed}
use Rattle.world.specs.Shapes.{name_order}
use Rattle.world.specs.Tables.{Datasets, world_of}
use Rattle.world.proofs.lists.Maps.{no_value, same_value, key_cases, get-insert_same, get-insert_other}
use Rattle.datasets.specs.Table.{AreBookmarksClosed, AreSnapshotsClosed}
use Rattle.marks.proofs.Placed.{placed_with}

module _ (t : Datasets) (bookmarks_closed : AreBookmarksClosed t) (snapshots_closed : AreSnapshotsClosed t) where
  one_closed : (name : List ℕ) (f : FileSystem) (u : Snap) → get t.file_systems name ≡ Some f → IsIn f.snaps u → (component at : List ℕ) (b : Bookmark)
      → get (insert f.bookmarks component (bookmark_of_snap u)) at ≡ Some b → b.group < t.group
  one_closed name f u there among component at b e = ⊎_elim
      (λ is. subst (λ (x : Bookmark). x.group < t.group)
      (same_value (bookmark_of_snap u) b (sym (ap (get (insert f.bookmarks component (bookmark_of_snap u))) is ∙ get-insert_same name_order f.bookmarks component (bookmark_of_snap u)) ∙ e))
      (snapshots_closed name f u there among))
      (λ other. bookmarks_closed name at f b there (sym (get-insert_other name_order f.bookmarks component (bookmark_of_snap u) at other) ∙ e))
      (key_cases name_order at component)

  -- those of the file system of a target with one more
  pub more_closed : (target : Target) (component : List ℕ) (bookmarks : FinMap name_cmp Bookmark)
      → option_map (λ p. insert p.0.bookmarks component (bookmark_of_snap p.1)) (placed (world_of t) target) ≡ Some bookmarks
      → (at : List ℕ) (b : Bookmark) → get bookmarks at ≡ Some b → b.group < t.group
  more_closed (OfFileSystem name) component bookmarks is at b e = absurd (no_value bookmarks is)
  more_closed (OfBookmark m) component bookmarks is at b e = absurd (no_value bookmarks is)
  more_closed (OfSnapshot m) component bookmarks is at b e =
      let w = placed_with t m (λ q. insert q.0.bookmarks component (bookmark_of_snap q.1)) bookmarks is in
      one_closed m.file_system w.1.system w.0 w.1.at w.1.among component at b (sym (ap (λ (x : FinMap name_cmp Bookmark). get x at) w.2) ∙ e)

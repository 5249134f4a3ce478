-- Some file systems go at once, with all their snapshots; no clone of these stays.
use Rattle.std.proofs.Common.{◌≡◌, ℕ, Bool, true, false, cond, Some, None, refl, sym, ap, subst, ◌∙◌, inr}
use Rattle.std.specs.FinMap.{get, retain_keys, get-retain_keys}
use Rattle.base.specs.Names.{root_name}
use Rattle.base.specs.Surveys.{IsIn}
use Rattle.model.specs.World.{World, FileSystem, Snap, SnapId, id_of}
use Rattle.world.specs.Shapes.{Name, name_order, Shape, SnapShape, IsAmong}
use Rattle.world.specs.Worlds.{FileSystems, shapes, HasParent, AreFileSystems, AreMapsFrom}
use Rattle.world.proofs.lists.Maps.{no_value}
use Rattle.world.proofs.lineage.Bridge.{from_shape, from_among}

-- ---- in the abstract: the rows of the file systems that stay are as they were

-- ---- worlds

module _ (ss : FileSystems) (stays : Name → Bool) where
  pub retained : (q : Name) → get (retain_keys ss stays) q ≡ cond (stays q) (get ss q) None
  retained q = get-retain_keys ss stays q (λ x e. ap stays (sym (name_order.exact q x e)))

  pub retained_there : (q : Name) → stays q ≡ true → get (retain_keys ss stays) q ≡ get ss q
  retained_there q e = retained q ∙ ap (λ b. cond b (get ss q) None) e

  pub from_retained : (q : Name) (x : FileSystem) → get (retain_keys ss stays) q ≡ Some x → (stays q ≡ true) × (get ss q ≡ Some x)
  from_retained q x h = by_test (stays q) refl (sym (retained q) ∙ h)
    where
      by_test : (b : Bool) → stays q ≡ b → cond b (get ss q) None ≡ Some x → (stays q ≡ true) × (get ss q ≡ Some x)
      by_test true e k = (e, k)
      by_test false e k = absurd (no_value x k)

  pub retained_maps : AreMapsFrom ss (retain_keys ss stays)
  retained_maps q x m at h = inr (q, x, (from_retained q x at).1, h)

module _ (w : World) (g : ℕ) (good : AreFileSystems w.file_systems g) (stays : Name → Bool) (root_stays : stays root_name ≡ true)
    (parents_stay : (q : Name) (p : HasParent w.file_systems q) → stays q ≡ true → stays p.parent ≡ true)
    (clones : (q : Name) (f : FileSystem) (other : Name) (e : FileSystem) (t : Snap) → stays q ≡ true → get w.file_systems q ≡ Some f → f.origin ≡ Some (id_of t)
    → get w.file_systems other ≡ Some e → IsIn e.snaps t → stays other ≡ true) where
  abbrev ss : FileSystems
  ss = w.file_systems

  origins : (q : Name) (f : Shape) (id : SnapId) (other : Name) (e : Shape) (s : SnapShape) → stays q ≡ true → shapes w.file_systems q ≡ Some f → f.origin ≡ Some id
      → shapes w.file_systems other ≡ Some e → IsAmong e.snapshots s → s.id ≡ id → stays other ≡ true
  origins q f id other e s st is i at a same =
      let x = from_shape ss q f is in
      let y = from_shape ss other e at in
      let t = from_among y.0.snaps s (subst (λ (z : Shape). IsAmong z.snapshots s) y.2 a) in
      clones q x.0 other y.0 t.0 st x.1 (ap (λ (z : Shape). z.origin) (sym x.2) ∙ i ∙ ap Some (sym same ∙ ap (λ (z : SnapShape). z.id) t.2)) y.1 t.1

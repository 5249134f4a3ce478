-- File systems without limits, with nothing to sweep: what keeps them so, and what is told of them.
use Rattle.std.proofs.Common.{◌≡◌, Bool, true, false, Some, None, refl, sym, ap, subst, ◌∙◌, ◌⊎◌, inr, ⊎_elim}
use Rattle.std.specs.Prelude.{is_some}
use Rattle.std.specs.FinMap.{get, insert}
use Rattle.base.specs.declared.name.target.Target.{Target}
use Rattle.base.specs.declared.name.target.Target.TheVariants.{FileSystem as OfFileSystem, Snapshot as OfSnapshot, Bookmark as OfBookmark}
use Rattle.base.specs.Surveys.{IsIn}
use Rattle.model.specs.World.{World, FileSystem, Snap, SnapId, Live, no_limits}
use Rattle.model.specs.State.{State}
use Rattle.model.specs.Targets.{has_dataset, has_target}
use Rattle.model.specs.Hierarchy.{FileSystems}
use Rattle.model.specs.Edits.{without_snaps}
use Rattle.world.specs.Shapes.{Name, name_order}
use Rattle.world.specs.Worlds.{IsSwept, InNow}
use Rattle.world.proofs.lists.Maps.{same_value, key_cases, no_value, get-insert_same, get-insert_other}
use Rattle.world.proofs.lineage.Bridge.{map_of_live}
use Rattle.world.proofs.lineage.Put.{put_cases}
use Rattle.world.proofs.steps.StateSteps.{swept_stays}
use Rattle.world.proofs.removals.WithoutSnaps.{from_without}
use Rattle.limits.specs.Limits.{IsUnlimited}
use Rattle.steps.specs.Room.{AreKeysOne}
use Rattle.steps.specs.Steady.{IsSteady, IsAbsent, HasNoDataset}

-- ---- limits

-- one more, or another one
pub unlimited_put : (ss : FileSystems) → IsUnlimited ss → (name : Name) (f : FileSystem) → f.limits ≡ no_limits → IsUnlimited (insert ss name f)
unlimited_put ss none name f is q g at = ⊎_elim
    (λ k. ap (λ (x : FileSystem). x.limits) k.1 ∙ is)
    (λ k. none q g k.1)
    (put_cases ss name f q g at)

-- without some snapshots
pub unlimited_without : (w : World) → IsUnlimited w.file_systems → (goes : Snap → Bool) → IsUnlimited (without_snaps w goes).file_systems
unlimited_without w none goes name f at =
    let k = from_without w goes name f at in ap (λ (x : FileSystem). x.limits) k.2 ∙ none name k.0 k.1

-- ---- what is to be swept

-- a snapshot is one of these, or isn't to be destroyed
abbrev pub IsKnown : FileSystems → Snap → Type 0
IsKnown ss t = (t.deferred ≡ false) ⊎ ((p : Name) × (y : FileSystem) × (get ss p ≡ Some y) × IsIn y.snaps t)

-- each of others is so
abbrev pub AreKnown : FileSystems → FileSystems → Type 0
AreKnown ss others = (q : Name) (x : FileSystem) (t : Snap) → get others q ≡ Some x → IsIn x.snaps t → IsKnown ss t

pub same_known : (ss : FileSystems) → AreKnown ss ss
same_known ss q x t at h = inr (q, x, at, h)

-- one more, or another one
pub put_known : (ss others : FileSystems) → AreKnown ss others → (name : Name) (f : FileSystem) → ((t : Snap) → IsIn f.snaps t → IsKnown ss t) → AreKnown ss (insert others name f)
put_known ss others known name f own q x t at h = ⊎_elim
    (λ k. own t (subst (λ (y : FileSystem). IsIn y.snaps t) k.1 h))
    (λ k. known q x t k.1 h)
    (put_cases others name f q x at)

-- each origin of these is an origin of others
abbrev pub AreOriginsIn : FileSystems → FileSystems → Type 0
AreOriginsIn ss others =
    (q : Name) (x : FileSystem) (id : SnapId) → get ss q ≡ Some x → x.origin ≡ Some id → (p : Name) × (y : FileSystem) × (get others p ≡ Some y) × (y.origin ≡ Some id)

pub same_origins : (ss : FileSystems) → AreOriginsIn ss ss
same_origins ss q x id at o = (q, x, at, o)

-- one more
pub new_origins : (ss : FileSystems) (name : Name) (f : FileSystem) → get ss name ≡ None → AreOriginsIn ss (insert ss name f)
new_origins ss name f absent q x id at o = (q, x, get-insert_other name_order ss name f q (λ same. no_value x (sym absent ∙ ap (get ss) (sym same) ∙ at)) ∙ at, o)

-- another one, of the same origin
pub put_origins : (ss others : FileSystems) → AreOriginsIn ss others → (name : Name) (f g : FileSystem) → get others name ≡ Some f → g.origin ≡ f.origin → AreOriginsIn ss (insert others name g)
put_origins ss others known name f g at same q x id was o =
    let k = known q x id was o in ⊎_elim
    (λ (e : k.0 ≡ name). (name, g, get-insert_same name_order others name g, same ∙ ap (λ (y : FileSystem). y.origin) (same_value f k.1 (sym at ∙ ap (get others) (sym e) ∙ k.2)) ∙ k.3))
    (λ other. (k.0, k.1, get-insert_other name_order others name g k.0 other ∙ k.2, k.3))
    (key_cases name_order k.0 name)

-- with such snapshots and origins there is nothing to sweep
pub still_swept : (s new : State) → IsSteady s → new.views ≡ s.views → AreKnown s.now.file_systems new.now.file_systems → AreOriginsIn s.now.file_systems new.now.file_systems → IsSwept new
still_swept s new steady views snaps origins = swept_stays s new views snaps origins steady.swept

-- ---- names

module _ (s : State) where
  pub has_file_system : (name : Name) (f : FileSystem) → get s.now.file_systems name ≡ Some f → has_dataset s (OfFileSystem name) ≡ true
  has_file_system name f e = ap is_some e

  pub no_dataset : (target : Target) → HasNoDataset s.now.file_systems target → has_dataset s target ≡ false
  no_dataset (OfFileSystem name) e = ap is_some e
  no_dataset (OfSnapshot m) e = ap is_some e
  no_dataset (OfBookmark m) e = refl

  pub no_target : (target : Target) → IsAbsent s.now.file_systems target → has_target s target ≡ false
  no_target (OfFileSystem name) e = ap is_some e
  no_target (OfSnapshot m) e = ap is_some e
  no_target (OfBookmark m) e = ap is_some e

-- ---- numbers

-- each number of a live map is one key's
pub live_once : (s : State) → IsSteady s → (name : Name) (f : FileSystem) → get s.now.file_systems name ≡ Some f → AreKeysOne f.live
live_once s steady name f was j k a b e g n =
    let is = map_of_live s.now name f was in
    (steady.good.pair.cells (InNow (Live name)) (InNow (Live name)) j k a b (ap (λ m. get m j) is ∙ e) (ap (λ m. get m k) is ∙ g) n).0

-- What holds of every run.
use Rattle.std.specs.Prelude.{◌≡◌, ◌<◌, ℕ, List, [], ◌∷◌, ◌++◌, Some, IsSome, slice_get}
use Rattle.std.specs.FinMap.{get}
use Rattle.base.specs.Surveys.{IsIn}
use Rattle.model.specs.declared.request.Request.{Request}
use Rattle.model.specs.declared.request.Request.TheVariants.{CloseView as ToCloseView}
use Rattle.model.specs.declared.reply.Reply.{Reply}
use Rattle.model.specs.declared.reply.Reply.TheVariants.{Done}
use Rattle.model.specs.World.{World, FileSystem, Snap, SnapId, id_of, snap_at}
use Rattle.model.specs.State.{State, fresh_state}
use Rattle.model.specs.Step.{Step}
use Rattle.model.specs.Run.{Run}

-- a run and one step more is a run (profile)
abbrev pub RunGrows : Type 0
RunGrows =
    (s t u : State) (qs : List Request) (rs : List Reply) (q : Request) (r : Reply)
    → Run s qs rs t → Step t q r u → Run s (qs ++ q ∷ []) (rs ++ r ∷ []) u

-- ---- views

-- the file system of that name has this snapshot (On-Disk Specification, chapter 4)
abbrev pub HasSnap : World → List ℕ → Snap → Type 0
HasSnap w name t = (x : FileSystem) × (get w.file_systems name ≡ Some x) × IsIn x.snaps t

-- What holds of the identities of a world's snapshots (On-Disk Specification, chapter 4)
pub record HasIdentities (w : World) : Type 0 where
  -- an identity is one snapshot's, in one file system
  pub once : (name other : List ℕ) (t u : Snap) → HasSnap w name t → HasSnap w other u → id_of t ≡ id_of u → (name ≡ other) × (t ≡ u)
  -- each snapshot's group is closed
  pub closed : (name : List ℕ) (t : Snap) → HasSnap w name t → t.group < w.group

-- What holds of views and snapshots between two steps (profile)
pub record IsViewing (s : State) : Type 0 where
  -- no open view has a number that is still to be given
  pub numbers : (v : ℕ) (id : SnapId) → get s.views v ≡ Some id → v < s.next_view
  -- the snapshot of each open view is there
  pub there : (v : ℕ) (id : SnapId) → get s.views v ≡ Some id → IsSome (snap_at s.now id)
  -- identities are in order in the present world, and in the last synced one, to which Abandon goes back
  pub now : HasIdentities s.now
  pub last : HasIdentities s.last

-- this holds of a pool as it is created (profile)
abbrev pub ViewsBegin : Type 0
ViewsBegin = (id size : ℕ) → IsViewing (fresh_state id size)

-- and it holds again after every run: so the snapshot of each open view is there (profile; a view counts as a hold, zfs-hold(8))
abbrev pub ViewsLast : Type 0
ViewsLast = (s u : State) (qs : List Request) (rs : List Reply) → IsViewing s → Run s qs rs u → IsViewing u

-- no request of the list closes this view, with the reply Done (profile)
abbrev pub IsNeverClosed : ℕ → List Request → List Reply → Type 0
IsNeverClosed v qs rs = (i : ℕ) → slice_get qs i ≡ Some (ToCloseView v) → slice_get rs i ≡ Some Done → ⊥

-- a view that no step of a run closes is open after it, and the snapshot that it shows is there, with its map and its name (profile; a
-- view counts as a hold, zfs-hold(8))
abbrev pub ViewsStand : Type 0
ViewsStand =
    (s u : State) (qs : List Request) (rs : List Reply) (v : ℕ) (id : SnapId) (p : List ℕ × Snap)
    → IsViewing s → Run s qs rs u → get s.views v ≡ Some id → snap_at s.now id ≡ Some p → IsNeverClosed v qs rs
    → (get u.views v ≡ Some id) × ((q : List ℕ × Snap) × (snap_at u.now id ≡ Some q) × (q.1.map ≡ p.1.map) × (q.1.name ≡ p.1.name))

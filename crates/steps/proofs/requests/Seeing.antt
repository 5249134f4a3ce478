-- Open views of a pool between two steps: the snapshots that they show.
use Rattle.std.proofs.Common.{◌≡◌, ℕ, true, Some, refl, ap, ⊎_elim}
use Rattle.std.specs.Prelude.{nat_lt, length}
use Rattle.std.specs.FinMap.{get}
use Rattle.std.specs.Option.{IsSome, is_some}
use Rattle.std.proofs.lemmas.Bool.{or_cases, or_left, or_right}
use Rattle.model.specs.World.{World, Snap, SnapId, id_of, snap_at}
use Rattle.model.specs.State.{State, Views, is_viewed}
use Rattle.model.specs.Outcome.{is_needed}
use Rattle.world.specs.Worlds.{IsWorld, shapes, shape_of, snap_shape}
use Rattle.world.proofs.lineage.Bridge.{shape_at, among, one_snap}
use Rattle.world.proofs.lists.Maps.{some_of}
use Rattle.world.proofs.lineage.Requests.{lineage_facts}
use Rattle.world.proofs.views.Viewed.{AreOnce, AreClosed, IsSafe, found_after}
use Rattle.world.proofs.views.ViewedSteps.{viewed}
use Rattle.removals.proofs.Seen.{viewed_by}
use Rattle.steps.specs.Steady.{IsSteady}

-- ---- snapshots

pub once : (size : ℕ) (w : World) → IsWorld size w → AreOnce w
once size w good name other t u h k ids = one_snap w.file_systems w.group good.systems.lines name other h.0 k.0 t u h.1 k.1 h.2 k.2 ids

pub closed : (size : ℕ) (w : World) → IsWorld size w → AreClosed w
closed size w good name t h =
    (lineage_facts (shapes w.file_systems) w.group good.systems.lines).1 (id_of t) (snap_shape t)
    (name, shape_of h.0, shape_at w.file_systems name h.0 h.1, among h.0.snaps t h.2, refl)

-- what is needed is so with more views
pub needed_more : (w : World) (views more : Views) → ((v : ℕ) (id : SnapId) → get views v ≡ Some id → get more v ≡ Some id) → (u : Snap) → is_needed w views u ≡ true → is_needed w more u ≡ true
needed_more w views more stay u h = ⊎_elim
    (λ k. or_left (nat_lt 0 (length u.tags)) _ k)
    (λ k. or_right (nat_lt 0 (length u.tags)) _ (⊎_elim
    (λ i. let v = viewed_by views (id_of u) i in or_left (is_viewed more (id_of u)) _ (viewed more v.0 (id_of u) (stay v.0 (id_of u) v.1)))
    (λ i. or_right (is_viewed more (id_of u)) _ i)
    (or_cases (is_viewed views (id_of u)) _ k)))
    (or_cases (nat_lt 0 (length u.tags)) _ h)

-- a view's snapshot is there in a world that leaves those of views
pub seen_after : (s : State) → IsSteady s → (new : World) → IsSafe s.views s.now new → (v : ℕ) (id : SnapId) → get s.views v ≡ Some id → IsSome (snap_at new id)
seen_after s steady new safe v id e =
    let p = some_of (snap_at s.now id) (steady.good.views v id e) in
    let q = found_after s.views s.now new safe id (viewed s.views v id e) p.0 p.1 in
    ap is_some q.1

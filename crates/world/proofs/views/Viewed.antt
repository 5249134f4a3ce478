-- Worlds in which the snapshots of open views stand: what each edit of a world does to its snapshots.
use Rattle.std.proofs.Common.{◌≡◌, ℕ, ◌≤◌, ◌<◌, Bool, true, false, not, ◌||◌, List, Option, Some, None, refl, sym, ap, subst, ◌∙◌, ⊎_elim, map, arith}
use Rattle.std.specs.Prelude.{if◌then◌else◌}
use Rattle.std.specs.List.{filter}
use Rattle.std.specs.Option.{option_map, option_map_or}
use Rattle.std.specs.FinMap.{get, insert}
use Rattle.base.specs.Map.{Map}
use Rattle.base.specs.Surveys.{IsIn}
use Rattle.model.specs.World.{World, FileSystem, Snap, SnapId, id_of, same_id, snap_at, snaps_of}
use Rattle.model.specs.State.{Views, is_viewed}
use Rattle.model.specs.Edits.{with_file_system, with_file_systems, with_losses, with_tags, without_snaps}
use Rattle.model.specs.requests.Destroy.{with_deferred}
use Rattle.world.specs.RunLaws.{HasSnap}
use Rattle.world.specs.Shapes.{Name, name_order}
use Rattle.world.proofs.lists.Maps.{same_value, no_value, key_cases}
use Rattle.world.proofs.lists.Finding.{find_only, in_filter, from_filter, same_id_is, is_same_id}
use Rattle.world.proofs.lists.Listed.{in_map, map_in}
use Rattle.world.proofs.lineage.Bridge.{in_snaps, from_snaps, from_snap_at}
use Rattle.world.proofs.lineage.Put.{put_here, put_other, put_cases}
use Rattle.world.proofs.removals.Sweep.{get-with_file_systems}
use Rattle.world.proofs.removals.WithoutSnaps.{from_without, without_at}

-- ---- words

-- an identity is one snapshot's, in one file system
abbrev pub AreOnce : World → Type 0
AreOnce w = (name other : Name) (t u : Snap) → HasSnap w name t → HasSnap w other u → id_of t ≡ id_of u → (name ≡ other) × (t ≡ u)

-- each snapshot's group is closed
abbrev pub AreClosed : World → Type 0
AreClosed w = (name : Name) (t : Snap) → HasSnap w name t → t.group < w.group

-- what a snapshot keeps: its identity, its map and its name
abbrev pub kept_of : Snap → SnapId × Map × List ℕ
kept_of t = (id_of t, t.map, t.name)

-- what holds of a world that comes after another, while these views are open
pub record IsSafe (views : Views) (w new : World) : Type 0 where
  pub once : AreOnce new
  pub closed : AreClosed new
  pub stands : (name : Name) (t : Snap) → HasSnap w name t → is_viewed views (id_of t) ≡ true → (other : Name) × (u : Snap) × HasSnap new other u × (kept_of u ≡ kept_of t)

-- ---- snapshots by their identities

pub snap_found : (w : World) → AreOnce w → (name : Name) (t : Snap) (id : SnapId) → HasSnap w name t → id_of t ≡ id → snap_at w id ≡ Some (name, t)
snap_found w once name t id h is =
    find_only (λ (x : Name × Snap). same_id (id_of x.1) id) (snaps_of w) (name, t) (in_snaps w name h.0 t h.1 h.2) (is_same_id (id_of t) id is)
    (λ p i e.
    let same = once p.0 name p.1 t (from_snaps w p i) h (same_id_is (id_of p.1) id e ∙ sym is) in
    λ j. (same.0 j, same.1 j))

pub from_found : (w : World) (id : SnapId) (p : Name × Snap) → snap_at w id ≡ Some p → HasSnap w p.0 p.1 × (id_of p.1 ≡ id)
from_found w id p e = let k = from_snap_at w id p e in ((k.0, k.1, k.2), k.3)

-- a snapshot that is viewed is found afterwards, as it was
pub found_after : (views : Views) (w new : World) → IsSafe views w new → (id : SnapId) → is_viewed views id ≡ true → (p : Name × Snap) → snap_at w id ≡ Some p
    → (q : Name × Snap) × (snap_at new id ≡ Some q) × (kept_of q.1 ≡ kept_of p.1)
found_after views w new safe id seen p e =
    let k = from_found w id p e in
    let u = safe.stands p.0 p.1 k.0 (ap (is_viewed views) k.1 ∙ seen) in
    ((u.0, u.1), snap_found new safe.once u.0 u.1 id u.2 (ap (λ x. x.0) u.3 ∙ k.1), u.3)

-- ---- safe worlds

-- a world whose snapshots are an earlier one's, but for what is changed beside identity, map and name
pub safe_from : (views : Views) (w new : World) (change : Snap → Snap) → ((t : Snap) → kept_of (change t) ≡ kept_of t) → AreOnce w → AreClosed w → w.group ≤ new.group
    → ((name : Name) (t : Snap) → HasSnap new name t → (u : Snap) × HasSnap w name u × (t ≡ change u))
    → ((name : Name) (t : Snap) → HasSnap w name t → is_viewed views (id_of t) ≡ true → HasSnap new name (change t))
    → IsSafe views w new
safe_from views w new change same once closed up from stands = record {
  once = λ name other t u h k ids.
      let a = from name t h in
      let b = from other u k in
      let one = once name other a.0 b.0 a.1 b.1 (sym (id_is t a.0 a.2) ∙ ids ∙ id_is u b.0 b.2) in
      (one.0, a.2 ∙ ap change one.1 ∙ sym b.2);
  closed = λ name t h.
      let a = from name t h in
      let c = closed name a.0 a.1 in
      let e = ap (λ (x : SnapId). x.group) (id_is t a.0 a.2) in
      omega arith;
  stands = λ name t h seen. (name, change t, stands name t h seen, same t);
}
  where
    id_is : (t u : Snap) → t ≡ change u → id_of t ≡ id_of u
    id_is t u e = ap id_of e ∙ ap (λ x. x.0) (same u)

-- where each snapshot is an earlier one
pub safe_fewer : (views : Views) (w new : World) → AreOnce w → AreClosed w → w.group ≤ new.group
    → ((name : Name) (t : Snap) → HasSnap new name t → HasSnap w name t)
    → ((name : Name) (t : Snap) → HasSnap w name t → is_viewed views (id_of t) ≡ true → HasSnap new name t)
    → IsSafe views w new
safe_fewer views w new once closed up from stands = safe_from views w new (λ t. t) (λ t. refl) once closed up (λ name t h. (t, from name t h, refl)) stands

pub safe_same : (views : Views) (w : World) → AreOnce w → AreClosed w → IsSafe views w w
safe_same views w once closed = record { once = once; closed = closed; stands = λ name t h seen. (name, t, h, refl) }

-- one after the other
pub safe_then : (views : Views) (w v new : World) → IsSafe views w v → IsSafe views v new → IsSafe views w new
safe_then views w v new a b = record {
  once = b.once;
  closed = b.closed;
  stands = λ name t h seen.
      let x = a.stands name t h seen in
      let y = b.stands x.0 x.1 x.2 (ap (λ (k : SnapId × Map × List ℕ). is_viewed views k.0) x.3 ∙ seen) in
      (y.0, y.1, y.2, y.3 ∙ x.3);
}

-- what is to be freed is no matter
pub safe_losses : (views : Views) (w new : World) → IsSafe views w new → IsSafe views w (with_losses w new)
safe_losses views w new h = record { once = h.once; closed = h.closed; stands = h.stands }

-- ---- edits

-- one file system changed, with no other snapshots than it had
pub one_changed : (views : Views) (w : World) (name : Name) (change : FileSystem → FileSystem) → AreOnce w → AreClosed w
    → ((s : FileSystem) (t : Snap) → get w.file_systems name ≡ Some s → IsIn (change s).snaps t → IsIn s.snaps t)
    → ((s : FileSystem) (t : Snap) → get w.file_systems name ≡ Some s → IsIn s.snaps t → is_viewed views (id_of t) ≡ true → IsIn (change s).snaps t)
    → IsSafe views w (with_file_system w name change)
one_changed views w name change once closed fewer stays = by_system (get w.file_systems name) refl
  where
    by_system : (x : Option FileSystem) → get w.file_systems name ≡ x
        → IsSafe views w (option_map_or (λ s. record w { file_systems = insert w.file_systems name (change s) }) x w)
    by_system None e = safe_same views w once closed
    by_system (Some s) e = safe_fewer views w (record w { file_systems = insert w.file_systems name (change s) }) once closed (omega arith)
        (λ q t h. ⊎_elim
        (λ k. (s, ap (get w.file_systems) k.0 ∙ e, fewer s t e (subst (λ (x : FileSystem). IsIn x.snaps t) k.1 h.2)))
        (λ k. (h.0, k.1, h.2))
        (put_cases w.file_systems name (change s) q h.0 h.1))
        (λ q t h seen. ⊎_elim
        (λ (same : q ≡ name).
        let one = same_value h.0 s (sym h.1 ∙ ap (get w.file_systems) same ∙ e) in
        (change s, ap (get (insert w.file_systems name (change s))) same ∙ put_here w.file_systems name (change s), stays s t e (subst (λ (x : FileSystem). IsIn x.snaps t) one h.2) seen))
        (λ (other : ¬ (q ≡ name)). (h.0, put_other w.file_systems name (change s) q other ∙ h.1, h.2))
        (key_cases name_order q name))

-- some snapshots gone, none of which is viewed
pub some_gone : (views : Views) (w : World) (goes : Snap → Bool) → AreOnce w → AreClosed w
    → ((name : Name) (t : Snap) → HasSnap w name t → is_viewed views (id_of t) ≡ true → not (goes t) ≡ true)
    → IsSafe views w (without_snaps w goes)
some_gone views w goes once closed stay = safe_fewer views w (without_snaps w goes) once closed (omega arith)
    (λ q t h.
    let k = from_without w goes q h.0 h.1 in
    (k.0, k.1, (from_filter (λ t. not (goes t)) k.0.snaps t (subst (λ (x : FileSystem). IsIn x.snaps t) k.2 h.2)).0))
    (λ q t h seen. (record h.0 { snaps = filter (λ t. not (goes t)) h.0.snaps }, without_at w goes q h.0 h.1, in_filter (λ t. not (goes t)) h.0.snaps t h.2 (stay q t h seen)))

-- each snapshot changed, but not what a view shows of it
module _ (w : World) (change : Snap → Snap) (same : (t : Snap) → kept_of (change t) ≡ kept_of t) where
  abbrev changed : FileSystem → FileSystem
  changed f = record f { snaps = map {A = Snap} change f.snaps }

  abbrev after : World
  after = with_file_systems w (λ _ f. record f { snaps = map {A = Snap} change f.snaps })

  all_changed : (q : Name) → get after.file_systems q ≡ option_map changed (get w.file_systems q)
  all_changed q = get-with_file_systems w (λ _ f. record f { snaps = map {A = Snap} change f.snaps }) q

  from_changed : (q : Name) (t : Snap) → HasSnap after q t → (u : Snap) × HasSnap w q u × (t ≡ change u)
  from_changed q t h = by_system (get w.file_systems q) refl (sym (all_changed q) ∙ h.1)
    where
      by_system : (x : Option FileSystem) → get w.file_systems q ≡ x → option_map changed x ≡ Some h.0 → (u : Snap) × HasSnap w q u × (t ≡ change u)
      by_system None e k = absurd (no_value h.0 k)
      by_system (Some f) e k =
          let i = in_map change f.snaps t (subst (λ (x : FileSystem). IsIn x.snaps t) (sym (same_value (changed f) h.0 k)) h.2) in
          (i.0, (f, e, i.1), i.2)

  pub each_changed : (views : Views) → AreOnce w → AreClosed w → IsSafe views w (with_file_systems w (λ _ f. record f { snaps = map {A = Snap} change f.snaps }))
  each_changed views once closed = safe_from views w after change same once closed (omega arith) from_changed
      (λ q t h seen. (changed h.0, all_changed q ∙ ap (option_map changed) h.1, map_in change h.0.snaps t h.2))

-- some snapshots that are to go
pub some_deferred : (w : World) (some : Snap → Bool) (views : Views) → AreOnce w → AreClosed w → IsSafe views w (with_deferred w some)
some_deferred w some = each_changed w (λ t. record t { deferred = t.deferred || some t }) (λ t. refl)

-- other tags of a snapshot
same_tagged : (b : Bool) (t : Snap) (tags : List (List ℕ)) → kept_of (if b then record t { tags = tags } else t) ≡ kept_of t
same_tagged true t tags = refl
same_tagged false t tags = refl

pub one_tagged : (w : World) (id : SnapId) (tags : List (List ℕ)) (views : Views) → AreOnce w → AreClosed w → IsSafe views w (with_tags w id tags)
one_tagged w id tags =
    each_changed w (λ t. if same_id (id_of t) id then record t { tags = tags } else t) (λ t. same_tagged (same_id (id_of t) id) t tags)

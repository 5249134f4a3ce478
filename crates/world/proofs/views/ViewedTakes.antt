-- Snapshots that a request takes: those that were there stay, and no identity is given twice.
use Rattle.std.proofs.Common.{◌≡◌, ℕ, ◌+◌, ◌<◌, List, [], ◌∷◌, ◌++◌, Option, Some, None, refl, sym, ap, subst, ◌∙◌, ◌⊎◌, inl, inr, ⊎_elim, arith}
use Rattle.std.specs.Option.{option_map_or}
use Rattle.std.specs.FinMap.{get, insert}
use Rattle.base.specs.declared.name.member.Member.{Member}
use Rattle.base.specs.Surveys.{IsIn}
use Rattle.model.specs.World.{World, FileSystem, Snap, SnapId, id_of}
use Rattle.model.specs.State.{Views}
use Rattle.model.specs.Edits.{with_next_group}
use Rattle.model.specs.requests.Snapshot.{snap_of_live, with_snapshots}
use Rattle.world.specs.RunLaws.{HasSnap}
use Rattle.world.specs.Shapes.{Name, name_order}
use Rattle.world.proofs.lists.Maps.{same_value, key_cases}
use Rattle.world.proofs.lists.Finding.{in_left, in_either}
use Rattle.world.proofs.lineage.Put.{put_here, put_other, put_cases}
use Rattle.world.proofs.views.Viewed.{AreOnce, AreClosed, IsSafe}

-- the snapshots are of closed groups, or of the open one with guids below this one
abbrev AreBelow : World → ℕ → Type 0
AreBelow w guid = (name : Name) (t : Snap) → HasSnap w name t → (t.group < w.group) ⊎ ((t.group ≡ w.group) × (t.guid < guid))

-- a world with more snapshots, whose groups go up to the open one
record IsTaken (w new : World) : Type 0 where
  once : AreOnce new
  upto : (name : Name) (t : Snap) → HasSnap new name t → t.group < w.group + 1
  stays : (name : Name) (t : Snap) → HasSnap w name t → HasSnap new name t
  group : new.group ≡ w.group

-- ---- one of them

module _ (w : World) (name : Name) (s : FileSystem) (at : get w.file_systems name ≡ Some s) (t : Snap) where
  abbrev longer : FileSystem
  longer = record s { snaps = s.snaps ++ t ∷ [] }

  abbrev more : World
  more = record w { file_systems = insert w.file_systems name (record s { snaps = s.snaps ++ t ∷ [] }) }

  -- what was there is there
  more_there : (q : Name) (u : Snap) → HasSnap w q u → HasSnap more q u
  more_there q u h = ⊎_elim
      (λ (same : q ≡ name).
      let one = same_value h.0 s (sym h.1 ∙ ap (get w.file_systems) same ∙ at) in
      (longer, ap (get more.file_systems) same ∙ put_here w.file_systems name longer, in_left s.snaps (t ∷ []) u (subst (λ (x : FileSystem). IsIn x.snaps u) one h.2)))
      (λ (other : ¬ (q ≡ name)). (h.0, put_other w.file_systems name longer q other ∙ h.1, h.2))
      (key_cases name_order q name)

  -- what is there was there, or is the new one
  from_more : (q : Name) (u : Snap) → HasSnap more q u → HasSnap w q u ⊎ ((q ≡ name) × (u ≡ t))
  from_more q u h = ⊎_elim
      (λ k. ⊎_elim
      (λ i. inl (s, ap (get w.file_systems) k.0 ∙ at, i))
      (λ i. inr (k.0, ⊎_elim (λ (e : u ≡ t). e) (λ e. absurd e) i))
      (in_either s.snaps (t ∷ []) u (subst (λ (x : FileSystem). IsIn x.snaps u) k.1 h.2)))
      (λ k. inl (h.0, k.1, h.2))
      (put_cases w.file_systems name longer q h.0 h.1)

  module _ (once : AreOnce w) (new : (q : Name) (u : Snap) → HasSnap w q u → id_of u ≡ id_of t → ⊥) where
    more_once : AreOnce more
    more_once q r u v h k ids = ⊎_elim
        (λ a. ⊎_elim
        (λ b. once q r u v a b ids)
        (λ b. absurd (new q u a (ids ∙ ap id_of b.1)))
        (from_more r v k))
        (λ a. ⊎_elim
        (λ b. absurd (new r v b (sym ids ∙ ap id_of a.1)))
        (λ b. (a.0 ∙ sym b.0, a.1 ∙ sym b.1))
        (from_more r v k))
        (from_more q u h)

-- an identity that is still to be given is no snapshot's
still_new : (w : World) (guid : ℕ) → AreBelow w guid → (t : Snap) → t.group ≡ w.group → t.guid ≡ guid → (q : Name) (u : Snap) → HasSnap w q u → id_of u ≡ id_of t → ⊥
still_new w guid below t g d q u h ids =
    let a = ap (λ (x : SnapId). x.group) ids in
    let b = ap (λ (x : SnapId). x.guid) ids in
    ⊎_elim (λ k. absurd (omega arith)) (λ k. let l = k.1 in absurd (omega arith)) (below q u h)

below_more : (w : World) (guid : ℕ) → AreBelow w guid → AreBelow w (guid + 1)
below_more w guid below q u h = ⊎_elim inl (λ k. let l = k.1 in inr (k.0, omega arith)) (below q u h)

-- ---- all of them

taken_first : (w v new : World) → ((name : Name) (t : Snap) → HasSnap w name t → HasSnap v name t) → v.group ≡ w.group → IsTaken v new → IsTaken w new
taken_first w v new stays group k = record {
  once = k.once;
  upto = λ q t h. let l = k.upto q t h in omega arith;
  stays = λ q t h. k.stays q t (stays q t h);
  group = k.group ∙ group;
}

take_all : (ms : List Member) (guid : ℕ) (w : World) → AreOnce w → AreBelow w guid → IsTaken w (with_snapshots w guid ms)
take_all [] guid w once below = record {
  once = once;
  upto = λ q t h. ⊎_elim (λ (l : t.group < w.group). omega arith) (λ k. let e = k.0 in omega arith) (below q t h);
  stays = λ q t h. h;
  group = refl;
}
take_all (m ∷ ms) guid w once below = by_system (get w.file_systems m.file_system) refl (λ v. take_all ms (guid + 1) v)
  where
    by_system : (x : Option FileSystem) → get w.file_systems m.file_system ≡ x
        → ((v : World) → AreOnce v → AreBelow v (guid + 1) → IsTaken v (with_snapshots v (guid + 1) ms))
        → IsTaken w (with_snapshots (option_map_or (λ s. record w { file_systems = insert w.file_systems m.file_system (record s { snaps = s.snaps ++ snap_of_live w s m.component guid ∷ [] }) }) x w) (guid + 1) ms)
    by_system None e rest = rest w once (below_more w guid below)
    by_system (Some s) e rest =
        let t = snap_of_live w s m.component guid in
        let v = more w m.file_system s e t in
        taken_first w v (with_snapshots v (guid + 1) ms) (more_there w m.file_system s e t) refl
        (rest v (more_once w m.file_system s e t once (still_new w guid below t refl refl)) (λ q u h. ⊎_elim
        (λ k. below_more w guid below q u k)
        (λ k. let a = ap (λ (x : Snap). x.group) k.1 in let b = ap (λ (x : Snap). x.guid) k.1 in inr (a, omega arith))
        (from_more w m.file_system s e t q u h)))

-- the snapshots of a request, and the group closed
pub taken_safe : (views : Views) (w : World) (guid : ℕ) (ms : List Member) → AreOnce w → AreClosed w → IsSafe views w (with_next_group (with_snapshots w guid ms))
taken_safe views w guid ms once closed = record {
  once = taken.once;
  closed = λ q t h. let l = taken.upto q t h in let e = taken.group in omega arith;
  stands = λ q t h seen. (q, t, taken.stays q t h, refl);
}
  where
    taken : IsTaken w (with_snapshots w guid ms)
    taken = take_all ms guid w once (λ q t h. inl (closed q t h))

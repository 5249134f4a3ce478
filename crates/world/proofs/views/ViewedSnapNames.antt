-- A rename of snapshots leaves those that a view shows.
use Rattle.std.proofs.Common.{◌≡◌, ◌&&◌, Bool, true, false, cond, List, ℕ, Some, None, refl, sym, ap, subst, ◌∙◌, true≢false, inl, inr, map, arith}
use Rattle.std.specs.List.{list_any}
use Rattle.std.specs.FinMap.{get, entries}
use Rattle.base.specs.declared.refusal.Refusal.TheVariants.{Exists, Busy}
use Rattle.base.specs.declared.name.member.Member.{Member}
use Rattle.base.specs.Names.{same_name}
use Rattle.base.specs.Surveys.{IsIn}
use Rattle.model.specs.World.{World, FileSystem, Snap, SnapId, id_of}
use Rattle.model.specs.State.{State, Views, is_viewed}
use Rattle.model.specs.Rule.{first_of}
use Rattle.model.specs.Refusals.{refusal_of}
use Rattle.model.specs.requests.RenameSnapshot.{is_renamed, with_snaps_renamed, any_renamed, snapshot_renaming_row, rename_snapshot_rule}
use Rattle.world.specs.RunLaws.{HasSnap}
use Rattle.world.specs.Shapes.{Name, name_order}
use Rattle.world.proofs.changes.SnapNames.{renames, renames_kept, named_was, named_here}
use Rattle.world.proofs.lineage.Bridge.{in_entries}
use Rattle.world.proofs.lists.Finding.{any_none, name_itself}
use Rattle.world.proofs.lists.Listed.{in_map, map_in}
use Rattle.world.proofs.lists.Maps.{entry_of}
use Rattle.world.proofs.views.Viewed.{AreOnce, AreClosed, IsSafe, kept_of}
use Rattle.world.proofs.views.ViewedRequests.{row_false}

-- what nothing refuses: no file system whose snapshot it renames has one of the new name, and no view shows one that it renames
pub record CanRenameSnaps (w : World) (views : Views) (m : Member) (to : List ℕ) (recursive : Bool) : Type 0 where
  pub free : (n : Name) (f : FileSystem) (t u : Snap) → get w.file_systems n ≡ Some f → IsIn f.snaps t → IsIn f.snaps u → is_renamed m recursive n t ≡ true → u.name ≡ to → ⊥
  pub unseen : (n : Name) (t : Snap) → HasSnap w n t → is_renamed m recursive n t ≡ true → is_viewed views (id_of t) ≡ false

-- so say the rows
module _ (w : World) (m : Member) (recursive : Bool) (test : Name → FileSystem → Snap → Bool) (none : any_renamed w m recursive test ≡ false) where
  none_renamed : (n : Name) (f : FileSystem) (t : Snap) → get w.file_systems n ≡ Some f → IsIn f.snaps t → is_renamed m recursive n t ≡ true → test n f t ≡ false
  none_renamed n f t at i e =
      ap (λ b. b && test n f t) (sym e)
      ∙ any_none (λ (t : Snap). is_renamed m recursive n t && test n f t) f.snaps
      (any_none (λ (e : Name × FileSystem). list_any (λ (t : Snap). is_renamed m recursive e.0 t && test e.0 e.1 t) e.1.snaps) (entries w.file_systems) none (n, f)
      (in_entries (entries w.file_systems) n f (entry_of name_order w.file_systems n f at))) t i

module _ (w : World) (views : Views) (m : Member) (to : List ℕ) (recursive : Bool) (none : first_of (snapshot_renaming_row w views m to recursive) ≡ None) where
  pub can_rename_snaps : CanRenameSnaps w views m to recursive
  can_rename_snaps = record {
    free = λ n f t u at i j e named. true≢false
        (sym (ap (λ x. same_name x to) named ∙ name_itself to)
        ∙ any_none (λ (u : Snap). same_name u.name to) f.snaps
        (none_renamed w m recursive (λ n f t. list_any (λ (u : Snap). same_name u.name to) f.snaps)
        (row_false (snapshot_renaming_row w views m to recursive) none (any_renamed w m recursive (λ n f t. list_any (λ (u : Snap). same_name u.name to) f.snaps), Exists) (inr (inr (inl refl)))) n f t at i e) u j);
    unseen = λ n t h e.
        none_renamed w m recursive (λ n f t. is_viewed views (id_of t))
        (row_false (snapshot_renaming_row w views m to recursive) none (any_renamed w m recursive (λ n f t. is_viewed views (id_of t)), Busy) (inr (inr (inr (inl refl))))) n h.0 t h.1 h.2 e;
  }

module _ (w : World) (m : Member) (to : List ℕ) (recursive : Bool) (once : AreOnce w) (closed : AreClosed w) where
  abbrev change : Name → Snap → Snap
  change = renames m to recursive

  same_id_of : (n : Name) (t : Snap) → id_of (change n t) ≡ id_of t
  same_id_of n t = (renames_kept m to recursive n t).0

  was : (n : Name) (t : Snap) → HasSnap (with_snaps_renamed w m to recursive) n t → (u : Snap) × HasSnap w n u × (t ≡ change n u)
  was n t (x, at, i) =
      let f = named_was m to recursive w n x at in
      let u = in_map (change n) f.0.snaps t (subst (λ (y : FileSystem). IsIn y.snaps t) f.2 i) in
      (u.0, (f.0, f.1, u.1), u.2)

  pub named_once : AreOnce (with_snaps_renamed w m to recursive)
  named_once n p t u h k ids =
      let a = was n t h in
      let b = was p u k in
      let one = once n p a.0 b.0 a.1 b.1 (sym (ap id_of a.2 ∙ same_id_of n a.0) ∙ ids ∙ ap id_of b.2 ∙ same_id_of p b.0) in
      (one.0, a.2 ∙ (λ i. change (one.0 i) (one.1 i)) ∙ sym b.2)

  pub named_closed : AreClosed (with_snaps_renamed w m to recursive)
  named_closed n t h =
      let a = was n t h in
      let c = closed n a.0 a.1 in
      let e = ap (λ (x : SnapId). x.group) (ap id_of a.2 ∙ same_id_of n a.0) in
      omega arith

  module _ (views : Views) (can : CanRenameSnaps w views m to recursive) where
    pub named_safe : IsSafe views w (with_snaps_renamed w m to recursive)
    named_safe = record {
      once = named_once;
      closed = named_closed;
      stands = λ n t (x, at, i) seen. (n, change n t, (record x { snaps = map {A = Snap} (change n) x.snaps }, named_here m to recursive w n x at, map_in (change n) x.snaps t i), kept n t (is_renamed m recursive n t) refl (x, at, i) seen);
    }
      where
        kept : (n : Name) (t : Snap) (b : Bool) → is_renamed m recursive n t ≡ b → HasSnap w n t → is_viewed views (id_of t) ≡ true → kept_of (cond (is_renamed m recursive n t) (record t { name = to }) t) ≡ kept_of t
        kept n t true e h seen = absurd (true≢false (sym seen ∙ can.unseen n t h e))
        kept n t false e h seen = ap (λ b. kept_of (cond b (record t { name = to }) t)) e

pub can_by_rule : (s : State) (m : Member) (to : List ℕ) (recursive : Bool) → refusal_of s (rename_snapshot_rule m to recursive) ≡ None → CanRenameSnaps s.now s.views m to recursive
unfolding refusal_of
can_by_rule s m to recursive none = can_rename_snaps s.now s.views m to recursive none

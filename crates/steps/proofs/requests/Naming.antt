-- Snapshots under another name: the datasets after it, why it is refused, and its steps.
use Rattle.std.proofs.Common.{◌≡◌, ◌⊎◌, ℕ, Bool, true, false, cond, List, Some, None, refl, sym, ap, subst, ◌∙◌, ⊎_elim, length}
use Rattle.std.specs.Prelude.{nat_lt}
use Rattle.std.proofs.lemmas.Bool.{or_cases, or_left, or_right}
use Rattle.base.specs.Surveys.{IsIn}
use Rattle.base.specs.declared.refusal.Refusal.{Refusal}
use Rattle.base.specs.declared.refusal.Refusal.TheVariants.{NoMemory}
use Rattle.base.specs.declared.name.member.Member.{Member}
use Rattle.model.specs.declared.request.Request.TheVariants.{RenameSnapshot}
use Rattle.model.specs.declared.reply.Reply.TheVariants.{Done, Refused}
use Rattle.model.specs.World.{World, FileSystem, Snap, id_of, clones_of}
use Rattle.model.specs.State.{State, is_viewed}
use Rattle.model.specs.Edits.{with_now}
use Rattle.model.specs.Outcome.{is_needed}
use Rattle.model.specs.Refusals.{refusal_of}
use Rattle.model.specs.Step.{Step}
use Rattle.model.specs.requests.RenameSnapshot.{is_renamed, with_snaps_renamed, rename_snapshot_rule}
use Rattle.world.specs.Shapes.{Name}
use Rattle.world.specs.Worlds.{IsSwept}
use Rattle.world.proofs.changes.SnapNames.{renames, renames_kept, with_names, named_was, named_here, named_from, named_union}
use Rattle.world.proofs.lists.Listed.{in_map}
use Rattle.world.proofs.steps.States.{in_clones, some_in, from_clones, positive}
use Rattle.world.proofs.steps.StateSteps.{rename_snapshots_before}
use Rattle.world.proofs.views.ViewedSnapNames.{CanRenameSnaps, can_rename_snaps}
use Rattle.limits.proofs.Steps.{kept_all, shrunk_snaps}
use Rattle.steps.specs.Steady.{IsSteady}
use Rattle.steps.specs.Edits.{datasets_of, put, CanPut}
use Rattle.marks.specs.Naming.{snap_naming_refusal, snaps_renamed_in}
use Rattle.steps.proofs.requests.Labelling.{IsLabelled, label_can_swept}
use Rattle.steps.proofs.numbers.Putting.{put_none}
use Rattle.steps.proofs.numbers.Ruled.{no_choice, refused_by, no_memory_by, done_by}

-- ---- the request

module _ (s : State) (m : Member) (to : List ℕ) (recursive : Bool) where
  row_is : refusal_of s (rename_snapshot_rule m to recursive) ≡ snap_naming_refusal (datasets_of s) s.views m to recursive
  unfolding refusal_of
  row_is = refl

  -- one that is refused, or has no memory
  pub naming_refused : (why : Refusal) → (snap_naming_refusal (datasets_of s) s.views m to recursive ≡ Some why) ⊎ (why ≡ NoMemory) → Step s (RenameSnapshot m to recursive) (Refused why) s
  naming_refused why which = ⊎_elim
      (λ e. refused_by (RenameSnapshot m to recursive) (rename_snapshot_rule m to recursive) (None, refl, refl) s why (row_is ∙ e))
      (λ e. subst (λ z. Step s (RenameSnapshot m to recursive) (Refused z) s) (sym e) (no_memory_by (RenameSnapshot m to recursive) (rename_snapshot_rule m to recursive) (None, refl, refl) s refl))
      which

  module _ (steady : IsSteady s) (none : snap_naming_refusal (datasets_of s) s.views m to recursive ≡ None) where
    can : CanRenameSnaps s.now s.views m to recursive
    can = can_rename_snaps s.now s.views m to recursive none

    abbrev after : World
    after = with_snaps_renamed s.now m to recursive

    pub naming_label : IsLabelled s after.file_systems
    naming_label = record {
      good = rename_snapshots_before s steady.good m to recursive can;
      from = named_from m to recursive s.now;
      union = named_union m to recursive s.now can.free steady.good.now.systems;
      kept = kept_all s.now (with_names m to recursive) (λ q f. shrunk_snaps f (with_names m to recursive q f) refl refl refl
          (λ u h.
          let v = in_map (renames m to recursive q) f.snaps u h in
          let k = renames_kept m to recursive q v.0 in
          (v.0, v.1, ap id_of v.2 ∙ k.0, ap (λ (x : Snap). x.map) v.2 ∙ k.1)));
      origins = λ q x id at o. (q, with_names m to recursive q x, named_here m to recursive s.now q x at, o);
    }

    -- what needs a snapshot needs it under the new name
    same_need : (w : World) (q : Name) (u : Snap) → is_needed w s.views (renames m to recursive q u) ≡ is_needed w s.views u
    same_need w q u = by_test (is_renamed m recursive q u)
      where
        by_test : (b : Bool) → is_needed w s.views (cond b (record u { name = to }) u) ≡ is_needed w s.views u
        by_test true = refl
        by_test false = refl

    same_mark : (q : Name) (u : Snap) → (renames m to recursive q u).deferred ≡ u.deferred
    same_mark q u = by_test (is_renamed m recursive q u)
      where
        by_test : (b : Bool) → (cond b (record u { name = to }) u).deferred ≡ u.deferred
        by_test true = refl
        by_test false = refl

    naming_swept : IsSwept (with_now s after)
    naming_swept q x t at h d =
        let f = named_was m to recursive s.now q x at in
        let u = in_map (renames m to recursive q) f.0.snaps t (subst (λ (y : FileSystem). IsIn y.snaps t) f.2 h) in
        ap (is_needed after s.views) u.2 ∙ same_need after q u.0
        ∙ still_needed u.0 (steady.swept q f.0 u.0 f.1 u.1 (sym (same_mark q u.0) ∙ ap (λ (y : Snap). y.deferred) (sym u.2) ∙ d))
      where
        still_needed : (u : Snap) → is_needed s.now s.views u ≡ true → is_needed after s.views u ≡ true
        still_needed u e = ⊎_elim
            (λ k. or_left (nat_lt 0 (length u.tags)) _ k)
            (λ k. or_right (nat_lt 0 (length u.tags)) _ (⊎_elim
            (λ i. or_left (is_viewed s.views (id_of u)) _ i)
            (λ i.
            let q = some_in (clones_of s.now (id_of u)) i in
            let x = from_clones s.now (id_of u) q.0 q.1 in
            or_right (is_viewed s.views (id_of u)) _
            (positive (clones_of after (id_of u)) q.0 (in_clones after (id_of u) q.0 (with_names m to recursive q.0 x.0) (named_here m to recursive s.now q.0 x.0 x.1) x.2)))
            (or_cases (is_viewed s.views (id_of u)) (nat_lt 0 (length (clones_of s.now (id_of u)))) k)))
            (or_cases (nat_lt 0 (length u.tags)) _ e)

    -- the datasets after it can be put in place
    pub naming_can : CanPut s (snaps_renamed_in (datasets_of s) m to recursive) 0
    naming_can = label_can_swept s steady after.file_systems naming_label naming_swept

    -- and one that nothing refuses puts them there
    pub naming_done : Step s (RenameSnapshot m to recursive) Done (put s (snaps_renamed_in (datasets_of s) m to recursive) 0)
    naming_done = done_by (RenameSnapshot m to recursive) (rename_snapshot_rule m to recursive) (None, refl, refl) s no_choice (put s (snaps_renamed_in (datasets_of s) m to recursive) 0) Done
        refl refl (row_is ∙ none) refl (put_none s (snaps_renamed_in (datasets_of s) m to recursive)) naming_can.steady

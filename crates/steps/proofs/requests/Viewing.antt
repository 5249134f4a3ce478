-- Views opened and closed: why the first is refused, what the second lets go, and their steps.
use Rattle.std.proofs.Common.{◌≡◌, ◌+◌, ◌<◌, ℕ, Bool, true, false, not, ◌||◌, ◌&&◌, cond, Option, Some, None, refl, sym, ap, ◌∙◌, ⊎_elim, arith}
use Rattle.std.specs.Prelude.{nat_lt}
use Rattle.std.specs.List.{find}
use Rattle.std.specs.Option.{option_map, option_map_or, option_and_then, is_some}
use Rattle.std.specs.FinMap.{get, insert, remove, len}
use Rattle.base.specs.declared.refusal.Refusal.{Refusal}
use Rattle.base.specs.declared.refusal.Refusal.TheVariants.{NotSnapshot, NoDataset, Deferred, TooMany, NoView}
use Rattle.base.specs.Surveys.{IsIn}
use Rattle.base.specs.Names.{same_name}
use Rattle.base.specs.declared.name.member.Member.{Member}
use Rattle.base.specs.declared.name.target.Target.{Target}
use Rattle.base.specs.declared.name.target.Target.TheVariants.{FileSystem as OfFileSystem, Snapshot as OfSnapshot, Bookmark as OfBookmark}
use Rattle.model.specs.declared.request.Request.TheVariants.{OpenView, CloseView}
use Rattle.model.specs.declared.reply.Reply.TheVariants.{Done, Refused, Opened}
use Rattle.model.specs.World.{World, FileSystem, Snap, SnapId, id_of}
use Rattle.model.specs.State.{State}
use Rattle.model.specs.Outcome.{is_needed}
use Rattle.model.specs.Targets.{number_limit}
use Rattle.model.specs.Refusals.{refusal_of}
use Rattle.model.specs.Rule.{first_of}
use Rattle.model.specs.Step.{Step}
use Rattle.model.specs.requests.Rollback.{placed}
use Rattle.model.specs.requests.OpenView.{view_limit, open_view_row, open_view_rule}
use Rattle.model.specs.requests.CloseView.{close_view_rule}
use Rattle.model.specs.requests.Send.{sight_of}
use Rattle.world.specs.Shapes.{Name, view_order}
use Rattle.world.specs.Tables.{world_of}
use Rattle.world.specs.Worlds.{IsPoolState}
use Rattle.world.proofs.lists.Finding.{from_find}
use Rattle.world.proofs.lists.Maps.{same_value, no_value, key_cases, get-insert_same, get-insert_other, get-remove_same, get-remove_other}
use Rattle.world.proofs.lineage.Bridge.{snap_is_at}
use Rattle.removals.specs.Requests.{swept}
use Rattle.steps.specs.Steady.{IsSteady, snap_in}
use Rattle.steps.specs.Edits.{datasets_of, lose, viewing, closed, CanLose, StaysUnlimited}
use Rattle.steps.proofs.numbers.Ruled.{no_choice, refused_by, done_by, swept_by}
use Rattle.steps.proofs.quotas.Unlimited.{unlimited_without}
use Rattle.steps.proofs.requests.Seeing.{needed_more}
use Rattle.steps.proofs.requests.Sweeping.{after_is, sweep_can}

-- ---- a view opened

-- what the name is of
module _ (w : World) (m : Member) where
  pub none_placed : snap_in w.file_systems m ≡ None → placed w (OfSnapshot m) ≡ None
  none_placed none = at (get w.file_systems m.file_system) ∙ refl
    where
      at : (x : Option FileSystem) → option_and_then {U = FileSystem × Snap} (λ (f : FileSystem). option_map {U = FileSystem × Snap} (λ (t : Snap). (f, t)) (snap_in w.file_systems m)) x ≡ None
      at None = refl
      at (Some f) = ap (option_map {U = FileSystem × Snap} (λ (t : Snap). (f, t))) none

  pub one_placed : (t : Snap) → snap_in w.file_systems m ≡ Some t
      → (f : FileSystem) × (placed w (OfSnapshot m) ≡ Some (f, t)) × (get w.file_systems m.file_system ≡ Some f) × IsIn f.snaps t
  one_placed t found = at (get w.file_systems m.file_system) refl
    where
      at : (x : Option FileSystem) → get w.file_systems m.file_system ≡ x
          → (f : FileSystem) × (placed w (OfSnapshot m) ≡ Some (f, t)) × (get w.file_systems m.file_system ≡ Some f) × IsIn f.snaps t
      at None e = absurd (no_value t (sym (ap (option_and_then (λ (f : FileSystem). find (λ (v : Snap). same_name v.name m.component) f.snaps)) e) ∙ found))
      at (Some f) e = (
        f,
        ap (option_and_then {U = FileSystem × Snap} (λ (g : FileSystem). option_map {U = FileSystem × Snap} (λ (u : Snap). (g, u)) (snap_in w.file_systems m))) e ∙ ap (option_map {U = FileSystem × Snap} (λ (u : Snap). (f, u))) found,
        e,
        (from_find (λ (v : Snap). same_name v.name m.component) f.snaps t (sym (ap (option_and_then (λ (g : FileSystem). find (λ (v : Snap). same_name v.name m.component) g.snaps)) e) ∙ found)).0,
      )

module _ (s : State) where
  row_is : (target : Target) → refusal_of s (open_view_rule target) ≡ first_of (open_view_row s target)
  unfolding refusal_of
  row_is target = refl

  pub open_file_system : (name : Name) → Step s (OpenView (OfFileSystem name)) (Refused NotSnapshot) s
  open_file_system name = refused_by (OpenView (OfFileSystem name)) (open_view_rule (OfFileSystem name)) (None, refl, refl) s NotSnapshot (row_is (OfFileSystem name))

  pub open_bookmark : (m : Member) → Step s (OpenView (OfBookmark m)) (Refused NotSnapshot) s
  open_bookmark m = refused_by (OpenView (OfBookmark m)) (open_view_rule (OfBookmark m)) (None, refl, refl) s NotSnapshot (row_is (OfBookmark m))

  module _ (m : Member) where
    abbrev full : Bool
    full = nat_lt view_limit (len s.views + 1) || nat_lt number_limit s.next_view

    row_by : (x : Option (FileSystem × Snap)) → placed s.now (OfSnapshot m) ≡ x
        → refusal_of s (open_view_rule (OfSnapshot m))
        ≡ cond {A = Option Refusal} (not (is_some x)) (Some NoDataset) (cond (option_map_or (λ (p : FileSystem × Snap). p.1.deferred) x false) (Some Deferred) (cond full (Some TooMany) None))
    row_by x e = row_is (OfSnapshot m)
        ∙ ap (λ (y : Option (FileSystem × Snap)). cond {A = Option Refusal} (not (is_some y)) (Some NoDataset) (cond (option_map_or (λ (p : FileSystem × Snap). p.1.deferred) y false) (Some Deferred) (cond full (Some TooMany) None))) e

    pub open_missing : snap_in s.now.file_systems m ≡ None → Step s (OpenView (OfSnapshot m)) (Refused NoDataset) s
    open_missing none = refused_by (OpenView (OfSnapshot m)) (open_view_rule (OfSnapshot m)) (None, refl, refl) s NoDataset (row_by None (none_placed s.now m none))

    module _ (t : Snap) (found : snap_in s.now.file_systems m ≡ Some t) where
      at : (f : FileSystem) × (placed s.now (OfSnapshot m) ≡ Some (f, t)) × (get s.now.file_systems m.file_system ≡ Some f) × IsIn f.snaps t
      at = one_placed s.now m t found

      row_there : refusal_of s (open_view_rule (OfSnapshot m)) ≡ cond {A = Option Refusal} t.deferred (Some Deferred) (cond full (Some TooMany) None)
      row_there = row_by (Some (at.0, t)) at.1

      pub open_deferred : t.deferred ≡ true → Step s (OpenView (OfSnapshot m)) (Refused Deferred) s
      open_deferred d = refused_by (OpenView (OfSnapshot m)) (open_view_rule (OfSnapshot m)) (None, refl, refl) s Deferred
          (row_there ∙ ap (λ b. cond {A = Option Refusal} b (Some Deferred) (cond full (Some TooMany) None)) d)

      pub open_full : t.deferred ≡ false → full ≡ true → Step s (OpenView (OfSnapshot m)) (Refused TooMany) s
      open_full d f = refused_by (OpenView (OfSnapshot m)) (open_view_rule (OfSnapshot m)) (None, refl, refl) s TooMany
          (row_there ∙ (λ i. cond {A = Option Refusal} (d i) (Some Deferred) (cond (f i) (Some TooMany) None)))

      -- one more view, of a number that none has
      pub open_can : IsSteady s → ((v : ℕ) (id : SnapId) → get s.views v ≡ Some id → v < s.next_view) → IsSteady (viewing s (id_of t))
      open_can steady below = record {
        good = record {
          now = steady.good.now;
          last = steady.good.last;
          pair = steady.good.pair;
          views = λ v id e. ⊎_elim
              (λ (same : v ≡ s.next_view). ap is_some (snap_is_at s.now s.now.group steady.good.now.systems.lines m.file_system at.0 t id at.2 at.3
              (same_value (id_of t) id (sym (get-insert_same view_order s.views s.next_view (id_of t)) ∙ ap (get (insert s.views s.next_view (id_of t))) (sym same) ∙ e))))
              (λ other. steady.good.views v id (sym (get-insert_other view_order s.views s.next_view (id_of t) v other) ∙ e))
              (key_cases view_order v s.next_view);
        };
        swept = λ n f u was h d. needed_more s.now s.views (insert s.views s.next_view (id_of t))
            (λ v id e. get-insert_other view_order s.views s.next_view (id_of t) v (λ same. let l = below v id e in absurd (omega arith)) ∙ e)
            u (steady.swept n f u was h d);
        limits = record { now = steady.limits.now; last = steady.limits.last };
      }

      pub open_done : t.deferred ≡ false → full ≡ false → IsSteady (viewing s (id_of t)) → Step s (OpenView (OfSnapshot m)) (Opened s.next_view (sight_of s.now (id_of t))) (viewing s (id_of t))
      open_done d f can = done_by (OpenView (OfSnapshot m)) (open_view_rule (OfSnapshot m)) (None, refl, refl) s no_choice (viewing s (id_of t)) (Opened s.next_view (sight_of s.now (id_of t))) refl refl
          (row_there ∙ (λ i. cond {A = Option Refusal} (d i) (Some Deferred) (cond (f i) (Some TooMany) None)))
          (sym (ap (λ (x : Option (FileSystem × Snap)). option_map_or (λ (p : FileSystem × Snap). Opened s.next_view (sight_of s.now (id_of p.1))) x Done) at.1))
          (sym (ap (λ (x : Option (FileSystem × Snap)). option_map_or (λ (p : FileSystem × Snap). viewing s (id_of p.1)) x s) at.1))
          can

-- ---- a view closed

module _ (s : State) (number : ℕ) where
  row_of : (b : Bool) → not (is_some (get s.views number)) ≡ b → refusal_of s (close_view_rule number) ≡ cond {A = Option Refusal} b (Some NoView) None
  unfolding refusal_of
  row_of b e = ap (λ x. cond {A = Option Refusal} x (Some NoView) None) e

  pub close_missing : get s.views number ≡ None → Step s (CloseView number) (Refused NoView) s
  close_missing none = refused_by (CloseView number) (close_view_rule number) (None, refl, refl) s NoView (row_of true (ap (λ x. not (is_some x)) none))

  -- the views that are left
  was : (v : ℕ) (id : SnapId) → get (remove s.views number) v ≡ Some id → get s.views v ≡ Some id
  was v id e = ⊎_elim
      (λ (same : v ≡ number). absurd (no_value id (sym (get-remove_same view_order s.views number) ∙ ap (get (remove s.views number)) (sym same) ∙ e)))
      (λ other. sym (get-remove_other view_order s.views number v other) ∙ e)
      (key_cases view_order v number)

  module _ (steady : IsSteady s) where
    left_good : IsPoolState (closed s number)
    left_good = record { now = steady.good.now; last = steady.good.last; pair = steady.good.pair; views = λ v id e. steady.good.views v id (was v id e) }

    -- where there was no limit, there is none
    pub close_unlimited : StaysUnlimited (closed s number) (swept (datasets_of s) (remove s.views number))
    close_unlimited none = unlimited_without (world_of (datasets_of s)) none (λ u. u.deferred && not (is_needed (world_of (datasets_of s)) (remove s.views number) u))

    -- without the view, what nothing needs goes
    pub close_can : CanLose (closed s number) (swept (datasets_of s) (remove s.views number))
    close_can = sweep_can (closed s number) left_good (record { now = steady.limits.now; last = steady.limits.last })

    pub close_done : (id : SnapId) → get s.views number ≡ Some id → Step s (CloseView number) Done (lose (closed s number) (swept (datasets_of s) (remove s.views number)))
    close_done id e = swept_by (CloseView number) (close_view_rule number) (None, refl, refl) s no_choice (lose (closed s number) (swept (datasets_of s) (remove s.views number))) Done refl refl
        (row_of false (ap (λ x. not (is_some x)) e)) refl (after_is (closed s number) left_good (record { now = steady.limits.now; last = steady.limits.last })) close_can.steady

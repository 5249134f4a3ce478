-- Views opened and closed.
use Rattle.std.proofs.Common.{◌≡◌, ◌<◌, ◌+◌, ◌||◌, ℕ, Bool, true, false, List, Option, Some, None, refl, sym, ap, subst, ◌∙◌}
use Rattle.std.specs.Prelude.{nat_lt, IfSome}
use Rattle.std.specs.Option.{option_map, is_some}
use Rattle.std.specs.FinMap.{get, len, remove}
use Rattle.base.specs.declared.refusal.Refusal.TheVariants.{NotSnapshot, NoDataset, Deferred, TooMany, NoView}
use Rattle.base.specs.declared.name.member.Member.{Member}
use Rattle.base.specs.declared.name.target.Target.{Target}
use Rattle.base.specs.declared.name.target.Target.TheVariants.{FileSystem as OfFileSystem, Snapshot as OfSnapshot, Bookmark as OfBookmark}
use Rattle.zalloc.specs.declared.BlockState.{BlockState}
use Rattle.model.specs.declared.request.Request.TheVariants.{OpenView, CloseView}
use Rattle.model.specs.declared.reply.Reply.{Reply}
use Rattle.model.specs.declared.reply.Reply.TheVariants.{Done, Refused, Opened}
use Rattle.model.specs.declared.snapshot_id.SnapshotId.{SnapshotId}
use Rattle.model.specs.Ids.{snap_id}
use Rattle.model.specs.Sights.{Seen}
use Rattle.model.specs.State.{State}
use Rattle.model.specs.Step.{Step}
use Rattle.model.specs.Targets.{number_limit}
use Rattle.model.specs.World.{Snap, SnapId, id_of}
use Rattle.model.specs.requests.OpenView.{view_limit}
use Rattle.model.specs.requests.Send.{sources_of, sight_of}
use Rattle.world.specs.Tables.{Datasets, world_of}
use Rattle.removals.specs.Requests.{swept}
use Rattle.steps.specs.Edits.{datasets_of, lose, viewing, closed, CanLose, StaysUnlimited}
use Rattle.steps.specs.Steady.{IsSteady, snap_in}
use Rattle.steps.proofs.questions.Sends.{sources_alike, sight_is}
use Rattle.steps.proofs.requests.Viewing as views
use Rattle.pool.specs.Plans.{CanOpen}
use Rattle.pool.specs.Pools.{IsSound}

-- what is told of the one that was found
pub told_of : {A : Type 0} (P : A → Type 0) (x : Option A) (a : A) → Some a ≡ x → IfSome x P → P a
told_of {A = A} P x a is told = subst (λ (y : Option A). IfSome y P) (sym is) told

module _ (s : State) (numbers : List BlockState) (sound : IsSound s numbers) where
  -- ---- opened

  module _ (target : Target) where
    pub open_other : ((m : Member) → target ≡ OfSnapshot m → ⊥) → Step s (OpenView target) (Refused NotSnapshot) s
    open_other other = by_target target other
      where
        by_target : (x : Target) → ((m : Member) → x ≡ OfSnapshot m → ⊥) → Step s (OpenView x) (Refused NotSnapshot) s
        by_target (OfFileSystem name) none = views.open_file_system s name
        by_target (OfSnapshot m) none = absurd (none m refl)
        by_target (OfBookmark m) none = views.open_bookmark s m

    module _ (m : Member) (named : target ≡ OfSnapshot m) where
      of_name : (r : Reply) (t : State) → Step s (OpenView (OfSnapshot m)) r t → Step s (OpenView target) r t
      of_name r t step = subst (λ x. Step s (OpenView x) r t) (sym named) step

      pub open_missing : None ≡ snap_in s.now.file_systems m → Step s (OpenView target) (Refused NoDataset) s
      open_missing none = of_name (Refused NoDataset) s (views.open_missing s m (sym none))

      module _ (t : Snap) (found : Some t ≡ snap_in s.now.file_systems m) where
        pub open_deferred : true ≡ t.deferred → Step s (OpenView target) (Refused Deferred) s
        open_deferred d = of_name (Refused Deferred) s (views.open_deferred s m t (sym found) (sym d))

        abbrev full : Bool
        full = nat_lt view_limit (len s.views + 1) || nat_lt number_limit s.next_view

        module _ (d : false ≡ t.deferred) where
          pub open_full : true ≡ full → Step s (OpenView target) (Refused TooMany) s
          open_full f = of_name (Refused TooMany) s (views.open_full s m t (sym found) (sym d) (sym f))

          module _ (room : false ≡ full) (below : (v : ℕ) (id : SnapId) → get s.views v ≡ Some id → v < s.next_view) (id : SnapshotId) (is : snap_id id ≡ id_of t) where
            pub open_can : CanOpen s (snap_id id)
            open_can = record { steady = subst (λ i. IsSteady (viewing s i)) (sym is) (views.open_can s m t (sym found) sound.steady below); room = sym room }

            pub open_done : (sight : Seen) → sight ≡ record { map = t.map; guid = t.guid; group = t.group; sources = sources_of (world_of (datasets_of s)) (id_of t) }
                → Step s (OpenView target) (Opened s.next_view sight) (viewing s (snap_id id))
            open_done sight shows =
                subst (λ i. Step s (OpenView target) (Opened s.next_view sight) (viewing s i)) (sym is)
                (subst (λ z. Step s (OpenView target) (Opened s.next_view z) (viewing s (id_of t)))
                (sym (shows ∙ ap (λ l. record { map = t.map; guid = t.guid; group = t.group; sources = l }) (sources_alike s (id_of t)) ∙ sym (sight_is s m t (sym found) sound.steady)))
                (of_name (Opened s.next_view (sight_of s.now (id_of t))) (viewing s (id_of t))
                (views.open_done s m t (sym found) (sym d) (sym room) (views.open_can s m t (sym found) sound.steady below))))

  -- ---- closed

  module _ (number : ℕ) where
    pub close_missing : (x : Option SnapshotId) → option_map snap_id x ≡ get s.views number → is_some x ≡ false → Step s (CloseView number) (Refused NoView) s
    close_missing None e none = views.close_missing s number (sym e)
    close_missing (Some id) e none = absurd cc

    module _ (to : Datasets) (is : to ≡ swept (datasets_of s) (remove s.views number)) where
      pub close_can : CanLose (closed s number) to
      close_can = subst (CanLose (closed s number)) (sym is) (views.close_can s number sound.steady)

      pub close_stays : StaysUnlimited s to
      close_stays = subst (StaysUnlimited s) (sym is) (views.close_unlimited s number sound.steady)

      pub close_done : (x : Option SnapshotId) → option_map snap_id x ≡ get s.views number → is_some x ≡ true → Step s (CloseView number) Done (lose (closed s number) to)
      close_done None e there = absurd cc
      close_done (Some id) e there = subst (λ t. Step s (CloseView number) Done (lose (closed s number) t)) (sym is) (views.close_done s number sound.steady (snap_id id) (sym e))

-- The steps that ask for space: what a file system and each part of it uses, what is available to it, its limits, and what a snapshot
-- alone has.
use Rattle.std.proofs.Common.{◌≡◌, ℕ, ◌*◌, true, List, [], ◌∷◌, map, Some, refl, sym, ap, ◌∙◌, true≢false}
use Rattle.std.specs.FinMap.{get}
use Rattle.base.specs.Map.{Map, blocks}
use Rattle.base.specs.declared.name.member.Member.{Member}
use Rattle.base.specs.declared.name.target.Target.TheVariants.{FileSystem as OfFileSystem, Snapshot as OfSnapshot}
use Rattle.model.specs.declared.request.Request.TheVariants.{Get}
use Rattle.model.specs.declared.request.Property.{Property}
use Rattle.model.specs.declared.request.Property.TheVariants.{Used, Available, UsedByDataset, UsedBySnapshots, UsedByChildren, UsedByRefReservation, Quota, RefQuota, Reservation, RefReservation}
use Rattle.model.specs.declared.reply.Reply.TheVariants.{Value as ValueIs}
use Rattle.model.specs.declared.reply.Value.TheVariants.{Size, NotApplicable}
use Rattle.model.specs.World.{FileSystem, Snap, id_of, blocks_of_all}
use Rattle.model.specs.Sums.{size_without, used_of, room_of, used_by_snap, used_by_children, used_by_refreservation}
use Rattle.model.specs.Properties.{file_system_value, snap_value}
use Rattle.model.specs.State.{State}
use Rattle.model.specs.Step.{Step}
use Rattle.datasets.specs.Clones.{below_in}
use Rattle.datasets.proofs.Above.{below_is_map}
use Rattle.steps.specs.Spaces.{is_of_live}
use Rattle.steps.specs.Steady.{IsSteady, snap_in}
use Rattle.steps.proofs.questions.Identities.{get_live, get_snap}

module _ (s : State) (good : IsSteady s) where
  module _ (name : List ℕ) (f : FileSystem) (was : get s.now.file_systems name ≡ Some f) where
    module _ (n : ℕ) where
      -- zfsprops(7), used
      pub get_used_of_live : n ≡ used_of s.now name → Step s (Get (OfFileSystem name) Used) (ValueIs (Size (512 * n))) s
      unfolding file_system_value
      get_used_of_live e = get_live s good name f was Used (Size (512 * n)) (ap (λ k. Size (512 * k)) (sym e))

      -- zfsprops(7), available
      pub get_available : n ≡ room_of s name → Step s (Get (OfFileSystem name) Available) (ValueIs (Size (512 * n))) s
      unfolding file_system_value
      get_available e = get_live s good name f was Available (Size (512 * n)) (ap (λ k. Size (512 * k)) (sym e))

      -- zfsprops(7), usedbydataset: the live map's blocks that the origin's hasn't
      pub get_used_by_dataset : n ≡ size_without (blocks f.live) (blocks (below_in s.now.file_systems f.origin))
          → Step s (Get (OfFileSystem name) UsedByDataset) (ValueIs (Size (512 * n))) s
      unfolding file_system_value
      get_used_by_dataset e = get_live s good name f was UsedByDataset (Size (512 * n))
          (ap (λ (m : Map). Size (512 * size_without (blocks f.live) (blocks m))) (below_is_map s.now f.origin) ∙ ap (λ k. Size (512 * k)) (sym e))

      -- zfsprops(7), usedbysnapshots: the snapshots' blocks that neither the live map nor the origin's has
      pub get_used_by_snapshots : n ≡ size_without (blocks_of_all (map (λ t. t.map) f.snaps)) (blocks_of_all (f.live ∷ below_in s.now.file_systems f.origin ∷ []))
          → Step s (Get (OfFileSystem name) UsedBySnapshots) (ValueIs (Size (512 * n))) s
      unfolding file_system_value
      get_used_by_snapshots e = get_live s good name f was UsedBySnapshots (Size (512 * n))
          (ap (λ (m : Map). Size (512 * size_without (blocks_of_all (map (λ (t : Snap). t.map) f.snaps)) (blocks_of_all (f.live ∷ m ∷ [])))) (below_is_map s.now f.origin)
          ∙ ap (λ k. Size (512 * k)) (sym e))

      -- zfsprops(7), usedbychildren
      pub get_used_by_children : n ≡ used_by_children s.now name → Step s (Get (OfFileSystem name) UsedByChildren) (ValueIs (Size (512 * n))) s
      unfolding file_system_value
      get_used_by_children e = get_live s good name f was UsedByChildren (Size (512 * n)) (ap (λ k. Size (512 * k)) (sym e))

    -- zfsprops(7), usedbyrefreservation: what is kept for the live map and isn't written
    pub get_refreserved : (n : ℕ) → n ≡ used_by_refreservation s.now name f → Step s (Get (OfFileSystem name) UsedByRefReservation) (ValueIs (Size (512 * n))) s
    unfolding file_system_value
    get_refreserved n e = get_live s good name f was UsedByRefReservation (Size (512 * n)) (ap (λ k. Size (512 * k)) (sym e))

  module _ (m : Member) (t : Snap) (found : snap_in s.now.file_systems m ≡ Some t) where
    -- zfsprops(7), used, of a snapshot: what it alone has
    pub get_used_of_snap : (n : ℕ) → n ≡ used_by_snap s.now (id_of t) → Step s (Get (OfSnapshot m) Used) (ValueIs (Size (512 * n))) s
    unfolding snap_value
    get_used_of_snap n e = get_snap s good m t found Used (Size (512 * n)) (ap (λ k. Size (512 * k)) (sym e))

    -- the other properties of space are of file systems alone (zfsprops(7))
    pub get_no_space_of_snap : (p : Property) → is_of_live p ≡ true → Step s (Get (OfSnapshot m) p) (ValueIs NotApplicable) s
    unfolding snap_value
    get_no_space_of_snap p live = get_snap s good m t found p NotApplicable (at p live)
      where
        at : (p : Property) → is_of_live p ≡ true → snap_value s.now t p ≡ NotApplicable
        at Available e = refl
        at UsedByDataset e = refl
        at UsedBySnapshots e = refl
        at UsedByChildren e = refl
        at UsedByRefReservation e = refl
        at Quota e = refl
        at RefQuota e = refl
        at Reservation e = refl
        at RefReservation e = refl
        at _ e = absurd (true≢false (sym e))

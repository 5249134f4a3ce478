-- The values of properties that it tells, of what a name stands for.
use Rattle.std.proofs.Common.{◌≡◌, ℕ, ◌*◌, List, Option, Some, None, true, refl, sym, ap, subst, ◌-◌}
use Rattle.std.specs.List.{find, join_with_byte}
use Rattle.std.specs.Prelude.{length, is_some, IsSome}
use Rattle.std.specs.Option.{option_map_or, option_and_then, unwrap_or}
use Rattle.std.specs.FinMap.{get, len as map_len}
use Rattle.base.specs.Map.{blocks}
use Rattle.base.specs.Names.{same_name}
use Rattle.base.specs.declared.name.member.Member.{Member}
use Rattle.base.specs.declared.name.target.Target.{Target}
use Rattle.base.specs.declared.name.target.Target.TheVariants.{FileSystem as OfFileSystem, Snapshot as OfSnapshot, Bookmark as OfBookmark}
use Rattle.model.specs.declared.request.Request.TheVariants.{Get}
use Rattle.model.specs.declared.request.Property.{Property}
use Rattle.model.specs.declared.request.Property.TheVariants.{Used, Available, Referenced, Written, UsedByDataset, UsedBySnapshots, UsedByChildren, UsedByRefReservation, Quota, RefQuota, Reservation, RefReservation, Guid, CreateTxg, Origin, Clones, UserRefs, DeferDestroy}
use Rattle.model.specs.declared.reply.Reply.TheVariants.{Value as ValueIs}
use Rattle.model.specs.declared.reply.Value.{Value}
use Rattle.model.specs.declared.reply.Value.TheVariants.{Size, Number, Truth, NotApplicable}
use Rattle.model.specs.World.{FileSystem, Snap, SnapId, Bookmark, id_of, clones_of}
use Rattle.model.specs.Properties.{text_of_snap, property_value, file_system_value, snap_value, bookmark_value}
use Rattle.model.specs.Sums.{size_without, used_of, used_by_children, used_by_snap, room_of}
use Rattle.model.specs.State.{State}
use Rattle.model.specs.Step.{Step}
use Rattle.world.proofs.lists.Maps.{same_value, no_value}
use Rattle.world.specs.Tables.{Datasets, world_of}
use Rattle.datasets.specs.Clones.{row_in, below_in}
use Rattle.datasets.specs.Dead.{newest_blocks}
use Rattle.steps.specs.Edits.{datasets_of}
use Rattle.steps.specs.Spaces.{is_of_live}
use Rattle.steps.specs.Steady.{IsSteady, IsAbsent, snap_in, bookmark_in}
use Rattle.steps.proofs.questions.Named.{named_live, named_snap, snap_there, snap_absent, system_absent}
use Rattle.steps.proofs.questions.Questions.{get_done, get_referenced}
use Rattle.steps.proofs.questions.Identities.{get_live, get_snap}
use Rattle.steps.proofs.questions.WrittenBy.{get_written_live, get_written_snap, none_counted}
use Rattle.steps.proofs.questions.Texts.{get_origin, get_no_origin, get_clones}
use Rattle.steps.proofs.questions.Spaces.{get_used_of_live, get_available, get_used_by_dataset, get_used_by_snapshots, get_used_by_children, get_refreserved, get_used_of_snap, get_no_space_of_snap}
use Rattle.steps.proofs.quotas.Alike.{used_alike, used_by_children_alike, used_by_snap_alike}
use Rattle.lookups.specs.Named.{origin_value, live_value, kept_value, snapshot_value, value_in, value_named, amount_value}
use Rattle.steps.proofs.questions.Names.{mapped, unmapped}
use Rattle.steps.proofs.questions.Below.{written_of_live}

-- nothing has the name where it has no value
pub nothing_named : (t : Datasets) (free : ℕ) (target : Target) (property : Property) → None ≡ value_named t free target property → IsAbsent t.file_systems target
nothing_named t free (OfFileSystem name) property none = unmapped (λ (f : FileSystem). live_value t free (row_in t.file_systems (name, f)) property) (get t.file_systems name) none
nothing_named t free (OfSnapshot m) property none = at (get t.file_systems m.file_system) refl none
  where
    kept : (f : FileSystem) → get t.file_systems m.file_system ≡ Some f → (u : Snap) (p : Property) → None ≡ kept_value t (row_in t.file_systems (m.file_system, f)) m.component u p
        → snap_in t.file_systems m ≡ None
    kept f was u Written e = snap_absent t.file_systems m f was (none_counted m.component (blocks (below_in t.file_systems f.origin)) f.snaps (unmapped (λ n. Size (512 * n)) _ e))
    kept f was u _ e = absurd (no_value _ e)

    within : (f : FileSystem) → get t.file_systems m.file_system ≡ Some f → (x : Option Snap) → find (λ (u : Snap). same_name u.name m.component) f.snaps ≡ x
        → None ≡ option_and_then (λ u. kept_value t (row_in t.file_systems (m.file_system, f)) m.component u property) x → snap_in t.file_systems m ≡ None
    within f was None found e = snap_absent t.file_systems m f was found
    within f was (Some u) found e = kept f was u property e

    at : (x : Option FileSystem) → get t.file_systems m.file_system ≡ x
        → None ≡ option_and_then (λ f. snapshot_value t (row_in t.file_systems (m.file_system, f)) m.component property) x → snap_in t.file_systems m ≡ None
    at None was e = system_absent t.file_systems m was
    at (Some f) was e = within f was (find (λ (u : Snap). same_name u.name m.component) f.snaps) refl e
nothing_named t free (OfBookmark m) property none = unmapped (λ (b : Bookmark). bookmark_value b property) (bookmark_in t.file_systems m) none

module _ (s : State) (steady : IsSteady s) where
  -- a bookmark's
  get_of_bookmark : (m : Member) (b : Bookmark) (property : Property) → bookmark_in s.now.file_systems m ≡ Some b → Step s (Get (OfBookmark m) property) (ValueIs (bookmark_value b property)) s
  unfolding property_value
  get_of_bookmark m b property there = get_done s steady (OfBookmark m) property (bookmark_value b property) (ap is_some there)
      (ap (λ (x : Option Bookmark). option_map_or (λ k. bookmark_value k property) x NotApplicable) there)

  module _ (m : Member) where
    -- as a value that it is told as
    told : (p : Property) (u v : Value) → u ≡ v → Step s (Get (OfSnapshot m) p) (ValueIs u) s → Step s (Get (OfSnapshot m) p) (ValueIs v) s
    told p u v e step = subst (λ x. Step s (Get (OfSnapshot m) p) (ValueIs x) s) e step

    module _ (u : Snap) (there : snap_in s.now.file_systems m ≡ Some u) (v : Value) where
      -- a property of space that file systems alone have
      blank : (p : Property) → is_of_live p ≡ true → Some v ≡ Some NotApplicable → Step s (Get (OfSnapshot m) p) (ValueIs v) s
      blank p live e = told p _ v (same_value _ v (sym e)) (get_no_space_of_snap s steady m u there p live)

      -- one that the snapshot keeps
      of_kept : (p : Property) (w : Value) → Some v ≡ Some w → snap_value s.now u p ≡ w → Step s (Get (OfSnapshot m) p) (ValueIs v) s
      of_kept p w e is = told p w v (same_value w v (sym e)) (get_snap s steady m u there p w is)

    -- a snapshot's, within its file system
    told_kept : (f : FileSystem) → get s.now.file_systems m.file_system ≡ Some f → (u : Snap) → find (λ (u : Snap). same_name u.name m.component) f.snaps ≡ Some u
        → snap_in s.now.file_systems m ≡ Some u → (p : Property) (v : Value)
        → Some v ≡ kept_value (datasets_of s) (row_in s.now.file_systems (m.file_system, f)) m.component u p → Step s (Get (OfSnapshot m) p) (ValueIs v) s
    unfolding snap_value
    told_kept f was u found there Used v e =
        told Used _ v (same_value _ v (sym e)) (get_used_of_snap s steady m u there (used_by_snap (world_of (datasets_of s)) (id_of u)) (used_by_snap_alike s (id_of u)))
    told_kept f was u found there Referenced v e =
        told Referenced _ v (same_value _ v (sym e)) (get_referenced s steady (OfSnapshot m) u.map (named_snap s steady m u there) (map_len u.map) refl)
    told_kept f was u found there Written v e =
        let n = mapped (λ n. Size (512 * n)) _ v e in
        told Written _ v n.2 (get_written_snap s steady m f was n.0 n.1)
    told_kept f was u found there Guid v e = of_kept u there v Guid (Number u.guid) e refl
    told_kept f was u found there CreateTxg v e = of_kept u there v CreateTxg (Number u.group) e refl
    told_kept f was u found there Clones v e =
        told Clones _ v (same_value _ v (sym e)) (get_clones s steady m u there (join_with_byte 44 (clones_of s.now (id_of u))) refl)
    told_kept f was u found there UserRefs v e = of_kept u there v UserRefs (Number (length u.tags)) e refl
    told_kept f was u found there DeferDestroy v e = of_kept u there v DeferDestroy (Truth u.deferred) e refl
    told_kept f was u found there Origin v e = of_kept u there v Origin NotApplicable e refl
    told_kept f was u found there Available v e = blank u there v Available refl e
    told_kept f was u found there UsedByDataset v e = blank u there v UsedByDataset refl e
    told_kept f was u found there UsedBySnapshots v e = blank u there v UsedBySnapshots refl e
    told_kept f was u found there UsedByChildren v e = blank u there v UsedByChildren refl e
    told_kept f was u found there UsedByRefReservation v e = blank u there v UsedByRefReservation refl e
    told_kept f was u found there Quota v e = blank u there v Quota refl e
    told_kept f was u found there RefQuota v e = blank u there v RefQuota refl e
    told_kept f was u found there Reservation v e = blank u there v Reservation refl e
    told_kept f was u found there RefReservation v e = blank u there v RefReservation refl e

    -- a snapshot's, among file systems
    snapshot_told : (property : Property) (v : Value) → Some v ≡ value_in (datasets_of s) m property → Step s (Get (OfSnapshot m) property) (ValueIs v) s
    snapshot_told property v is = at (get s.now.file_systems m.file_system) refl is
      where
        within : (f : FileSystem) → get s.now.file_systems m.file_system ≡ Some f → (x : Option Snap) → find (λ (u : Snap). same_name u.name m.component) f.snaps ≡ x
            → Some v ≡ option_and_then (λ u. kept_value (datasets_of s) (row_in s.now.file_systems (m.file_system, f)) m.component u property) x → Step s (Get (OfSnapshot m) property) (ValueIs v) s
        within f was None found e = absurd (no_value v (sym e))
        within f was (Some u) found e = told_kept f was u found (snap_there s.now.file_systems m f u was found) property v e

        at : (x : Option FileSystem) → get s.now.file_systems m.file_system ≡ x
            → Some v ≡ option_and_then (λ f. snapshot_value (datasets_of s) (row_in s.now.file_systems (m.file_system, f)) m.component property) x → Step s (Get (OfSnapshot m) property) (ValueIs v) s
        at None was e = absurd (no_value v (sym e))
        at (Some f) was e = within f was (find (λ (u : Snap). same_name u.name m.component) f.snaps) refl e

  module _ (room : ℕ) where
    -- a file system's, of its live map or its origin, or of its space
    live_told : (name : List ℕ) (f : FileSystem) → get s.now.file_systems name ≡ Some f → (property : Property) → (property ≡ Available → room ≡ room_of s name)
        → Step s (Get (OfFileSystem name) property) (ValueIs (live_value (datasets_of s) room (row_in s.now.file_systems (name, f)) property)) s
    unfolding file_system_value
    live_told name f was Used told = get_used_of_live s steady name f was (used_of (world_of (datasets_of s)) name) (used_alike s name)
    live_told name f was Available told = get_available s steady name f was room (told refl)
    live_told name f was Referenced told = get_referenced s steady (OfFileSystem name) f.live (named_live s name f was) (map_len f.live) refl
    live_told name f was Written told = get_written_live s steady name f was (size_without (blocks f.live) (newest_blocks (blocks (below_in s.now.file_systems f.origin)) f.snaps)) refl
    live_told name f was UsedByDataset told = get_used_by_dataset s steady name f was _ refl
    live_told name f was UsedBySnapshots told = get_used_by_snapshots s steady name f was _ refl
    live_told name f was UsedByChildren told = get_used_by_children s steady name f was (used_by_children (world_of (datasets_of s)) name) (used_by_children_alike s name)
    live_told name f was UsedByRefReservation told = get_refreserved s steady name f was _ (ap (λ n. unwrap_or f.limits.refreservation 0 - n) (sym (written_of_live s.now steady.good.now.systems name f was)))
    live_told name f was Quota told = get_live s steady name f was Quota (amount_value f.limits.quota) refl
    live_told name f was RefQuota told = get_live s steady name f was RefQuota (amount_value f.limits.refquota) refl
    live_told name f was Reservation told = get_live s steady name f was Reservation (amount_value f.limits.reservation) refl
    live_told name f was RefReservation told = get_live s steady name f was RefReservation (amount_value f.limits.refreservation) refl
    live_told name f was Origin told = by_origin f.origin refl
      where
        by_origin : (x : Option SnapId) → f.origin ≡ x → Step s (Get (OfFileSystem name) Origin) (ValueIs (origin_value (datasets_of s) x)) s
        by_origin None e = get_no_origin s steady name f was e
        by_origin (Some id) e = get_origin s steady name f was id e (text_of_snap s.now id) refl
    live_told name f was Guid told = get_live s steady name f was Guid NotApplicable refl
    live_told name f was CreateTxg told = get_live s steady name f was CreateTxg NotApplicable refl
    live_told name f was Clones told = get_live s steady name f was Clones NotApplicable refl
    live_told name f was UserRefs told = get_live s steady name f was UserRefs NotApplicable refl
    live_told name f was DeferDestroy told = get_live s steady name f was DeferDestroy NotApplicable refl

    -- of what has the name
    pub value_told : (target : Target) (property : Property) (v : Value) → ((name : List ℕ) → target ≡ OfFileSystem name → property ≡ Available → IsSome (get s.now.file_systems name) → room ≡ room_of s name) → Some v ≡ value_named (datasets_of s) room target property → Step s (Get target property) (ValueIs v) s
    value_told (OfFileSystem name) property v told e =
        let f = mapped (λ (f : FileSystem). live_value (datasets_of s) room (row_in s.now.file_systems (name, f)) property) (get s.now.file_systems name) v e in
        subst (λ x. Step s (Get (OfFileSystem name) property) (ValueIs x) s) f.2 (live_told name f.0 f.1 property (λ is. told name refl is (ap is_some f.1)))
    value_told (OfSnapshot m) property v told e = snapshot_told m property v e
    value_told (OfBookmark m) property v told e =
        let b = mapped (λ (b : Bookmark). bookmark_value b property) (bookmark_in s.now.file_systems m) v e in
        subst (λ x. Step s (Get (OfBookmark m) property) (ValueIs x) s) b.2 (get_of_bookmark m b.0 property b.1)

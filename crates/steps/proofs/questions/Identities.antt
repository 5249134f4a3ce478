-- The steps that ask for a property of a file system or a snapshot that is there: any property, by its value in the model, and what either
-- has written.
use Rattle.std.proofs.Common.{◌≡◌, ℕ, ◌*◌, List, Some, sym, ap, ◌∙◌}
use Rattle.std.specs.Prelude.{is_some}
use Rattle.std.specs.Option.{option_map_or}
use Rattle.std.specs.FinMap.{get}
use Rattle.base.specs.declared.name.member.Member.{Member}
use Rattle.base.specs.declared.name.target.Target.TheVariants.{FileSystem as OfFileSystem, Snapshot as OfSnapshot}
use Rattle.model.specs.declared.request.Request.TheVariants.{Get}
use Rattle.model.specs.declared.request.Property.{Property}
use Rattle.model.specs.declared.request.Property.TheVariants.{Written}
use Rattle.model.specs.declared.reply.Reply.TheVariants.{Value as ValueIs}
use Rattle.model.specs.declared.reply.Value.{Value}
use Rattle.model.specs.declared.reply.Value.TheVariants.{Size, NotApplicable}
use Rattle.model.specs.World.{FileSystem, Snap, Live, Snapped, id_of}
use Rattle.model.specs.Sums.{written_of}
use Rattle.model.specs.Properties.{property_value, file_system_value, snap_value}
use Rattle.model.specs.State.{State}
use Rattle.model.specs.Step.{Step}
use Rattle.steps.specs.Steady.{IsSteady, snap_in}
use Rattle.steps.proofs.questions.Questions.{get_done}

module _ (s : State) (good : IsSteady s) where
  module _ (name : List ℕ) (f : FileSystem) (was : get s.now.file_systems name ≡ Some f) where
    -- the value of a property of a file system that is there
    live_value : (property : Property) → property_value s (OfFileSystem name) property ≡ file_system_value s name f property
    unfolding property_value
    live_value property = ap (λ x. option_map_or (λ g. file_system_value s name g property) x NotApplicable) was

    -- zfs-get(8), of a file system
    pub get_live : (property : Property) (v : Value) → file_system_value s name f property ≡ v → Step s (Get (OfFileSystem name) property) (ValueIs v) s
    get_live property v is = get_done s good (OfFileSystem name) property v (ap is_some was) (live_value property ∙ is)

    -- zfsprops(7), written
    pub get_written_of_live : (n : ℕ) → n ≡ written_of s.now (Live name) → Step s (Get (OfFileSystem name) Written) (ValueIs (Size (512 * n))) s
    unfolding file_system_value
    get_written_of_live n e = get_live Written (Size (512 * n)) (ap (λ k. Size (512 * k)) (sym e))

  module _ (m : Member) (t : Snap) (found : snap_in s.now.file_systems m ≡ Some t) where
    -- and of a snapshot
    kept_value : (property : Property) → property_value s (OfSnapshot m) property ≡ snap_value s.now t property
    unfolding property_value
    kept_value property = ap (λ x. option_map_or (λ u. snap_value s.now u property) x NotApplicable) found

    -- zfs-get(8), of a snapshot
    pub get_snap : (property : Property) (v : Value) → snap_value s.now t property ≡ v → Step s (Get (OfSnapshot m) property) (ValueIs v) s
    get_snap property v is = get_done s good (OfSnapshot m) property v (ap is_some found) (kept_value property ∙ is)

    -- zfsprops(7), written
    pub get_written_of_snap : (n : ℕ) → n ≡ written_of s.now (Snapped (id_of t)) → Step s (Get (OfSnapshot m) Written) (ValueIs (Size (512 * n))) s
    unfolding snap_value
    get_written_of_snap n e = get_snap Written (Size (512 * n)) (ap (λ k. Size (512 * k)) (sym e))

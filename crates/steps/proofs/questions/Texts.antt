-- The steps that ask for an origin, which a clone has, and for the clones of a snapshot: their answers are texts, for which memory may be
-- wanting, as it may for what is used.
use Rattle.std.proofs.Common.{◌≡◌, ℕ, true, List, Some, None, refl, sym, ap, ◌∙◌}
use Rattle.std.specs.List.{join_with_byte}
use Rattle.std.specs.Option.{option_map_or}
use Rattle.std.specs.FinMap.{get}
use Rattle.base.specs.declared.refusal.Refusal.TheVariants.{NoMemory}
use Rattle.base.specs.declared.name.member.Member.{Member}
use Rattle.base.specs.declared.name.target.Target.{Target}
use Rattle.base.specs.declared.name.target.Target.TheVariants.{FileSystem as OfFileSystem, Snapshot as OfSnapshot}
use Rattle.model.specs.declared.request.Request.TheVariants.{Get}
use Rattle.model.specs.declared.request.Property.{Property}
use Rattle.model.specs.declared.request.Property.TheVariants.{Origin, Clones}
use Rattle.model.specs.declared.reply.Reply.TheVariants.{Refused, Value as ValueIs}
use Rattle.model.specs.declared.reply.Value.TheVariants.{Named, NotApplicable}
use Rattle.model.specs.World.{FileSystem, Snap, SnapId, id_of, clones_of}
use Rattle.model.specs.Properties.{text_of_snap, file_system_value, snap_value}
use Rattle.model.specs.State.{State}
use Rattle.model.specs.requests.Get.{needs_memory, get_rule}
use Rattle.model.specs.Step.{Step}
use Rattle.steps.specs.Steady.{IsSteady, snap_in}
use Rattle.steps.proofs.questions.Identities.{get_live, get_snap}
use Rattle.steps.proofs.numbers.Ruled.{no_memory_by}

module _ (s : State) (good : IsSteady s) where
  -- memory may be wanting
  pub get_no_memory : (target : Target) (p : Property) → needs_memory target p ≡ true → Step s (Get target p) (Refused NoMemory) s
  get_no_memory target p needs = no_memory_by (Get target p) (get_rule target p) (None, refl, refl) s needs

  module _ (name : List ℕ) (f : FileSystem) (was : get s.now.file_systems name ≡ Some f) where
    -- zfsprops(7), origin
    pub get_origin : (id : SnapId) → f.origin ≡ Some id → (text : List ℕ) → text ≡ text_of_snap s.now id → Step s (Get (OfFileSystem name) Origin) (ValueIs (Named text)) s
    unfolding file_system_value
    get_origin id o text e = get_live s good name f was Origin (Named text)
        (ap (λ x. option_map_or (λ (i : SnapId). Named (text_of_snap s.now i)) x NotApplicable) o ∙ ap Named (sym e))

    -- a file system that is no clone has none
    pub get_no_origin : f.origin ≡ None → Step s (Get (OfFileSystem name) Origin) (ValueIs NotApplicable) s
    unfolding file_system_value
    get_no_origin o = get_live s good name f was Origin NotApplicable (ap (λ x. option_map_or (λ (i : SnapId). Named (text_of_snap s.now i)) x NotApplicable) o)

  module _ (m : Member) (t : Snap) (found : snap_in s.now.file_systems m ≡ Some t) where
    -- zfsprops(7), clones: with commas between them
    pub get_clones : (text : List ℕ) → text ≡ join_with_byte 44 (clones_of s.now (id_of t)) → Step s (Get (OfSnapshot m) Clones) (ValueIs (Named text)) s
    unfolding snap_value
    get_clones text e = get_snap s good m t found Clones (Named text) (ap Named (sym e))

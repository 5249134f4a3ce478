-- What a receive that nothing refuses may begin with, by its stream and its mode.
use Rattle.std.proofs.Common.{◌≡◌, Bool, false, not, ◌∷◌, Some, None, refl, subst}
use Rattle.std.specs.Prelude.{◌==◌, is_some}
use Rattle.std.specs.Option.{option_map_or}
use Rattle.base.specs.declared.name.member.Member.{Member}
use Rattle.base.specs.declared.number.Guid.{Guid}
use Rattle.base.specs.declared.refusal.Refusal.{Refusal}
use Rattle.base.specs.declared.refusal.Refusal.TheVariants.{NoDataset, Deferred, WrongSource}
use Rattle.stream.specs.Spelling.{Sending, source_guid}
use Rattle.model.specs.declared.receiving.Receiving.{Receiving}
use Rattle.model.specs.declared.receiving.Receiving.TheVariants.{Plain, Back, Past, Origin, Replace}
use Rattle.model.specs.Rule.{first_of}
use Rattle.model.specs.State.{Views}
use Rattle.model.specs.World.{Snap, snap_named}
use Rattle.model.specs.requests.Create.{create_refusal}
use Rattle.model.specs.requests.Receive.{new_row, origin_row, full_row, incremental_row}
use Rattle.world.specs.Tables.{Datasets, world_of}
use Rattle.world.proofs.views.ViewedReceives.{no_full}
use Rattle.receives.specs.Requests.{receive_refusal}
use Rattle.receives.proofs.Refusals.{full_none, incremental_none, can_make, can_clone}

module _ (t : Datasets) (views : Views) (m : Member) (s : Sending) (mode : Receiving) (none : receive_refusal t views m s mode ≡ None) where
  -- a stream in full that replaces none makes a file system
  pub starts_new : is_some (source_guid s.source) ≡ false → (mode ≡ Replace → ⊥) → create_refusal t.file_systems m.file_system ≡ None
  starts_new full other = can_make (world_of t) m.file_system (by_mode mode (full_none t views m s mode none full) other)
    where
      by_mode : (x : Receiving) → first_of (full_row (world_of t) views m x) ≡ None → (x ≡ Replace → ⊥) → first_of (new_row (world_of t) m.file_system) ≡ None
      by_mode Plain e not_so = e
      by_mode Back e not_so = e
      by_mode Past e not_so = e
      by_mode (Origin origin) e not_so = no_full (world_of t) views m origin e
      by_mode Replace e not_so = absurd (not_so refl)

  module _ (g : Guid) (source : source_guid s.source ≡ Some g) where
    -- as a clone, the name is free
    module _ (origin : Member) (is : mode ≡ Origin origin) where
      origin_none : first_of (origin_row (world_of t) m.file_system origin g.0) ≡ None
      origin_none = subst (λ x. first_of (incremental_row (world_of t) views m g.0 x) ≡ None) is (incremental_none t views m s mode none g source)

      pub starts_free : create_refusal t.file_systems m.file_system ≡ None
      starts_free = can_clone (world_of t) m.file_system origin g.0 origin_none

-- Get (zfs-get(8)).
use Rattle.std.specs.Prelude.{Bool, not, true, false, [], ◌∷◌}
use Rattle.base.specs.declared.refusal.Refusal.TheVariants.{NoDataset}
use Rattle.base.specs.declared.name.target.Target.{Target}
use Rattle.base.specs.declared.name.target.Target.TheVariants.{FileSystem as OfFileSystem, Snapshot as OfSnapshot, Bookmark as OfBookmark}
use Rattle.model.specs.declared.request.Property.{Property}
use Rattle.model.specs.declared.request.Property.TheVariants.{Used, Origin, Clones}
use Rattle.model.specs.declared.reply.Reply.TheVariants.{Value as ValueIs}
use Rattle.model.specs.State.{State}
use Rattle.model.specs.Properties.{property_value}
use Rattle.model.specs.Targets.{has_target}
use Rattle.model.specs.Rule.{Row, Rule, question}

-- zfs-get(8)
abbrev pub get_row : State → Target → Row
get_row s target = (not (has_target s target), NoDataset) ∷ []

-- memory may be wanting for the text of a file system's origin (memory is profile)
abbrev pub live_needs_memory : Property → Bool
live_needs_memory Origin = true
live_needs_memory _ = false

-- memory may be wanting for the text of a snapshot's clones, and to find what it alone has (memory is profile)
abbrev pub snap_needs_memory : Property → Bool
snap_needs_memory Used = true
snap_needs_memory Clones = true
snap_needs_memory _ = false

-- memory may be wanting for the value of a property of what the name stands for; no property of a bookmark takes any (memory is profile)
abbrev pub needs_memory : Target → Property → Bool
needs_memory (OfFileSystem name) property = live_needs_memory property
needs_memory (OfSnapshot m) property = snap_needs_memory property
needs_memory (OfBookmark m) property = false

-- the value of a property (zfsprops(7))
abbrev pub get_rule : Target → Property → Rule
get_rule target property = question (λ s. get_row s target) (λ s. ValueIs (property_value s target property)) (needs_memory target property)

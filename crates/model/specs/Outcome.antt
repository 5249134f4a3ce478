-- The state after a request that isn't refused: what its rule says, and the sweep (zfs-destroy(8), -d).
use Rattle.std.specs.Prelude.{Bool, not, ◌&&◌, ◌||◌, length, nat_lt, if◌then◌else◌}
use Rattle.model.specs.World.{World, Snap, id_of, clones_of}
use Rattle.model.specs.State.{State, Views, is_viewed}
use Rattle.model.specs.Edits.{with_now, with_losses, without_snaps}
use Rattle.model.specs.Rule.{Choice, Rule}

-- a tag, an open view or a clone needs a snapshot (zfs-destroy(8), -d; zfs-hold(8); the view is profile)
abbrev pub is_needed : World → Views → Snap → Bool
is_needed w views t = nat_lt 0 (length t.tags) || (is_viewed views (id_of t) || nat_lt 0 (length (clones_of w (id_of t))))

-- each snapshot whose destroy is deferred and that nothing needs goes, all at once: to remove one takes no tag, view or clone from
-- another, and what is lost together is what is lost one by one (zfs-destroy(8), -d)
unfoldable pub state_after_sweep : State → State
state_after_sweep s = with_now s (with_losses s.now (without_snaps s.now (λ t. t.deferred && not (is_needed s.now s.views t))))

-- the change and then the sweep. A request that only reads leaves the state, which the step before it has swept (zfs-destroy(8),
-- -d)
unfoldable pub state_after : State → Choice → Rule → State
state_after s c rule = if rule.only_reads then s else state_after_sweep (rule.after s c)

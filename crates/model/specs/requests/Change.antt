-- What Write, Punch and FreeObject have in common: a change of a live map (On-Disk Specification, chapter 3).
use Rattle.std.specs.Prelude.{not, Bool, true, false, [], ◌∷◌}
use Rattle.base.specs.declared.refusal.Refusal.TheVariants.{NoDataset, ReadOnly, BadKey, Quota, RefQuota, NoSpace}
use Rattle.base.specs.Rewrite.{Changes}
use Rattle.base.specs.declared.name.target.Target.{Target}
use Rattle.base.specs.declared.name.target.Target.TheVariants.{FileSystem as OfFileSystem, Snapshot as OfSnapshot, Bookmark as OfBookmark}
use Rattle.model.specs.declared.reply.Reply.TheVariants.{Done}
use Rattle.model.specs.State.{State}
use Rattle.model.specs.Fits.{quotas_hold, refquotas_hold, pool_holds}
use Rattle.model.specs.Targets.{has_dataset, is_snapshot_name}
use Rattle.model.specs.Edits.{with_now, after_change}
use Rattle.model.specs.Rule.{Choice, Row, Rule, any_choice}

-- quota, refquota and the pool's room in the state that is asked (zfsprops(7): quota, refquota, reservation)
abbrev pub limit_row : State → Row
limit_row asked = (not (quotas_hold asked.now), Quota) ∷ (not (refquotas_hold asked.now), RefQuota) ∷ (not (pool_holds asked), NoSpace) ∷ []

-- the test says whether its numbers are within their limits (profile)
abbrev pub change_row : State → State → Target → Bool → Row
change_row s asked target in_range =
    (not (has_dataset s target), NoDataset) ∷ (is_snapshot_name target, ReadOnly) ∷ (not in_range, BadKey) ∷ limit_row asked

-- the live map of a file system changed (profile)
abbrev pub state_after_change : State → Target → Changes → Choice → State
state_after_change s (OfFileSystem name) c choice = with_now s (after_change s.now name c choice.number)
state_after_change s (OfSnapshot m) c choice = s
state_after_change s (OfBookmark m) c choice = s

-- these changes of the live map of a target (On-Disk Specification, chapter 3)
abbrev pub change_rule : Target → Changes → Bool → Rule
change_rule target changes in_range = record {
  row = λ s asked. change_row s asked target in_range;
  after = λ s c. state_after_change s target changes c;
  reply = λ s. Done;
  may = any_choice;
  only_reads = false;
  takes_memory = true;
}

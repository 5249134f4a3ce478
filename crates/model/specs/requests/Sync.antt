-- Sync (zpool-sync(8); groups are profile).
use Rattle.std.specs.Prelude.{◌+◌, true, false, [], ◌∷◌}
use Rattle.base.specs.declared.refusal.Refusal.TheVariants.{TooMany}
use Rattle.model.specs.declared.reply.Reply.TheVariants.{Group as GroupIs}
use Rattle.model.specs.Targets.{has_no_next_group}
use Rattle.model.specs.Edits.{with_next_group}
use Rattle.model.specs.Rule.{Rule, any_choice}

-- the present world is the last synced one, and the next group is open (zpool-sync(8))
abbrev pub sync_rule : Rule
sync_rule = record {
  row = λ s asked. (has_no_next_group s.now, TooMany) ∷ [];
  after = λ s c. record s { now = with_next_group s.now; last = with_next_group s.now };
  reply = λ s. GroupIs (s.now.group + 1);
  may = any_choice;
  only_reads = false;
  takes_memory = true;
}

-- Abandon (zpool-checkpoint(8), --rewind-to-checkpoint; that each sync leaves such a point is profile).
use Rattle.std.specs.Prelude.{true, false, [], ◌∷◌, nat_lt}
use Rattle.std.specs.FinMap.{len}
use Rattle.base.specs.declared.refusal.Refusal.TheVariants.{Busy}
use Rattle.model.specs.declared.reply.Reply.TheVariants.{Done}
use Rattle.model.specs.Edits.{with_now}
use Rattle.model.specs.Rule.{Rule, any_choice}

-- the last synced world is the present one again, with its open group; the counters go on. The sweep then takes what only a view that was
-- closed since had kept (zpool-checkpoint(8))
abbrev pub abandon_rule : Rule
abandon_rule = record {
  row = λ s asked. (nat_lt 0 (len s.views), Busy) ∷ [];
  after = λ s c. with_now s s.last;
  reply = λ s. Done;
  may = any_choice;
  only_reads = false;
  takes_memory = true;
}

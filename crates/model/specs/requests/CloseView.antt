-- CloseView (profile; a view counts as a hold, zfs-hold(8)).
use Rattle.std.specs.Prelude.{ℕ, true, false, not, [], ◌∷◌}
use Rattle.std.specs.FinMap.{remove, contains_key}
use Rattle.base.specs.declared.refusal.Refusal.TheVariants.{NoView}
use Rattle.model.specs.declared.reply.Reply.TheVariants.{Done}
use Rattle.model.specs.Rule.{Rule, any_choice}

-- the view goes; the sweep then takes its snapshot, where that was to go and nothing else needs it (profile)
abbrev pub close_view_rule : ℕ → Rule
close_view_rule view = record {
  row = λ s asked. (not (contains_key s.views view), NoView) ∷ [];
  after = λ s c. record s { views = remove s.views view };
  reply = λ s. Done;
  may = any_choice;
  only_reads = false;
  takes_memory = true;
}

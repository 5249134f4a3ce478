-- List (zfs-list(8)).
use Rattle.std.specs.Prelude.{true, []}
use Rattle.model.specs.declared.reply.Reply.TheVariants.{Names as NamesAre}
use Rattle.model.specs.Properties.{all_names}
use Rattle.model.specs.Rule.{Rule, question}

-- all names in their order (zfs-list(8))
abbrev pub list_rule : Rule
list_rule = question (λ s. []) (λ s. NamesAre (all_names s.now)) true

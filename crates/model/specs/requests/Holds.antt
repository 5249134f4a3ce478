-- Holds (zfs-holds(8), without -r).
use Rattle.std.specs.Prelude.{true, not, [], ◌∷◌, is_some}
use Rattle.std.specs.Option.{option_map_or}
use Rattle.base.specs.declared.refusal.Refusal.TheVariants.{NoDataset, NotSnapshot}
use Rattle.base.specs.declared.name.target.Target.{Target}
use Rattle.model.specs.declared.reply.Reply.TheVariants.{Done, Names as NamesAre}
use Rattle.model.specs.World.{World}
use Rattle.model.specs.Targets.{is_snapshot_name}
use Rattle.model.specs.Rule.{Row, Rule, question}
use Rattle.model.specs.requests.Rollback.{placed}

-- a snapshot must be there (zfs-holds(8))
abbrev pub holds_row : World → Target → Row
holds_row w target = (not (is_snapshot_name target), NotSnapshot) ∷ (not (is_some (placed w target)), NoDataset) ∷ []

-- its tags, in the order in which they were made (zfs-holds(8); the order is profile)
abbrev pub holds_rule : Target → Rule
holds_rule target = question (λ s. holds_row s.now target) (λ s. option_map_or (λ p. NamesAre p.1.tags) (placed s.now target) Done) true

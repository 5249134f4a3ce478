-- Set (zfs-set(8), of a limit).
use Rattle.std.specs.Prelude.{ℕ, true, false, not, List, [], ◌∷◌, Option}
use Rattle.std.specs.Option.{option_map_or}
use Rattle.std.specs.FinMap.{contains_key}
use Rattle.base.specs.declared.refusal.Refusal.TheVariants.{NoDataset}
use Rattle.model.specs.declared.limits.Limit.{Limit}
use Rattle.model.specs.declared.reply.Reply.TheVariants.{Done}
use Rattle.model.specs.World.{World}
use Rattle.model.specs.State.{State}
use Rattle.model.specs.Limits.{limited}
use Rattle.model.specs.Edits.{with_now, with_file_system}
use Rattle.model.specs.Rule.{Row, Rule, any_choice}
use Rattle.model.specs.requests.Change.{limit_row}

-- the file system of this name with one limit set to an amount, or to none (zfsprops(7): quota, refquota, reservation, refreservation)
abbrev pub after_set : World → List ℕ → Limit → Option ℕ → World
after_set w name limit amount = with_file_system w name (λ f. limited f limit amount)

-- the file system must be there; and all limits must hold then, except where this one is set to none (zfs-set(8), zfsprops(7): quota,
-- refquota, reservation; that none is always let through is profile)
abbrev pub set_row : State → State → List ℕ → Option ℕ → Row
set_row s asked name amount = (not (contains_key s.now.file_systems name), NoDataset) ∷ option_map_or (λ _. limit_row asked) amount []

-- zfs-set(8)
abbrev pub set_rule : List ℕ → Limit → Option ℕ → Rule
set_rule name limit amount = record {
  row = λ s asked. set_row s asked name amount;
  after = λ s c. with_now s (after_set s.now name limit amount);
  reply = λ s. Done;
  may = any_choice;
  only_reads = false;
  takes_memory = true;
}

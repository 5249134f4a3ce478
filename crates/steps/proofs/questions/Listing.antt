-- The names listed.
use Rattle.std.proofs.Common.{◌≡◌, ℕ, List, None, refl, ap}
use Rattle.std.specs.List.{flat_map}
use Rattle.std.specs.FinMap.{entries}
use Rattle.base.specs.declared.refusal.Refusal.TheVariants.{NoMemory}
use Rattle.model.specs.declared.request.Request.TheVariants.{List as ListNames}
use Rattle.model.specs.declared.reply.Reply.TheVariants.{Refused, Names as NamesAre}
use Rattle.model.specs.Properties.{all_names}
use Rattle.model.specs.requests.List.{list_rule}
use Rattle.model.specs.Refusals.{refusal_of}
use Rattle.model.specs.Step.{Step}
use Rattle.model.specs.State.{State}
use Rattle.steps.specs.Steady.{IsSteady}
use Rattle.steps.specs.Listed.{own_names}
use Rattle.steps.proofs.numbers.Ruled.{answered_by, no_memory_by}

module _ (s : State) where
  pub list_no_memory : Step s ListNames (Refused NoMemory) s
  list_no_memory = no_memory_by ListNames list_rule (None, refl, refl) s refl

  module _ (good : IsSteady s) where
    -- the file systems in byte order of their names, each with its snapshots and its bookmarks
    pub list_done : (names : List (List ℕ)) → names ≡ flat_map own_names (entries s.now.file_systems) → Step s ListNames (NamesAre names) s
    unfolding refusal_of all_names
    list_done names e = answered_by ListNames list_rule (None, refl, refl) s good (NamesAre names) refl refl refl (ap NamesAre e)

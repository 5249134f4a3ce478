-- A view is read as Read reads a dataset of its map.
use Rattle.std.proofs.Common.{◌≡◌, ℕ, Bool, true, false, cond, not, List, Option, Some, None, inl, refl, sym, ap, ◌∙◌}
use Rattle.std.specs.Option.{option_map_or}
use Rattle.std.specs.FinMap.{get}
use Rattle.std.specs.FinSet as set
use Rattle.base.specs.declared.refusal.Refusal.{Refusal}
use Rattle.base.specs.declared.refusal.Refusal.TheVariants.{NoDataset, BadKey}
use Rattle.base.specs.Key.{leaf_index}
use Rattle.base.specs.Map.{Map, contents}
use Rattle.base.specs.declared.name.target.Target.{Target}
use Rattle.model.specs.declared.request.Request.TheVariants.{Read}
use Rattle.model.specs.declared.reply.Reply.TheVariants.{Refused, Data}
use Rattle.model.specs.World.{Dataset, map_of}
use Rattle.model.specs.State.{State}
use Rattle.model.specs.Targets.{is_block, has_dataset, dataset_of}
use Rattle.model.specs.Numbers.{IsNumbered}
use Rattle.model.specs.Refusals.{refusal_of}
use Rattle.model.specs.Outcome.{state_after}
use Rattle.model.specs.Step.{Step, done, refused}
use Rattle.model.specs.requests.Read.{read_rule}

module _ (s : State) (target : Target) (object block : ℕ) (here : has_dataset s target ≡ true) where
  row : refusal_of s (read_rule target object block) ≡ cond (is_block object block) None (Some BadKey)
  unfolding refusal_of
  row = ap (λ d. cond (not d) (Some NoDataset) (cond (not (is_block object block)) (Some BadKey) None)) here ∙ at (is_block object block)
    where
      at : (i : Bool) → cond {A = Option Refusal} (not true) (Some NoDataset) (cond (not i) (Some BadKey) None) ≡ cond i None (Some BadKey)
      at true = refl
      at false = refl

  pub reads_refused : is_block object block ≡ false → Step s (Read target object block) (Refused BadKey) s
  reads_refused outside = record {
    reading = None;
    read = inl refl;
    follows = refused (record { why = BadKey; row = row ∙ ap (λ i. cond i None (Some BadKey)) outside; reply_is = refl; unchanged = refl });
  }

  pub reads_done : (d : Dataset) (m : Map) (bytes : Option (List ℕ)) → IsNumbered s → dataset_of s target ≡ Some d → map_of s.now d ≡ m → is_block object block ≡ true
      → bytes ≡ get (contents m) (leaf_index object block) → Step s (Read target object block) (Data bytes) s
  unfolding state_after
  reads_done d m bytes numbered is map inside same = record {
    reading = None;
    read = inl refl;
    follows = done (record {
      choice = record { number = λ _. 0; taken = set.empty };
      allowed = refl;
      not_refused = row ∙ ap (λ i. cond i None (Some BadKey)) inside;
      reply_is = ap Data (same ∙ ap (λ x. get (contents x) (leaf_index object block)) (sym map))
          ∙ sym (ap (λ x. Data (option_map_or (λ e. get (contents (map_of s.now e)) (leaf_index object block)) x None)) is);
      new_is = refl;
      numbered = numbered;
    });
  }

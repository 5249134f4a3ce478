-- The tags of a snapshot told: why they aren't, and the steps.
use Rattle.std.proofs.Common.{◌≡◌, ◌⊎◌, ℕ, List, Option, Some, None, not, false, refl, sym, ap, subst, ◌∙◌, inr, inl, ⊎_elim, true≢false}
use Rattle.std.specs.Prelude.{IfSome, is_some}
use Rattle.std.specs.Option.{option_map_or}
use Rattle.base.specs.declared.refusal.Refusal.{Refusal}
use Rattle.base.specs.declared.refusal.Refusal.TheVariants.{NoDataset, NoMemory}
use Rattle.base.specs.declared.name.target.Target.{Target}
use Rattle.model.specs.declared.request.Request.TheVariants.{Holds}
use Rattle.model.specs.declared.reply.Reply.TheVariants.{Done, Refused, Names as NamesAre}
use Rattle.model.specs.World.{FileSystem, Snap}
use Rattle.model.specs.State.{State}
use Rattle.model.specs.Refusals.{refusal_of}
use Rattle.model.specs.Step.{Step}
use Rattle.model.specs.requests.Rollback.{placed}
use Rattle.model.specs.requests.Holds.{holds_row, holds_rule}
use Rattle.world.specs.Tables.{world_of}
use Rattle.world.proofs.views.ViewedRequests.{row_false}
use Rattle.steps.specs.Steady.{IsSteady}
use Rattle.steps.specs.Edits.{datasets_of}
use Rattle.marks.specs.Requests.{holds_refusal}
use Rattle.steps.proofs.numbers.Ruled.{refused_by, no_memory_by, answered_by}

module _ (s : State) (target : Target) where
  row_is : refusal_of s (holds_rule target) ≡ holds_refusal (datasets_of s) target
  unfolding refusal_of
  row_is = refl

  -- the text may want memory
  pub holds_no_memory : Step s (Holds target) (Refused NoMemory) s
  holds_no_memory = no_memory_by (Holds target) (holds_rule target) (None, refl, refl) s refl

  -- a question that is refused, or has no memory
  pub holds_refused : (why : Refusal) → (holds_refusal (datasets_of s) target ≡ Some why) ⊎ (why ≡ NoMemory) → Step s (Holds target) (Refused why) s
  holds_refused why which = ⊎_elim
      (λ e. refused_by (Holds target) (holds_rule target) (None, refl, refl) s why (row_is ∙ e))
      (λ e. subst (λ z. Step s (Holds target) (Refused z) s) (sym e) holds_no_memory)
      which

  -- and one that nothing refuses: the snapshot is there
  pub holds_answered : IsSteady s → holds_refusal (datasets_of s) target ≡ None → (names : List (List ℕ))
      → IfSome (placed (world_of (datasets_of s)) target) (λ p. names ≡ p.1.tags) → Step s (Holds target) (NamesAre names) s
  holds_answered steady none names told = answered_by (Holds target) (holds_rule target) (None, refl, refl) s steady (NamesAre names) refl refl (row_is ∙ none)
      (by_place (placed s.now target) (row_false (holds_row s.now target) none (not (is_some (placed s.now target)), NoDataset) (inr (inl refl))) told)
    where
      by_place : (x : Option (FileSystem × Snap)) → not (is_some x) ≡ false → IfSome x (λ p. names ≡ p.1.tags)
          → NamesAre names ≡ option_map_or (λ (p : FileSystem × Snap). NamesAre p.1.tags) x Done
      by_place None there e = absurd (true≢false there)
      by_place (Some p) there e = ap NamesAre e

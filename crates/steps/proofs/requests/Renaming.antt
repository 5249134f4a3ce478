-- A file system renamed.
use Rattle.std.proofs.Common.{◌≡◌, Some, None, List, ℕ, refl, sym, ap, subst, ◌∙◌, ◌⊎◌, inr, ⊎_elim}
use Rattle.std.specs.FinSet.{union}
use Rattle.base.specs.declared.refusal.Refusal.{Refusal}
use Rattle.base.specs.declared.refusal.Refusal.TheVariants.{NoMemory}
use Rattle.zalloc.specs.declared.BlockState.{BlockState}
use Rattle.model.specs.declared.request.Request.TheVariants.{Rename}
use Rattle.model.specs.declared.reply.Reply.TheVariants.{Done, Refused}
use Rattle.model.specs.State.{State}
use Rattle.model.specs.Edits.{with_now}
use Rattle.model.specs.Numbers.{HasStates}
use Rattle.model.specs.Rule.{first_of}
use Rattle.model.specs.Refusals.{refusal_of, state_asked}
use Rattle.model.specs.Step.{Step}
use Rattle.model.specs.requests.Change.{limit_row}
use Rattle.model.specs.requests.Rename.{with_renamed, renaming_row, rename_rule}
use Rattle.world.proofs.changes.Kept.{reach_is}
use Rattle.world.proofs.changes.Renames.{CanRename, renamed_at, renamed_back, rename_union}
use Rattle.world.proofs.lists.Names.{exchanged}
use Rattle.world.proofs.steps.StateSteps.{rename_before}
use Rattle.world.proofs.views.ViewedRenames.{can_rename}
use Rattle.limits.specs.Limits.{IsUnlimited}
use Rattle.datasets.specs.Renames.{with_names, rename_refusal}
use Rattle.steps.specs.Steady.{IsSteady}
use Rattle.steps.specs.Asked.{asked_by_rename}
use Rattle.steps.specs.Edits.{datasets_of, put, StaysUnlimited, CanPut}
use Rattle.steps.proofs.quotas.Bounded.{first_left, first_after, IsUnasked, asked_steady, unasked_fits}
use Rattle.steps.proofs.quotas.Unlimited.{still_swept}
use Rattle.steps.proofs.numbers.Putting.{put_none}
use Rattle.steps.proofs.numbers.Ruled.{no_choice, refused_by, no_memory_by, done_by}

-- ---- the state after it

renamed_state : (s : State) (from to : List ℕ) → with_now s (with_renamed s.now from to) ≡ asked_by_rename s from to
renamed_state s from to = sym (put_none s (with_names (datasets_of s) from to))

-- its limits are asked of it
pub rename_asked : (s : State) (from to : List ℕ) → state_asked s (rename_rule from to) ≡ asked_by_rename s from to
unfolding state_asked
rename_asked s from to = renamed_state s from to

module _ (s : State) (from to : List ℕ) (none : rename_refusal (datasets_of s) from to ≡ None) where
  can : CanRename s.now.file_systems from to
  can = can_rename s.now from to none

  -- where no file system had a limit, none has one
  pub rename_unlimited : StaysUnlimited s (with_names (datasets_of s) from to)
  rename_unlimited bare n f is = bare (exchanged from to n) f (sym (renamed_at s.now.file_systems from to can n) ∙ is)

  module _ (steady : IsSteady s) where
    renamed_unasked : IsUnasked s (with_now s (with_renamed s.now from to))
    renamed_unasked = record {
      good = rename_before s steady.good from to can;
      swept = still_swept s (with_now s (with_renamed s.now from to)) steady refl
          (λ n f t is i. inr (exchanged from to n, f, sym (renamed_at s.now.file_systems from to can n) ∙ is, i))
          (λ n f id is o. (exchanged from to n, f, renamed_back s.now.file_systems from to can n ∙ is, o));
      reach =
          reach_is (with_renamed s.now from to)
          ∙ ap (λ u. union u s.now.freeing) (rename_union s.now steady.good.now.systems from to can)
          ∙ sym (reach_is s.now);
      last = refl;
      size = refl;
    }

    -- what holds of it whatever the limits
    pub rename_unasked : IsUnasked s (asked_by_rename s from to)
    rename_unasked = subst (IsUnasked s) (renamed_state s from to) renamed_unasked

    -- where the limits hold then, the datasets after it can be put in place
    pub rename_can_within : first_of (limit_row (asked_by_rename s from to)) ≡ None → CanPut s (with_names (datasets_of s) from to) 0
    rename_can_within fits = record { steady = asked_steady s (asked_by_rename s from to) rename_unasked steady fits; reach = rename_unasked.reach }

    -- no limit is passed where there is none
    pub rename_fits : IsUnlimited s.now.file_systems → (numbers : List BlockState) → HasStates s numbers → first_of (limit_row (asked_by_rename s from to)) ≡ None
    rename_fits bare = unasked_fits s (asked_by_rename s from to) rename_unasked (rename_unlimited bare)

-- ---- steps

module _ (s : State) (from to : List ℕ) where
  refused_row : (why : Refusal) → rename_refusal (datasets_of s) from to ≡ Some why → refusal_of s (rename_rule from to) ≡ Some why
  unfolding refusal_of
  refused_row why e = first_left (renaming_row s.now from to) (limit_row (state_asked s (rename_rule from to))) why e

  -- a rename that is refused, or has no memory
  pub rename_refused : (why : Refusal) → (rename_refusal (datasets_of s) from to ≡ Some why) ⊎ (why ≡ NoMemory) → Step s (Rename from to) (Refused why) s
  rename_refused why which = ⊎_elim
      (λ e. refused_by (Rename from to) (rename_rule from to) (None, refl, refl) s why (refused_row why e))
      (λ e. subst (λ z. Step s (Rename from to) (Refused z) s) (sym e) (no_memory_by (Rename from to) (rename_rule from to) (None, refl, refl) s refl))
      which

  module _ (none : rename_refusal (datasets_of s) from to ≡ None) where
    -- what earlier rows don't refuse, the limits say
    row_is : refusal_of s (rename_rule from to) ≡ first_of (limit_row (asked_by_rename s from to))
    unfolding refusal_of
    row_is =
        first_after (renaming_row s.now from to) (limit_row (state_asked s (rename_rule from to))) none
        ∙ ap (λ x. first_of (limit_row x)) (rename_asked s from to)

    -- a limit would be passed
    pub rename_refused_by_limit : (why : Refusal) → first_of (limit_row (asked_by_rename s from to)) ≡ Some why → Step s (Rename from to) (Refused why) s
    rename_refused_by_limit why over = refused_by (Rename from to) (rename_rule from to) (None, refl, refl) s why (row_is ∙ over)

    -- and a rename that nothing refuses
    pub rename_done_within : IsSteady s → first_of (limit_row (asked_by_rename s from to)) ≡ None → Step s (Rename from to) Done (put s (with_names (datasets_of s) from to) 0)
    rename_done_within steady fits = done_by (Rename from to) (rename_rule from to) (None, refl, refl) s no_choice (put s (with_names (datasets_of s) from to) 0) Done
        refl refl (row_is ∙ fits) refl (sym (renamed_state s from to)) (rename_can_within s from to none steady fits).steady

-- A hold: the datasets after it, why it is refused, and its steps.
use Rattle.std.proofs.Common.{◌≡◌, ◌⊎◌, ℕ, ◌++◌, ◌∷◌, [], false, List, Some, None, refl, sym, subst, ◌∙◌, inl, inr, ⊎_elim}
use Rattle.std.specs.Option.{option_map_or}
use Rattle.base.specs.declared.refusal.Refusal.{Refusal}
use Rattle.base.specs.declared.refusal.Refusal.TheVariants.{Deferred, NoMemory}
use Rattle.base.specs.declared.name.target.Target.{Target}
use Rattle.model.specs.declared.request.Request.TheVariants.{Hold}
use Rattle.model.specs.declared.reply.Reply.TheVariants.{Done, Refused}
use Rattle.model.specs.World.{FileSystem, Snap}
use Rattle.model.specs.State.{State}
use Rattle.model.specs.Refusals.{refusal_of}
use Rattle.model.specs.Step.{Step}
use Rattle.model.specs.requests.Rollback.{placed}
use Rattle.model.specs.requests.Hold.{hold_row, hold_rule}
use Rattle.world.specs.Tables.{world_of}
use Rattle.world.proofs.views.ViewedRequests.{row_false}
use Rattle.steps.specs.Steady.{IsSteady}
use Rattle.steps.specs.Edits.{datasets_of, put, CanPut}
use Rattle.marks.specs.Requests.{hold_refusal, held_in}
use Rattle.steps.proofs.requests.Labelling.{label_can}
use Rattle.steps.proofs.numbers.Putting.{put_none}
use Rattle.steps.proofs.numbers.Ruled.{no_choice, refused_by, no_memory_by, done_by}
use Rattle.steps.proofs.requests.Tagging.{tagged, tagged_state, tagged_label, tagged_known}

module _ (s : State) (tag : List ℕ) (target : Target) where
  abbrev longer : Snap → List (List ℕ)
  longer t = t.tags ++ tag ∷ []

  row_is : refusal_of s (hold_rule tag target) ≡ hold_refusal (datasets_of s) tag target
  unfolding refusal_of
  row_is = refl

  -- a hold that is refused, or has no memory
  pub hold_refused : (why : Refusal) → (hold_refusal (datasets_of s) tag target ≡ Some why) ⊎ (why ≡ NoMemory) → Step s (Hold tag target) (Refused why) s
  hold_refused why which = ⊎_elim
      (λ e. refused_by (Hold tag target) (hold_rule tag target) (None, refl, refl) s why (row_is ∙ e))
      (λ e. subst (λ z. Step s (Hold tag target) (Refused z) s) (sym e) (no_memory_by (Hold tag target) (hold_rule tag target) (None, refl, refl) s refl))
      which

  module _ (steady : IsSteady s) (none : hold_refusal (datasets_of s) tag target ≡ None) where
    undeferred : option_map_or (λ (p : FileSystem × Snap). p.1.deferred) (placed s.now target) false ≡ false
    undeferred = row_false (hold_row s.now tag target) none (option_map_or (λ (p : FileSystem × Snap). p.1.deferred) (placed s.now target) false, Deferred) (inr (inr (inl refl)))

    -- the datasets with the tag can be put in place
    pub hold_can : CanPut s (held_in (datasets_of s) tag target) 0
    hold_can = label_can s steady (tagged (world_of (datasets_of s)) target longer).file_systems
        (tagged_label s target longer steady) (tagged_known s target longer steady undeferred)

    -- and a hold that nothing refuses puts them there
    pub hold_done : Step s (Hold tag target) Done (put s (held_in (datasets_of s) tag target) 0)
    hold_done = done_by (Hold tag target) (hold_rule tag target) (None, refl, refl) s no_choice (put s (held_in (datasets_of s) tag target) 0) Done
        refl refl (row_is ∙ none) refl (put_none s (held_in (datasets_of s) tag target) ∙ sym (tagged_state s target longer)) hold_can.steady

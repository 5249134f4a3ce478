-- A release: the datasets after it, of which a snapshot that is to go goes with its last tag, why it is refused, and its steps.
use Rattle.std.proofs.Common.{◌≡◌, ◌⊎◌, ℕ, List, Some, None, refl, sym, ap, subst, ◌∙◌, ⊎_elim}
use Rattle.base.specs.declared.refusal.Refusal.{Refusal}
use Rattle.base.specs.declared.refusal.Refusal.TheVariants.{NoMemory}
use Rattle.base.specs.declared.name.target.Target.{Target}
use Rattle.model.specs.declared.request.Request.TheVariants.{Release}
use Rattle.model.specs.declared.reply.Reply.TheVariants.{Done, Refused}
use Rattle.model.specs.World.{Snap}
use Rattle.model.specs.State.{State}
use Rattle.model.specs.Edits.{with_now}
use Rattle.model.specs.Outcome.{state_after_sweep}
use Rattle.model.specs.Refusals.{refusal_of}
use Rattle.model.specs.Step.{Step}
use Rattle.model.specs.requests.Release.{without_tag, release_rule}
use Rattle.world.specs.Tables.{Datasets}
use Rattle.world.specs.Worlds.{AreFileSystems}
use Rattle.world.proofs.steps.States.{sweep_keeps}
use Rattle.world.proofs.views.Viewed.{IsSafe}
use Rattle.removals.specs.Requests.{swept}
use Rattle.steps.specs.Steady.{IsSteady}
use Rattle.steps.specs.Edits.{datasets_of, lose, StaysUnlimited, CanLose}
use Rattle.marks.specs.Requests.{release_refusal, released_in}
use Rattle.steps.proofs.requests.Destroying.{swept_state, swept_can, swept_unlimited}
use Rattle.steps.proofs.requests.Labelling.{IsLabelled, label_loses}
use Rattle.steps.proofs.numbers.Ruled.{no_choice, refused_by, no_memory_by, swept_by}
use Rattle.steps.proofs.requests.Tagging.{tagged, tagged_state, tagged_label, tagged_safe}

module _ (s : State) (tag : List ℕ) (target : Target) where
  abbrev fewer : Snap → List (List ℕ)
  fewer t = without_tag t.tags tag

  row_is : refusal_of s (release_rule tag target) ≡ release_refusal (datasets_of s) tag target
  unfolding refusal_of
  row_is = refl

  -- a release that is refused, or has no memory
  pub release_refused : (why : Refusal) → (release_refusal (datasets_of s) tag target ≡ Some why) ⊎ (why ≡ NoMemory) → Step s (Release tag target) (Refused why) s
  release_refused why which = ⊎_elim
      (λ e. refused_by (Release tag target) (release_rule tag target) (None, refl, refl) s why (row_is ∙ e))
      (λ e. subst (λ z. Step s (Release tag target) (Refused z) s) (sym e) (no_memory_by (Release tag target) (release_rule tag target) (None, refl, refl) s refl))
      which

  module _ (steady : IsSteady s) where
    abbrev to : Datasets
    to = released_in (datasets_of s) tag target

    l : IsLabelled s (released_in (datasets_of s) tag target).file_systems
    l = tagged_label s target fewer steady

    -- nothing is lost but by the sweep
    state_is : lose s (released_in (datasets_of s) tag target) ≡ with_now s (tagged s.now target fewer)
    state_is = label_loses s steady to.file_systems l ∙ sym (tagged_state s target fewer)

    good : AreFileSystems (swept (released_in (datasets_of s) tag target) s.views).file_systems s.now.group
    unfolding state_after_sweep
    good = (sweep_keeps (with_now s (record s.now { file_systems = to.file_systems })) l.good).now.systems

    -- the datasets without the tag can be put in place once they are swept
    pub release_can : CanLose s (swept (released_in (datasets_of s) tag target) s.views)
    release_can = swept_can s to l.from steady good refl l.kept
        (subst (λ (x : State). IsSafe s.views s.now x.now) (sym state_is) (tagged_safe s target fewer steady))

    -- where there was no limit, there is none
    pub release_unlimited : StaysUnlimited s (swept (released_in (datasets_of s) tag target) s.views)
    release_unlimited = swept_unlimited s to l.from l.kept

    -- and a release that nothing refuses puts them there
    pub release_done : release_refusal (datasets_of s) tag target ≡ None
        → Step s (Release tag target) Done (lose s (swept (released_in (datasets_of s) tag target) s.views))
    release_done none = swept_by (Release tag target) (release_rule tag target) (None, refl, refl) s no_choice (lose s (swept to s.views)) Done
        refl refl (row_is ∙ none) refl (swept_state s to l.from ∙ ap state_after_sweep state_is) release_can.steady

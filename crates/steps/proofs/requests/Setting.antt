-- A limit set: the datasets after it, why it is refused, and its steps.
use Rattle.std.proofs.Common.{◌≡◌, ◌⊎◌, ℕ, Bool, true, false, cond, not, List, [], Option, Some, None, refl, sym, ap, subst, ◌∙◌, inl, inr, ⊎_elim}
use Rattle.std.specs.Prelude.{is_some}
use Rattle.std.specs.Option.{option_map_or}
use Rattle.std.specs.FinMap.{get, insert}
use Rattle.std.specs.FinSet.{union}
use Rattle.base.specs.declared.refusal.Refusal.{Refusal}
use Rattle.base.specs.declared.refusal.Refusal.TheVariants.{NoDataset, NoMemory}
use Rattle.model.specs.declared.limits.Limit.{Limit}
use Rattle.model.specs.declared.limits.Limit.TheVariants.{Quota, RefQuota, Reservation, RefReservation}
use Rattle.model.specs.declared.request.Request.TheVariants.{Set}
use Rattle.model.specs.declared.reply.Reply.TheVariants.{Done, Refused}
use Rattle.model.specs.World.{World, FileSystem, union_of}
use Rattle.model.specs.State.{State}
use Rattle.model.specs.Limits.{limited}
use Rattle.model.specs.Edits.{with_now}
use Rattle.model.specs.Rule.{Row, first_of}
use Rattle.model.specs.requests.Change.{limit_row}
use Rattle.model.specs.requests.Set.{after_set, set_rule}
use Rattle.model.specs.Refusals.{refusal_of, state_asked}
use Rattle.model.specs.Step.{Step}
use Rattle.world.specs.Tables.{world_of}
use Rattle.world.specs.Worlds.{IsTidy, IsPoolState}
use Rattle.world.proofs.changes.Kept.{reach_is}
use Rattle.limits.specs.Limits.{IsShrunk, HasLimits}
use Rattle.limits.specs.Steps.{AreKept}
use Rattle.limits.proofs.Steps.{kept_changed, kept_shrunk}
use Rattle.datasets.specs.Limits.{with_limit_of}
use Rattle.steps.specs.Steady.{IsSteady}
use Rattle.steps.specs.Edits.{datasets_of, with_datasets, put, CanPut}
use Rattle.steps.specs.Asked.{asked_by_set}
use Rattle.steps.proofs.quotas.Bounded.{IsUnasked}
use Rattle.steps.proofs.requests.Labelling.{label_good, label_union, label_origins}
use Rattle.steps.proofs.quotas.Limits.{kept_limits, asked_limits}
use Rattle.steps.proofs.numbers.Putting.{put_none}
use Rattle.steps.proofs.numbers.Ruled.{no_choice, refused_by, no_memory_by, done_by}
use Rattle.steps.proofs.quotas.Unlimited.{AreKnown, AreOriginsIn, same_known, put_known, same_origins, still_swept}

-- ---- the state after it

module _ (s : State) (name : List ℕ) (limit : Limit) (amount : Option ℕ) where
  -- it is of the datasets after it
  set_state : with_now s (after_set s.now name limit amount) ≡ asked_by_set s name limit amount
  set_state = by_system (get s.now.file_systems name) ∙ sym (put_none s (with_limit_of (datasets_of s) name limit amount))
    where
      by_system : (x : Option FileSystem)
          → with_now s (option_map_or (λ (f : FileSystem). record s.now { file_systems = insert s.now.file_systems name (limited f limit amount) }) x s.now)
          ≡ with_datasets s (record (datasets_of s) { file_systems = (option_map_or (λ (f : FileSystem). record (world_of (datasets_of s)) { file_systems = insert s.now.file_systems name (limited f limit amount) }) x (world_of (datasets_of s))).file_systems })
      by_system None = refl
      by_system (Some f) = refl

  -- and the one that its limits are asked of
  pub set_asked : state_asked s (set_rule name limit amount) ≡ asked_by_set s name limit amount
  unfolding state_asked
  set_asked = set_state

  -- a limit is no part of a map or a snapshot
  limited_tidy : (f : FileSystem) → IsTidy s.now.group f → IsTidy s.now.group (limited f limit amount)
  limited_tidy f tidy = record { names = tidy.names; bookmarks = tidy.bookmarks }

  record IsLimited (w : World) : Type 0 where
    good : IsPoolState (with_now s w)
    union : union_of w ≡ union_of s.now
    freeing : w.freeing ≡ s.now.freeing
    known : AreKnown s.now.file_systems w.file_systems
    origins : AreOriginsIn s.now.file_systems w.file_systems

  module _ (steady : IsSteady s) where
    is_limited : IsLimited (after_set s.now name limit amount)
    is_limited = by_system (get s.now.file_systems name) refl
      where
        by_system : (x : Option FileSystem) → get s.now.file_systems name ≡ x
            → IsLimited (option_map_or (λ (f : FileSystem). record s.now { file_systems = insert s.now.file_systems name (limited f limit amount) }) x s.now)
        by_system None e = record {
          good = steady.good;
          union = refl;
          freeing = refl;
          known = same_known s.now.file_systems;
          origins = same_origins s.now.file_systems;
        }
        by_system (Some f) e =
            let tidy = limited_tidy f (steady.good.now.systems.tidy name f e) in
            record {
              good = label_good s steady name f (limited f limit amount) e refl refl tidy;
              union = label_union s steady name f (limited f limit amount) e refl refl tidy;
              freeing = refl;
              known = put_known s.now.file_systems s.now.file_systems (same_known s.now.file_systems) name (limited f limit amount) (λ t i. inr (name, f, e, i));
              origins = label_origins s steady name f (limited f limit amount) e refl refl tidy;
            }

    -- what holds of it whatever the limits
    pub set_unasked : IsUnasked s (asked_by_set s name limit amount)
    set_unasked = subst (IsUnasked s) set_state (record {
      good = is_limited.good;
      swept = still_swept s (with_now s (after_set s.now name limit amount)) steady refl is_limited.known is_limited.origins;
      reach = reach_is (after_set s.now name limit amount) ∙ (λ i. union (is_limited.union i) (is_limited.freeing i)) ∙ sym (reach_is s.now);
      last = refl;
      size = refl;
    })

-- ---- a limit let go

-- of a file system
let_go : (limit : Limit) (f : FileSystem) → IsShrunk f (limited f limit None)
let_go Quota f = record { live = refl; origin = refl; snaps = λ u i. (u, i, refl, refl); quota = inr refl; refquota = inl refl; reservation = inl refl; refreservation = inl refl }
let_go RefQuota f = record { live = refl; origin = refl; snaps = λ u i. (u, i, refl, refl); quota = inl refl; refquota = inr refl; reservation = inl refl; refreservation = inl refl }
let_go Reservation f = record { live = refl; origin = refl; snaps = λ u i. (u, i, refl, refl); quota = inl refl; refquota = inl refl; reservation = inr refl; refreservation = inl refl }
let_go RefReservation f = record { live = refl; origin = refl; snaps = λ u i. (u, i, refl, refl); quota = inl refl; refquota = inl refl; reservation = inl refl; refreservation = inr refl }

module _ (s : State) (name : List ℕ) (limit : Limit) where
  -- no file system uses more
  gone_kept : AreKept s.now (put s (with_limit_of (datasets_of s) name limit None) 0).now
  gone_kept = subst (λ (x : State). AreKept s.now x.now) (set_state s name limit None) (kept_changed s.now name (λ f. limited f limit None) (let_go limit))

-- ---- what can be put in place

module _ (s : State) (steady : IsSteady s) (name : List ℕ) (limit : Limit) (amount : Option ℕ)
    (fits : (n : ℕ) → amount ≡ Some n → first_of (limit_row (asked_by_set s name limit amount)) ≡ None) where
  set_limits : (x : Option ℕ) → amount ≡ x → HasLimits (asked_by_set s name limit amount)
  set_limits None e = kept_limits s (put s (with_limit_of (datasets_of s) name limit amount) 0) steady (set_unasked s name limit amount steady).good refl
      (kept_shrunk s.now (put s (with_limit_of (datasets_of s) name limit amount) 0).now
      (subst (λ y. AreKept s.now (put s (with_limit_of (datasets_of s) name limit y) 0).now) (sym e) (gone_kept s name limit)))
  set_limits (Some n) e = asked_limits s (put s (with_limit_of (datasets_of s) name limit amount) 0) refl (fits n e) steady.limits

  -- the datasets with the limit can be put in place: where it is an amount, once the limits hold then
  pub set_can : CanPut s (with_limit_of (datasets_of s) name limit amount) 0
  set_can =
      let is = set_unasked s name limit amount steady in
      record { steady = record { good = is.good; swept = is.swept; limits = set_limits amount refl }; reach = is.reach }

-- ---- steps

module _ (s : State) (name : List ℕ) (limit : Limit) (amount : Option ℕ) where
  abbrev asking : State → Option ℕ → Row
  asking asked x = option_map_or (λ _. limit_row asked) x []

  -- which refusal it gets, where the file system is there or isn't
  row_is : (b : Bool) → is_some (get s.now.file_systems name) ≡ b
      → refusal_of s (set_rule name limit amount)
      ≡ cond {A = Option Refusal} (not b) (Some NoDataset) (first_of (option_map_or (λ _. limit_row (asked_by_set s name limit amount)) amount []))
  unfolding refusal_of
  row_is b e =
      ap (λ x. cond {A = Option Refusal} (not x) (Some NoDataset) (first_of (asking (state_asked s (set_rule name limit amount)) amount))) e
      ∙ ap (λ x. cond {A = Option Refusal} (not b) (Some NoDataset) (first_of (asking x amount))) (set_asked s name limit amount)

  -- one that the table refused, or that had no memory
  pub set_refused : (why : Refusal) → (why ≡ NoDataset → get s.now.file_systems name ≡ None) → (why ≡ NoDataset) ⊎ (why ≡ NoMemory) → Step s (Set name limit amount) (Refused why) s
  set_refused why tells which = ⊎_elim
      (λ e. subst (λ z. Step s (Set name limit amount) (Refused z) s) (sym e)
      (refused_by (Set name limit amount) (set_rule name limit amount) (None, refl, refl) s NoDataset (row_is false (ap is_some (tells e)))))
      (λ e. subst (λ z. Step s (Set name limit amount) (Refused z) s) (sym e) (no_memory_by (Set name limit amount) (set_rule name limit amount) (None, refl, refl) s refl))
      which

  module _ (there : get s.now.file_systems name ≡ None → ⊥) where
    row_there : refusal_of s (set_rule name limit amount) ≡ first_of (option_map_or (λ _. limit_row (asked_by_set s name limit amount)) amount [])
    row_there = by_system (get s.now.file_systems name) refl
      where
        by_system : (x : Option FileSystem) → get s.now.file_systems name ≡ x
            → refusal_of s (set_rule name limit amount) ≡ first_of (option_map_or (λ _. limit_row (asked_by_set s name limit amount)) amount [])
        by_system None e = absurd (there e)
        by_system (Some f) e = row_is true (ap is_some e)

    -- an amount by which a limit would be passed
    pub set_refused_by_limit : (n : ℕ) → amount ≡ Some n → (why : Refusal) → first_of (limit_row (asked_by_set s name limit amount)) ≡ Some why
        → Step s (Set name limit amount) (Refused why) s
    set_refused_by_limit n is why over = refused_by (Set name limit amount) (set_rule name limit amount) (None, refl, refl) s why
        (row_there ∙ ap (λ x. first_of (asking (asked_by_set s name limit amount) x)) is ∙ over)

    -- and one by which none is, or a limit let go
    pub set_done : IsSteady s → ((n : ℕ) → amount ≡ Some n → first_of (limit_row (asked_by_set s name limit amount)) ≡ None)
        → Step s (Set name limit amount) Done (put s (with_limit_of (datasets_of s) name limit amount) 0)
    set_done steady fits = done_by (Set name limit amount) (set_rule name limit amount) (None, refl, refl) s no_choice (put s (with_limit_of (datasets_of s) name limit amount) 0) Done
        refl refl (row_there ∙ by_amount amount refl) refl (sym (set_state s name limit amount)) (set_can s steady name limit amount fits).steady
      where
        by_amount : (x : Option ℕ) → amount ≡ x → first_of (asking (asked_by_set s name limit amount) amount) ≡ None
        by_amount None e = ap (λ y. first_of (asking (asked_by_set s name limit amount) y)) e
        by_amount (Some n) e = ap (λ y. first_of (asking (asked_by_set s name limit amount) y)) e ∙ fits n e

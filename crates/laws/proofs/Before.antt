-- The world that a step goes on from, and what it leaves of the last synced one.
use Rattle.std.proofs.Common.{◌≡◌, ℕ, Bool, true, false, List, [], ◌∷◌, Option, Some, None, refl, sym, ap, subst, ◌∙◌, ◌⊎◌, inl, inr, ⊎_elim, true≢false}
use Rattle.std.specs.Prelude.{if◌then◌else◌}
use Rattle.std.specs.Option.{option_map_or}
use Rattle.base.specs.declared.refusal.Refusal.{Refusal}
use Rattle.base.specs.declared.refusal.Refusal.TheVariants.{NoMemory}
use Rattle.base.specs.declared.name.member.Member.{Member}
use Rattle.base.specs.declared.name.target.Target.{Target}
use Rattle.base.specs.declared.name.target.Target.TheVariants.{FileSystem as OfFileSystem, Snapshot as OfSnapshot, Bookmark as OfBookmark}
use Rattle.base.specs.Rewrite.{Changes}
use Rattle.stream.specs.Spelling.{Sending}
use Rattle.model.specs.declared.request.Request.{Request}
use Rattle.model.specs.declared.request.Request.TheVariants.{Write as ToWrite, Punch as ToPunch, FreeObject as ToFreeObject, Snapshot as ToSnapshot, Sync as ToSync, Abandon as ToAbandon, OpenView as ToOpenView, Clone as ToClone, Promote as ToPromote, Receive as ToReceive}
use Rattle.model.specs.declared.reply.Reply.{Reply}
use Rattle.model.specs.declared.reply.Reply.TheVariants.{Done, Refused, Group as GroupIs}
use Rattle.model.specs.World.{World, FileSystem, Snap, id_of}
use Rattle.model.specs.State.{State}
use Rattle.model.specs.Rule.{Choice}
use Rattle.model.specs.Refusals.{refusal_of}
use Rattle.model.specs.Edits.{with_now, with_next_group}
use Rattle.model.specs.Outcome.{state_after_sweep, state_after}
use Rattle.model.specs.Step.{Step, Follows, done, refused, out_of_memory}
use Rattle.model.specs.requests.{rule_of}
use Rattle.model.specs.requests.Change.{state_after_change}
use Rattle.model.specs.requests.Clone.{with_clone}
use Rattle.model.specs.requests.OpenView.{with_view}
use Rattle.model.specs.requests.Promote.{Promotion, promotion_of, after_promotion}
use Rattle.model.specs.requests.Receive.{received}
use Rattle.model.specs.requests.Rollback.{placed}
use Rattle.model.specs.requests.Snapshot.{snapshots_taken, snapshot_names}

-- the last synced world where the step goes back to it, else the present one
abbrev pub world_before : State → Request → Reply → World
world_before s ToAbandon Done = s.last
world_before s q r = s.now

pub either_world : (s : State) (q : Request) (r : Reply) → (world_before s q r ≡ s.now) ⊎ ((world_before s q r ≡ s.last) × (q ≡ ToAbandon) × (r ≡ Done))
either_world s ToAbandon Done = inr (refl, refl, refl)
either_world s q r = inl refl

-- a step that is refused goes on from the present one
before_refusal : (s : State) (q : Request) (why : Refusal) → world_before s q (Refused why) ≡ s.now
before_refusal s ToAbandon why = refl
before_refusal s q why = refl

-- and so does one that only reads
before_reading : (s : State) (q : Request) (r : Reply) (reading : Option Sending) → (rule_of q reading).only_reads ≡ true → world_before s q r ≡ s.now
before_reading s ToAbandon r reading e = absurd (true≢false (sym e))
before_reading s q r reading e = refl

-- What joins each world to itself and goes on through a sweep joins the world before a step to the one after it, where it does so before the
-- sweep of a step that is done
module _ (Joins : World → World → Type 0) (same : (w : World) → Joins w w)
    (swept : (w : World) (s : State) → Joins w s.now → Joins w (state_after_sweep s).now) where
  pub step_joins : (q : Request) (r : Reply) (s new : State) (step : Step s q r new)
      → ((c : Choice) → refusal_of s (rule_of q step.reading) ≡ None → r ≡ (rule_of q step.reading).reply s → Joins (world_before s q r) ((rule_of q step.reading).after s c).now)
      → Joins (world_before s q r) new.now
  unfolding state_after
  step_joins q r s new step joins = by_end step.follows
    where
      stayed : (why : Refusal) → r ≡ Refused why → new ≡ s → Joins (world_before s q r) new.now
      stayed why is e =
          subst (λ x. Joins (world_before s q x) new.now) (sym is)
          (subst (λ w. Joins w new.now) (sym (before_refusal s q why)) (subst (λ (x : State). Joins s.now x.now) (sym e) (same s.now)))

      by_reading : (c : Choice) → Joins (world_before s q r) ((rule_of q step.reading).after s c).now → (b : Bool) → (rule_of q step.reading).only_reads ≡ b
          → Joins (world_before s q r) (if b then s else state_after_sweep ((rule_of q step.reading).after s c)).now
      by_reading c k true e = subst (λ w. Joins w s.now) (sym (before_reading s q r step.reading e)) (same s.now)
      by_reading c k false e = swept (world_before s q r) ((rule_of q step.reading).after s c) k

      by_end : Follows s (rule_of q step.reading) r new → Joins (world_before s q r) new.now
      by_end (done h) =
          subst (λ (x : State). Joins (world_before s q r) x.now) (sym h.new_is)
          (by_reading h.choice (joins h.choice h.not_refused h.reply_is) (rule_of q step.reading).only_reads refl)
      by_end (refused h) = stayed h.why h.reply_is h.unchanged
      by_end (out_of_memory h) = stayed NoMemory h.reply_is h.unchanged

-- ---- the last synced world

-- a sync that is done
abbrev pub IsSync : Request → Reply → Type 0
IsSync q r = (q ≡ ToSync) × ((g : ℕ) × (r ≡ GroupIs g))

-- it stays, and this is no sync that is done; or it is the present one, with the next group open
abbrev pub LeavesLast : State → Request → Reply → State → Type 0
LeavesLast s q r new = ((new.last ≡ s.last) × ¬ (IsSync q r)) ⊎ (new.last ≡ with_next_group s.now)

abbrev is_sync : Request → Bool
is_sync ToSync = true
is_sync q = false

by_option : {A : Type 0} (s : State) (to : A → State) → ((a : A) → (to a).last ≡ s.last) → (x : Option A) → (option_map_or to x s).last ≡ s.last
by_option s to same None = refl
by_option s to same (Some a) = same a

by_target : (s : State) (target : Target) (changes : Changes) (c : Choice) → (state_after_change s target changes c).last ≡ s.last
by_target s (OfFileSystem name) changes c = refl
by_target s (OfSnapshot m) changes c = refl
by_target s (OfBookmark m) changes c = refl

by_names : (s : State) (ms : List Member) → (snapshots_taken s ms).last ≡ s.last
by_names s [] = refl
by_names s (m ∷ ms) = refl

-- the state after a request that isn't refused
last_left : (s : State) (q : Request) (reading : Option Sending) (c : Choice)
    → (((state_after s c (rule_of q reading)).last ≡ s.last) × (is_sync q ≡ false)) ⊎ ((state_after s c (rule_of q reading)).last ≡ with_next_group s.now)
unfolding state_after state_after_sweep
last_left s ToSync reading c = inr refl
last_left s (ToWrite target object block bytes) reading c = inl (by_target s target _ c, refl)
last_left s (ToPunch target object block) reading c = inl (by_target s target _ c, refl)
last_left s (ToFreeObject target object) reading c = inl (by_target s target _ c, refl)
last_left s (ToSnapshot names recursive) reading c = inl (by_names s (snapshot_names s.now names recursive), refl)
last_left s (ToOpenView target) reading c = inl (by_option {A = FileSystem × Snap} s (λ p. with_view s p.1) (λ p. refl) (placed s.now target), refl)
last_left s (ToClone target name) reading c =
    inl (by_option {A = FileSystem × Snap} s (λ p. with_now s (with_clone s.now (id_of p.1) name)) (λ p. refl) (placed s.now target), refl)
last_left s (ToPromote name) reading c = inl (by_option {A = Promotion} s (λ p. with_now s (after_promotion s.now name p)) (λ p. refl) (promotion_of s.now name), refl)
last_left s (ToReceive m bytes mode) reading c = inl (by_option {A = Sending} s (λ sent. with_now s (received s.now m sent mode c.number)) (λ sent. refl) reading, refl)
last_left s q reading c = inl (refl, refl)

no_group : (why : Refusal) (g : ℕ) → Refused why ≡ GroupIs g → ⊥
no_group why g e = cc

pub last_after : (q : Request) (r : Reply) (s new : State) → Step s q r new → LeavesLast s q r new
last_after q r s new step = by_end step.follows
  where
    stayed : (why : Refusal) → r ≡ Refused why → new ≡ s → LeavesLast s q r new
    stayed why is e = inl (ap (λ (x : State). x.last) e, λ sync. no_group why sync.1.0 (sym is ∙ sync.1.1))

    by_end : Follows s (rule_of q step.reading) r new → LeavesLast s q r new
    by_end (done h) =
        let to = ap (λ (x : State). x.last) h.new_is in
        ⊎_elim
        (λ k. inl (to ∙ k.0, λ sync. true≢false (sym (ap is_sync sync.0) ∙ k.1)))
        (λ k. inr (to ∙ k))
        (last_left s q step.reading h.choice)
    by_end (refused h) = stayed h.why h.reply_is h.unchanged
    by_end (out_of_memory h) = stayed NoMemory h.reply_is h.unchanged

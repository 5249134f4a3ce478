-- What lasts in every run: lineages, births and numbers; and what a snapshot had.
use Rattle.std.proofs.Common.{◌≡◌, ℕ, zero, suc, ◌<◌, List, [], ◌∷◌, Bool, false, Some, refl, sym, ap, subst, ◌⊎◌, inl, inr, ⊎_elim, arith}
use Rattle.std.specs.Prelude.{slice_get}
use Rattle.model.specs.declared.request.Request.{Request}
use Rattle.model.specs.declared.request.Request.TheVariants.{Sync as ToSync, Abandon as ToAbandon}
use Rattle.model.specs.declared.reply.Reply.{Reply}
use Rattle.model.specs.declared.reply.Reply.TheVariants.{Done, Group as GroupIs}
use Rattle.model.specs.World.{World, Snapped, map_of}
use Rattle.model.specs.Edits.{with_next_group}
use Rattle.model.specs.Numbers.{IsNumbered}
use Rattle.model.specs.State.{State}
use Rattle.model.specs.Run.{Run}
use Rattle.model.specs.Step.{Step, Follows, done, refused, out_of_memory}
use Rattle.model.specs.requests.{rule_of}
use Rattle.world.specs.Shapes.{Name}
use Rattle.world.proofs.lists.Maps.{same_value}
use Rattle.laws.specs.Bookmarks.{IsRunWithin}
use Rattle.laws.specs.Lineages.{HasLineages, HasBirths}
use Rattle.laws.specs.Runs.{RunSplits, InBoth, GoesBackWithin, given, IsNeverGiven, LineagesLast, SnapshotsKeep, BirthsLast, NumbersLast}
use Rattle.laws.proofs.Before.{IsSync, LeavesLast, world_before, either_world, last_after}
use Rattle.laws.proofs.Leading.{Leads, gives_none, step_leads, sync_leads, leads_lineages, leads_births, HasSnapMap, leads_held}
use Rattle.laws.proofs.Lineages.{there_closed}

pub run_splits : RunSplits
run_splits s u [] more [] others same run = (s, refl, run)
run_splits s u [] more (r ∷ rs) others same run = absurd (omega arith)
run_splits s u (q ∷ qs) more [] others same run = absurd (omega arith)
run_splits s u (q ∷ qs) more (r ∷ rs) others same (t, first, rest) =
    let k = run_splits t u qs more rs others (omega arith) rest in
    (k.0, (t, first, k.1), k.2)

-- ---- how far an Abandon goes back

-- the first step of a run doesn't go back
first_within : (q : Request) (r : Reply) (qs : List Request) (rs : List Reply) → GoesBackWithin (q ∷ qs) (r ∷ rs) → q ≡ ToAbandon → r ≡ Done → ⊥
first_within q r qs rs within is reply = let k = within 0 (ap Some is) (ap Some reply) in let l = k.2 in omega arith

-- after another step than a sync, those of the rest go back within the rest
rest_within : (q : Request) (r : Reply) (qs : List Request) (rs : List Reply) → ¬ (IsSync q r) → GoesBackWithin (q ∷ qs) (r ∷ rs) → GoesBackWithin qs rs
rest_within q r qs rs none within i asked answered = by_place (within (suc i) asked answered)
  where
    by_place : (j : ℕ) × (g : ℕ) × (j < suc i) × (slice_get (q ∷ qs) j ≡ Some ToSync) × (slice_get (r ∷ rs) j ≡ Some (GroupIs g))
        → (j : ℕ) × (g : ℕ) × (j < i) × (slice_get qs j ≡ Some ToSync) × (slice_get rs j ≡ Some (GroupIs g))
    by_place (zero, g, l, is, reply) = absurd (none (same_value q ToSync is, (g, same_value r (GroupIs g) reply)))
    by_place (suc j, g, l, is, reply) = (j, g, omega arith, is, reply)

-- ---- runs

-- it holds in the first state
pub first_holds : (Holds : State → Type 0) (s u : State) (qs : List Request) (rs : List Reply) → IsRunWithin Holds s qs rs u → Holds s
first_holds Holds s u [] [] run = run.0
first_holds Holds s u [] (r ∷ rs) run = absurd run
first_holds Holds s u (q ∷ qs) [] run = absurd run
first_holds Holds s u (q ∷ qs) (r ∷ rs) run = run.0

-- What goes on from each world to one that it leads to, where that has what the states of the run have: the present world has it after a run, if
-- it had it before and the last synced one had it too, or no Abandon goes back to that one; and then so has the last synced one
-- where the names that its steps give may be given
module _ (Has Each : World → Type 0) (May : (Name → Bool) → Type 0) (none_given : May gives_none)
    (goes_on : (gives : Name → Bool) (w new : World) → May gives → Has w → Leads gives w new → Each new → Has new) (each_synced : (w : World) → Each w → Each (with_next_group w)) where
  abbrev Give : List Request → List Reply → Type 0
  Give qs rs = (i : ℕ) (q : Request) (r : Reply) → slice_get qs i ≡ Some q → slice_get rs i ≡ Some r → May (given q r)

  abbrev IsKnown : State → List Request → List Reply → Type 0
  IsKnown s qs rs = Has s.last ⊎ GoesBackWithin qs rs

  -- one step
  step_has : (q : Request) (r : Reply) (s t : State) (qs : List Request) (rs : List Reply) → May (given q r) → Has s.now → IsKnown s (q ∷ qs) (r ∷ rs) → Each s.now → Each t.now
      → Step s q r t → Has t.now × (IsKnown t qs rs × (Has s.last → Has t.last))
  step_has q r s t qs rs may now known here there step = (goes_on (given q r) (world_before s q r) t.now may before (step_leads q r s t step) there, by_last (last_after q r s t step))
    where
      before : Has (world_before s q r)
      before = ⊎_elim
          (λ e. subst Has (sym e) now)
          (λ back. ⊎_elim (λ last. subst Has (sym back.0) last) (λ within. absurd (first_within q r qs rs within back.1 back.2)) known)
          (either_world s q r)

      by_last : LeavesLast s q r t → IsKnown t qs rs × (Has s.last → Has t.last)
      by_last (inl (e, none)) = (
        ⊎_elim (λ last. inl (subst Has (sym e) last)) (λ within. inr (rest_within q r qs rs none within)) known,
        λ last. subst Has (sym e) last,
      )
      by_last (inr e) = let last = subst Has (sym e) (goes_on gives_none s.now (with_next_group s.now) none_given now (sync_leads s.now) (each_synced s.now here)) in (inl last, λ _. last)

  pub run_has : (s u : State) (qs : List Request) (rs : List Reply) → Give qs rs → Has s.now → IsKnown s qs rs → IsRunWithin (λ x. Each x.now) s qs rs u
      → Has u.now × (Has s.last → Has u.last)
  run_has s u [] [] may now known run = (subst (λ (x : State). Has x.now) run.1 now, λ last. subst (λ (x : State). Has x.last) run.1 last)
  run_has s u [] (r ∷ rs) may now known run = absurd run
  run_has s u (q ∷ qs) [] may now known run = absurd run
  run_has s u (q ∷ qs) (r ∷ rs) may now known (here, (t, step, run)) =
      let k = step_has q r s t qs rs (may 0 q r refl refl) now known here (first_holds (λ x. Each x.now) t u qs rs run) step in
      let rest = run_has t u qs rs (λ i p x e f. may (suc i) p x e f) k.0 k.1.0 run in
      (rest.0, λ last. rest.1 (k.1.1 last))

-- each run is one within what always holds
pub run_within : (s u : State) (qs : List Request) (rs : List Reply) → Run s qs rs u → IsRunWithin (λ x. Unit {0}) s qs rs u
run_within s u [] [] e = (tt, e)
run_within s u [] (r ∷ rs) e = absurd e
run_within s u (q ∷ qs) [] e = absurd e
run_within s u (q ∷ qs) (r ∷ rs) (t, step, rest) = (tt, (t, step, run_within t u qs rs rest))

module _ (Has : World → Type 0) (goes_on : (gives : Name → Bool) (w new : World) → Has w → Leads gives w new → Has new) where
  both_last : (s u : State) (qs : List Request) (rs : List Reply) → InBoth Has s → Run s qs rs u → InBoth Has u
  both_last s u qs rs both run =
      let k = run_has Has (λ w. Unit {0}) (λ gives. Unit {0}) tt (λ gives w new _ h leads _. goes_on gives w new h leads) (λ w _. tt) s u qs rs (λ i q r e f. tt) both.0 (inl both.1) (run_within s u qs rs run) in
      (k.0, k.1 both.1)

  pub now_lasts : (s u : State) (qs : List Request) (rs : List Reply) → Has s.now → GoesBackWithin qs rs → Run s qs rs u → Has u.now
  now_lasts s u qs rs now within run =
      (run_has Has (λ w. Unit {0}) (λ gives. Unit {0}) tt (λ gives w new _ h leads _. goes_on gives w new h leads) (λ w _. tt) s u qs rs (λ i q r e f. tt) now (inr within) (run_within s u qs rs run)).0

-- where no step gives a file system this name
module _ (Has : World → Type 0) (name : Name) (goes_on : (gives : Name → Bool) (w new : World) → gives name ≡ false → Has w → Leads gives w new → Has new) where
  pub now_lasts_at : (s u : State) (qs : List Request) (rs : List Reply) → Has s.now → GoesBackWithin qs rs → IsNeverGiven name qs rs → Run s qs rs u → Has u.now
  now_lasts_at s u qs rs now within never run =
      (run_has Has (λ w. Unit {0}) (λ gives. gives name ≡ false) refl (λ gives w new may h leads _. goes_on gives w new may h leads) (λ w _. tt) s u qs rs never now (inr within) (run_within s u qs rs run)).0

-- ---- lineages, snapshots and births

pub lineages_last : LineagesLast
lineages_last = both_last HasLineages leads_lineages

pub snapshots_keep : SnapshotsKeep
snapshots_keep s u qs rs id lines within run there still =
    let held = map_of s.now (Snapped id) in
    (now_lasts (HasSnapMap id held) (leads_held id held) s u qs rs (record { lines = lines; closed = there_closed s.now lines.order id there; map = λ _. refl }) within run).map still

pub births_last : BirthsLast
births_last s u qs rs lines births run =
    let k = both_last (λ w. HasLineages w × HasBirths w) (λ gives w new h leads. (leads_lineages gives w new h.0 leads, leads_births gives w new h.0 h.1 leads)) s u qs rs
    ((lines.0, births.0), (lines.1, births.1)) run in
    (k.0.1, k.1.1)

-- ---- numbers

-- a step that is done says so of the numbers
step_numbered : (q : Request) (r : Reply) (s new : State) → IsNumbered s → Step s q r new → IsNumbered new
step_numbered q r s new numbers step = by_end step.follows
  where
    by_end : Follows s (rule_of q step.reading) r new → IsNumbered new
    by_end (done h) = h.numbered
    by_end (refused h) = subst IsNumbered (sym h.unchanged) numbers
    by_end (out_of_memory h) = subst IsNumbered (sym h.unchanged) numbers

pub numbers_last : NumbersLast
numbers_last s u [] [] numbers e = subst IsNumbered e numbers
numbers_last s u [] (r ∷ rs) numbers e = absurd e
numbers_last s u (q ∷ qs) [] numbers e = absurd e
numbers_last s u (q ∷ qs) (r ∷ rs) numbers (t, step, rest) = numbers_last t u qs rs (step_numbered q r s t numbers step) rest

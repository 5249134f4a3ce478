-- A request that was done by putting other datasets in place, or that was refused.
use Rattle.std.proofs.Common.{◌≡◌, ◌<◌, ◌^◌, ◌+◌, ◌≤◌, ℕ, List, Option, None, Result, Ok, Err, refl, sym, ap, subst, arith}
use Rattle.std.specs.Prelude.{OnErr}
use Rattle.std.specs.Result.{IsErrAnd}
use Rattle.std.specs.FinSet as set
use Rattle.base.specs.Map.{BlockSet}
use Rattle.base.specs.declared.refusal.Refusal.{Refusal}
use Rattle.zalloc.specs.declared.BlockState.{BlockState}
use Rattle.model.specs.Edits.{with_now}
use Rattle.model.specs.State.{State}
use Rattle.model.specs.Step.{Step}
use Rattle.model.specs.Targets.{guid_limit}
use Rattle.model.specs.World.{union_of}
use Rattle.model.specs.declared.request.Request.{Request}
use Rattle.model.specs.declared.reply.Reply.TheVariants.{Done, Refused}
use Rattle.world.specs.Sets.{Has, AreDisjoint}
use Rattle.world.specs.Tables.{Datasets, world_of}
use Rattle.world.proofs.changes.Kept.{union-fields}
use Rattle.limits.specs.Limits.{IsUnlimited}
use Rattle.removals.specs.Edits.{HasLost}
use Rattle.removals.specs.Requests.{IsSweptBy}
use Rattle.steps.specs.Edits.{datasets_of, with_datasets, put, lose, CanPut, CanLose, StaysUnlimited}
use Rattle.steps.specs.Handed.{IsAccounted, Line}
use Rattle.steps.proofs.asked.Asked.{nothing_kept}
use Rattle.steps.proofs.numbers.Freeing.{joined_losses}
use Rattle.steps.proofs.numbers.Putting.{put_none}
use Rattle.pool.specs.declared.effect.Effect.{Effect}
use Rattle.pool.specs.declared.effect.Effect.TheVariants.{Nothing, Guids}
use Rattle.pool.specs.declared.keep.Keep.{Keep}
use Rattle.pool.specs.declared.worlds.World.{World}
use Rattle.pool.specs.Effects.{IsPerformed}
use Rattle.pool.specs.Pools.{state_in, IsSound, IsHeld}
use Rattle.pool.proofs.Commits as commits

plus_none : (n : ℕ) → n + 0 ≡ n
plus_none n = omega arith

-- what a `?` returns of a refusal
pub exits : (s : State) (numbers : List BlockState) (w : World) (q : Request) (r : Result Effect Refusal) (why : Refusal) → IsErrAnd r (λ x. x ≡ why) → Step s q (Refused why) s → IsPerformed s numbers w q r
exits s numbers w q (Ok e) why is step = absurd is
exits s numbers w q (Err x) why is step = subst (λ y. Step s q (Refused y) s) (sym is) step

pub on_err : {A E : Type 0} (r : Result A E) (P : Type 0) → P → OnErr r P
on_err (Ok x) P p = tt
on_err (Err e) P p = p

module _ (w : World) where
  -- a world whose datasets are as they were
  pub same_table : (to : Datasets) → to ≡ w.table → record w { table = to } ≡ w
  same_table to same = ap (λ t. record w { table = t }) same

  -- and what is to be freed
  pub same_both : (to : Datasets) (freeing : BlockSet) → to ≡ w.table → freeing ≡ w.freeing → record w { table = to; freeing = freeing } ≡ w
  same_both to freeing same kept = λ i. record w { table = same i; freeing = kept i }

module _ (k : Keep) (w : World) (held : IsHeld k w) where
  abbrev s : State
  s = state_in k w

  -- no block of a dataset is to be freed
  pub apart : AreDisjoint (union_of (world_of w.table)) w.freeing
  apart b h l = held.sound.steady.good.now.freeing_apart b (subst (λ x. Has x b) (union-fields (world_of (datasets_of s)) s.now refl) h) l

  -- no deferred snapshot is there that nothing needs
  pub clean : IsSweptBy w.table k.views.opened
  clean = held.sound.steady.swept

  -- where no ledger is kept, no file system has a limit
  pub unlimited : w.ledger ≡ None → IsUnlimited w.table.file_systems
  unlimited none = nothing_kept w.table w.ledger held.now none

  -- ---- other datasets, which these are, with the same blocks to be freed

  module _ (x to : Datasets) (is : to ≡ x) where
    -- none has a limit where none had one
    pub bare : StaysUnlimited s x → w.ledger ≡ None → IsUnlimited to.file_systems
    bare stays none = subst (λ (t : Datasets). IsUnlimited t.file_systems) (sym is) (stays (unlimited none))

    module _ (guids : ℕ) (fits : s.next_guid + guids ≤ guid_limit + 1) (can : CanPut s x guids) where
      sound : IsSound (put s to guids) k.numbers.present
      sound = commits.sound_put s k.numbers.present held.sound to guids (subst (λ t. CanPut s t guids) (sym is) can) fits

      pub few_with : set.len (union_of (world_of to)) < 2 ^ 32
      few_with = commits.few (put s to guids) k.numbers.present sound

      pub placed_with : (ledger : Option (List Line)) → IsAccounted to ledger → (q : Request) → Step s q Done (put s x guids) → (next : ℕ) → next ≡ s.next_guid + guids
          → IsPerformed s k.numbers.present (record w { table = to; ledger = ledger }) q (Ok (Guids next))
      placed_with ledger kept q step next e = (
        record { sound = subst (λ n. IsSound (record (with_datasets s to) { next_guid = n }) k.numbers.present) (sym e) sound; kept = kept; may = tt; leads = tt },
        subst (λ n. Step s q Done (record (with_datasets s to) { next_guid = n })) (sym e) (subst (λ t. Step s q Done (put s t guids)) (sym is) step),
      )

    fits_none : s.next_guid + 0 ≤ guid_limit + 1
    fits_none = subst (λ n. n ≤ guid_limit + 1) (sym (plus_none s.next_guid)) held.sound.guids

    module _ (can : CanPut s x 0) where
      pub few : set.len (union_of (world_of to)) < 2 ^ 32
      few = few_with 0 fits_none can

      pub placed : (ledger : Option (List Line)) → IsAccounted to ledger → (q : Request) → Step s q Done (put s x 0)
          → IsPerformed s k.numbers.present (record w { table = to; ledger = ledger }) q (Ok Nothing)
      placed ledger kept q step = (
        record { sound = subst (λ y. IsSound y k.numbers.present) (put_none s to) (sound 0 fits_none can); kept = kept; may = tt; leads = tt },
        subst (Step s q Done) (put_none s to) (subst (λ t. Step s q Done (put s t 0)) (sym is) step),
      )

  -- ---- other datasets, which these are, and what they have lost is to be freed

  module _ (x to : Datasets) (is : to ≡ x) (freeing : BlockSet) (lost : HasLost w.table w.freeing to freeing) (can : CanLose s x) where
    freed : freeing ≡ (lose s to).now.freeing
    freed = joined_losses s to freeing lost.joined

    lost_sound : IsSound (lose s to) k.numbers.present
    lost_sound = commits.sound_lost s k.numbers.present held.sound to (subst (CanLose s) (sym is) can)

    pub lost_few : set.len (union_of (world_of to)) < 2 ^ 32
    lost_few = commits.few (lose s to) k.numbers.present lost_sound

    pub lost_placed : (ledger : Option (List Line)) → IsAccounted to ledger → (q : Request) → Step s q Done (lose s x)
        → IsPerformed s k.numbers.present (record w { table = to; freeing = freeing; ledger = ledger }) q (Ok Nothing)
    lost_placed ledger kept q step = (
      record {
        sound = subst (λ (y : BlockSet). IsSound (with_now s (record (world_of to) { freeing = y })) k.numbers.present) (sym freed) lost_sound;
        kept = kept;
        may = tt;
        leads = tt;
      },
      subst (λ (y : BlockSet). Step s q Done (with_now s (record (world_of to) { freeing = y }))) (sym freed) (subst (λ t. Step s q Done (lose s t)) (sym is) step),
    )

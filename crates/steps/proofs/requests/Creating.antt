-- A file system created.
use Rattle.std.proofs.Common.{◌≡◌, ℕ, ◌<◌, Bool, true, false, cond, not, List, Option, Some, None, refl, sym, ap, subst, ◌∙◌, ◌⊎◌, ⊎_elim, arith}
use Rattle.std.specs.Prelude.{IsTrue, nat_le}
use Rattle.std.specs.FinMap.{get, contains_key, len}
use Rattle.std.specs.FinSet.{union}
use Rattle.std.proofs.lemmas.Bool.Decides.{nat_tests}
use Rattle.base.specs.declared.refusal.Refusal.{Refusal}
use Rattle.base.specs.declared.refusal.Refusal.TheVariants.{NoMemory, Exists, NoParent, TooMany}
use Rattle.model.specs.declared.request.Request.TheVariants.{Create}
use Rattle.model.specs.declared.reply.Reply.TheVariants.{Done, Refused}
use Rattle.model.specs.World.{empty_file_system, reach_of}
use Rattle.model.specs.State.{State}
use Rattle.model.specs.Hierarchy.{FileSystems, has_parent, file_system_limit}
use Rattle.model.specs.requests.Create.{create_refusal, create_rule}
use Rattle.model.specs.Refusals.{refusal_of}
use Rattle.model.specs.Step.{Step}
use Rattle.world.specs.Tables.{Datasets, with_system}
use Rattle.world.proofs.changes.Creations.{create_union}
use Rattle.world.proofs.changes.Kept.{reach_is}
use Rattle.world.proofs.steps.StateSteps.{begun, create_before}
use Rattle.steps.specs.Steady.{IsSteady}
use Rattle.steps.specs.Edits.{datasets_of, with_datasets, put, StaysUnlimited, CanPut}
use Rattle.limits.proofs.Steps.{shrunk_created}
use Rattle.steps.proofs.quotas.Limits.{kept_limits}
use Rattle.steps.proofs.quotas.Unlimited.{unlimited_put, still_swept, same_known, put_known, new_origins}
use Rattle.steps.proofs.numbers.Putting.{put_none}
use Rattle.steps.proofs.numbers.Ruled.{no_choice, refused_by, no_memory_by, done_by}
use Rattle.datasets.proofs.Rows.{none_from}

-- where a file system of this name can be added
pub record CanAdd (m : FileSystems) (k : List ℕ) : Type 0 where
  pub absent : get m k ≡ None
  pub parent : IsTrue (has_parent m k)
  pub room : len m < file_system_limit

-- nothing refuses it exactly then
pub can_add : (m : FileSystems) (k : List ℕ) → create_refusal m k ≡ None → CanAdd m k
unfolding create_refusal
can_add m k e = from (contains_key m k) (has_parent m k) (nat_le file_system_limit (len m)) refl refl refl e
  where
    from : (a b c : Bool) → contains_key m k ≡ a → has_parent m k ≡ b → nat_le file_system_limit (len m) ≡ c
        → ◌≡◌ {A = Option Refusal} (cond a (Some Exists) (cond (not b) (Some NoParent) (cond c (Some TooMany) None))) None → CanAdd m k
    from true b c p q r is = absurd (cc)
    from false true true p q r is = absurd (cc)
    from false true false p q r is = record { absent = none_from _ p; parent = q; room = grind (arith, nat_tests) }
    from false false c p q r is = absurd (cc)

module _ (s : State) (steady : IsSteady s) (name : List ℕ) (may : create_refusal s.now.file_systems name ≡ None) where
  abbrev created : Datasets
  created = with_system (datasets_of s) name empty_file_system

  with_new_steady : IsSteady (with_datasets s (with_system (datasets_of s) name empty_file_system))
  with_new_steady =
      let can = can_add s.now.file_systems name may in
      record {
        good = create_before s steady.good name can.absent can.parent can.room;
        swept = still_swept s (with_datasets s created) steady refl (put_known s.now.file_systems s.now.file_systems (same_known s.now.file_systems) name empty_file_system (λ t i. absurd i))
            (new_origins s.now.file_systems name empty_file_system can.absent);
        limits = kept_limits s (with_datasets s created) steady (create_before s steady.good name can.absent can.parent can.room) refl (shrunk_created s.now name can.absent);
      }

  create_steady : IsSteady (put s (with_system (datasets_of s) name empty_file_system) 0)
  create_steady = subst IsSteady (sym (put_none s created)) with_new_steady

  create_reach : reach_of (put s (with_system (datasets_of s) name empty_file_system) 0).now ≡ reach_of s.now
  create_reach =
      let can = can_add s.now.file_systems name may in
      reach_is (put s created 0).now
      ∙ ap (λ u. union u s.now.freeing)
      (create_union s.size s.now steady.good.now name can.absent can.parent can.room (begun s.now.file_systems s.now.group steady.good.now.systems))
      ∙ sym (reach_is s.now)

  -- the datasets with the new one can be put in place
  pub create_can : CanPut s (with_system (datasets_of s) name empty_file_system) 0
  create_can = record {
    steady = create_steady;
    reach = create_reach;
  }

-- where there was no limit, there is none
pub create_unlimited : (s : State) (name : List ℕ) → StaysUnlimited s (with_system (datasets_of s) name empty_file_system)
create_unlimited s name none = unlimited_put s.now.file_systems none name empty_file_system refl

-- ---- steps

module _ (s : State) (name : List ℕ) where
  row_is : refusal_of s (create_rule name) ≡ create_refusal s.now.file_systems name
  unfolding refusal_of create_refusal
  row_is = refl

  -- a creation that the table refused, or that had no memory
  pub create_refused : (why : Refusal) → (create_refusal s.now.file_systems name ≡ Some why) ⊎ (why ≡ NoMemory) → Step s (Create name) (Refused why) s
  create_refused why which = ⊎_elim
      (λ e. refused_by (Create name) (create_rule name) (None, refl, refl) s why (row_is ∙ e))
      (λ e. subst (λ z. Step s (Create name) (Refused z) s) (sym e) (no_memory_by (Create name) (create_rule name) (None, refl, refl) s refl))
      which

  pub create_done : IsSteady s → create_refusal s.now.file_systems name ≡ None
      → Step s (Create name) Done (put s (with_system (datasets_of s) name empty_file_system) 0)
  create_done steady may = done_by (Create name) (create_rule name) (None, refl, refl) s no_choice (put s (with_system (datasets_of s) name empty_file_system) 0) Done
      refl refl (row_is ∙ may) refl (put_none s (with_system (datasets_of s) name empty_file_system)) (create_steady s steady name may)

-- The steps that change a live map: the refusals of a write, and of each request like it, and what one leads to.
use Rattle.std.proofs.Common.{◌≡◌, Bool, true, false, cond, not, Option, Some, None, refl, ap, ◌∙◌}
use Rattle.std.specs.FinMap.{get}
use Rattle.std.specs.FinSet as set
use Rattle.base.specs.declared.name.target.Target.{Target}
use Rattle.base.specs.declared.name.target.Target.TheVariants.{FileSystem as OfFileSystem}
use Rattle.base.specs.declared.refusal.Refusal.{Refusal}
use Rattle.base.specs.declared.refusal.Refusal.TheVariants.{NoDataset, ReadOnly, BadKey, NoMemory}
use Rattle.base.specs.Rewrite.{Changes}
use Rattle.model.specs.declared.request.Request.{Request}
use Rattle.model.specs.declared.reply.Reply.TheVariants.{Done, Refused}
use Rattle.model.specs.World.{FileSystem}
use Rattle.model.specs.State.{State}
use Rattle.model.specs.Targets.{has_dataset, is_snapshot_name}
use Rattle.model.specs.Rule.{Choice, Rule, first_of}
use Rattle.model.specs.requests.Change.{limit_row, state_after_change, change_rule}
use Rattle.model.specs.Refusals.{refusal_of, state_asked, fresh_number}
use Rattle.model.specs.Step.{Step}
use Rattle.world.specs.Shapes.{Name}
use Rattle.world.specs.Tables.{Datasets}
use Rattle.steps.specs.Ruled.{HasRule}
use Rattle.steps.specs.Steady.{IsSteady, HasNoDataset}
use Rattle.steps.specs.Asked.{asked_by_change}
use Rattle.steps.specs.Edits.{with_datasets}
use Rattle.steps.proofs.quotas.Unlimited.{has_file_system, no_dataset}
use Rattle.steps.proofs.numbers.Ruled.{refused_by, no_memory_by, done_by}

-- the first of a row, by what its conditions are
first-absent : (d : Bool) (rest : Option Refusal) → d ≡ false → cond {A = Option Refusal} (not d) (Some NoDataset) rest ≡ Some NoDataset
first-absent d rest a = rw a refl

first-read_only : (d r : Bool) (rest : Option Refusal) → d ≡ true → r ≡ true
    → cond {A = Option Refusal} (not d) (Some NoDataset) (cond r (Some ReadOnly) rest) ≡ Some ReadOnly
first-read_only d r rest a b = rw (a, b) refl

first-bad_key : (d r i : Bool) (rest : Option Refusal) → d ≡ true → r ≡ false → i ≡ false
    → cond {A = Option Refusal} (not d) (Some NoDataset) (cond r (Some ReadOnly) (cond (not i) (Some BadKey) rest)) ≡ Some BadKey
first-bad_key d r i rest a b e = rw (a, b, e) refl

first-limits : (d r i : Bool) (rest : Option Refusal) → d ≡ true → r ≡ false → i ≡ true
    → cond {A = Option Refusal} (not d) (Some NoDataset) (cond r (Some ReadOnly) (cond (not i) (Some BadKey) rest)) ≡ rest
first-limits d r i rest a b e = rw (a, b, e) refl

module _ (s : State) (steady : IsSteady s) (q : Request) (target : Target) (ch : Changes) (in_range : Bool) (is : HasRule q (change_rule target ch in_range)) where
  abbrev rule : Rule
  rule = change_rule target ch in_range

  pub change_no_memory : Step s q (Refused NoMemory) s
  change_no_memory = no_memory_by q rule is s refl

  pub change_no_dataset : HasNoDataset s.now.file_systems target → Step s q (Refused NoDataset) s
  unfolding refusal_of
  change_no_dataset absent = refused_by q rule is s NoDataset (first-absent _ _ (no_dataset s target absent))

  -- a snapshot that is there
  pub change_read_only : has_dataset s target ≡ true → is_snapshot_name target ≡ true → Step s q (Refused ReadOnly) s
  unfolding refusal_of
  change_read_only here snapshot = refused_by q rule is s ReadOnly (first-read_only _ _ _ here snapshot)

  -- it is done, and leads to these datasets
  pub change_leads : (c : Choice) (t : Datasets) → refusal_of s rule ≡ None → with_datasets s t ≡ rule.after s c → IsSteady (with_datasets s t)
      → Step s q Done (with_datasets s t)
  change_leads c t none after to = done_by q rule is s c (with_datasets s t) Done refl refl none refl after to

  module _ (name : Name) (f : FileSystem) (named : target ≡ OfFileSystem name) (was : get s.now.file_systems name ≡ Some f) where
    there : has_dataset s target ≡ true
    there = ap (has_dataset s) named ∙ has_file_system s name f was

    live_name : is_snapshot_name target ≡ false
    live_name = ap is_snapshot_name named

    pub change_bad_key : in_range ≡ false → Step s q (Refused BadKey) s
    unfolding refusal_of
    change_bad_key e = refused_by q rule is s BadKey (first-bad_key _ _ _ _ there live_name e)

    -- the state that its limits are asked of
    pub change_asked : state_asked s rule ≡ asked_by_change s name ch
    unfolding state_asked
    change_asked = ap (λ t. state_after_change s t ch (record { number = fresh_number s; taken = set.empty })) named

    -- what earlier rows don't refuse, the limits say
    pub change_asks : in_range ≡ true → refusal_of s rule ≡ first_of (limit_row (asked_by_change s name ch))
    unfolding refusal_of
    change_asks within = first-limits _ _ in_range _ there live_name within ∙ ap (λ x. first_of (limit_row x)) change_asked

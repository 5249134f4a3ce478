-- Datasets by their names: what is told of them is a step, where these are the datasets.
use Rattle.std.proofs.Common.{◌≡◌, ◌≤◌, ◌⊎◌, ◌↔◌, ℕ, List, Option, Result, Ok, Err, None, Some, sym, ap, subst, ◌∙◌}
use Rattle.std.specs.Prelude.{IfSome}
use Rattle.std.specs.List.{flat_map}
use Rattle.std.specs.FinMap.{get, entries}
use Rattle.base.specs.declared.name.target.Target.{Target}
use Rattle.base.specs.declared.refusal.Refusal.{Refusal}
use Rattle.base.specs.declared.refusal.Refusal.TheVariants.{NoDataset, BadKey, NoMemory}
use Rattle.base.specs.Key.{leaf_index}
use Rattle.base.specs.Map.{Map, contents}
use Rattle.model.specs.declared.request.Request.TheVariants.{Read, Holds, List as ListNames}
use Rattle.model.specs.declared.reply.Reply.TheVariants.{Refused, Data, Names as NamesAre}
use Rattle.model.specs.Targets.{is_block}
use Rattle.model.specs.State.{State}
use Rattle.model.specs.Step.{Step}
use Rattle.model.specs.requests.Rollback.{placed}
use Rattle.model.proofs.Blocks.{not_false, block_tells}
use Rattle.world.specs.Tables.{Datasets, world_of}
use Rattle.datasets.specs.Rows.{Entry}
use Rattle.marks.specs.Requests.{holds_refusal}
use Rattle.steps.specs.Edits.{datasets_of}
use Rattle.steps.specs.Listed.{own_names}
use Rattle.steps.specs.Steady.{IsSteady, IsNamed}
use Rattle.steps.proofs.questions.Questions as reads
use Rattle.steps.proofs.questions.Listing.{list_no_memory, list_done}
use Rattle.steps.proofs.questions.Tags as tags
use Rattle.lookups.specs.Named.{map_named}
use Rattle.steps.proofs.questions.Names.{found, absent}

-- a read that was refused
abbrev no_bytes : (B : Type 0) → Refusal → Result B Refusal
no_bytes B why = Err why

module _ (s : State) (steady : IsSteady s) (t : Datasets) (is : datasets_of s ≡ t) where
  here : (P : Datasets → Type 0) → P t → P (datasets_of s)
  here P h = subst P (sym is) h

  -- ---- reads

  module _ (target : Target) (ob bl : ℕ) where
    pub read_absent : None ≡ map_named t.file_systems target → Step s (Read target ob bl) (Refused NoDataset) s
    read_absent none = reads.read_no_dataset s steady target ob bl (absent s.now.file_systems target (here (λ d. None ≡ map_named d.file_systems target) none))

    module _ (m : Map) (there : Some m ≡ map_named t.file_systems target) where
      found_here : IsNamed s target m
      found_here = found s steady target m (here (λ d. Some m ≡ map_named d.file_systems target) there)

      pub read_refused : {B : Type 0} (why : Refusal) → why ≡ BadKey → (no_bytes B why ≡ no_bytes B BadKey) ↔ ((256 ≤ ob) ⊎ (4096 ≤ bl)) → Step s (Read target ob bl) (Refused why) s
      read_refused {B} why e tells = subst (λ r. Step s (Read target ob bl) (Refused r) s) (sym e)
          (reads.read_bad_key s steady target ob bl m found_here ((block_tells ob bl tells).0 (ap (no_bytes B) e)))

      pub read_done : {B : Type 0} (bytes_found : B) (bytes : Option (List ℕ)) → bytes ≡ get (contents m) (leaf_index ob bl) → (Ok bytes_found ≡ Err BadKey) ↔ ((256 ≤ ob) ⊎ (4096 ≤ bl))
          → Step s (Read target ob bl) (Data bytes) s
      read_done {B} bytes_found bytes e tells = reads.read_done s steady target ob bl m found_here (not_false (is_block ob bl) (λ f. no_refusal ((block_tells ob bl tells).1 f))) bytes e
        where
          no_refusal : Ok bytes_found ≡ Err BadKey → ⊥
          no_refusal h = cc

  -- ---- names

  pub names_listed : (names : List (List ℕ)) (rows : List Entry) → rows ≡ entries t.file_systems → names ≡ flat_map own_names rows → (told : List (List ℕ)) → told ≡ names
      → Step s ListNames (NamesAre told) s
  names_listed names rows all e told same = list_done s steady told (same ∙ e ∙ ap (flat_map own_names) (all ∙ ap (λ (d : Datasets). entries d.file_systems) (sym is)))

  pub names_refused : (why : Refusal) → why ≡ NoMemory → Step s ListNames (Refused why) s
  names_refused why e = subst (λ r. Step s ListNames (Refused r) s) (sym e) (list_no_memory s)

  -- ---- tags

  module _ (target : Target) where
    pub holds_refused : (why : Refusal) → (holds_refusal t target ≡ Some why) ⊎ (why ≡ NoMemory) → Step s (Holds target) (Refused why) s
    holds_refused why which = tags.holds_refused s target why (here (λ d. (holds_refusal d target ≡ Some why) ⊎ (why ≡ NoMemory)) which)

    pub holds_told : holds_refusal t target ≡ None → (names : List (List ℕ)) → IfSome (placed (world_of t) target) (λ p. names ≡ p.1.tags) → (told : List (List ℕ)) → told ≡ names
        → Step s (Holds target) (NamesAre told) s
    holds_told none names are told same = subst (λ ns. Step s (Holds target) (NamesAre ns) s) (sym same)
        (tags.holds_answered s target steady (here (λ d. holds_refusal d target ≡ None) none) names (here (λ d. IfSome (placed (world_of d) target) (λ p. names ≡ p.1.tags)) are))

-- A change of a live map, from the update that a request asks for to the step.
use Rattle.std.proofs.Common.{◌≡◌, ◌⊎◌, ◌↔◌, ℕ, true, false, List, Option, Result, Ok, Err, Some, None, refl, sym, ap, subst, ◌∙◌, [], ◌∷◌, map, ⊎_elim}
use Rattle.std.specs.Prelude.{IfErr, OnOk, is_some, IsSome}
use Rattle.std.specs.FinMap.{get}
use Rattle.base.specs.declared.name.target.Target.{Target}
use Rattle.base.specs.declared.name.target.Target.TheVariants.{FileSystem as OfFileSystem}
use Rattle.base.specs.Rewrite.{Changes}
use Rattle.base.specs.Surveys.{dead_block}
use Rattle.base.specs.declared.refusal.Refusal.{Refusal}
use Rattle.base.specs.declared.refusal.Refusal.TheVariants.{NoDataset, NoSpace, NoMemory, BadKey}
use Rattle.zalloc.specs.declared.BlockState.{BlockState}
use Rattle.batch.specs.declared.update.Update.{Update}
use Rattle.batch.specs.Updates.{IsBatch, first_of}
use Rattle.image.specs.PathWrites.{block_on}
use Rattle.tree.specs.declared.block.Root.{Root}
use Rattle.tree.specs.Updates.{changes_of}
use Rattle.tree.specs.Change.{HasRoom, LacksRoom}
use Rattle.batch.specs.declared.draft.Draft.{Draft}
use Rattle.model.specs.World.{FileSystem}
use Rattle.model.specs.declared.request.Request.{Request}
use Rattle.model.specs.declared.reply.Reply.TheVariants.{Done, Refused}
use Rattle.model.specs.Step.{Step}
use Rattle.model.specs.State.{State}
use Rattle.model.specs.requests.Change.{change_rule}
use Rattle.model.proofs.Blocks.{not_false}
use Rattle.world.specs.Tables.{Datasets}
use Rattle.datasets.specs.Rows.{live_of}
use Rattle.datasets.specs.Writes.{young_of, AllowsWrite, HasWritten}
use Rattle.steps.specs.Edits.{datasets_of, with_datasets, StaysUnlimited, CanChange}
use Rattle.steps.specs.Handed.{Outlook, Line, IsAccounted, IsNoLive}
use Rattle.steps.specs.Limiting.{IsNoChange, MayChange, Foretells, CanSettle}
use Rattle.steps.specs.Ruled.{HasRule}
use Rattle.steps.proofs.requests.Changing.{change_no_memory, change_no_dataset, change_read_only, change_bad_key}
use Rattle.steps.proofs.questions.Names.{found, absent, is_snapshot}
use Rattle.steps.proofs.numbers.Putting.{release_them, take_them}
use Rattle.steps.proofs.asked.Settled.{can_settle}
use Rattle.steps.proofs.requests.Writing.{IsThere, there_or, allows, written_can, written_can_within, written_unlimited, written_done, written_done_within, write_refused, write_refused_within, write_refused_by_limit}
use Rattle.pool.specs.Asked.{Asks}
use Rattle.pool.specs.Images.{LeadsTo}
use Rattle.image.specs.Writes.{IsPathOf, IsLeftBy, MayWrite}
use Rattle.pool.specs.Numbers.{synced_numbers}
use Rattle.pool.specs.Effects.{CanTurn}
use Rattle.pool.specs.Pools.{IsSound}
use Rattle.image.specs.declared.writes.Writes.{Writes}
use Rattle.pool.proofs.OneUpdate.{update_may, update_leads}

-- no update
abbrev update_error : Refusal → Result Update Refusal
update_error why = Err why

-- a change that the table refuses
abbrev table_error : Refusal → Result (Unit {0}) Refusal
table_error why = Err why

-- what the table answers to a change, between the datasets before and after
pub record IsApplied (old new : Datasets) (name : List ℕ) (us : List Update) (synced : ℕ) (numbers : List BlockState) (done : Draft) (r : Result (Unit {0}) Refusal) : Type 0 where
  pub ok : OnOk r (HasWritten old new name (changes_of us) synced numbers done)
  pub room : OnOk r (HasRoom (live_of old.file_systems name) (changes_of us) (young_of old name synced) numbers)
  pub no_dataset : (r ≡ table_error NoDataset) ↔ (get old.file_systems name ≡ None)
  pub no_space : r ≡ table_error NoSpace → LacksRoom (live_of old.file_systems name) (changes_of us) (young_of old name synced) numbers
  pub only : IfErr r (λ e. (e ≡ NoDataset) ⊎ ((e ≡ NoSpace) ⊎ (e ≡ NoMemory)))

-- the request asks for this update of the file system of this name
pub asks_here : (q : Request) (target : Target) (update : Result Update Refusal) (name : List ℕ) (r : Result Update Refusal) → target ≡ OfFileSystem name → update ≡ r
    → Asks q target update → Asks q (OfFileSystem name) r
asks_here q target update name r named is asks = subst (λ t. Asks q t r) named (subst (λ x. Asks q target x) is asks)

module _ (s : State) (numbers : List BlockState) (sound : IsSound s numbers) where
  -- the table may be asked for the change, where the last sync opened this group
  pub allowed : (synced : ℕ) → synced ≡ s.last.group → (us : List Update) → IsBatch us → AllowsWrite (datasets_of s) us synced numbers
  allowed synced since us batch = subst (λ g. AllowsWrite (datasets_of s) us g numbers) (sym since) (allows s sound.steady numbers sound.states us batch)

  module _ (q : Request) where
    -- where the name is no file system's
    pub no_live : (target : Target) (update : Result Update Refusal) → Asks q target update → (why : Refusal) → IsNoLive s.now.file_systems target why → Step s q (Refused why) s
    no_live target update asks why is = ⊎_elim
        (λ t. subst (λ x. Step s q (Refused x) s) (sym t.0)
        (change_read_only s sound.steady q target asks.changes asks.in_range asks.rule
        (found s sound.steady target t.1 t.2).there (is_snapshot s.now.file_systems target t.1 is.never t.2)))
        (λ t. subst (λ x. Step s q (Refused x) s) (sym t.0)
        (change_no_dataset s sound.steady q target asks.changes asks.in_range asks.rule (absent s.now.file_systems target t.1)))
        is.which

    module _ (name : List ℕ) where
      -- where its numbers are outside their limits
      module _ (why : Refusal) (asks : Asks q (OfFileSystem name) (Err why)) where
        outside : asks.in_range ≡ false
        outside = asks.bad_key.0 (ap Err asks.only)

        pub outside_absent : get s.now.file_systems name ≡ None → Step s q (Refused NoDataset) s
        outside_absent none = change_no_dataset s sound.steady q (OfFileSystem name) asks.changes asks.in_range asks.rule none

        pub outside_refused : (f : FileSystem) → get s.now.file_systems name ≡ Some f → Step s q (Refused why) s
        outside_refused f was = subst (λ x. Step s q (Refused x) s) (sym asks.only)
            (change_bad_key s sound.steady q (OfFileSystem name) asks.changes asks.in_range asks.rule name f refl was outside)

      -- where they are within them
      module _ (u : Update) (asks : Asks q (OfFileSystem name) (Ok u)) where
        abbrev ch : Changes
        ch = changes_of (u ∷ [])

        within : asks.in_range ≡ true
        within = not_false asks.in_range (λ e. no_error (asks.bad_key.1 e))
          where
            no_error : Ok u ≡ update_error BadKey → ⊥
            no_error e = cc

        rule : HasRule q (change_rule (OfFileSystem name) (changes_of (u ∷ [])) asks.in_range)
        rule = subst (λ x. HasRule q (change_rule (OfFileSystem name) x asks.in_range)) (sym asks.is) asks.rule

        -- a change that isn't asked of the table, since a limit would be broken, the file system isn't there, or there is no memory to ask
        pub not_asked : (why : Refusal) → IsNoChange s name ch why → Step s q (Refused why) s
        not_asked why is = ⊎_elim
            (λ e. subst (λ x. Step s q (Refused x) s) (sym e) (change_no_memory s sound.steady q (OfFileSystem name) ch asks.in_range rule))
            (⊎_elim
            (λ n. subst (λ x. Step s q (Refused x) s) (sym n.0) (change_no_dataset s sound.steady q (OfFileSystem name) ch asks.in_range rule n.1))
            (λ l. write_refused_by_limit s sound.steady name q (OfFileSystem name) refl ch asks.in_range rule within (there l.0) why l.1))
            is
          where
            there : IsSome (get s.now.file_systems name) → get s.now.file_systems name ≡ None → ⊥
            there some none = let e = sym some ∙ ap is_some none in cc

  -- ---- what the table answers

  module _ (synced : ℕ) (since : synced ≡ s.last.group) (name : List ℕ) (new : Datasets) (u : Update) (us : List Update) (one : us ≡ u ∷ []) (may : MayChange s name (changes_of (u ∷ []))) where
    here : (done : Draft) (r : Result (Unit {0}) Refusal) → IsApplied (datasets_of s) new name us synced numbers done r → IsApplied (datasets_of s) new name (u ∷ []) s.last.group numbers done r
    here done r applied = subst (λ g. IsApplied (datasets_of s) new name (u ∷ []) g numbers done r) since (subst (λ xs. IsApplied (datasets_of s) new name xs synced numbers done r) one applied)

    -- a change that the table has refused
    pub refused_now : (why : Refusal) (done : Draft) → IsApplied (datasets_of s) new name us synced numbers done (Err why) → (q : Request) → Asks q (OfFileSystem name) (Ok u) → Step s q (Refused why) s
    refused_now why done applied q asks =
        let refusal = here done (Err why) applied in
        let is = rule q name u asks in
        let in_range = within q name u asks in
        let tells : (why ≡ NoDataset) ↔ (get s.now.file_systems name ≡ None) = (λ e. refusal.no_dataset.0 (ap Err e), λ none. told (refusal.no_dataset.1 none)) in
        ⊎_elim
        (λ bare. write_refused s sound.steady bare numbers sound.states name q (OfFileSystem name) refl (changes_of (u ∷ [])) asks.in_range is in_range why tells
        (λ e. refusal.no_space (ap Err e)) refusal.only)
        (λ fits. write_refused_within s sound.steady numbers sound.states name q (OfFileSystem name) refl (changes_of (u ∷ [])) asks.in_range is in_range why tells
        (λ e. refusal.no_space (ap Err e)) refusal.only fits)
        may
      where
        told : table_error why ≡ table_error NoDataset → why ≡ NoDataset
        told e = cc

    -- a change that the table has put in force
    module _ (done : Draft) (applied : IsApplied (datasets_of s) new name us synced numbers done (Ok tt)) where
      there : get s.now.file_systems name ≡ None → ⊥
      there none = other ((here done (Ok tt) applied).no_dataset.1 none)
        where
          other : Ok tt ≡ table_error NoDataset → ⊥
          other e = cc

      -- the new datasets can be put in place
      pub can_now : CanChange s new (map dead_block done.released.items) (map (λ n. n.0) done.taken.items)
      can_now = ⊎_elim
          (λ bare. written_can s sound.steady bare numbers sound.states name new (changes_of (u ∷ [])) done (here done (Ok tt) applied).ok there)
          (λ fits. written_can_within s sound.steady numbers sound.states name new (changes_of (u ∷ [])) done (here done (Ok tt) applied).ok fits there)
          may

      pub stays_now : StaysUnlimited s new
      stays_now = written_unlimited s numbers name new (changes_of (u ∷ [])) done (here done (Ok tt) applied).ok

      -- the ledger that is kept can be settled
      pub settles_now : (lines : Option (List Line)) → IsAccounted (datasets_of s) lines → (outlook : Option Outlook)
          → Foretells s name (changes_of (u ∷ [])) outlook → CanSettle (datasets_of s) new name lines outlook
      settles_now = can_settle s sound.steady numbers sound.states name (changes_of (u ∷ [])) new done (here done (Ok tt) applied).ok can_now.steady there

      -- the file system that has changed
      system : IsThere s name
      system = ⊎_elim (λ here. here) (λ none. absurd (there none)) (there_or s name)

      -- what that leaves to be written
      module _ (batch : IsBatch (u ∷ [])) (path : List (Option Root)) (was : IsPathOf (live_of s.now.file_systems name) (first_of u) (block_on path)) (writes : Writes)
          (left : IsLeftBy u s.now.group done.made.items path writes) where
        pub may_settle : CanTurn s.last.group numbers done × MayWrite (synced_numbers s.size s.last) writes
        may_settle = (
          (release_them s sound.steady numbers sound.states new _ _ can_now, take_them s sound.steady numbers sound.states new _ _ can_now),
          update_may s numbers sound name system.system system.is u batch new done (here done (Ok tt) applied).ok can_now.steady path was writes left,
        )

        pub leads_now : LeadsTo s (with_datasets s new) writes
        leads_now = update_leads s numbers sound name system.system system.is u batch new done (here done (Ok tt) applied).ok can_now.steady path was writes left

      pub done_now : (q : Request) → Asks q (OfFileSystem name) (Ok u) → Step s q Done (with_datasets s new)
      done_now q asks =
          let is = rule q name u asks in
          let in_range = within q name u asks in
          let written = here done (Ok tt) applied in
          ⊎_elim
          (λ bare. written_done s sound.steady bare numbers sound.states name q (OfFileSystem name) refl (changes_of (u ∷ [])) asks.in_range is in_range new done written.ok written.room there)
          (λ fits. written_done_within s sound.steady numbers sound.states name q (OfFileSystem name) refl (changes_of (u ∷ [])) asks.in_range is in_range new done written.ok fits there)
          may

use Rattle.std.proofs.Common.{◌≡◌, ap, ℕ, List, [], ◌∷◌, Option, Result, Ok, Err, inl, refl, subst, ◌∙◌, rules}
use Rattle.std.specs.Prelude.{IfOk}
use Rattle.base.specs.declared.refusal.Refusal.{Refusal}
use Rattle.base.specs.declared.refusal.Refusal.TheVariants.{NoMemory}
use Rattle.batch.specs.Updates.{IsBatch}
use Rattle.batch.specs.declared.draft.Draft.{Draft}
use Rattle.batch.specs.declared.numbers.NewBlock.{NewBlock}
use Rattle.batch.specs.declared.update.Update.{Update}
use Rattle.tree.specs.declared.block.Root.{Root}
use Rattle.image.specs.Writes.{IsLeftBy}
use Rattle.image.specs.declared.writes.Writes.{Writes}
use Rattle.steps.specs.Edits.{datasets_of, with_datasets}
use Rattle.pool.specs.Pools.{state_in}
use Rattle.pool.proofs.Commits.{few, sound_changed}
use Rattle.pool.proofs.Limited.{state_with}
use Rattle.pool.proofs.Performed.{exits, unlimited}
use Rattle.pool.proofs.Changes.{asks_here, allowed, no_live, not_asked, refused_now, can_now, stays_now, settles_now, may_settle, leads_now, done_now}
use Rattle.pool.proofs.keep.Keep.change.Goals as goal

-- the update that is asked for is a batch
batch_of : (r : Result Update Refusal) (u : Update) → r ≡ Ok u → IfOk r (λ v. IsBatch (v ∷ [])) → IsBatch (u ∷ [])
batch_of r u is batch = subst (λ x. IfOk x (λ v. IsBatch (v ∷ []))) is batch

-- what is left to be written, by the new blocks that the change tells
left_by : (u : Update) (path : List (Option Root)) (writes : Writes) (g h : ℕ) → g ≡ h → (made done : List NewBlock) → made ≡ done → IsLeftBy u g made path writes → IsLeftBy u h done path writes
left_by u path writes g h group made done is left = subst (λ n. IsLeftBy u n done path writes) group (subst (λ bs. IsLeftBy u g bs path writes) is left)

pub begin-requires : goal.begin-requires
begin-requires c = (batch_of c.args.update c.in-Ok.update c.in-Ok.is c.requires.batch).1

pub returns-in_err-name-clause-performed : goal.returns-in_err-name-clause-performed
returns-in_err-name-clause-performed c q asks =
    exits (state_in c.args.self.now c.args.world.now) c.args.self.now.numbers.present _ q c.from_residual.result c.in_err-name.field-0.0 c.from_residual.ensures.1
    (no_live (state_in c.args.self.now c.args.world.now) c.args.self.now.numbers.present c.requires.held.sound q c.args.target.now c.args.update asks c.in_err-name.field-0.0 c.in_err-name.ensures.err)

pub returns-in-Err-clause-performed : goal.returns-in-Err-clause-performed
returns-in-Err-clause-performed c q asks =
    c.outside_the_limits.ensures q (asks_here q c.args.target.now c.args.update c.in_ok-name.name.now (Err c.in-Err.refusal) c.in_ok-name.ensures.ok c.in-Err.is asks)

pub ask_change-requires-clause-state : goal.ask_change-requires-clause-state
ask_change-requires-clause-state c = ((state_in c.args.self.now c.args.world.now), (state_with (state_in c.args.self.now c.args.world.now) c.args.self.now.numbers.present c.requires.held.sound c.space.result c.space.ensures.size (c.space.ensures.freeing ∙ c.len.ensures) c.space.ensures.waiting), c.group-synced.ensures)

pub returns-in_err-outlook-clause-performed : goal.returns-in_err-outlook-clause-performed
returns-in_err-outlook-clause-performed c q asks =
    exits (state_in c.args.self.now c.args.world.now) c.args.self.now.numbers.present _ q c.from_residual-in_err-outlook.result c.in_err-outlook.field-0.0 c.from_residual-in_err-outlook.ensures.1
    (not_asked (state_in c.args.self.now c.args.world.now) c.args.self.now.numbers.present c.requires.held.sound q c.in_ok-name.name.now c.in-Ok.update (asks_here q c.args.target.now c.args.update c.in_ok-name.name.now (Ok c.in-Ok.update) c.in_ok-name.ensures.ok c.in-Ok.is asks) c.in_err-outlook.field-0.0
    (c.in_err-outlook.ensures.err (state_in c.args.self.now c.args.world.now) (state_with (state_in c.args.self.now c.args.world.now) c.args.self.now.numbers.present c.requires.held.sound c.space.result c.space.ensures.size (c.space.ensures.freeing ∙ c.len.ensures) c.space.ensures.waiting) c.group-synced.ensures))

pub returns-in_err-path-clause-performed : goal.returns-in_err-path-clause-performed
returns-in_err-path-clause-performed c q asks =
    exits (state_in c.args.self.now c.args.world.now) c.args.self.now.numbers.present _ q c.from_residual-in_err-path.result NoMemory (search rules)
    (not_asked (state_in c.args.self.now c.args.world.now) c.args.self.now.numbers.present c.requires.held.sound q c.in_ok-name.name.now c.in-Ok.update (asks_here q c.args.target.now c.args.update c.in_ok-name.name.now (Ok c.in-Ok.update) c.in_ok-name.ensures.ok c.in-Ok.is asks) NoMemory (inl refl))

pub returns-in_err-draft-clause-performed : goal.returns-in_err-draft-clause-performed
returns-in_err-draft-clause-performed c q asks =
    exits (state_in c.args.self.now c.args.world.now) c.args.self.now.numbers.present _ q c.from_residual-in_err-draft.result NoMemory (search rules)
    (not_asked (state_in c.args.self.now c.args.world.now) c.args.self.now.numbers.present c.requires.held.sound q c.in_ok-name.name.now c.in-Ok.update (asks_here q c.args.target.now c.args.update c.in_ok-name.name.now (Ok c.in-Ok.update) c.in_ok-name.ensures.ok c.in-Ok.is asks) NoMemory (inl refl))

pub apply_live-requires : goal.apply_live-requires
apply_live-requires c = rw c.present.ensures (allowed (state_in c.args.self.now c.args.world.now) c.args.self.now.numbers.present c.requires.held.sound c.group-synced.result.0 c.group-synced.ensures c.from_ref.result.now (search rules))

pub returns-in_err-apply_live-clause-performed : goal.returns-in_err-apply_live-clause-performed
returns-in_err-apply_live-clause-performed c q asks =
    let e = rw c.present.ensures at c.in_err-apply_live.ensures in
    exits (state_in c.args.self.now c.args.world.now) c.args.self.now.numbers.present _ q c.from_residual-in_err-apply_live.result c.in_err-apply_live.field-0.0 c.from_residual-in_err-apply_live.ensures.1
    (refused_now (state_in c.args.self.now c.args.world.now) c.args.self.now.numbers.present c.requires.held.sound c.group-synced.result.0 c.group-synced.ensures c.in_ok-name.name.now c.apply_live.new.self c.in-Ok.update c.from_ref.result.now c.from_ref.ensures.value (c.in_ok-outlook.ensures.ok (state_in c.args.self.now c.args.world.now) (state_with (state_in c.args.self.now c.args.world.now) c.args.self.now.numbers.present c.requires.held.sound c.space.result c.space.ensures.size (c.space.ensures.freeing ∙ c.len.ensures) c.space.ensures.waiting) c.group-synced.ensures) c.in_err-apply_live.field-0.0 c.apply_live.new.draft
    (record { ok = e.ok; room = e.room; no_dataset = e.no_dataset; no_space = e.no_space; only = e.only }) q (asks_here q c.args.target.now c.args.update c.in_ok-name.name.now (Ok c.in-Ok.update) c.in_ok-name.ensures.ok c.in-Ok.is asks))

pub settle-requires-clause-before : goal.settle-requires-clause-before
settle-requires-clause-before c =
    let e = rw c.present.ensures at c.in_ok-apply_live.ensures in
    (datasets_of (state_in c.args.self.now c.args.world.now), settles_now (state_in c.args.self.now c.args.world.now) c.args.self.now.numbers.present c.requires.held.sound c.group-synced.result.0 c.group-synced.ensures c.in_ok-name.name.now c.apply_live.new.self c.in-Ok.update c.from_ref.result.now c.from_ref.ensures.value (c.in_ok-outlook.ensures.ok (state_in c.args.self.now c.args.world.now) (state_with (state_in c.args.self.now c.args.world.now) c.args.self.now.numbers.present c.requires.held.sound c.space.result c.space.ensures.size (c.space.ensures.freeing ∙ c.len.ensures) c.space.ensures.waiting) c.group-synced.ensures) c.apply_live.new.draft (record { ok = e.ok; room = e.room; no_dataset = e.no_dataset; no_space = e.no_space; only = e.only }) c.args.world.now.ledger c.requires.held.now c.in_ok-outlook.outlook (c.in_ok-outlook.ensures.foretold (state_in c.args.self.now c.args.world.now) (state_with (state_in c.args.self.now c.args.world.now) c.args.self.now.numbers.present c.requires.held.sound c.space.result c.space.ensures.size (c.space.ensures.freeing ∙ c.len.ensures) c.space.ensures.waiting) c.group-synced.ensures))

pub settle-requires-clause-unlimited : goal.settle-requires-clause-unlimited
settle-requires-clause-unlimited c none =
    let e = rw c.present.ensures at c.in_ok-apply_live.ensures in
    stays_now (state_in c.args.self.now c.args.world.now) c.args.self.now.numbers.present c.requires.held.sound c.group-synced.result.0 c.group-synced.ensures c.in_ok-name.name.now c.apply_live.new.self c.in-Ok.update c.from_ref.result.now c.from_ref.ensures.value (c.in_ok-outlook.ensures.ok (state_in c.args.self.now c.args.world.now) (state_with (state_in c.args.self.now c.args.world.now) c.args.self.now.numbers.present c.requires.held.sound c.space.result c.space.ensures.size (c.space.ensures.freeing ∙ c.len.ensures) c.space.ensures.waiting) c.group-synced.ensures) c.apply_live.new.draft (record { ok = e.ok; room = e.room; no_dataset = e.no_dataset; no_space = e.no_space; only = e.only }) (unlimited c.args.self.now c.args.world.now c.requires.held none)

pub settle-requires-clause-few : goal.settle-requires-clause-few
settle-requires-clause-few c =
    let e = rw c.present.ensures at c.in_ok-apply_live.ensures in
    few (with_datasets (state_in c.args.self.now c.args.world.now) c.apply_live.new.self) _ (sound_changed (state_in c.args.self.now c.args.world.now) c.args.self.now.numbers.present c.requires.held.sound c.apply_live.new.self _ _ (can_now (state_in c.args.self.now c.args.world.now) c.args.self.now.numbers.present c.requires.held.sound c.group-synced.result.0 c.group-synced.ensures c.in_ok-name.name.now c.apply_live.new.self c.in-Ok.update c.from_ref.result.now c.from_ref.ensures.value (c.in_ok-outlook.ensures.ok (state_in c.args.self.now c.args.world.now) (state_with (state_in c.args.self.now c.args.world.now) c.args.self.now.numbers.present c.requires.held.sound c.space.result c.space.ensures.size (c.space.ensures.freeing ∙ c.len.ensures) c.space.ensures.waiting) c.group-synced.ensures) c.apply_live.new.draft (record { ok = e.ok; room = e.room; no_dataset = e.no_dataset; no_space = e.no_space; only = e.only })))

pub returns-clause-performed : goal.returns-clause-performed
returns-clause-performed c q asks =
    let e = rw c.present.ensures at c.in_ok-apply_live.ensures in (
      record {
        sound = sound_changed (state_in c.args.self.now c.args.world.now) c.args.self.now.numbers.present c.requires.held.sound c.apply_live.new.self _ _ (can_now (state_in c.args.self.now c.args.world.now) c.args.self.now.numbers.present c.requires.held.sound c.group-synced.result.0 c.group-synced.ensures c.in_ok-name.name.now c.apply_live.new.self c.in-Ok.update c.from_ref.result.now c.from_ref.ensures.value (c.in_ok-outlook.ensures.ok (state_in c.args.self.now c.args.world.now) (state_with (state_in c.args.self.now c.args.world.now) c.args.self.now.numbers.present c.requires.held.sound c.space.result c.space.ensures.size (c.space.ensures.freeing ∙ c.len.ensures) c.space.ensures.waiting) c.group-synced.ensures) c.apply_live.new.draft (record { ok = e.ok; room = e.room; no_dataset = e.no_dataset; no_space = e.no_space; only = e.only }));
        kept = c.settle.ensures;
        may = may_settle (state_in c.args.self.now c.args.world.now) c.args.self.now.numbers.present c.requires.held.sound c.group-synced.result.0 c.group-synced.ensures c.in_ok-name.name.now c.apply_live.new.self c.in-Ok.update c.from_ref.result.now c.from_ref.ensures.value (c.in_ok-outlook.ensures.ok (state_in c.args.self.now c.args.world.now) (state_with (state_in c.args.self.now c.args.world.now) c.args.self.now.numbers.present c.requires.held.sound c.space.result c.space.ensures.size (c.space.ensures.freeing ∙ c.len.ensures) c.space.ensures.waiting) c.group-synced.ensures) c.apply_live.new.draft (record { ok = e.ok; room = e.room; no_dataset = e.no_dataset; no_space = e.no_space; only = e.only })
            (batch_of c.args.update c.in-Ok.update c.in-Ok.is c.requires.batch) c.begin.new.self.before c.begin.ensures.path c.writes_after-writes.result (left_by c.in-Ok.update c.begin.new.self.before c.writes_after-writes.result c.group-group.result.0 c.args.world.now.table.group c.group-group.ensures c.as_slice.result.now c.apply_live.new.draft.made.items (c.as_slice.ensures ∙ ap (λ (d : Draft). d.made.items) c.deref.ensures) c.writes_after-writes.ensures);
        leads = leads_now (state_in c.args.self.now c.args.world.now) c.args.self.now.numbers.present c.requires.held.sound c.group-synced.result.0 c.group-synced.ensures c.in_ok-name.name.now c.apply_live.new.self c.in-Ok.update c.from_ref.result.now c.from_ref.ensures.value (c.in_ok-outlook.ensures.ok (state_in c.args.self.now c.args.world.now) (state_with (state_in c.args.self.now c.args.world.now) c.args.self.now.numbers.present c.requires.held.sound c.space.result c.space.ensures.size (c.space.ensures.freeing ∙ c.len.ensures) c.space.ensures.waiting) c.group-synced.ensures) c.apply_live.new.draft (record { ok = e.ok; room = e.room; no_dataset = e.no_dataset; no_space = e.no_space; only = e.only })
            (batch_of c.args.update c.in-Ok.update c.in-Ok.is c.requires.batch) c.begin.new.self.before c.begin.ensures.path c.writes_after-writes.result (left_by c.in-Ok.update c.begin.new.self.before c.writes_after-writes.result c.group-group.result.0 c.args.world.now.table.group c.group-group.ensures c.as_slice.result.now c.apply_live.new.draft.made.items (c.as_slice.ensures ∙ ap (λ (d : Draft). d.made.items) c.deref.ensures) c.writes_after-writes.ensures);
      },
      done_now (state_in c.args.self.now c.args.world.now) c.args.self.now.numbers.present c.requires.held.sound c.group-synced.result.0 c.group-synced.ensures c.in_ok-name.name.now c.apply_live.new.self c.in-Ok.update c.from_ref.result.now c.from_ref.ensures.value (c.in_ok-outlook.ensures.ok (state_in c.args.self.now c.args.world.now) (state_with (state_in c.args.self.now c.args.world.now) c.args.self.now.numbers.present c.requires.held.sound c.space.result c.space.ensures.size (c.space.ensures.freeing ∙ c.len.ensures) c.space.ensures.waiting) c.group-synced.ensures) c.apply_live.new.draft (record { ok = e.ok; room = e.room; no_dataset = e.no_dataset; no_space = e.no_space; only = e.only }) q (asks_here q c.args.target.now c.args.update c.in_ok-name.name.now (Ok c.in-Ok.update) c.in_ok-name.ensures.ok c.in-Ok.is asks),
    )

pub writes_after-writes-requires-clause-of_tree : goal.writes_after-writes-requires-clause-of_tree
writes_after-writes-requires-clause-of_tree c = (batch_of c.args.update c.in-Ok.update c.in-Ok.is c.requires.batch).1

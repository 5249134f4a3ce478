use Rattle.std.proofs.Common.{◌≡◌, ◌<◌, ◌^◌, inl, inr, ⊎_elim, sym, subst, arith}
use Rattle.pool.specs.Kinds.{kind_of}
use Rattle.pool.specs.Pools.{state_in, shown_in, IsHeld}
use Rattle.pool.specs.declared.kind.Kind.TheVariants.{Change}
use Rattle.pool.proofs.Done.{no_view, done_of, blocks_of, held_done, writes_done, keeps_done}
use Rattle.pool.proofs.Imaged.{unwritten}
use Rattle.pool.proofs.Questions.{no_question}
use Rattle.pool.proofs.Metered.{changed}
use Rattle.pool.proofs.pool.in_place.Goals as goal

pub returns-in-Ok-clause-metered : goal.returns-in-Ok-clause-metered
returns-in-Ok-clause-metered c =
    changed (shown_in c.args.keep.now c.args.world.now c.args.meters.now) c.args.request.now _ _ (no_question (kind_of c.args.request.now) c.requires.kind) c.perform.ensures.nodes c.perform.ensures.segments c.perform.ensures.never_lower c.perform.ensures.segments_never_lower

pub returns-in-Err-clause-metered : goal.returns-in-Err-clause-metered
returns-in-Err-clause-metered c =
    changed (shown_in c.args.keep.now c.args.world.now c.args.meters.now) c.args.request.now _ _ (no_question (kind_of c.args.request.now) c.requires.kind) c.perform.ensures.nodes c.perform.ensures.segments c.perform.ensures.never_lower c.perform.ensures.segments_never_lower

pub returns-in-Ok-clause-held : goal.returns-in-Ok-clause-held
returns-in-Ok-clause-held c =
    held_done c.args.keep.now c.settle.new.self c.args.world.now c.perform.new.world c.requires.held c.args.request.now c.in-Ok.effect
    (done_of (state_in c.args.keep.now c.args.world.now) c.args.keep.now.numbers.present c.perform.new.world c.args.request.now c.perform.result c.in-Ok.effect c.in-Ok.is c.perform.ensures.performed)
    (λ changes. blocks_of c.args.request.now c.perform.result c.in-Ok.effect c.in-Ok.is (c.perform.ensures.blocks changes))
    c.settle.ensures.state c.settle.ensures.numbers c.settle.ensures.image c.settle.ensures.synced c.settle.ensures.kept c.settle.ensures.swept c.settle.ensures.below

pub returns-in-Ok-clause-writes : goal.returns-in-Ok-clause-writes
returns-in-Ok-clause-writes c =
    writes_done c.args.keep.now c.settle.new.self c.args.world.now c.perform.new.world c.requires.held c.args.request.now c.in-Ok.effect
    (done_of (state_in c.args.keep.now c.args.world.now) c.args.keep.now.numbers.present c.perform.new.world c.args.request.now c.perform.result c.in-Ok.effect c.in-Ok.is c.perform.ensures.performed)
    (λ changes. blocks_of c.args.request.now c.perform.result c.in-Ok.effect c.in-Ok.is (c.perform.ensures.blocks changes))
    c.settle.ensures.state c.settle.ensures.numbers c.settle.ensures.image c.settle.ensures.synced c.settle.ensures.kept c.settle.ensures.swept c.settle.ensures.below
    (subst (λ n. n < 2 ^ 64) c.group-group.ensures (omega arith)) (no_question (kind_of c.args.request.now) c.requires.kind) c.tell.new.reply c.tell.ensures

pub returns-in-Ok-clause-keeps : goal.returns-in-Ok-clause-keeps
returns-in-Ok-clause-keeps c =
    keeps_done c.args.keep.now c.settle.new.self c.args.world.now c.perform.new.world c.requires.held c.args.request.now c.in-Ok.effect
    (done_of (state_in c.args.keep.now c.args.world.now) c.args.keep.now.numbers.present c.perform.new.world c.args.request.now c.perform.result c.in-Ok.effect c.in-Ok.is c.perform.ensures.performed)
    (λ changes. blocks_of c.args.request.now c.perform.result c.in-Ok.effect c.in-Ok.is (c.perform.ensures.blocks changes))
    c.settle.ensures.state c.settle.ensures.numbers c.settle.ensures.image c.settle.ensures.synced c.settle.ensures.kept c.settle.ensures.swept c.settle.ensures.below
    (no_question (kind_of c.args.request.now) c.requires.kind) (no_view (kind_of c.args.request.now) c.requires.kind) c.tell.new.reply c.tell.ensures

pub returns-in-Err-clause-writes : goal.returns-in-Err-clause-writes
returns-in-Err-clause-writes c =
    unwritten (state_in c.args.keep.now c.args.world.now) c.args.keep.now.numbers.present c.requires.held.sound (subst (λ n. n < 2 ^ 64) c.group-group.ensures (omega arith))
    c.args.keep.now.image c.requires.held.image _ _ _

-- what is refused leaves the world as it was
pub returns-in-Err-clause-held : goal.returns-in-Err-clause-held
returns-in-Err-clause-held c =
    let same = c.in-Err.ensures.unchanged (⊎_elim (λ (k : kind_of c.args.request.now ≡ Change). inl k) (λ k. inr k.1) c.requires.kind) in
    subst (IsHeld c.args.keep.now) (sym same) c.requires.held

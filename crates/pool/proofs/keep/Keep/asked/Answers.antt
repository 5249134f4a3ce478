use Rattle.std.proofs.Common.{ap, ◌∙◌}
use Rattle.std.specs.Prelude.{count_by}
use Rattle.zalloc.specs.States.{is_free, is_allocated, is_waiting}
use Rattle.pool.specs.Pools.{state_in}
use Rattle.pool.proofs.Commits.{few}
use Rattle.pool.proofs.Limited.{state_with, count_with}
use Rattle.pool.proofs.Questions.{only_reads}
use Rattle.pool.proofs.keep.Keep.asked.Goals as goal

pub answer-requires-clause-reads : goal.answer-requires-clause-reads
answer-requires-clause-reads c = (only_reads c.args.request.now c.requires.question).0

pub returns-clause-metered : goal.returns-clause-metered
returns-clause-metered c = record {
  never_lower = c.answer.ensures.never_lower;
  segments_never_lower = c.answer.ensures.segments_never_lower;
  nodes = λ none. c.answer.ensures.nodes none.0;
  segments = λ none. (only_reads c.args.request.now c.requires.question).1 none c.args.world.now.table c.answer.new.reply c.args.meters.now.segments c.answer.new.segments c.answer.ensures.segments;
  read = λ is. c.answer.ensures.segments;
}

pub answer-requires-clause-few : goal.answer-requires-clause-few
answer-requires-clause-few c = few (state_in c.args.self.now c.args.world.now) c.args.self.now.numbers.present c.requires.held.sound

pub returns-clause-step : goal.returns-clause-step
returns-clause-step c =
    let s = state_in c.args.self.now c.args.world.now in
    c.answer.ensures.step s
    (state_with s c.args.self.now.numbers.present c.requires.held.sound c.space-space.result c.space-space.ensures.size (c.space-space.ensures.freeing ∙ c.len.ensures) c.space-space.ensures.waiting)
    (count_with s c.args.self.now.numbers.present c.requires.held.sound c.counts.result (c.counts.ensures.allocated ∙ ap (count_by is_allocated) c.present.ensures) (c.counts.ensures.free ∙ ap (count_by is_free) c.present.ensures)
    (c.counts.ensures.waiting ∙ ap (count_by is_waiting) c.present.ensures))

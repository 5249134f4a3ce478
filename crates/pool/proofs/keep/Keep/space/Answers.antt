use Rattle.std.proofs.Common.{ap, ◌∙◌}
use Rattle.std.specs.Prelude.{count_by}
use Rattle.zalloc.specs.States.{is_waiting}
use Rattle.pool.proofs.keep.Keep.space.Goals as goal

pub returns-clause-waiting : goal.returns-clause-waiting
returns-clause-waiting c = c.from.ensures ∙ c.counts-waiting.ensures.waiting ∙ ap (count_by is_waiting) c.present.ensures

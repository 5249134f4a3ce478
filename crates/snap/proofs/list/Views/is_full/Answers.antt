use Rattle.std.proofs.Common.{ap, ◌∙◌}
use Rattle.std.specs.Prelude.{nat_lt}
use Rattle.model.specs.Targets.{number_limit}
use Rattle.snap.specs.Viewing.{Viewing}
use Rattle.snap.proofs.Kept.{full_by_count, full_by_number}
use Rattle.snap.proofs.list.Views.is_full.Goals as goal

pub returns-then-len-ge-VIEW_LIMIT : goal.returns-then-len-ge-VIEW_LIMIT
returns-then-len-ge-VIEW_LIMIT c = full_by_count c.args.self.now c.len.result c.len.ensures.len c.if-len-ge-VIEW_LIMIT.true

pub returns-else-len-ge-VIEW_LIMIT : goal.returns-else-len-ge-VIEW_LIMIT
returns-else-len-ge-VIEW_LIMIT c =
    ap (λ (v : Viewing). nat_lt number_limit v.next) c.self.view_is ∙ full_by_number c.args.self.now c.len.result c.len.ensures.len c.if-len-ge-VIEW_LIMIT.false

use Rattle.std.proofs.lemmas.Bool.{ltb-true, ltb-false}
use Rattle.lookups.proofs.SentPlaces.{born_late, born_early}
use Rattle.lookups.proofs.walk.is_young.Goals as goal

pub returns-clause-young : goal.returns-clause-young
returns-clause-young c = λ e. born_late c.args.since.0 c.args.top.now c.block.result c.block.ensures.block (ltb-true _ _ e) c.block.ensures.keys

pub returns-clause-old : goal.returns-clause-old
returns-clause-old c = λ e. born_early c.args.since.0 c.args.top.now c.block.result (ltb-false _ _ e) c.block.ensures.youngest

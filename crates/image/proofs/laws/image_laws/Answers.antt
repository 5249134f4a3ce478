use Rattle.std.proofs.Common.{arith}
use Rattle.image.proofs.PathOpen.{path_open}
use Rattle.image.proofs.PathsApart.{paths_apart}
use Rattle.image.proofs.Made.{made_writes}
use Rattle.image.proofs.Moments.{walked_at_moment}
use Rattle.image.proofs.AfterRewrite.{holds_rewritten}
use Rattle.image.proofs.PathHeld.{path_held, path_leaves}
use Rattle.image.proofs.ReadBack.{reads_back}
use Rattle.image.proofs.Walked.{walked}
use Rattle.image.proofs.laws.image_laws.Goals as goal

pub returns-clause-contents : goal.returns-clause-contents
returns-clause-contents c = walked

pub returns-clause-moments : goal.returns-clause-moments
returns-clause-moments c = walked_at_moment

pub returns-clause-rewrite : goal.returns-clause-rewrite
returns-clause-rewrite c = holds_rewritten

pub returns-clause-writes : goal.returns-clause-writes
returns-clause-writes c = made_writes

pub returns-clause-path : goal.returns-clause-path
returns-clause-path c = λ n image old new leaf before after bytes old_tree new_tree unique change holds. (
  path_held n image old new leaf before after bytes old_tree new_tree unique change holds,
  path_leaves n image old new leaf before after bytes old_tree new_tree unique change holds,
)

pub returns-clause-path_open : goal.returns-clause-path_open
returns-clause-path_open c = λ image bytes kept leaf before after size long is. path_open image bytes kept leaf before after size long is 6 (omega arith)

pub returns-clause-sources : goal.returns-clause-sources
returns-clause-sources c = λ m c g young states v leaf before after is unique allocated. paths_apart m c g young states v is unique allocated leaf before after

pub returns-clause-read_back : goal.returns-clause-read_back
returns-clause-read_back c = reads_back

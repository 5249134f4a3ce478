use Rattle.tree.proofs.Branches.{few_put}
use Rattle.tree.proofs.subtree.Subtree.peel.Goals as goal

pub returns-clause-few : goal.returns-clause-few
returns-clause-few c = few_put c.args.self c.push_below.new.tops.items c.args.tops.now.items c.in_ok-push_below.ensures

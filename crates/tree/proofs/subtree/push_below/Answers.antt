use Rattle.std.proofs.Common.{ap, sym, ◌++◌, reverse, arith}
use Rattle.tree.specs.BranchParts.{branch_at}
use Rattle.node.specs.Node.{inner_part}
use Rattle.tree.proofs.Branches.{from_last, one_put, all_put}
use Rattle.tree.proofs.subtree.push_below.Goals as goal

pub loop-place-init : goal.loop-place-init
loop-place-init g c = (omega arith, sym (ap (λ xs. xs ++ reverse c.args.tops.now.items) (from_last (branch_at c.args.key (inner_part g.C.Level.part c.args.node.now)))))

pub child_at-requires : goal.child_at-requires
child_at-requires g c = (omega arith, (c.requires.key, (c.requires.level, (omega arith, c.requires.sound))))

pub loop-place-preserved : goal.loop-place-preserved
loop-place-preserved g c = (
  omega arith,
  one_put (branch_at c.args.key (inner_part g.C.Level.part c.args.node.now)) c.loop-place.place _ _ _ _ c.loop-place-test.true c.loop-place.invariant.0 c.in_ok-child_at.ensures c.in_ok-push_top.ensures c.loop-place.invariant.1,
)

pub returns : goal.returns
returns g c = all_put (branch_at c.args.key (inner_part g.C.Level.part c.args.node.now)) c.loop-place.place _ _ (omega arith) c.loop-place.invariant.1

use Rattle.std.proofs.Common.{◌≡◌, length, map, ap, ◌∙◌, arith}
use Rattle.std.specs.FinMap.{len}
use Rattle.base.specs.Surveys.{dead_block}
use Rattle.tree.specs.Walk.{blocks_of, born_after}
use Rattle.tree.proofs.Options.{for_some}
use Rattle.tree.proofs.Lists.{one_more}
use Rattle.tree_tests.proofs.Standing.{IsStanding, standing}
use Rattle.tree_tests.proofs.ready.is_ready.Goals as goal

pub loop-block-preserved : goal.loop-block-preserved
loop-block-preserved c =
    one_more (IsStanding c.args.group.0 c.args.allocator.now) c.deref-block-items.result.now c.loop-block.block-index _ c.loop-block.invariant (record { born = c.is_standing.ensures.born c.if-not-is_standing.false; allocated = c.is_standing.ensures.allocated c.if-not-is_standing.false })

pub returns-clause-born : goal.returns-clause-born
returns-clause-born c =
    let items = c.deref-block-items.result.now in
    let all : length items ≡ len c.args.tree.now = omega (arith, c.deref-block-items.ensures.len, c.len.ensures, c.node_count.ensures.count) in
    let listed : map dead_block items ≡ born_after 0 (blocks_of c.args.tree.now) = ap (map dead_block) c.deref-block-items.ensures.value ∙ c.in_ok-blocks.ensures.ok in
    λ _. λ k. for_some _ _ (λ x e. (standing c.args.tree.now items 0 listed all c.args.group.0 c.args.allocator.now (λ i d h. c.loop-block.invariant i d (omega (arith, h))) k x e).0)

pub returns-clause-allocated : goal.returns-clause-allocated
returns-clause-allocated c =
    let items = c.deref-block-items.result.now in
    let all : length items ≡ len c.args.tree.now = omega (arith, c.deref-block-items.ensures.len, c.len.ensures, c.node_count.ensures.count) in
    let listed : map dead_block items ≡ born_after 0 (blocks_of c.args.tree.now) = ap (map dead_block) c.deref-block-items.ensures.value ∙ c.in_ok-blocks.ensures.ok in
    λ _. λ k. for_some _ _ (λ x e. (standing c.args.tree.now items 0 listed all c.args.group.0 c.args.allocator.now (λ i d h. c.loop-block.invariant i d (omega (arith, h))) k x e).1)

use Rattle.std.proofs.Common.{sym, ap, ◌∙◌}
use Rattle.std.specs.Option.{option_copied}
use Rattle.std.specs.FinSet.{len, len-empty}
use Rattle.base.specs.Map.{blocks, block_cmp}
use Rattle.world.proofs.lineage.Bridge.{blocks_none}
use Rattle.file_system.specs.Origins.{blocks_below}
use Rattle.file_system.proofs.Accounts.{count_is}
use Rattle.file_system.proofs.origin.base_count.Goals as goal

-- a tree has as many nodes as its map has blocks
pub returns-in-Some : goal.returns-in-Some
returns-in-Some c =
    c.node_count.ensures.count ∙ sym (count_is c.tree.result.now c.node_count.ensures.unique) ∙ ap (λ m. len (blocks m)) c.tree.ensures
    ∙ ap (λ o. len (blocks_below (option_copied o))) (sym c.in-Some.is)

pub returns-in-None : goal.returns-in-None
returns-in-None c = sym (len-empty block_cmp) ∙ ap len (sym blocks_none) ∙ ap (λ o. len (blocks_below (option_copied o))) (sym c.in-None.is)

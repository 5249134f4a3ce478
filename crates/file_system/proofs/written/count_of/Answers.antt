use Rattle.std.proofs.Common.{sym, ap, ◌∙◌}
use Rattle.std.specs.Option.{option_copied}
use Rattle.std.specs.FinSet.{len}
use Rattle.base.specs.Map.{blocks}
use Rattle.file_system.specs.Dead.{blocks_kept}
use Rattle.file_system.specs.Origins.{blocks_below}
use Rattle.file_system.proofs.Accounts.{count_is}
use Rattle.file_system.proofs.written.count_of.Goals as goal

-- a tree has as many nodes as its map has blocks
pub returns-in-Some : goal.returns-in-Some
returns-in-Some c =
    c.node_count.ensures.count ∙ sym (count_is c.tree.result.now c.node_count.ensures.unique) ∙ ap (λ m. len (blocks m)) c.tree.ensures
    ∙ ap (λ o. len (blocks_kept (blocks_below (option_copied c.args.origin)) (option_copied o))) (sym c.in-Some.is)

pub returns-in-None : goal.returns-in-None
returns-in-None c = c.base_count.ensures ∙ ap (λ o. len (blocks_kept (blocks_below (option_copied c.args.origin)) (option_copied o))) (sym c.in-None.is)

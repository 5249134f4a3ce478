use Rattle.std.proofs.Common.{sym, ap, ◌∙◌}
use Rattle.std.specs.FinSet.{len}
use Rattle.std.specs.Option.{option_copied}
use Rattle.base.specs.Map.{blocks}
use Rattle.datasets.proofs.Accounts.{count_is}
use Rattle.lookups.specs.Places.{map_at}
use Rattle.lookups.proofs.space.since.count_of.Goals as goal

pub returns-in-Some : goal.returns-in-Some
returns-in-Some c =
    c.node_count.ensures.count ∙ sym (count_is c.tree.result.now c.node_count.ensures.unique)
    ∙ ap (λ m. len (blocks m)) c.tree.ensures
    ∙ ap (λ x. len (blocks (map_at c.args.file_system.now (option_copied x)))) (sym c.in-Some.is)

pub returns-in-None : goal.returns-in-None
returns-in-None c =
    c.node_count-in-None.ensures.count ∙ sym (count_is c.live.result.now c.node_count-in-None.ensures.unique)
    ∙ ap (λ m. len (blocks m)) c.live.ensures
    ∙ ap (λ x. len (blocks (map_at c.args.file_system.now (option_copied x)))) (sym c.in-None.is)

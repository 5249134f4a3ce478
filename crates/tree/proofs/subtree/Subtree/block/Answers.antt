use Rattle.std.proofs.Common.{Some, ◌∷◌, sym, ap, subst, ◌∙◌, arith}
use Rattle.std.specs.List.{flat_map}
use Rattle.std.specs.Option.{option_map}
use Rattle.std.specs.FinMap.{get}
use Rattle.base.specs.declared.number.Dead.{Dead}
use Rattle.base.specs.Map.{block_of}
use Rattle.base.specs.Surveys.{dead_block}
use Rattle.tree.specs.Branch.{Branch, branch_blocks, branches_below, AreOwnOrBelow}
use Rattle.tree.specs.BranchParts.{branch_at, node_part, node_level}
use Rattle.tree.proofs.BranchBlocks.{top_blocks}
use Rattle.tree.proofs.BranchKeys.{own_or_below}
use Rattle.tree.proofs.Branches.{branch_birth, own-branch_at}
use Rattle.node.proofs.Options.{for_some}
use Rattle.tree.proofs.subtree.Subtree.block.Goals as goal

pub returns-clause-block : goal.returns-clause-block
returns-clause-block c =
    ap (λ (b : Branch). option_map block_of (get b.map b.key)) (sym c.self.view_is)
    ∙ ap (option_map block_of) (own-branch_at (node_level c.self.inside.node) c.self.inside.key (node_part c.self.inside.node) c.self.invariant.level c.self.invariant.sound)
    ∙ ap (λ d. Some (dead_block d)) (sym c.block.ensures)

pub returns-clause-youngest : goal.returns-clause-youngest
returns-clause-youngest c = λ k. for_some _ _ (λ x e.
    let young = branch_birth (node_level c.self.inside.node) c.self.inside.key (node_part c.self.inside.node) k x c.self.invariant.level c.self.invariant.sound (ap (λ (b : Branch). get b.map k) c.self.view_is ∙ e) in
    let own = ap (λ (d : Dead). d.birth.0) c.block.ensures in
    omega (arith, young, own))

pub returns-clause-keys : goal.returns-clause-keys
returns-clause-keys c =
    subst AreOwnOrBelow c.self.view_is (own_or_below (node_level c.self.inside.node) c.self.inside.key (node_part c.self.inside.node) c.self.invariant.level c.self.invariant.sound)

pub returns-clause-all : goal.returns-clause-all
returns-clause-all c =
    ap branch_blocks (sym c.self.view_is)
    ∙ top_blocks (node_level c.self.inside.node) c.self.inside.key (node_part c.self.inside.node) c.self.invariant.level c.self.invariant.sound
    ∙ ap (λ d. dead_block d ∷ flat_map branch_blocks (branches_below (branch_at c.self.inside.key (node_part c.self.inside.node)))) (sym c.block.ensures)
    ∙ ap (λ b. dead_block c.block.result ∷ flat_map branch_blocks (branches_below b)) c.self.view_is

use Rattle.std.proofs.Common.{sym, ap, ◌∙◌, arith}
use Rattle.std.specs.Prelude.{is_some}
use Rattle.std.specs.FinMap.{get}
use Rattle.base.specs.declared.number.Key.{Key}
use Rattle.node.specs.Entries.{key_at, map_of}
use Rattle.node.specs.Kid.{birth_of}
use Rattle.node.specs.Node.{whole, root_forest, root_part}
use Rattle.node.specs.Shape.{grown, done}
use Rattle.tree.proofs.Branches.{key-branch_at, root-branch}
use Rattle.node.proofs.Find.{map_of-empty}
use Rattle.node.proofs.Roots.{get-root}
use Rattle.tree.proofs.tree.Tree.top.Goals as goal

pub returns-in_default-clause-none : goal.returns-in_default-clause-none
returns-in_default-clause-none c = sym c.self.view_is ∙ ap (λ r. map_of (root_forest r)) c.in_default.is ∙ map_of-empty

pub returns-clause-key : goal.returns-clause-key
returns-clause-key c = key-branch_at (key_at 5 0) (root_part c.in_ok-root.root.value)

pub returns-clause-map : goal.returns-clause-map
returns-clause-map c =
    root-branch (root_part c.in_ok-root.root.value)
    ∙ ap (λ r. map_of (grown (root_part r).cell (root_part r).below done)) c.in_ok-root.ensures
    ∙ sym (sym c.self.view_is ∙ ap (λ r. map_of (root_forest r)) c.in-Some.is)

pub returns-clause-there : goal.returns-clause-there
returns-clause-there c =
    let k : Key = key_at 5 0 in
    ap (λ x. is_some (get c.args.self.now x)) (key-branch_at k (root_part c.in_ok-root.root.value))
    ∙ ap (λ m. is_some (get m k)) (sym c.self.view_is)
    ∙ ap is_some (get-root k c.self.inside.root c.in-Some.root (birth_of (whole c.self.inside.root)) (omega arith) (omega arith) c.in-Some.is c.self.invariant.well)

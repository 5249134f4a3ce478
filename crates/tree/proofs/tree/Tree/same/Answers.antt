use Rattle.std.proofs.Common.{sym, ◌∙◌}
use Rattle.node.proofs.Sameness.{same_map, map_same}
use Rattle.tree.proofs.tree.Tree.same.Goals as goal

pub returns : goal.returns
returns c = (
  λ t. sym c.self.view_is ∙ map_same c.self.inside.root c.other.inside.root (sym c.owner_in.ensures ∙ c.same_kid.ensures.0 t ∙ c.owner_in-2.ensures) ∙ c.other.view_is,
  λ e. c.same_kid.ensures.1 (c.owner_in.ensures ∙ same_map c.self.inside.root c.other.inside.root _ _ c.self.invariant c.other.invariant (c.self.view_is ∙ e ∙ sym c.other.view_is) ∙ sym c.owner_in-2.ensures),
)

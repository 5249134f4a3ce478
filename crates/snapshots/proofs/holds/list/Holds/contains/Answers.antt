use Rattle.std.proofs.Common.{List, ℕ, ap, ◌∙◌}
use Rattle.snapshots.specs.Tags.{has_tag}
use Rattle.snapshots.proofs.Lists.{any_text}
use Rattle.snapshots.proofs.holds.list.Holds.contains.Goals as goal

-- the set finds it by its bytes
pub returns : goal.returns
returns c = c.contains.ensures ∙ any_text c.args.tag.now c.self.inside.tags.keys ∙ ap (λ (ts : List (List ℕ)). has_tag ts c.args.tag.now) c.self.view_is

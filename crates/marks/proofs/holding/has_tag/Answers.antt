use Rattle.std.proofs.Common.{List, ℕ, ap, ◌∙◌}
use Rattle.snapshots.specs.Tags.{has_tag}
use Rattle.snapshots.proofs.Lists.{any_text}
use Rattle.marks.proofs.holding.has_tag.Goals as goal

pub returns : goal.returns
returns c =
    c.any_is.ensures ∙ any_text c.args.tag.now c.tags.result.now
    ∙ ap (λ (ts : List (List ℕ)). has_tag ts c.args.tag.now) c.tags.ensures

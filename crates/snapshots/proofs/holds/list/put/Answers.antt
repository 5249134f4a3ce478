use Rattle.std.proofs.Common.{◌++◌, ◌∷◌, [], ap, ◌∙◌}
use Rattle.snapshots.specs.Tags.{has_tag, texts}
use Rattle.snapshots.proofs.Lists.{put_last}
use Rattle.snapshots.proofs.holds.list.put.Goals as goal

-- it wasn't there, so it stands behind the others
pub returns-clause-ok : goal.returns-clause-ok
returns-clause-ok c =
    let old = c.args.tags.now.keys in
    let same = c.in_ok-from_slice.ensures.items in
    ap texts c.in_ok-insert.ensures.keys
    ∙ put_last old c.in_ok-from_slice.field-0 (ap (has_tag (texts old)) same ∙ c.requires)
    ∙ ap (λ t. texts old ++ t ∷ []) same

use Rattle.std.proofs.Common.{List, ℕ, take, ap, ◌∙◌}
use Rattle.snapshots.specs.Tags.{has_tag, texts}
use Rattle.snapshots.proofs.Lists.{Text, front_lacks}
use Rattle.snapshots.proofs.holds.list.copied.Goals as goal

-- a tag isn't among those in front of it
pub put-requires : goal.put-requires
put-requires c =
    let tags = c.args.tags.now in
    let n = c.loop-tag.tag-index in
    ap (λ (ts : List (List ℕ)). has_tag ts c.deref.result.now) c.loop-tag.invariant
    ∙ ap (has_tag (texts (take n tags))) (c.deref.ensures.value ∙ ap (λ (v : Text). v.items) c.tag-item.is)
    ∙ front_lacks tags n c.tag-item.result c.loop-tag-test.true c.requires

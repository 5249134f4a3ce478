use Rattle.std.proofs.Common.{List, ℕ, ap, sym, ◌∙◌}
use Rattle.snapshots.specs.Tags.{has_tag, is_full, texts}
use Rattle.snapshots.proofs.Lists.{put_sound}
use Rattle.snapshots.proofs.holds.list.Holds.add.Goals as goal

-- it stands behind the others, or there was no memory for it
pub invariant_of-self-2 : goal.invariant_of-self-2
invariant_of-self-2 c =
    let tag = c.as_bytes-2.result.now in
    put_sound c.put.result (texts c.self.inside.tags.keys) (texts c.put.new.tags.keys) tag c.put.ensures.ok c.put.ensures.err c.self.invariant
    (ap (λ (ts : List (List ℕ)). has_tag ts tag) c.self.view_is ∙ ap (has_tag c.args.self.now) (c.as_bytes-2.ensures.value ∙ sym c.as_bytes.ensures.value) ∙ sym c.contains.ensures ∙ c.if-contains.false)
    (ap is_full c.self.view_is ∙ sym c.is_full.ensures ∙ c.if-is_full.false)

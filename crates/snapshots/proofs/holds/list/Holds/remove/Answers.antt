use Rattle.std.proofs.Common.{◌≡◌, List, ℕ, ap, sym, subst, ◌∙◌}
use Rattle.snapshots.specs.Tags.{without_tag, texts}
use Rattle.snapshots.specs.SoundTags.{AreSound}
use Rattle.snapshots.proofs.Lists.{goes, less_sound}
use Rattle.snapshots.proofs.holds.list.Holds.remove.Goals as goal

-- the others are left
pub invariant_of-self : goal.invariant_of-self
invariant_of-self c =
    let old = c.self.inside.tags.keys in
    let left : texts c.shift_remove-is_gone.new.self.keys ≡ without_tag (texts old) c.args.tag.now = ap texts c.shift_remove-is_gone.ensures.keys ∙ goes old c.args.tag.now c.self.invariant.once in
    subst AreSound (sym left) (less_sound (texts old) c.args.tag.now c.self.invariant)

pub returns-clause-ok : goal.returns-clause-ok
returns-clause-ok c =
    let old = c.self.inside.tags.keys in
    ap texts c.shift_remove-is_gone.ensures.keys ∙ goes old c.args.tag.now c.self.invariant.once ∙ ap (λ (ts : List (List ℕ)). without_tag ts c.args.tag.now) c.self.view_is

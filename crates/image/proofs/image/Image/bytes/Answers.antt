use Rattle.std.proofs.Common.{◌*◌, length, sym, ap, ◌∙◌}
use Rattle.image.specs.Image.{ShownImage}
use Rattle.image.proofs.Padded.{length-padded}
use Rattle.image.proofs.image.Image.bytes.Goals as goal

pub returns-clause-size : goal.returns-clause-size
returns-clause-size c =
    ap (λ (s : ShownImage). length s.bytes) (sym c.self.view_is) ∙ length-padded (512 * c.self.inside.blocks) c.self.inside.written.items c.self.invariant.within
    ∙ ap (λ n. 512 * n) (sym c.self.invariant.states ∙ ap (λ (s : ShownImage). length s.kept) c.self.view_is)

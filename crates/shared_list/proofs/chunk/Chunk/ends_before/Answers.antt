use Rattle.std.proofs.Common.{◌≡◌, ◌∙◌, sym}
use Rattle.shared_list.proofs.Points.{answered, ends_last}
use Rattle.shared_list.proofs.chunk.Chunk.ends_before.Goals as goal

pub returns : goal.returns
returns g c = λ p h.
    let w = (g.met.P.FnMut.1.post_iff _ _ _).0 c.test.ensures in
    let x : c.test.result ≡ p c.last.result.now = answered g.P.Fn _ _ _ _ _ w.1 h in
    x ∙ sym (ends_last p c.args.self.now c.last.result.now c.last.ensures)

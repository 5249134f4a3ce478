use Rattle.std.proofs.Common.{◌∙◌, ap, arith, replicate, false}
use Rattle.zalloc.proofs.Noted.{unflagged}
use Rattle.zalloc.proofs.touched.unflag.Goals as goal

pub returns-clause-flags : goal.returns-clause-flags
returns-clause-flags c =
    unflagged c.loop-window.flags.items (λ k e. let h = c.loop-window.invariant.listed k e in omega (arith, h.1, c.loop-window.noted.ok.0, c.in_default.ensures.cases.0))
    ∙ ap (λ n. replicate n false) c.loop-window.invariant.size

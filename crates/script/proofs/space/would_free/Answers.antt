use Rattle.std.proofs.Common.{sym}
use Rattle.script.proofs.Within.{would_free_asked}
use Rattle.script.proofs.space.would_free.Goals as goal

pub returns : goal.returns
returns c =
    would_free_asked _ (c.in-Some.name.now, c.in-Some.first.now, c.in-Some.last.now) _ _ _ (sym c.in-Some.ensures) c.in_ok-name.ensures c.in_ok-first.ensures
    c.in_ok-last.ensures

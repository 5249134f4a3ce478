use Rattle.std.proofs.Common.{refl}
use Rattle.session.proofs.book.closing.is_whole.Goals as goal

pub returns : goal.returns
returns g c = (
  (λ all. record { there = c.if-not-all_there.ensures.0 refl; named = c.if-not-all_named.ensures.0 refl; own = c.all_own.ensures.0 all }),
  (λ whole. c.all_own.ensures.1 whole.own),
)

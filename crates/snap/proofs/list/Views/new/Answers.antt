use Rattle.std.proofs.Common.{ap, refl, lit≤}
use Rattle.snap.proofs.Numbered.{none_are, none_below}
use Rattle.snap.proofs.list.Views.new.Goals as goal

-- there is none
pub invariant_of-result : goal.invariant_of-result
invariant_of-result c =
    let none = c.in_ok-open.ensures.items in
    record {
      sorted = rw none refl;
      below = rw none (none_below _);
      few = rw none (lit≤ tt);
      room = c.in_ok-open.ensures.capacity;
      next = lit≤ tt;
    }

pub returns-clause-ok : goal.returns-clause-ok
returns-clause-ok c = rw c.in_ok-open.ensures.items (ap (λ m. record { opened = m; next = 1 }) none_are)

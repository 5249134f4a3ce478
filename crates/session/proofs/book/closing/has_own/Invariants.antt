use Rattle.std.proofs.Common.{◌≡◌, ◌↔◌, map, drop}
use Rattle.std.specs.Arc.{arc_value}
use Rattle.session.specs.Whole.{of_seat}
use Rattle.session.proofs.book.closing.has_own.Given as goal

abbrev pub invariant-entries : goal.invariant-entries
invariant-entries l = (l.receipts ≡ of_seat l.number 0 (map arc_value l.history)) ↔ (l.rest ≡ of_seat l.number l.k (map arc_value (drop l.k l.history)))

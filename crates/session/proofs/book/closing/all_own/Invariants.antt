use Rattle.std.proofs.Common.{◌≡◌, ◌<◌, ℕ, get_or, map}
use Rattle.std.specs.Arc.{arc_value}
use Rattle.session.specs.Receipts.{Kept}
use Rattle.session.specs.Whole.{of_seat}
use Rattle.session.proofs.book.closing.all_own.Given as goal

abbrev pub invariant-loop-seat : goal.invariant-loop-seat
invariant-loop-seat g l = (k : ℕ) (d : Kept) → k < l.seat-index → (get_or l.seats k d).receipts ≡ of_seat (get_or l.seats k d).number 0 (map arc_value l.history)

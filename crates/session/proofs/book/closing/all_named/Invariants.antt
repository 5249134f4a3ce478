use Rattle.std.proofs.Common.{◌<◌, ◌≤◌, ℕ, get_or}
use Rattle.std.specs.Arc.{arc_value}
use Rattle.session.proofs.book.closing.all_named.Given as goal

abbrev pub invariant-loop-entry : goal.invariant-loop-entry
invariant-loop-entry l = (k : ℕ) (d : _) → k < l.entry-index → (0 < (arc_value (get_or l.history k d)).seat) × ((arc_value (get_or l.history k d)).seat ≤ l.given)

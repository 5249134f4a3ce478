use Rattle.std.proofs.Common.{◌≡◌, ◌+◌, ◌<◌, ◌==◌, ℕ, count_by}
use Rattle.session.proofs.book.closing.all_there.Given as goal

abbrev pub invariant-loop-i : goal.invariant-loop-i
invariant-loop-i g l = (i : ℕ) → i < l.i → count_by (λ s. s.number == i + 1) l.seats ≡ 1

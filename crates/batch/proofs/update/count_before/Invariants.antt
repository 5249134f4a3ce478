use Rattle.std.proofs.Common.{◌≡◌, ℕ, ◌-◌, ◌<◌, ◌≤◌, length, Some}
use Rattle.std.specs.Prelude.{slice_get}
use Rattle.batch.specs.declared.update.Update.{Update}
use Rattle.batch.specs.Updates.{past_of}
use Rattle.batch.proofs.update.count_before.Given as goal

abbrev pub invariant-loop-back : goal.invariant-loop-back
invariant-loop-back l = (i : ℕ) (u : Update) → length l.updates - l.back ≤ i → slice_get l.updates i ≡ Some u → l.leaf < past_of u

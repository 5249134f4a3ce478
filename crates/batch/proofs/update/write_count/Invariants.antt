use Rattle.std.proofs.Common.{◌≡◌, ℕ, ◌<◌, ◌≤◌, Some, take}
use Rattle.std.specs.Prelude.{count_by, slice_get}
use Rattle.batch.specs.declared.update.Update.{Update}
use Rattle.batch.specs.Said.{IsSized, is_write}
use Rattle.batch.proofs.update.write_count.Given as goal

abbrev pub invariant-loop-update : goal.invariant-loop-update
invariant-loop-update l = record {
  few : l.count ≤ l.update-index;
  counted : l.count ≡ count_by is_write (take l.update-index l.updates);
  sized : (i : ℕ) (u : Update) → i < l.update-index → slice_get l.updates i ≡ Some u → IsSized u;
}

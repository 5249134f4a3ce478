use Rattle.std.proofs.Common.{sym, subst}
use Rattle.snapshots.specs.Index.{AreNamesOnce}
use Rattle.snapshots.proofs.Splices.{once_without}
use Rattle.snapshot_rows.proofs.own.Own.take_out.Goals as goal

pub invariant_of-self-2 : goal.invariant_of-self-2
invariant_of-self-2 c = subst AreNamesOnce (sym c.in_ok-remove.ensures.ok) (once_without c.self.inside.line c.args.place c.self.invariant)

use Rattle.std.proofs.Common.{rules, ◌≡◌, ◌+◌, Some, slice_get, sym, subst}
use Rattle.std.specs.Prelude.{remove}
use Rattle.std.specs.Option.{option_map}
use Rattle.snapshots.specs.declared.kept.Kept.{Kept}
use Rattle.snapshots.specs.Index.{AreNamesOnce}
use Rattle.snapshots.proofs.Splices.{once_without, once_with, named_after}
use Rattle.snapshot_rows.proofs.own.Own.splice.Goals as goal

pub invariant_of-self-2 : goal.invariant_of-self-2
invariant_of-self-2 c =
    let line = c.self.inside.line in
    let at : option_map (λ (k : Kept). k.snapshot.name) (slice_get line (c.args.place + 1)) ≡ Some c.args.next.snapshot.name = search rules in
    subst AreNamesOnce (sym c.in_ok-splice.ensures.ok)
    (once_with (remove line c.args.place) c.args.place c.args.next (once_without line c.args.place c.self.invariant) (named_after line c.args.place c.args.next.snapshot.name at))

use Rattle.std.proofs.Common.{◌≡◌, sym, ap, subst, ◌∙◌}
use Rattle.std.specs.List.{find}
use Rattle.std.specs.Option.{option_copied}
use Rattle.base.specs.Names.{same_name}
use Rattle.snapshots.specs.declared.kept.Kept.{Kept}
use Rattle.snapshots.specs.Index.{AreNamesOnce}
use Rattle.snapshots.proofs.Indexes.{none_found}
use Rattle.snapshots.proofs.Splices.{once_longer}
use Rattle.snapshot_rows.proofs.own.Own.put.Goals as goal

pub invariant_of-self-2 : goal.invariant_of-self-2
invariant_of-self-2 c =
    let kept : Kept = c.args.kept in
    let found : option_copied c.get.result ≡ find (λ (k : Kept). same_name k.snapshot.name kept.snapshot.name) c.self.inside.line =
    c.get.ensures ∙ ap (λ n. find (λ (k : Kept). same_name k.snapshot.name n) c.self.inside.line) (c.as_bytes.ensures.value ∙ c.name.ensures) in
    subst AreNamesOnce (sym c.in_ok-push.ensures.ok) (once_longer c.self.inside.line kept c.self.invariant (none_found c.get.result _ found (sym c.is_some.ensures ∙ c.if-is_some.false)))

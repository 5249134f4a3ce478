use Rattle.std.proofs.Common.{List, Option, ap, subst, ◌∙◌}
use Rattle.std.specs.List.{find}
use Rattle.base.specs.Names.{same_name}
use Rattle.snapshots.specs.declared.kept.Kept.{Kept}
use Rattle.snapshots.specs.Index.{IsIndex}
use Rattle.snapshots.proofs.snapshot_list.SnapshotList.get.Goals as goal

-- the index finds what a walk does
pub returns-in-Some : goal.returns-in-Some
returns-in-Some c =
    let named = subst (λ (o : Option (List Kept)). IsIndex o c.self.inside.kept) c.in-Some.is c.self.invariant in
    c.get.ensures ∙ named c.args.name.now ∙ ap (find (λ (k : Kept). same_name k.snapshot.name c.args.name.now)) c.self.view_is

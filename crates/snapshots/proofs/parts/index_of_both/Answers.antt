use Rattle.std.proofs.Common.{◌++◌, List, sym, subst}
use Rattle.std.specs.Prelude.{IfOk}
use Rattle.snapshots.specs.declared.kept.Kept.{Kept}
use Rattle.snapshots.specs.Index.{IsIndex, AreNamesOnce}
use Rattle.snapshots.proofs.Moving.{index_either, once_turned}
use Rattle.snapshots.proofs.parts.index_of_both.Goals as goal

pub with-requires-2-clause-once : goal.with-requires-2-clause-once
with-requires-2-clause-once c =
    subst AreNamesOnce (λ i. sym c.others.view_is i ++ sym c.line.view_is i) (once_turned c.args.line.now c.args.others.now c.requires)

pub returns-clause-ok : goal.returns-clause-ok
returns-clause-ok c =
    index_either c.with-2.result c.args.others.now c.args.line.now (once_turned c.args.line.now c.args.others.now c.requires)
    (subst (λ (ks : List Kept). IfOk c.with-2.result (λ b. IsIndex b ks)) (λ i. c.others.view_is i ++ c.line.view_is i) c.with-2.ensures.ok)

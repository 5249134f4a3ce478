use Rattle.std.proofs.Common.{sym, subst, refl, inl, inr}
use Rattle.lookups.specs.Named.{IsNoLive}
use Rattle.lookups.proofs.trees.live_name.Goals as goal
use Rattle.lookups.proofs.trees.live_name.Goals.{in-Some, in-None}

pub returns-after-tree_named : goal.returns-after-tree_named
returns-after-tree_named c = record {
  ok = tt;
  err = elim c.match-tree_named.branch [
    | in-Some w ↦ subst (λ why. IsNoLive c.args.table.now.file_systems c.args.target.now why) (sym w.result-is)
        (record { never = c.in_default.not-FileSystem; which = inl (refl, w.in-Some.field-0.now, w.in-Some.ensures) })
    | in-None w ↦ subst (λ why. IsNoLive c.args.table.now.file_systems c.args.target.now why) (sym w.result-is)
        (record { never = c.in_default.not-FileSystem; which = inr (refl, w.in-None.ensures) })
  ];
}

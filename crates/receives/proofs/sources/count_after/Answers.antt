use Rattle.std.proofs.Common.{rules, length, sym, ap, subst, arith}
use Rattle.std.specs.Prelude.{nat_le, nat_lt}
use Rattle.std.specs.List.{filter}
use Rattle.std.proofs.lemmas.Fn.{always_returns_same}
use Rattle.snapshots.specs.declared.kept.Kept.{Kept}
use Rattle.model.specs.World.{Snap}
use Rattle.world.specs.Worlds.{AreRising}
use Rattle.receives.proofs.Sourced.{parted, counted_later}
use Rattle.receives.proofs.sources.count_after.Goals as goal

pub returns : goal.returns
returns c =
    let g = c.args.group.0 in
    let ks = c.snapshots-snapshots.result.now in
    let computes = always_returns_same _ _ _ (λ a r f' k. search rules) in
    let point = c.partition_point.ensures.partitioned (λ (k : Kept). nat_le k.snapshot.group g) computes
    (parted c.requires.0 g ks (subst (AreRising c.requires.0) (sym c.snapshots-snapshots.ensures) c.requires.1)) in
    let counted = counted_later g c.partition_point.result ks point in
    let all = ap (λ (us : _). length (filter (λ (t : Snap). nat_lt g t.group) us)) c.snapshots-snapshots.ensures in
    Prim.omega (arith, c.len.ensures, counted, all)

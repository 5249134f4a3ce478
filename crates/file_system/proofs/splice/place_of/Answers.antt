use Rattle.std.proofs.Common.{rules}
use Rattle.std.specs.Prelude.{nat_lt}
use Rattle.std.proofs.lemmas.Fn.{always_returns_same}
use Rattle.snapshots.specs.declared.kept.Kept.{Kept}
use Rattle.file_system.proofs.Stacks.{parted, place_found, inside_group}
use Rattle.file_system.proofs.splice.place_of.Goals as goal

-- where the groups are no longer below it, it stands
pub returns-clause-is : goal.returns-clause-is
returns-clause-is c =
    let g = c.args.group.0 in
    let computes = always_returns_same _ _ _ (λ a r f' k. search rules) in
    let point = c.partition_point.ensures.partitioned (λ (k : Kept). nat_lt k.snapshot.group g) computes (parted 0 g c.args.kept.now c.requires.rising) in
    place_found 0 g c.partition_point.result c.args.kept.now c.requires.rising point c.requires.there

pub returns-clause-within : goal.returns-clause-within
returns-clause-within c =
    let g = c.args.group.0 in
    let computes = always_returns_same _ _ _ (λ a r f' k. search rules) in
    let point = c.partition_point.ensures.partitioned (λ (k : Kept). nat_lt k.snapshot.group g) computes (parted 0 g c.args.kept.now c.requires.rising) in
    inside_group c.args.kept.now c.partition_point.result g (place_found 0 g c.partition_point.result c.args.kept.now c.requires.rising point c.requires.there)

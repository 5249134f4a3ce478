use Rattle.std.proofs.Common.{rules}
use Rattle.std.specs.Prelude.{nat_lt}
use Rattle.std.proofs.lemmas.Fn.{always_returns_same}
use Rattle.snapshots.specs.declared.kept.Kept.{Kept}
use Rattle.file_system.proofs.Stacks.{parted, place_found}
use Rattle.file_system.proofs.splice.around_of.Goals as goal

-- where the groups are no longer below it, it stands
pub returns : goal.returns
returns c =
    let g = c.args.group.0 in
    let around = c.around.ensures in
    let computes = always_returns_same _ _ _ (λ a r f' k. search rules) in
    let point = around.1 (λ (k : Kept). nat_lt k.snapshot.group g) computes (parted 0 g c.args.kept.now c.requires.rising) in
    (around.0, place_found 0 g around.0 c.args.kept.now c.requires.rising point c.requires.there, around.2)

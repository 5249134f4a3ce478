use Rattle.std.proofs.Common.{rules}
use Rattle.std.proofs.lemmas.Fn.{always_returns_same}
use Rattle.std.specs.Option.{option_copied}
use Rattle.snapshots.specs.Order.{is_below}
use Rattle.shared_list.specs.Elements.{flattened}
use Rattle.snapshots.proofs.Cuts.{nearest_is}
use Rattle.snapshots.proofs.Names.{parted}
use Rattle.snapshots.proofs.by_name.nearest.Goals as goal

pub returns : goal.returns
returns c =
    let q = c.args.name.now in
    let all = flattened c.args.chunks.now in
    let there = c.first.ensures in
    let point = there.1 (is_below q) (always_returns_same _ _ _ (λ a r f' k. search rules)) (parted q all c.requires) in
    nearest_is q all there.0 (option_copied c.first.result) c.requires point there.2

use Rattle.std.proofs.Common.{rules}
use Rattle.std.proofs.lemmas.Fn.{always_returns_same}
use Rattle.snapshots.specs.Order.{is_below}
use Rattle.shared_list.specs.Elements.{flattened}
use Rattle.shared_list.specs.Places.{place_index}
use Rattle.snapshots.proofs.Cuts.{within}
use Rattle.snapshots.proofs.Names.{parted, place_at}
use Rattle.snapshots.proofs.by_name.place_of.Goals as goal

pub returns-clause-place : goal.returns-clause-place
returns-clause-place c =
    let q = c.args.name.now in
    let xs = c.args.chunks.now in
    let found = c.partition_point.ensures in
    let computes = always_returns_same _ _ _ (λ a r f' k. search rules) in
    place_at q (flattened xs) (place_index (λ v. v) xs c.partition_point.result) (within xs c.partition_point.result found.place) (found.partitioned (is_below q) computes (parted q (flattened xs) c.requires))

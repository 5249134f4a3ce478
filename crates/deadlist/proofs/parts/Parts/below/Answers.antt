use Rattle.std.proofs.Common.{nat_lt, rules, ◌≤◌, length, arith}
use Rattle.std.proofs.lemmas.List.Sorted.{IsPartitionPoint-from_clause, IsPartitionedBy-ltb}
use Rattle.deadlist.specs.declared.parts.Segment.{Segment}
use Rattle.deadlist.proofs.Places.{front_is, closed_upper, closed_rise}
use Rattle.deadlist.proofs.parts.Parts.below.Goals as goal

pub returns : goal.returns
returns c =
    let xs = c.args.self.now.closed.items in
    let by = IsPartitionedBy-ltb closed_upper xs c.args.group (closed_rise xs 0 c.args.self.now.last.entries c.requires) in
    let at = IsPartitionPoint-from_clause (λ (s : Segment). nat_lt (closed_upper s) c.args.group) xs c.partition_point.result (rw c.as_slice.ensures.value at c.partition_point.ensures.partitioned) by (λ a r q k. search rules) in
    let le : c.partition_point.result ≤ length xs = omega arith in
    front_is (λ u. nat_lt u c.args.group) xs c.partition_point.result le at.0 at.1

use Rattle.std.proofs.Common.{nat_le, rules, ◌≤◌, length, arith}
use Rattle.std.proofs.lemmas.List.Sorted.{IsPartitionPoint-from_clause, IsPartitionedBy-leb}
use Rattle.deadlist.specs.declared.parts.Segment.{Segment}
use Rattle.deadlist.proofs.Places.{front_is, closed_upper, closed_rise}
use Rattle.deadlist.proofs.parts.Parts.upto.Goals as goal

pub returns : goal.returns
returns c =
    let xs = c.args.self.now.closed.items in
    let by = IsPartitionedBy-leb closed_upper xs c.args.cut (closed_rise xs 0 c.args.self.now.last.entries c.requires) in
    let at = IsPartitionPoint-from_clause (λ (s : Segment). nat_le (closed_upper s) c.args.cut) xs c.partition_point.result (rw c.as_slice.ensures.value at c.partition_point.ensures.partitioned) by (λ a r q k. search rules) in
    let le : c.partition_point.result ≤ length xs = omega arith in
    front_is (λ u. nat_le u c.args.cut) xs c.partition_point.result le at.0 at.1

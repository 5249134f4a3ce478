use Rattle.std.proofs.Common.{◌≤◌, length, arith, ap, rules, nat_le}
use Rattle.std.proofs.lemmas.List.Sorted.{IsPartitionPoint-from_clause, IsPartitionedBy-leb}
use Rattle.base.specs.declared.number.Dead.{Dead}
use Rattle.deadlist.specs.Entries.{birth_of}
use Rattle.deadlist.proofs.Runs.{split_filters}
use Rattle.deadlist.proofs.run.Run.place_of.Goals as goal

pub returns-clause-low : goal.returns-clause-low
returns-clause-low c =
    let xs = c.args.self.now in
    let cut = c.args.cut in
    let by = IsPartitionedBy-leb birth_of xs cut c.as_slice.ensures.rising in
    let point = IsPartitionPoint-from_clause (λ (d : Dead). nat_le (birth_of d) cut) xs c.partition_point.result (rw c.as_slice.ensures.same at c.partition_point.ensures.partitioned) by (λ a r q k. search rules) in
    let le : c.partition_point.result ≤ length xs = (let l = ap length c.as_slice.ensures.same in omega (arith, c.partition_point.ensures.bound, l)) in
    let parts = split_filters cut xs c.partition_point.result le point.0 point.1 in
    parts.0

pub returns-clause-high : goal.returns-clause-high
returns-clause-high c =
    let xs = c.args.self.now in
    let cut = c.args.cut in
    let by = IsPartitionedBy-leb birth_of xs cut c.as_slice.ensures.rising in
    let point = IsPartitionPoint-from_clause (λ (d : Dead). nat_le (birth_of d) cut) xs c.partition_point.result (rw c.as_slice.ensures.same at c.partition_point.ensures.partitioned) by (λ a r q k. search rules) in
    let le : c.partition_point.result ≤ length xs = (let l = ap length c.as_slice.ensures.same in omega (arith, c.partition_point.ensures.bound, l)) in
    let parts = split_filters cut xs c.partition_point.result le point.0 point.1 in
    parts.1

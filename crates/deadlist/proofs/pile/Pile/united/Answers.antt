use Rattle.std.proofs.Common.{◌++◌, arith, length-append}
use Rattle.std.proofs.lemmas.List.Sorted.{length_permutation}
use Rattle.deadlist.specs.Entries.{run_entries}
use Rattle.deadlist.proofs.Births.{born_from_weaker, born_by_weaker, born_from_append, born_by_append}
use Rattle.deadlist.proofs.Orders.{united_permuted, born_from_permuted, born_by_permuted}
use Rattle.deadlist.proofs.pile.Pile.united.Goals as goal

pub invariant_of-result : goal.invariant_of-result
invariant_of-result c =
    let s = c.self.inside in
    let o = c.other.inside in
    let own = run_entries s.runs.items ++ s.tail.items in
    let others = run_entries o.runs.items ++ o.tail.items in
    let new = run_entries c.append.new.self.items ++ c.append-2.new.self.items in
    let perm = united_permuted s.runs.items o.runs.items c.append.new.self.items s.tail.items o.tail.items c.append-2.new.self.items c.in_ok-append.ensures.items c.in_ok-append-2.ensures.items in
    let many = length_permutation (own ++ others) new perm in
    let l = length-append own others in
    let low = c.min-low.ensures in
    let high = c.max-high.ensures in
    let was = c.self.invariant.0 in
    let other = c.other.invariant.0 in
    let more = c.in-Some.ensures.1 in (
      omega arith,
      born_from_permuted c.min-low.result (own ++ others) new (born_from_append c.min-low.result own others (born_from_weaker s.low c.min-low.result own c.self.invariant.1 (omega arith)) (born_from_weaker o.low c.min-low.result others c.other.invariant.1 (omega arith))) perm,
      born_by_permuted c.max-high.result (own ++ others) new (born_by_append c.max-high.result own others (born_by_weaker s.high c.max-high.result own c.self.invariant.2 (omega arith)) (born_by_weaker o.high c.max-high.result others c.other.invariant.2 (omega arith))) perm,
    )

pub returns : goal.returns
returns c =
    let s = c.self.inside in
    let o = c.other.inside in
    rw (← c.self.view_is, ← c.other.view_is) (united_permuted s.runs.items o.runs.items c.append.new.self.items s.tail.items o.tail.items c.append-2.new.self.items c.in_ok-append.ensures.items c.in_ok-append-2.ensures.items)

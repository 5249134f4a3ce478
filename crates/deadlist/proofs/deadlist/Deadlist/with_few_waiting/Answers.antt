use Rattle.std.proofs.Common.{arith, ap}
use Rattle.std.proofs.lemmas.List.Sorted.{length_permutation}
use Rattle.deadlist.specs.Bits.{search_steps}
use Rattle.deadlist.proofs.deadlist.Deadlist.with_few_waiting.Goals as goal

pub returns-clause-steps : goal.returns-clause-steps
returns-clause-steps c =
    let many = length_permutation c.args.self.entries c.sort.new.self.entries c.in_ok-sort.ensures.entries in
    let same = ap search_steps many in
    omega (arith, same, c.in_ok-sort.ensures.steps)

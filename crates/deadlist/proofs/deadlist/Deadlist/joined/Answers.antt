use Rattle.std.proofs.Common.{◌++◌}
use Rattle.std.proofs.lemmas.List.Sorted.{IsPermutation-trans}
use Rattle.deadlist.proofs.deadlist.Deadlist.joined.Goals as goal

pub returns-clause-entries : goal.returns-clause-entries
returns-clause-entries c = IsPermutation-trans (c.args.self.now.entries ++ c.args.other.now.entries) c.in_ok-both.field-0.entries c.in_ok-self.field-0.entries c.in_ok-both.ensures.entries c.in_ok-self.ensures.entries

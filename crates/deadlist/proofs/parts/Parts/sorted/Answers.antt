use Rattle.std.proofs.Common.{◌++◌}
use Rattle.std.proofs.lemmas.List.Sorted.{IsPermutation-trans}
use Rattle.std.proofs.lemmas.Result.{IfOk-weaker}
use Rattle.std.specs.List.Sorted.{IsPermutation}
use Rattle.deadlist.specs.declared.parts.Parts.{Parts}
use Rattle.deadlist.specs.Segments.{entries_of}
use Rattle.deadlist.proofs.parts.Parts.sorted.Goals as goal

pub returns-clause-entries : goal.returns-clause-entries
returns-clause-entries c =
    let all = entries_of c.args.self.now ++ c.args.entries.now in
    let mid = entries_of c.place_all.new.self in
    let put : IsPermutation all mid = rw (c.in_ok-parts.ensures.closed, c.in_ok-parts.ensures.last) at c.in_ok-place_all.ensures.entries in
    IfOk-weaker c.settled.result (λ (p : Parts). IsPermutation mid (entries_of p)) (λ (p : Parts). IsPermutation all (entries_of p)) (λ p h. IsPermutation-trans all mid (entries_of p) put h) c.settled.ensures.entries

use Rattle.std.proofs.Common.{◌++◌}
use Rattle.std.proofs.lemmas.List.Sorted.{IsPermutation-append_comm, IsPermutation-trans}
use Rattle.std.proofs.lemmas.Result.{IfOk-weaker}
use Rattle.std.specs.List.Sorted.{IsPermutation}
use Rattle.deadlist.specs.Piled.{Piled}
use Rattle.deadlist.proofs.pile.Pile.joined.Goals as goal

pub returns-then-self-other : goal.returns-then-self-other
returns-then-self-other c =
    let s = c.args.self.entries in
    let o = c.args.other.entries in
    IfOk-weaker c.united.result (λ (p : Piled). IsPermutation (o ++ s) p.entries) (λ (p : Piled). IsPermutation (s ++ o) p.entries) (λ p h. IsPermutation-trans (s ++ o) (o ++ s) p.entries (IsPermutation-append_comm s o) h) c.united.ensures

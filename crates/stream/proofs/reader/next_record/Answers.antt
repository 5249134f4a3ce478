use Rattle.std.specs.Io.KnownBytes.{Consumes}
use Rattle.std.proofs.Common.{◌∷◌, [], subst}
use Rattle.stream.proofs.Passing.{passed_on, told_before}
use Rattle.stream.proofs.Parts.{one_byte, next_by_free}
use Rattle.stream.proofs.reader.next_record.Goals as goal

pub returns-in_err-next_free-in-2-clause-bad : goal.returns-in_err-next_free-in-2-clause-bad
returns-in_err-next_free-in-2-clause-bad g c = λ bad.
    let kind = subst (Consumes _ _) (one_byte c.in_ok-kind.field-0 2 c.in_ok-kind.ensures.length c.in-2.is) c.in_ok-kind.ensures.ok.taken in
    told_before _ _ (2 ∷ []) _ _ kind (next_by_free c.args.from) (passed_on c.from_residual-in_err-next_free-in-2.result _ _ _ c.from_residual-in_err-next_free-in-2.ensures.1 c.in_err-next_free-in-2.ensures.bad bad)

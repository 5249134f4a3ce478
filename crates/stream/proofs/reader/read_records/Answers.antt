use Rattle.std.proofs.Common.{◌≡◌, ◌++◌, ◌∷◌, [], arith, rules, subst}
use Rattle.stream.specs.Reading.{HasNoNext, FindsNext}
use Rattle.stream.specs.Records.{end_of}
use Rattle.stream.proofs.Passing.{passed_on, told_before}
use Rattle.stream.proofs.Streams.{no_more_records}
use Rattle.stream.proofs.Parts.{record_bounds, AreReadTo-push}
use Rattle.stream.proofs.reader.read_records.Goals as goal

pub returns-in_err-record-clause-bad : goal.returns-in_err-record-clause-bad
returns-in_err-record-clause-bad g c = λ bad.
    let next = passed_on c.from_residual.result _ _ _ c.from_residual.ensures.1 c.in_err-record.ensures.bad bad in
    told_before _ _ _ _ _ c.records.invariant.passes.taken (λ rest h. no_more_records c.records.records.items rest c.records.invariant.each (subst (λ n. HasNoNext n rest) c.records.invariant.from_is h)) next

pub records-smaller : goal.records-smaller
records-smaller g c =
    let found = subst (FindsNext _ _ _ _ _) c.in-Some.is c.in_ok-record.ensures.ok in
    let within = c.records.invariant.within in
    let starts = found.2 in
    let bounds = record_bounds c.in-Some.record found.1 in
    let ends : c.end_leaf-from.result ≡ end_of c.in-Some.record = c.end_leaf-from.ensures in
    omega (arith, bounds.0, bounds.1, starts, ends, within)

pub records-preserved : goal.records-preserved
records-preserved g c =
    let found = subst (FindsNext _ _ _ _ _) c.in-Some.is c.in_ok-record.ensures.ok in
    let more = AreReadTo-push _ _ _ _ _ _ c.records.records.items _ c.in-Some.record c.records.invariant found in
    let items : c.push.new.self.items ≡ c.records.records.items ++ c.in-Some.record ∷ [] = search rules in
    rw (items, c.end_leaf-from.ensures) more

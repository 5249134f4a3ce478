use Rattle.stream.specs.Spelling.{Sending, KeepsRules}
use Rattle.stream.proofs.Passing.{passed_on, told_before, told_weaker, Passes-trans}
use Rattle.stream.proofs.Streams.{no_header, no_records, stream_passes, end_refused}
use Rattle.stream.proofs.reader.read_all.Goals as goal

pub returns-in_err-source-clause-bad : goal.returns-in_err-source-clause-bad
returns-in_err-source-clause-bad g c = λ bad.
    told_weaker _ _ _ no_header (passed_on c.from_residual.result _ _ _ c.from_residual.ensures.1 c.in_err-source.ensures.bad bad)

pub returns-in_err-records-clause-bad : goal.returns-in_err-records-clause-bad
returns-in_err-records-clause-bad g c = λ bad.
    let header = c.in_ok-source.ensures.ok in
    told_before _ _ _ _ _ header.1.taken (λ rest h. no_records c.in_ok-source.source c.in_ok-source.target rest header.0 h)
    (passed_on c.from_residual-in_err-records.result _ _ _ c.from_residual-in_err-records.ensures.1 c.in_err-records.ensures.bad bad)

pub returns-in_err-read_end-clause-bad : goal.returns-in_err-read_end-clause-bad
returns-in_err-read_end-clause-bad g c = λ bad.
    let header = c.in_ok-source.ensures.ok in
    let records = c.in_ok-records.ensures.ok in
    let said : Sending = record { source = c.in_ok-source.source; target = c.in_ok-source.target; records = c.in_ok-records.records.items } in
    let rules : KeepsRules said = record { guids = header.0; each = records.0; apart = records.1 } in
    end_refused _ _ _ _ said _ c.new-hasher.ensures (Passes-trans _ _ _ _ _ _ _ _ header.1 records.2) rules c.finalize-digest.ensures
    (passed_on c.from_residual-in_err-read_end.result _ _ _ c.from_residual-in_err-read_end.ensures.1 c.in_err-read_end.ensures.bad bad)

pub returns-clause-ok : goal.returns-clause-ok
returns-clause-ok g c =
    let header = c.in_ok-source.ensures.ok in
    let records = c.in_ok-records.ensures.ok in
    let said : Sending = record { source = c.in_ok-source.source; target = c.in_ok-source.target; records = c.in_ok-records.records.items } in
    rw c.of_guids.ensures (stream_passes _ _ _ _ _ said _ c.new-hasher.ensures (Passes-trans _ _ _ _ _ _ _ _ header.1 records.2) c.finalize-digest.ensures c.in_ok-read_end.ensures.ok)

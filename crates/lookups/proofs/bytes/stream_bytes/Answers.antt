use Rattle.std.proofs.Common.{◌++◌, ap, ◌∙◌}
use Rattle.stream.specs.Spelling.{spell, guid_number}
use Rattle.lookups.proofs.bytes.stream_bytes.Goals as goal

pub returns-in-Ok-clause-ok : goal.returns-in-Ok-clause-ok
returns-in-Ok-clause-ok c =
    let sending = c.new-stream.ensures ∙ ap (λ rs. record { source = guid_number c.args.source; target = c.args.target.0; records = rs }) c.in_ok-records.ensures.ok in
    c.from.ensures
    ∙ c.in-Ok.ensures.ok
    ∙ ap (λ xs. xs ++ spell c.new-stream.result) (ap (λ v. v.items) c.new-writer.ensures.inner ∙ c.new.ensures.items)
    ∙ ap spell sending

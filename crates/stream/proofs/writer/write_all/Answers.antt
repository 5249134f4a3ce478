use Rattle.std.proofs.lemmas.Result.{on_ok_weaker}
use Rattle.stream.proofs.Streams.{stream_puts}
use Rattle.stream.proofs.writer.write_all.Goals as goal

pub returns : goal.returns
returns g c =
    on_ok_weaker c.write_all.result (λ last. stream_puts _ _ _ _ _ _ _ _ _ _ c.args.stream.now _ c.new-hasher.ensures c.in_ok-put_header.ensures c.in_ok-put_records.ensures c.in_ok-put.ensures c.records.ensures c.finalize-digest.ensures last) c.write_all.ensures.bytes

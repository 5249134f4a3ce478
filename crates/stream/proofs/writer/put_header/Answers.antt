use Rattle.std.proofs.Common.{rules}
use Rattle.std.proofs.lemmas.Result.{on_ok_weaker}
use Rattle.stream.proofs.Streams.{header_puts}
use Rattle.stream.proofs.writer.put_header.Goals as goal

pub returns : goal.returns
returns g c =
    on_ok_weaker c.put-2.result (λ guids. header_puts _ _ _ _ _ _ _ _ c.args.stream.now.source c.args.stream.now.target c.in_ok-put.ensures guids (search rules) (search rules)) c.put-2.ensures

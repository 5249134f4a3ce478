use Rattle.std.proofs.Common.{subst}
use Rattle.std.specs.Io.KnownBytes.{Appends}
use Rattle.std.proofs.lemmas.Result.{on_ok_weaker}
use Rattle.script.proofs.Zeros.{block_line}
use Rattle.script.proofs.text.write_block.Goals as goal

pub returns-clause-line : goal.returns-clause-line
returns-clause-line g c =
    let end = c.end_of-end in
    on_ok_weaker c.put.result
    (λ last. subst (Appends (g.W.Sink.contents c.args.writer.now) (g.W.Sink.contents c.put.new.self))
    (block_line c.args.bytes.now c.put_digits.new.digits end.result end.ensures.within end.ensures.zeros c.put_digits.ensures) last) c.put.ensures.bytes

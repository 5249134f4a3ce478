use Rattle.std.proofs.lemmas.Result.{on_ok_weaker}
use Rattle.image.proofs.Zeros.{all_written}
use Rattle.image.proofs.image.Image.write_to.Goals as goal

pub returns : goal.returns
returns g c =
    on_ok_weaker c.write_zeros.result (λ rest. all_written _ _ _ c.bytes-written.result.now _ _ _ c.block_count.ensures c.bytes-written.ensures.whole c.bytes-written.ensures.within c.bytes-written.ensures.written c.in_ok-write_all.ensures.bytes rest) c.write_zeros.ensures

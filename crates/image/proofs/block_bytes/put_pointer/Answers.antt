use Rattle.std.proofs.Common.{◌≡◌, ◌+◌, ◌*◌, length, ap, ◌∙◌, arith}
use Rattle.image.specs.ImageBlocks.{maybe_block}
use Rattle.image.specs.BlockWrites.{bytes_put}
use Rattle.image.proofs.Pointers.{length-pointer_bytes}
use Rattle.image.proofs.PointerWrites.{put_in}
use Rattle.image.proofs.block_bytes.put_pointer.Goals as goal

pub returns-clause-put : goal.returns-clause-put
returns-clause-put c =
    let len : length c.write_pointer.new.out ≡ 32 = ap length c.write_pointer.ensures ∙ length-pointer_bytes c.args.level (maybe_block c.args.root) in
    put_in c.fill.new.bytes c.deref_mut.result.now c.write_pointer.new.out (512 * c.args.b.0 + 32 * c.args.place) _ 32 c.deref_mut.ensures.value len (omega arith) (omega (arith, c.fill.ensures.long, c.requires.place))
    ∙ (λ i. bytes_put (c.fill.ensures.items i) (512 * c.args.b.0 + 32 * c.args.place) (c.write_pointer.ensures i))

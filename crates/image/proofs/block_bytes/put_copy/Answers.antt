use Rattle.std.proofs.Common.{◌+◌, ◌*◌, length, length-take, drop, sym, ap, ◌∙◌, arith}
use Rattle.image.specs.BlockWrites.{bytes_put}
use Rattle.image.specs.ImageBlocks.{block_at}
use Rattle.image.specs.Image.{padded}
use Rattle.image.proofs.Padded.{block_unwritten, block_filled, length-padded_any}
use Rattle.image.proofs.PointerWrites.{put_in, put_whole}
use Rattle.image.proofs.block_bytes.put_copy.Goals as goal

pub copy_bytes-requires-clause-there : goal.copy_bytes-requires-clause-there
copy_bytes-requires-clause-there c =
    omega (arith, length-padded_any (512 * c.args.b.0 + 512) c.args.written.now.items, c.requires.whole, ap length c.fill.ensures.items, ap length c.deref_mut.ensures.value, c.len.ensures, c.if-source-len.true)

pub returns-then-source-len-clause-put : goal.returns-then-source-len-clause-put
returns-then-source-len-clause-put c =
    let block = block_filled c.args.count c.args.b.0 c.args.from.0 c.args.written.now.items c.requires.whole c.requires.numbers.1
    (omega (arith, ap length c.fill.ensures.items, c.len.ensures, c.if-source-len.true)) in
    put_whole c.fill.new.bytes c.deref_mut.result.now c.copy_bytes.new.bytes (block_at c.deref_mut.result.now c.args.from.0) (512 * c.args.b.0) c.deref_mut.ensures.value c.copy_bytes.ensures
    (omega (arith, length-padded_any (512 * c.args.b.0 + 512) c.args.written.now.items, c.requires.whole, ap length c.fill.ensures.items, ap length c.deref_mut.ensures.value, c.len.ensures, c.if-source-len.true, c.fill.ensures.long, length-take 512 (drop (512 * c.args.from.0) c.deref_mut.result.now)))
    ∙ ap (λ xs. bytes_put c.fill.new.bytes.items (512 * c.args.b.0) (block_at xs c.args.from.0)) c.deref_mut.ensures.value
    ∙ (λ i. bytes_put (c.fill.ensures.items i) (512 * c.args.b.0) (block_at (c.fill.ensures.items i) c.args.from.0))
    ∙ ap (bytes_put (padded (512 * c.args.b.0 + 512) c.args.written.now.items) (512 * c.args.b.0)) block

pub returns-else-source-len-clause-put : goal.returns-else-source-len-clause-put
returns-else-source-len-clause-put c =
    let none = block_unwritten (512 * c.args.count) c.args.written.now.items c.args.from.0 (omega (arith, length-padded_any (512 * c.args.b.0 + 512) c.args.written.now.items, ap length c.fill.ensures.items, c.len.ensures, c.if-source-len.false))
    (omega (arith, c.requires.numbers.0)) in
    let zeros = c.copy_from_slice.ensures.after ∙ sym none in
    put_in c.fill.new.bytes c.deref_mut-else-source-len.result.now c.copy_from_slice.new.self (512 * c.args.b.0) _ 512 c.deref_mut-else-source-len.ensures.value (omega arith) (omega arith) c.fill.ensures.long
    ∙ (λ i. bytes_put (c.fill.ensures.items i) (512 * c.args.b.0) (zeros i))

use Rattle.std.proofs.Common.{◌≡◌, ◌+◌, ◌-◌, ◌*◌, ◌≤◌, ◌++◌, length, drop, sym, ap, ◌∙◌, arith, length-take, length-drop}
use Rattle.std.specs.Prelude.{if◌then◌else◌, vec_len}
use Rattle.image.specs.BlockWrites.{bytes_put}
use Rattle.image.specs.ImageBlocks.{made_bytes}
use Rattle.image.proofs.Padded.{put_behind}
use Rattle.image.proofs.PointerWrites.{put_in}
use Rattle.image.proofs.Pointers.{length-made_bytes}
use Rattle.image.proofs.block_bytes.put_block.Goals as goal

pub returns-2-clause-put : goal.returns-2-clause-put
returns-2-clause-put c =
    let at = 512 * c.args.b.0 in
    let fits : 512 * c.args.b.0 + 512 ≤ length c.deref_mut.result.now = omega (arith, c.fill.ensures.long, ap length c.deref_mut.ensures.value) in
    let len : length c.write_block.new.out ≡ 512 =
    omega (arith, c.write_block.auto.out, fits, length-take (512 * c.args.b.0 + 512 - 512 * c.args.b.0) (drop (512 * c.args.b.0) c.deref_mut.result.now), length-drop (512 * c.args.b.0) c.deref_mut.result.now) in
    put_in c.fill.new.bytes c.deref_mut.result.now c.write_block.new.out (512 * c.args.b.0) _ 512 c.deref_mut.ensures.value len (omega arith) c.fill.ensures.long
    ∙ (λ i. bytes_put (c.fill.ensures.items i) (512 * c.args.b.0) (c.write_block.ensures i))

pub returns-clause-put : goal.returns-clause-put
unfolding made_bytes
returns-clause-put c =
    let len : vec_len c.args.written.now ≡ length c.args.written.now.items = omega (arith, c.args.written.now.ok.0) in
    let end : 512 * c.args.b.0 ≡ length c.args.written.now.items = c.if-at-len.true ∙ c.len.ensures ∙ len in
    let same : c.as_slice.result.now ≡ made_bytes c.args.block.now = c.as_slice.ensures ∙ sym (ap made_bytes c.in-Contents.is) in
    let whole : length (made_bytes c.args.block.now) ≡ 512 = length-made_bytes c.args.block.now c.requires.of_tree in
    let long : length c.as_slice.result.now ≡ 512 = ap length same ∙ whole in
    c.extend_from_slice-longer.ensures.items
    ∙ ap (λ b. if b then c.args.written.now.items ++ c.as_slice.result.now else c.args.written.now.items) (c.extend_from_slice-longer.ensures.succeeds (let r = c.requires.room in omega (arith, r, end, len, long)))
    ∙ ap (λ xs. c.args.written.now.items ++ xs) same
    ∙ sym (put_behind c.args.written.now.items (made_bytes c.args.block.now) (512 * c.args.b.0) (512 * c.args.b.0 + 512) end (omega (arith, whole)))

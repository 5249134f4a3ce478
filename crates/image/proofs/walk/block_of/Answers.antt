use Rattle.std.proofs.Common.{◌≡◌, ◌+◌, ◌-◌, ◌*◌, ◌≤◌, length, take, drop, sym, ap, ◌∙◌, arith}
use Rattle.image.proofs.Padded.{block_written, block_unwritten}
use Rattle.image.proofs.walk.block_of.Goals as goal

pub returns-then-at-written : goal.returns-then-at-written
returns-then-at-written c =
    let size : (512 * c.args.block.0 + 512) - 512 * c.args.block.0 ≡ 512 = omega arith in
    let fits : 512 * c.args.block.0 + 512 ≤ length c.args.written.now = omega (arith, c.requires.whole, c.if-at-written.true) in
    c.copy_from_slice.ensures.after ∙ ap (λ n. take n (drop (512 * c.args.block.0) c.args.written.now)) size ∙ sym (block_written (512 * c.args.count) c.args.written.now c.args.block.0 fits)

pub returns-else-at-written : goal.returns-else-at-written
returns-else-at-written c =
    sym (block_unwritten (512 * c.args.count) c.args.written.now c.args.block.0 (omega (arith, c.if-at-written.false)) (omega (arith, c.requires.there)))

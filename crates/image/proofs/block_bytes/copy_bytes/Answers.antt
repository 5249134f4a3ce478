use Rattle.std.proofs.Common.{◌++◌, take, drop, ap, ◌∙◌, arith}
use Rattle.image.proofs.Copies.{copied_up, copied_down, all_behind}
use Rattle.image.proofs.block_bytes.copy_bytes.Goals as goal

pub returns-then-from-to : goal.returns-then-from-to
returns-then-from-to c =
    let before = c.split_at_mut-before.result.0.now in
    let behind = c.split_at_mut-before.result.1.now in
    copied_up c.args.bytes.now _ _ c.copy_front.new.to c.args.from c.args.to c.split_at_mut-before.ensures.front c.split_at_mut-before.ensures.back (omega (arith, c.requires.apart, c.if-from-to.true)) c.requires.within
    (c.copy_front.ensures ∙ ap (λ xs. take 512 xs ++ drop 512 behind) (all_behind before c.args.from))

pub returns-else-from-to : goal.returns-else-from-to
returns-else-from-to c =
    let before = c.split_at_mut-before-else-from-to.result.0.now in
    let behind = c.split_at_mut-before-else-from-to.result.1.now in
    copied_down c.args.bytes.now _ _ c.copy_front-else-from-to.new.to c.args.from c.args.to c.split_at_mut-before-else-from-to.ensures.front c.split_at_mut-before-else-from-to.ensures.back (omega (arith, c.requires.apart, c.if-from-to.false)) c.requires.there
    (c.copy_front-else-from-to.ensures ∙ ap (λ xs. take 512 behind ++ drop 512 xs) (all_behind before c.args.to))

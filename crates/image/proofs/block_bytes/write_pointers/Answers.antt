use Rattle.std.proofs.Common.{arith}
use Rattle.image.proofs.PointerWrites.{no_pointers, pointers_more, pointers_all}
use Rattle.image.proofs.block_bytes.write_pointers.Goals as goal

pub loop-place-init : goal.loop-place-init
loop-place-init c = no_pointers c.args.level

pub loop-place-preserved : goal.loop-place-preserved
loop-place-preserved c =
    pointers_more c.args.level c.loop-place.place _ c.loop-place.out _ c.args.roots.now _ (omega (arith, c.told-roots)) (omega arith) c.loop-place.invariant c.write_pointer.ensures

pub returns : goal.returns
returns c = pointers_all c.args.level c.loop-place.place c.loop-place.out c.args.roots.now c.told-roots (omega arith) c.loop-place-test.false c.loop-place.invariant

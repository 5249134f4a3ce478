-- the pointers before a place are written
use Rattle.std.proofs.Common.{◌≡◌, ◌*◌, take, map}
use Rattle.image.specs.ImageBlocks.{pointers_bytes, maybe_block}
use Rattle.image.proofs.block_bytes.write_pointers.Given as goal

abbrev pub invariant-loop-place : goal.invariant-loop-place
invariant-loop-place l = take (32 * l.place) l.out ≡ pointers_bytes l.level (map maybe_block (take l.place l.roots))

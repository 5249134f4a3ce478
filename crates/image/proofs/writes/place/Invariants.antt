-- the new blocks so far are on the path
use Rattle.std.proofs.Common.{◌≡◌, length, take}
use Rattle.image.specs.PathWrites.{block_on}
use Rattle.image.specs.Writes.{ArePlaced}
use Rattle.image.proofs.writes.place.Given as goal

abbrev pub invariant-loop-new : goal.invariant-loop-new
invariant-loop-new l = record { placed : ArePlaced l.group.0 (take l.new-index l.made) (block_on l.path); long : length l.path ≡ 6 }

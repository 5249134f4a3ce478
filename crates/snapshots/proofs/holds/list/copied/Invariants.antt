use Rattle.std.proofs.Common.{◌≡◌, take}
use Rattle.snapshots.specs.Tags.{texts}
use Rattle.snapshots.proofs.holds.list.copied.Given as goal

-- the copies so far
abbrev pub invariant-loop-tag : goal.invariant-loop-tag
invariant-loop-tag l = texts l.copies.keys ≡ texts (take l.tag-index l.tags)

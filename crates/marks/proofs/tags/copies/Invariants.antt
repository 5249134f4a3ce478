use Rattle.std.proofs.Common.{◌≡◌, take}
use Rattle.snapshots.specs.Tags.{texts}
use Rattle.marks.proofs.tags.copies.Given as goal

-- the copies so far
abbrev pub invariant-loop-tag : goal.invariant-loop-tag
invariant-loop-tag l = l.names.items ≡ texts (take l.tag-index l.tags)

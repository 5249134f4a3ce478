use Rattle.std.proofs.Common.{◌≡◌, map, take}
use Rattle.receives.specs.Updates.{record_of}
use Rattle.receives.proofs.updates.updates_of.Given as goal

-- the updates so far do what the records so far do
abbrev pub invariant-loop-record : goal.invariant-loop-record
invariant-loop-record l = map record_of l.updates.items ≡ take l.record-index l.records

use Rattle.std.proofs.Common.{◌≡◌, ◌++◌, map}
use Rattle.base.specs.Names.{snap_text}
use Rattle.lookups.proofs.names.push_snapshots.Given as goal

-- the names of the snapshots so far
abbrev pub invariant-loop-kept : goal.invariant-loop-kept
invariant-loop-kept l =
    l.names.items ≡ l.initial.names.items ++ map (λ t. snap_text (record { file_system = l.name; component = t.now.snapshot.name })) l.yielded

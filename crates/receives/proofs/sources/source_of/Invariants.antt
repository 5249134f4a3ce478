use Rattle.std.proofs.Common.{◌≡◌, Bor, None, map}
use Rattle.std.specs.Prelude.{◌==◌}
use Rattle.std.specs.List.{filter, last_or}
use Rattle.std.specs.Option.{option_copied}
use Rattle.snapshots.specs.declared.kept.Kept.{Kept}
use Rattle.receives.proofs.sources.source_of.Given as goal

-- the last of those so far that have the guid
abbrev pub invariant-loop-kept : goal.invariant-loop-kept
invariant-loop-kept l = option_copied l.source ≡ last_or None (filter (λ t. t.guid == l.guid.0) (map (λ (x : Bor Kept). x.now.snapshot) l.yielded))

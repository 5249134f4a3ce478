use Rattle.std.proofs.Common.{◌≡◌, ◌<◌, ◌≤◌, ◌^◌, map, take}
use Rattle.std.specs.Option.{unwrap_or}
use Rattle.std.specs.Arc.{arc_value}
use Rattle.std.specs.List.{All}
use Rattle.limits.specs.Charges.{fresh}
use Rattle.limits.specs.Rows.{account_at}
use Rattle.limits.proofs.charging.refill.Given as goal

abbrev pub invariant-loop-file_system : goal.invariant-loop-file_system
invariant-loop-file_system l = record {
  got : l.lines.items ≡ map fresh (map account_at (map arc_value (take l.file_system-index l.file_systems)));
  kept : l.lines.cap ≡ l.fn.lines.cap;
  modest : All (λ a. unwrap_or a.limits.reservation 0 ≤ 2 ^ 40) (map account_at (map arc_value (take l.file_system-index l.file_systems)));
  small : All (λ a. a.here < 2 ^ 42) (map account_at (map arc_value (take l.file_system-index l.file_systems)));
}

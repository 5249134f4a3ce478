use Rattle.std.proofs.Common.{◌≡◌, ◌≤◌, map, take}
use Rattle.std.specs.List.{flat_map}
use Rattle.datasets.specs.Rows.{entry_in}
use Rattle.image.specs.Roots.{shown_root, own_roots}
use Rattle.image.proofs.roots.roots_of.Given as goal

-- the roots so far, and no count is lower
abbrev pub invariant-loop-file_system : goal.invariant-loop-file_system
invariant-loop-file_system l = (map shown_root l.roots.items ≡ flat_map own_roots (map entry_in (take l.file_system-index l.file_systems))) × (l.fn.meter ≤ l.meter)

use Rattle.std.proofs.Common.{true, map, take}
use Rattle.datasets.specs.Rows.{entry_in}
use Rattle.marks.proofs.Naming.{IsUpto}
use Rattle.marks.proofs.renaming.renamed_copy.Given as goal

-- the snapshots of the file systems so far have their new names
abbrev pub invariant-loop-file_system : goal.invariant-loop-file_system
invariant-loop-file_system l = IsUpto l.table l.name l.to true (map entry_in (take l.file_system-index l.file_system-items)) l.copy

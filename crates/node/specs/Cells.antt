-- What a cell of the program stands for, and the block that a cell has.
use Rattle.std.specs.Prelude.{[], unwrap_or}
use Rattle.std.specs.Option.{option_copied}
use Rattle.base.specs.declared.number.Dead.{Dead}
use Rattle.base.specs.Map.{Cell}
use Rattle.node.specs.declared.cell.Cell.{Cell as Found}

-- a block with its contents; no bytes stand for none (On-Disk Specification, chapter 2)
abbrev pub cell_of : Found → Cell
cell_of c = record { number = c.block.0; birth = c.birth.0; bytes = unwrap_or (option_copied c.bytes) [] }

-- the block of a cell (On-Disk Specification, chapter 2)
abbrev pub dead_of : Cell → Dead
dead_of c = record { block = record { 0 = c.number }; birth = record { 0 = c.birth } }

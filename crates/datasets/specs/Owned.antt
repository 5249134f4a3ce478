-- What a row is once the borrow of its file system has ended.
use Rattle.std.specs.Prelude.{◌≡◌, Result}
use Rattle.std.specs.Arc.{arc_value}
use Rattle.std.specs.Borrow.{Fml, LendsSoOk, MutBor, RattleType}
use Rattle.std.specs.contracts.alloc.Global as global
use Rattle.std.specs.contracts.impls.GlobalAllocator.TheImpl.{ghosts}
use Rattle.std.specs.contracts.sync.Arc as arc
use Rattle.std.specs.declared.alloc.Global.{Global}
use Rattle.std.specs.declared.sync.Arc.{Arc}
use Rattle.file_system.specs.Rows.{Row}
use Rattle.file_system.specs.contracts.file_system.FileSystem.{the_row}

-- an owner of a file system, as the logic holds it (profile)
abbrev pub row_type : RattleType
row_type = arc.the_row the_row global.the_row ghosts

-- the row owns the last file system behind r, and at `Err` the one that it owned (profile)
abbrev pub LendsRow : MutBor (Arc Row Global) → {E : Type 0} → Result (MutBor Row) E → Fml
LendsRow row r = LendsSoOk row_type the_row row r (λ n w. arc_value n ≡ w) (λ n. arc_value n ≡ arc_value row.now)

-- What becomes of snapshots that are changed where they are, or in a copy that comes to their place.
use Rattle.std.specs.Prelude.{◌≡◌, List, Result}
use Rattle.std.specs.Arc.{arc_value}
use Rattle.std.specs.Borrow.{RattleType, MutBor, Fml, LendsSoOk}
use Rattle.std.specs.declared.sync.Arc.{Arc}
use Rattle.std.specs.declared.alloc.Global.{Global}
use Rattle.std.specs.contracts.alloc.Global as global
use Rattle.std.specs.contracts.sync.Arc as arc
use Rattle.std.specs.contracts.impls.GlobalAllocator.TheImpl.{ghosts}
use Rattle.snapshots.specs.contracts.snapshot_list.SnapshotList as snapshot_list
use Rattle.snapshots.specs.declared.kept.Kept.{Kept}

-- an owner of snapshots, as the logic holds it (profile)
abbrev pub owner_row : RattleType
owner_row = arc.the_row snapshot_list.the_row global.the_row ghosts

-- the owner ends with what was left behind the borrow, and where there is none with what it had (profile)
abbrev pub LendsLine : {E : Type 0} → MutBor (Arc (List Kept) Global) → Result (MutBor (List Kept)) E → Fml
LendsLine a r = LendsSoOk owner_row snapshot_list.the_row a r (λ n w. arc_value n ≡ w) (λ n. arc_value n ≡ arc_value a.now)

use Rattle.std.proofs.Common.{◌≡◌, List, [], ◌∷◌, map, length, Some, refl, sym, ap, subst, arith}
use Rattle.std.specs.Prelude.{◌==◌, IsSome}
use Rattle.std.specs.List.{find}
use Rattle.model.specs.Ids.{snap_id}
use Rattle.model.specs.World.{Snap}
use Rattle.datasets.specs.Table.{IsTable}
use Rattle.base.specs.Map.{blocks}
use Rattle.datasets.specs.Splices.{lost_from}
use Rattle.datasets.specs.CloneNames.{name_of}
use Rattle.datasets.specs.Clones.{CloneName}
use Rattle.lookups.specs.Alone.{struck}
use Rattle.lookups.proofs.Places.{stands_above}
use Rattle.lookups.proofs.Struck.{group_there, alone_counted, above_all}
use Rattle.lookups.proofs.space.snapshot.count_alone.Goals as goal

no_name : (cs : List CloneName) → length cs ≡ 0 → map name_of cs ≡ []
no_name [] e = refl
no_name (c ∷ cs) e = absurd (omega (arith, e))

pub alone_count-requires-clause-there : goal.alone_count-requires-clause-there
alone_count-requires-clause-there c =
    let sound : IsTable c.args.table.now = record { systems = c.facts.ensures.good; numbers = c.facts.ensures.numbers } in
    subst (λ n. IsSome (find (λ (v : Snap). v.group == n) c.args.file_system.now.system.snaps)) (sym c.group-group.ensures)
    (group_there c.args.table.now sound c.args.file_system.now.name c.args.file_system.now.system c.requires.at c.args.snapshot.now c.requires.snap)

pub alone_count-requires-clause-above : goal.alone_count-requires-clause-above
alone_count-requires-clause-above c =
    let sound : IsTable c.args.table.now = record { systems = c.facts.ensures.good; numbers = c.facts.ensures.numbers } in
    stands_above c.args.table.now sound c.args.file_system.now (Some c.args.snapshot.now) c.requires

pub alone-requires-clause-there : goal.alone-requires-clause-there
alone-requires-clause-there c =
    let sound : IsTable c.args.table.now = record { systems = c.facts.ensures.good; numbers = c.facts.ensures.numbers } in
    subst (λ n. IsSome (find (λ (v : Snap). v.group == n) c.args.file_system.now.system.snaps)) (sym c.group-group.ensures)
    (group_there c.args.table.now sound c.args.file_system.now.name c.args.file_system.now.system c.requires.at c.args.snapshot.now c.requires.snap)

pub alone-requires-clause-above : goal.alone-requires-clause-above
alone-requires-clause-above c =
    let sound : IsTable c.args.table.now = record { systems = c.facts.ensures.good; numbers = c.facts.ensures.numbers } in
    stands_above c.args.table.now sound c.args.file_system.now (Some c.args.snapshot.now) c.requires

pub returns-then-clones-eq0-clause-ok : goal.returns-then-clones-eq0-clause-ok
returns-then-clones-eq0-clause-ok c =
    let sound : IsTable c.args.table.now = record { systems = c.facts.ensures.good; numbers = c.facts.ensures.numbers } in
    let s = lost_from (blocks c.args.file_system.now.below) c.args.file_system.now.system.snaps c.args.file_system.now.system.live c.group-group.result.0 in
    alone_counted c.args.table.now sound c.args.file_system.now c.args.snapshot.now c.requires c.group-group.result.0 c.group-group.ensures
    (map name_of c.clones_of-clones.result.now) (snap_id c.id.result) c.id.ensures c.clones_of-clones.ensures s refl
    s (ap (struck c.args.table.now s) (sym (no_name c.clones_of-clones.result.now c.if-clones-eq0.true))) c.alone_count.result c.alone_count.ensures.count

pub remove_all_of_clones-requires : goal.remove_all_of_clones-requires
remove_all_of_clones-requires c n i =
    let sound : IsTable c.args.table.now = record { systems = c.facts.ensures.good; numbers = c.facts.ensures.numbers } in
    above_all c.args.table.now sound c.args.file_system.now c.args.snapshot.now c.requires c.group-group.result.0 c.group-group.ensures
    (map name_of c.clones_of-clones.result.now) (snap_id c.id.result) c.id.ensures c.clones_of-clones.ensures c.in_ok-alone.alone c.in_ok-alone.ensures.ok n i

pub returns-clause-ok : goal.returns-clause-ok
returns-clause-ok c =
    let sound : IsTable c.args.table.now = record { systems = c.facts.ensures.good; numbers = c.facts.ensures.numbers } in
    alone_counted c.args.table.now sound c.args.file_system.now c.args.snapshot.now c.requires c.group-group.result.0 c.group-group.ensures
    (map name_of c.clones_of-clones.result.now) (snap_id c.id.result) c.id.ensures c.clones_of-clones.ensures c.in_ok-alone.alone c.in_ok-alone.ensures.ok
    c.remove_all_of_clones.new.alone c.in_ok-remove_all_of_clones.ensures.ok c.len.result c.len.ensures

use Rattle.std.proofs.Common.{map, sym, ap, subst, ◌∙◌, arith}
use Rattle.std.specs.FinMap.{get}
use Rattle.std.specs.Option.{option_copied}
use Rattle.world.specs.Sets.{Has}
use Rattle.world.specs.Blocks.{block_order as o}
use Rattle.world.proofs.lists.SetCounts.{from_difference}
use Rattle.datasets.specs.Table.{IsTable}
use Rattle.datasets.specs.Splices.{oldest_blocks}
use Rattle.datasets.specs.CloneNames.{name_of}
use Rattle.datasets.proofs.Holders.{found_place}
use Rattle.lookups.specs.Alone.{struck}
use Rattle.lookups.proofs.Struck.{item_in, strikes, clone_below, clone_there}
use Rattle.lookups.proofs.space.snapshot.remove_all_of_clones.Goals as goal

pub unreachable-requires : goal.unreachable-requires
unreachable-requires c =
    let n = name_of c.clone-item.result in
    clone_there c.args.table.now c.args.alone.now n c.name.result.now (ap (λ x. option_copied x) (sym c.in_default.is) ∙ c.find.ensures) c.name.ensures
    (c.requires n (item_in name_of c.args.clones.now c.loop-clone.clone-index c.clone-item.result c.loop-clone-test.true c.clone-item.is))

pub strike-requires : goal.strike-requires
strike-requires c b h =
    let n = name_of c.clone-item.result in
    clone_below c.args.table.now c.args.alone.now n c.name.result.now c.in-Some.file_system.now (ap (λ x. option_copied x) (sym c.in-Some.is) ∙ c.find.ensures) c.name.ensures
    (c.requires n (item_in name_of c.args.clones.now c.loop-clone.clone-index c.clone-item.result c.loop-clone-test.true c.clone-item.is)) b (c.loop-clone.invariant.within b h)

pub loop-clone-preserved : goal.loop-clone-preserved
loop-clone-preserved c =
    let sound : IsTable c.args.table.now = record { systems = c.facts.ensures.good; numbers = c.facts.ensures.numbers } in
    let p = found_place c.args.table.now c.name.result.now c.in-Some.file_system.now (ap (λ x. option_copied x) (sym c.in-Some.is) ∙ c.find.ensures) in
    let is = c.in_ok-strike.ensures.ok in
    record {
      so_far = strikes c.args.table.now sound name_of c.args.clones.now c.loop-clone.clone-index c.clone-item.result c.loop-clone-test.true c.clone-item.is
          (struck c.args.table.now c.args.alone.now (map name_of c.args.clones.now)) c.loop-clone.alone c.strike.new.alone c.loop-clone.invariant.so_far
          c.in-Some.file_system.now.system (ap (get c.args.table.now.file_systems) (sym c.name.ensures) ∙ p.0) is;
      within = λ b h. c.loop-clone.invariant.within b (from_difference o c.loop-clone.alone (oldest_blocks c.in-Some.file_system.now.system.live c.in-Some.file_system.now.system.snaps) b (subst (λ s. Has s b) is h)).0;
      never_lower = omega (arith, c.loop-clone.invariant.never_lower, c.in_ok-strike.ensures.never_lower);
    }

use Rattle.std.proofs.Common.{◌≡◌, ◌+◌, ℕ, drop, sym, ap, ◌∙◌, subst, add-zero, add_assoc, arith, refl}
use Rattle.base.specs.declared.name.member.Member.{Member}
use Rattle.model.specs.requests.Snapshot.{guid_by, with_snapshots}
use Rattle.datasets.specs.Rows.{live_of, plain_snap}
use Rattle.datasets.specs.Snapshots.{with_snap_at}
use Rattle.world.specs.Tables.{Datasets, CanSnap, world_of}
use Rattle.snap.proofs.Rests.{next_left}
use Rattle.snap.proofs.Turns.{IsTaking, closed_world, starts_taking, can_snap, taking_after, rest_after, group_after}
use Rattle.snap.proofs.take.take_all.Goals as goal

pub loop-place-init : goal.loop-place-init
loop-place-init c =
    let closed : c.close_group.new.self ≡ record { file_systems = c.args.table.now.file_systems; group = c.args.table.now.group + 1 } =
    c.close_group.ensures ∙ (λ j. record { file_systems = (c.in_ok-to.ensures.ok j).file_systems; group = (c.in_ok-to.ensures.ok j).group + 1 }) in
    record {
      taking = subst (λ (x : Datasets). IsTaking (closed_world x c.args.table.now.group) (guid_by c.args.guids.pool c.args.guids.next + 0) c.args.all.now) (sym closed)
          (starts_taking (world_of c.args.table.now) (guid_by c.args.guids.pool c.args.guids.next + 0) c.args.all.now c.facts.ensures.good c.requires.takable);
      rest = λ j. (with_snapshots (closed_world (closed j) c.args.table.now.group) (add-zero (guid_by c.args.guids.pool c.args.guids.next) j) c.args.all.now).file_systems;
      group = ap (λ (x : Datasets). x.group) closed;
    }

pub take_snapshot-requires : goal.take_snapshot-requires
take_snapshot-requires c =
    let left = next_left c.args.all.now c.loop-place.place c.index-all-place.result c.loop-place-test.true c.index-all-place.is in
    let is = subst (λ l. IsTaking (closed_world c.loop-place.to c.args.table.now.group) (guid_by c.args.guids.pool c.args.guids.next + c.loop-place.place) l) left c.loop-place.invariant.taking in
    let guid_is : guid_by c.args.guids.pool c.args.guids.next + c.loop-place.place ≡ c.guid_at-guid.result.0 = omega (arith, c.guid_at-guid.ensures) in
    let base = can_snap (closed_world c.loop-place.to c.args.table.now.group) (guid_by c.args.guids.pool c.args.guids.next + c.loop-place.place) c.index-all-place.result _ is c.loop-place.to refl c.loop-place.invariant.group in
    subst (λ (y : Member). CanSnap c.loop-place.to y.file_system (plain_snap y.component (live_of c.loop-place.to.file_systems y.file_system) c.guid_at-guid.result.0 c.group-group.result.0)) (sym c.name.view_is)
    (subst (λ (n : ℕ). CanSnap c.loop-place.to c.index-all-place.result.file_system (plain_snap c.index-all-place.result.component (live_of c.loop-place.to.file_systems c.index-all-place.result.file_system) n c.group-group.result.0)) guid_is
    (subst (λ (n : ℕ). CanSnap c.loop-place.to c.index-all-place.result.file_system (plain_snap c.index-all-place.result.component (live_of c.loop-place.to.file_systems c.index-all-place.result.file_system) (guid_by c.args.guids.pool c.args.guids.next + c.loop-place.place) n)) (sym c.group-group.ensures) base))

pub loop-place-preserved : goal.loop-place-preserved
loop-place-preserved c =
    let left = next_left c.args.all.now c.loop-place.place c.index-all-place.result c.loop-place-test.true c.index-all-place.is in
    let is = subst (λ l. IsTaking (closed_world c.loop-place.to c.args.table.now.group) (guid_by c.args.guids.pool c.args.guids.next + c.loop-place.place) l) left c.loop-place.invariant.taking in
    let guid_is : c.guid_at-guid.result.0 ≡ guid_by c.args.guids.pool c.args.guids.next + c.loop-place.place = omega (arith, c.guid_at-guid.ensures) in
    let made : c.take_snapshot.new.self ≡ with_snap_at c.loop-place.to c.index-all-place.result.file_system c.index-all-place.result.component (guid_by c.args.guids.pool c.args.guids.next + c.loop-place.place) c.args.table.now.group =
    c.in_ok-take_snapshot.ensures.ok ∙ (λ j. with_snap_at c.loop-place.to (c.name.view_is j).file_system (c.name.view_is j).component (guid_is j) (c.group-group.ensures j)) in
    let later : guid_by c.args.guids.pool c.args.guids.next + c.loop-place.place + 1 ≡ guid_by c.args.guids.pool c.args.guids.next + (c.loop-place.place + 1) = add_assoc (guid_by c.args.guids.pool c.args.guids.next) c.loop-place.place 1 in
    record {
      taking = subst (λ (n : ℕ). IsTaking (closed_world c.take_snapshot.new.self c.args.table.now.group) n (drop (c.loop-place.place + 1) c.args.all.now)) later
          (taking_after c.loop-place.to c.args.table.now.group (guid_by c.args.guids.pool c.args.guids.next + c.loop-place.place) c.index-all-place.result _ is c.loop-place.invariant.group c.take_snapshot.new.self made);
      rest = ap (λ (n : ℕ). (with_snapshots (closed_world c.take_snapshot.new.self c.args.table.now.group) n (drop (c.loop-place.place + 1) c.args.all.now)).file_systems) (sym later)
          ∙ ap (λ w. w.file_systems) (rest_after c.loop-place.to c.args.table.now.group (guid_by c.args.guids.pool c.args.guids.next + c.loop-place.place) c.index-all-place.result _ is c.loop-place.invariant.group c.take_snapshot.new.self made)
          ∙ ap (λ l. (with_snapshots (closed_world c.loop-place.to c.args.table.now.group) (guid_by c.args.guids.pool c.args.guids.next + c.loop-place.place) l).file_systems) (sym left)
          ∙ c.loop-place.invariant.rest;
      group = group_after c.loop-place.to c.args.table.now.group (guid_by c.args.guids.pool c.args.guids.next + c.loop-place.place) c.index-all-place.result _ is c.loop-place.invariant.group c.take_snapshot.new.self made;
    }

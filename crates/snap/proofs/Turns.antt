-- Snapshots of one request, one after another.
use Rattle.std.proofs.Common.{◌≡◌, ℕ, ◌+◌, ◌<◌, List, [], ◌∷◌, ◌++◌, refl, sym, ap, subst, ◌∙◌, inl, inr, arith}
use Rattle.std.specs.Option.{option_map_or}
use Rattle.std.specs.FinMap.{insert}
use Rattle.std.specs.FinMap as finmap
use Rattle.std.specs.FinSet.{empty}
use Rattle.base.specs.declared.name.member.Member.{Member}
use Rattle.base.specs.Surveys.{IsIn}
use Rattle.model.specs.World.{World, FileSystem, Live, id_of}
use Rattle.model.specs.requests.Snapshot.{snap_of_live, with_snapshot, with_snapshots}
use Rattle.datasets.specs.Rows.{live_of, plain_snap, with_snap}
use Rattle.datasets.specs.Snapshots.{with_snap_at}
use Rattle.world.specs.Shapes.{Name}
use Rattle.world.specs.Worlds.{FileSystems, snap_shape, shape_of, shapes, AreFileSystems}
use Rattle.world.specs.Tables.{Datasets, CanSnap, world_of, with_system}
use Rattle.world.specs.Takings.{AreTakable}
use Rattle.world.proofs.lineage.Moves.{raised}
use Rattle.world.proofs.lineage.Requests.{lineage_facts}
use Rattle.world.proofs.lineage.Bridge.{shape_at, among, live_row, live_there}
use Rattle.world.proofs.lineage.Put.{put_other}
use Rattle.world.proofs.steps.Groups.{raise_systems}
use Rattle.world.proofs.lineage.Dead.{row_base}
use Rattle.world.proofs.steps.SnapshotLists.{IsReady, AreIdsBelow, here, r, fresh, good', below', ready'}

-- these may be taken one after another, in the group of the world, which is closed, with guids from this one on
pub record IsTaking (w : World) (guid : ℕ) (ms : List Member) : Type 0 where
  pub systems : AreFileSystems w.file_systems (w.group + 1)
  pub can : AreTakable w.file_systems ms
  pub below : AreIdsBelow w.file_systems w.group guid
  pub ready : (k : Member) → IsIn ms k → IsReady w.file_systems w.group k.file_system

-- the world of a table whose group has been closed
abbrev pub closed_world : Datasets → ℕ → World
closed_world t group = record { file_systems = t.file_systems; freeing = empty; group = group }

takable_put : (ss : FileSystems) (name : Name) (x : FileSystem) (ms : List Member) → ((k : Member) → IsIn ms k → k.file_system ≡ name → ⊥) → AreTakable ss ms → AreTakable (insert ss name x) ms
takable_put ss name x [] apart can = tt
takable_put ss name x (m ∷ ms) apart can = (
  (can.0.0, put_other ss name x m.file_system (apart m (inl refl)) ∙ can.0.1, can.0.2),
  can.1,
  takable_put ss name x ms (λ k i. apart k (inr i)) can.2,
)

pub starts_taking : (w : World) (guid : ℕ) (ms : List Member) → AreFileSystems w.file_systems w.group → AreTakable w.file_systems ms → IsTaking w guid ms
starts_taking w guid ms good can = record {
  systems = raise_systems w.file_systems w.group (w.group + 1) good (omega arith);
  can = can;
  below = λ q e u is i. inl ((lineage_facts (shapes w.file_systems) w.group good.lines).1 (id_of u) (snap_shape u) (q, shape_of e, shape_at w.file_systems q e is, among e.snaps u i, refl));
  ready = λ m i n h.
      let k = raised (shapes w.file_systems) w.group (w.group + 1) good.lines (omega arith) (w.group + 1) w.group (Live m.file_system) n h in
      let x = good.lines.facts.sound (Live m.file_system) (record n { group = w.group }) k in
      (x.falls, x.born);
}

module _ (w : World) (guid : ℕ) (m : Member) (ms : List Member) (is : IsTaking w guid (m ∷ ms)) where
  pub after_is : with_snapshot w m guid ≡ record w { file_systems = insert w.file_systems m.file_system (record is.can.0.0 { snaps = is.can.0.0.snaps ++ snap_of_live w is.can.0.0 m.component guid ∷ [] }) }
  after_is = ap (λ x. option_map_or (λ (s : FileSystem). record w { file_systems = insert w.file_systems m.file_system (record s { snaps = s.snaps ++ snap_of_live w s m.component guid ∷ [] }) }) x w) is.can.0.1

  pub keeps_taking : IsTaking (with_snapshot w m guid) (guid + 1) ms
  keeps_taking = subst (λ (x : World). IsTaking x (guid + 1) ms) (sym after_is) (record {
    systems = good' m ms guid w is.systems is.can is.below is.ready;
    can = takable_put w.file_systems m.file_system (record is.can.0.0 { snaps = is.can.0.0.snaps ++ snap_of_live w is.can.0.0 m.component guid ∷ [] }) ms is.can.1 is.can.2;
    below = below' m ms guid w is.systems is.can is.below is.ready;
    ready = ready' m ms guid w is.systems is.can is.below is.ready;
  })

  module _ (t : Datasets) (same : t.file_systems ≡ w.file_systems) (next : t.group ≡ w.group + 1) where
    table_is : t ≡ record { file_systems = w.file_systems; group = w.group + 1 }
    table_is = λ i. record { file_systems = same i; group = next i }

    pub can_snap : CanSnap t m.file_system (plain_snap m.component (live_of t.file_systems m.file_system) guid w.group)
    can_snap = subst (λ (x : Datasets). CanSnap x m.file_system (plain_snap m.component (live_of x.file_systems m.file_system) guid w.group)) (sym table_is) (record {
      system = is.can.0.0;
      there = is.can.0.1;
      map_is = ap (λ x. option_map_or (λ (f : FileSystem). f.live) x finmap.empty) is.can.0.1;
      fresh = fresh m ms guid w is.systems is.can is.below is.ready;
      new_name = is.can.0.2;
      closed = (r m ms guid w is.systems is.can is.below is.ready).1;
      above = subst (λ (b : ℕ). b < w.group)
          (row_base (world_of (record { file_systems = w.file_systems; group = w.group + 1 })) (w.group + 1) is.systems.lines (Live m.file_system) (live_row w.file_systems (w.group + 1) is.systems.lines m.file_system is.can.0.0 (here m ms guid w is.systems is.can is.below is.ready)) (live_there w.file_systems (w.group + 1) is.systems.lines m.file_system is.can.0.0 (here m ms guid w is.systems is.can is.below is.ready)))
          (r m ms guid w is.systems is.can is.below is.ready).0;
      opens = omega arith;
    })

    -- the table with the snapshot
    pub snapped : with_snap_at t m.file_system m.component guid w.group ≡ record t { file_systems = (with_snapshot w m guid).file_systems }
    snapped =
        ap (λ (x : Datasets). with_snap_at x m.file_system m.component guid w.group) table_is
        ∙ ap (λ x. option_map_or (λ (f : FileSystem). with_system (record { file_systems = w.file_systems; group = w.group + 1 }) m.file_system (with_snap f m.component guid w.group)) x (record { file_systems = w.file_systems; group = w.group + 1 })) is.can.0.1
        ∙ (λ i. record { file_systems = (sym after_is i).file_systems; group = sym next i })

module _ (t : Datasets) (g guid : ℕ) (m : Member) (ms : List Member) (is : IsTaking (closed_world t g) guid (m ∷ ms)) (next : t.group ≡ g + 1)
    (new : Datasets) (made : new ≡ with_snap_at t m.file_system m.component guid g) where
  new_is : new ≡ record t { file_systems = (with_snapshot (closed_world t g) m guid).file_systems }
  new_is = made ∙ snapped (closed_world t g) guid m ms is t refl next

  world_after : closed_world new g ≡ with_snapshot (closed_world t g) m guid
  world_after = λ i. record {
    file_systems = (new_is i).file_systems;
    freeing = (sym (after_is (closed_world t g) guid m ms is) i).freeing;
    group = (sym (after_is (closed_world t g) guid m ms is) i).group;
  }

  pub taking_after : IsTaking (closed_world new g) (guid + 1) ms
  taking_after = subst (λ (x : World). IsTaking x (guid + 1) ms) (sym world_after) (keeps_taking (closed_world t g) guid m ms is)

  pub rest_after : with_snapshots (closed_world new g) (guid + 1) ms ≡ with_snapshots (closed_world t g) guid (m ∷ ms)
  rest_after = ap (λ (x : World). with_snapshots x (guid + 1) ms) world_after

  pub group_after : new.group ≡ g + 1
  group_after = ap (λ (x : Datasets). x.group) new_is ∙ next

-- A request takes several snapshots: the group is closed, and each file system that is named has one more.
use Rattle.std.proofs.Common.{◌≡◌, ℕ, ◌+◌, ◌<◌, ◌≤◌, List, [], ◌∷◌, ◌++◌, Some, refl, sym, ap, subst, ◌∙◌, ◌⊎◌, inl, inr, ⊎_elim, map, arith}
use Rattle.std.specs.Option.{option_map_or}
use Rattle.std.specs.FinMap.{get, insert}
use Rattle.base.specs.declared.name.member.Member.{Member}
use Rattle.base.specs.Map.{Block, blocks}
use Rattle.base.specs.Surveys.{IsIn}
use Rattle.model.specs.World.{World, FileSystem, Snap, SnapId, Dataset, Live, id_of, union_of}
use Rattle.model.specs.Edits.{with_next_group}
use Rattle.world.specs.Sets.{Has}
use Rattle.world.specs.Blocks.{block_order as o}
use Rattle.world.specs.Lineage.{Row}
use Rattle.world.specs.Shapes.{Name, before_live, lineages}
use Rattle.world.specs.Worlds.{FileSystems, snap_shape, shape_of, shapes, AreFileSystems, IsWorld, ArePaired, AreMapsFrom}
use Rattle.world.specs.Outcomes.{snap_of_live, with_snapshots}
use Rattle.world.specs.Takings.{AreTakable}
use Rattle.world.proofs.lists.SetCounts.{same_members}
use Rattle.world.proofs.lists.Maps.{same_value}
use Rattle.world.proofs.lineage.Moves.{raised}
use Rattle.world.proofs.lineage.Replace.{same_live, live_or_snap}
use Rattle.world.proofs.lineage.Requests.{lineage_facts}
use Rattle.world.proofs.lineage.Bridge.{shape_at, among, start, live_row, live_there}
use Rattle.world.proofs.lists.Finding.{in_left, in_either}
use Rattle.world.proofs.changes.Views.{AreSnapsIn, snaps_in_put}
use Rattle.world.proofs.lineage.Put.{put_other, put_cases}
use Rattle.world.proofs.changes.Drawn.{union_from}
use Rattle.world.proofs.steps.Groups.{same_maps, raise_systems}
use Rattle.world.proofs.steps.Snapshots.{take_systems, taken_from, taken_back, step}
use Rattle.world.proofs.changes.Kept.{world_same, pair_same, fewer_blocks}

pub maps_through : (a b c : FileSystems) → AreMapsFrom a b → AreMapsFrom b c → AreMapsFrom a c
maps_through a b c f k name s m at h = ⊎_elim inl (λ r. f r.0 r.1 m r.2 r.3) (k name s m at h)

-- what is still to be snapped: a live map that was born by g, after a dataset of a lower group
abbrev pub IsReady : FileSystems → ℕ → Name → Type 0
IsReady ss g name = (n : Row Dataset) → lineages (shapes ss) (g + 1) (Live name) n → (n.base < g) × ((b : Block) → Has n.blocks b → b.birth ≤ g)

-- the identities that a request makes from here on are new
abbrev pub AreIdsBelow : FileSystems → ℕ → ℕ → Type 0
AreIdsBelow ss g guid = (q : Name) (e : FileSystem) (u : Snap) → get ss q ≡ Some e → IsIn e.snaps u → (u.group < g) ⊎ ((u.group ≡ g) × (u.guid < guid))

record IsTakenFrom (w new : World) : Type 0 where
  systems : AreFileSystems new.file_systems (w.group + 1)
  from : AreMapsFrom w.file_systems new.file_systems
  back : AreMapsFrom new.file_systems w.file_systems
  group : new.group ≡ w.group
  freeing : new.freeing ≡ w.freeing
  snaps : AreSnapsIn w.file_systems new.file_systems

takable_put : (ss : FileSystems) (name : Name) (x : FileSystem) (ms : List Member) → ((k : Member) → IsIn ms k → k.file_system ≡ name → ⊥) → AreTakable ss ms → AreTakable (insert ss name x) ms
takable_put ss name x [] apart can = tt
takable_put ss name x (m ∷ ms) apart can = (
  (can.0.0, put_other ss name x m.file_system (apart m (inl refl)) ∙ can.0.1, can.0.2),
  can.1,
  takable_put ss name x ms (λ k i. apart k (inr i)) can.2,
)

module _ (m : Member) (ms : List Member) (guid : ℕ) (w : World) (good : AreFileSystems w.file_systems (w.group + 1)) (can : AreTakable w.file_systems (m ∷ ms))
    (below : AreIdsBelow w.file_systems w.group guid) (ready : (k : Member) → IsIn (m ∷ ms) k → IsReady w.file_systems w.group k.file_system) where
  abbrev s : FileSystem
  s = can.0.0

  abbrev t : Snap
  t = snap_of_live w can.0.0 m.component guid

  abbrev name : Name
  name = m.file_system

  pub here : get w.file_systems m.file_system ≡ Some can.0.0
  here = can.0.1

  abbrev longer : FileSystem
  longer = record can.0.0 { snaps = can.0.0.snaps ++ snap_of_live w can.0.0 m.component guid ∷ [] }

  abbrev v : World
  v = record w { file_systems = insert w.file_systems m.file_system (record can.0.0 { snaps = can.0.0.snaps ++ snap_of_live w can.0.0 m.component guid ∷ [] }) }

  pub r : ((before_live (start w.file_systems (w.group + 1) good.lines name s here) (map snap_shape s.snaps)).base < w.group) × ((b : Block) → Has (blocks s.live) b → b.birth ≤ w.group)
  r = ready m (inl refl) (live_row w.file_systems (w.group + 1) good.lines name s here) (live_there w.file_systems (w.group + 1) good.lines name s here)

  pub fresh : (q : Name) (e : FileSystem) (u : Snap) → get w.file_systems q ≡ Some e → IsIn e.snaps u → id_of u ≡ id_of t → ⊥
  fresh q e u is i ids =
      let a : u.group ≡ w.group = ap (λ (x : SnapId). x.group) ids in
      let b : u.guid ≡ guid = ap (λ (x : SnapId). x.guid) ids in
      ⊎_elim (λ k. absurd (omega arith)) (λ k. let l = k.1 in absurd (omega arith)) (below q e u is i)

  opens : w.group < w.group + 1
  opens = omega arith

  pub good' : AreFileSystems (insert w.file_systems m.file_system (record can.0.0 { snaps = can.0.0.snaps ++ snap_of_live w can.0.0 m.component guid ∷ [] })) (w.group + 1)
  good' = take_systems w.file_systems (w.group + 1) good name s here t refl fresh can.0.2 r.1 r.0 opens

  pub below' : AreIdsBelow (insert w.file_systems m.file_system (record can.0.0 { snaps = can.0.0.snaps ++ snap_of_live w can.0.0 m.component guid ∷ [] })) w.group (guid + 1)
  below' q e u is i = ⊎_elim
      (λ k. ⊎_elim
      (λ a. wider u (below name s u here a))
      (λ a. ⊎_elim (λ (x : u ≡ t). inr (ap (λ (y : Snap). y.group) x, (let g : u.guid ≡ guid = ap (λ (y : Snap). y.guid) x in omega arith))) (λ x. absurd x) a)
      (in_either s.snaps (t ∷ []) u (subst (λ (x : FileSystem). IsIn x.snaps u) k.1 i)))
      (λ k. wider u (below q e u k.1 i))
      (put_cases w.file_systems name longer q e is)
    where
      wider : (u : Snap) → (u.group < w.group) ⊎ ((u.group ≡ w.group) × (u.guid < guid)) → (u.group < w.group) ⊎ ((u.group ≡ w.group) × (u.guid < guid + 1))
      wider u (inl a) = inl a
      wider u (inr a) = inr (a.0, (let l = a.1 in omega arith))

  pub ready' : (k : Member) → IsIn ms k → IsReady (insert w.file_systems m.file_system (record can.0.0 { snaps = can.0.0.snaps ++ snap_of_live w can.0.0 m.component guid ∷ [] })) w.group k.file_system
  ready' k i n h = ⊎_elim
      (λ x. absurd (can.1 k i (same_live k.file_system name x.0)))
      (⊎_elim (λ x. absurd (live_or_snap k.file_system (id_of t) x.0)) (λ x. ready k (inr i) n x.2))
      ((step w.file_systems (w.group + 1) good name s here t refl fresh can.0.2 r.1 r.0 opens).new (Live k.file_system) n h)

  one : ((v : World) → AreFileSystems v.file_systems (v.group + 1) → AreTakable v.file_systems ms → AreIdsBelow v.file_systems v.group (guid + 1)
      → ((k : Member) → IsIn ms k → IsReady v.file_systems v.group k.file_system) → IsTakenFrom v (with_snapshots v (guid + 1) ms))
      → IsTakenFrom w (with_snapshots (record w { file_systems = insert w.file_systems m.file_system (record can.0.0 { snaps = can.0.0.snaps ++ snap_of_live w can.0.0 m.component guid ∷ [] }) }) (guid + 1) ms)
  one rest =
      let x = rest v good' (takable_put w.file_systems name longer ms can.1 can.2) below' ready' in
      record {
        systems = x.systems;
        from = maps_through w.file_systems v.file_systems (with_snapshots v (guid + 1) ms).file_systems
            (taken_from w.file_systems (w.group + 1) good name s here t refl fresh can.0.2 r.1 r.0 opens) x.from;
        back = maps_through (with_snapshots v (guid + 1) ms).file_systems v.file_systems w.file_systems x.back
            (taken_back w.file_systems (w.group + 1) good name s here t refl fresh can.0.2 r.1 r.0 opens);
        group = x.group;
        freeing = x.freeing;
        snaps = λ q e u is i.
            let y = snaps_in_put w.file_systems name longer (λ f z j k. (z, subst (λ (a : FileSystem). IsIn (a.snaps ++ t ∷ []) z) (same_value f s (sym j ∙ here)) (in_left f.snaps (t ∷ []) z k), refl)) q e u is i in
            let z = x.snaps y.0 y.1 y.2 y.3 y.4 in
            (z.0, z.1, z.2, z.3, z.4, z.5 ∙ y.5);
      }

take_all : (ms : List Member) (guid : ℕ) (w : World) → AreFileSystems w.file_systems (w.group + 1) → AreTakable w.file_systems ms → AreIdsBelow w.file_systems w.group guid
    → ((m : Member) → IsIn ms m → IsReady w.file_systems w.group m.file_system) → IsTakenFrom w (with_snapshots w guid ms)
take_all [] guid w good can below ready = record { systems = good; from = same_maps w.file_systems; back = same_maps w.file_systems; group = refl; freeing = refl; snaps = λ q e u at h. (q, e, u, at, h, refl) }
take_all (m ∷ ms) guid w good can below ready =
    subst (λ x. IsTakenFrom w (with_snapshots x (guid + 1) ms))
    (sym (ap (λ x. option_map_or (λ (s : FileSystem). record w { file_systems = insert w.file_systems m.file_system (record s { snaps = s.snaps ++ snap_of_live w s m.component guid ∷ [] }) }) x w) can.0.1))
    (one m ms guid w good can below ready (λ v. take_all ms (guid + 1) v))

module _ (size : ℕ) (w : World) (good : IsWorld size w) (guid : ℕ) (ms : List Member) (can : AreTakable w.file_systems ms) where
  all : IsTakenFrom w (with_snapshots w guid ms)
  all = take_all ms guid w (raise_systems w.file_systems w.group (w.group + 1) good.systems (omega arith)) can
      (λ q e u is i. inl ((lineage_facts (shapes w.file_systems) w.group good.systems.lines).1 (id_of u) (snap_shape u) (q, shape_of e, shape_at w.file_systems q e is, among e.snaps u i, refl)))
      (λ m i n h.
      let k = raised (shapes w.file_systems) w.group (w.group + 1) good.systems.lines (omega arith) (w.group + 1) w.group (Live m.file_system) n h in
      let x = good.systems.lines.facts.sound (Live m.file_system) (record n { group = w.group }) k in
      (x.falls, x.born))

  systems_after : AreFileSystems (with_next_group (with_snapshots w guid ms)).file_systems (with_next_group (with_snapshots w guid ms)).group
  systems_after = subst (λ g. AreFileSystems (with_snapshots w guid ms).file_systems (g + 1)) (sym all.group) all.systems

  up : w.group ≤ (with_next_group (with_snapshots w guid ms)).group
  up = let e = all.group in omega arith

  pub snapshots_keep : IsWorld size (with_next_group (with_snapshots w guid ms))
  snapshots_keep = world_same size w (with_next_group (with_snapshots w guid ms)) good all.from systems_after all.freeing

  pub snapshots_pair : (last : World) → ArePaired size w last → ArePaired size (with_next_group (with_snapshots w guid ms)) last
  snapshots_pair last = pair_same size w (with_next_group (with_snapshots w guid ms)) good all.from last all.freeing up

  -- nothing is lost
  pub snapshots_union : union_of (with_next_group (with_snapshots w guid ms)) ≡ union_of w
  snapshots_union = same_members o _ _
      (fewer_blocks size w (with_next_group (with_snapshots w guid ms)) good all.from)
      (union_from (with_next_group (with_snapshots w guid ms)) w (w.group + 1) all.systems.lines all.back)

  -- no snapshot is missing
  pub snapshots_there : AreSnapsIn w.file_systems (with_next_group (with_snapshots w guid ms)).file_systems
  snapshots_there = all.snaps

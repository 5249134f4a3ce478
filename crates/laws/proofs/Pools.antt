-- Where lineages are: in a new pool, and where blocks stand as they do in a pool's state.
use Rattle.std.proofs.Common.{◌≡◌, ℕ, Some, refl, sym, ap, subst, ◌∙◌, ⊎_elim, arith}
use Rattle.std.specs.Prelude.{IsTrue}
use Rattle.std.specs.Option.{option_map_or}
use Rattle.std.specs.FinMap.{get, empty, get-empty}
use Rattle.base.specs.declared.number.Key.{Key}
use Rattle.base.specs.Key.{key_cmp, is_at_or_below}
use Rattle.base.specs.Map.{Block, Cell, block_of, blocks}
use Rattle.base.specs.Surveys.{IsIn}
use Rattle.base.specs.Names.{name_cmp, root_name}
use Rattle.model.specs.World.{World, FileSystem, SnapId, Dataset, Live, Snapped, id_of, map_of, map_of_snap, empty_file_system}
use Rattle.model.specs.Numbers.{IsWorldNumbered}
use Rattle.model.specs.State.{fresh_world, fresh_state}
use Rattle.world.specs.Dead.{IsThere, base_of, below_of}
use Rattle.world.specs.RunLaws.{HasIdentities}
use Rattle.world.specs.Sets.{Has}
use Rattle.world.specs.Shapes.{Name, IsGood, IsAmong, Starts}
use Rattle.world.specs.Worlds.{shapes, shape_of, snap_shape, AreRising, IsWorld}
use Rattle.world.proofs.lineage.Bridge.{map_of_live, shape_at, from_shape, among, from_among, one_snap, start, starts, start_is, rising}
use Rattle.world.proofs.maps.Cells.{in_blocks, from_blocks}
use Rattle.world.proofs.lineage.Dead.{in_line}
use Rattle.world.proofs.lists.Maps.{no_value}
use Rattle.world.proofs.lineage.Put.{put_cases}
use Rattle.world.proofs.lineage.Requests.{lineage_facts}
use Rattle.world.proofs.removals.Slices.{fresh_keeps}
use Rattle.world.proofs.steps.States.{state_numbered, now_numbered, last_numbered}
use Rattle.world.proofs.steps.StateSteps.{begun}
use Rattle.laws.specs.Lineages.{origin_group, IsOrdered, HasLineages, HasBirths}
use Rattle.laws.specs.Runs.{LineagesBegin, BlocksGiveLineages, PoolsHaveLineages, BirthsBegin, NumbersBegin}
use Rattle.laws.specs.Views.{PoolsAreViewing}
use Rattle.laws.proofs.Lineages.{cell_there}

-- ---- blocks

-- what is in the one before exactly when it was born by its group is shared with it, where a number names one block
pub blocks_give_lineages : BlocksGiveLineages
unfolding base_of below_of
blocks_give_lineages size w numbers order blocks_stand = record {
  order = order;
  shares = λ d id there prev key below c h born l.
      let base : base_of w d ≡ id.group = ap (λ x. option_map_or (λ (i : SnapId). i.group) x 0) prev in
      let under : below_of w d ≡ blocks (map_of w (Snapped id)) = ap (λ x. blocks (map_of_snap w x)) prev in
      let has = ((blocks_stand d there).kept (block_of c) (in_blocks (map_of w d) key c h)).1 (omega arith) in
      let k = from_blocks (map_of w (Snapped id)) (block_of c) (subst (λ s. Has s (block_of c)) under has) in
      let one = numbers.one_block d (Snapped id) key k.0 c k.1 h k.2 (ap (λ (b : Block). b.number) (sym k.3)) in
      sym (one.2 below (subst (λ y. IsTrue (is_at_or_below y below)) one.0 l));
}

-- ---- a pool's state

module _ (w : World) (g : ℕ) (good : IsGood (shapes w.file_systems) g) where
  -- groups rise from the origin's on
  rises : (name : Name) (f : FileSystem) → get w.file_systems name ≡ Some f → AreRising (origin_group f.origin) f.snaps
  rises name f at = subst (λ n. AreRising n f.snaps)
      (start_is w g good f.origin (start w.file_systems g good name f at) (starts w.file_systems g good name f at)).1
      (rising w.file_systems g good name f at)

  origin_there : (name : Name) (f : FileSystem) (id : SnapId) → get w.file_systems name ≡ Some f → f.origin ≡ Some id → IsThere w (Snapped id)
  origin_there name f id at e =
      let q = good.closed name (shape_of f) (shape_at w.file_systems name f at) in
      let st = subst (λ x. Starts (shapes w.file_systems) x q.0) e q.1 in
      let k = st.1 in
      let x = from_shape w.file_systems k.0 k.1 k.2 in
      let t = from_among x.0.snaps st.0 (subst (λ y. IsAmong y.snapshots st.0) {y = shape_of x.0} x.2 k.3) in
      let ids : id_of t.0 ≡ st.0.id = sym {b = id_of t.0} (ap (λ y. y.id) {y = snap_shape t.0} t.2) in
      (k.0, x.0, t.0, x.1, t.1, ◌∙◌ {a = id_of t.0} ids k.4)

world_ordered : (size : ℕ) (w : World) → IsWorld size w → IsOrdered w
world_ordered size w good =
    let lines = good.systems.lines in
    record {
      once = λ q other t u h k ids. one_snap w.file_systems w.group lines q other h.0 k.0 t u h.1 k.1 h.2 k.2 ids;
      closed = λ q t h. (lineage_facts (shapes w.file_systems) w.group lines).1 (id_of t) (snap_shape t) (q, shape_of h.0, shape_at w.file_systems q h.0 h.1, among h.0.snaps t h.2, refl);
      marks = λ q mark f b at h. (good.systems.tidy q f at).bookmarks mark b h;
      rising = rises w w.group lines;
      origins = origin_there w w.group lines;
      begun = begun w.file_systems w.group good.systems;
    }

world_lineages : (size : ℕ) (w : World) → IsWorld size w → IsWorldNumbered size w → HasLineages w
world_lineages size w good numbers = blocks_give_lineages size w numbers (world_ordered size w good) (in_line w w.group good.systems.lines refl)

pub pools_have_lineages : PoolsHaveLineages
pools_have_lineages s good = (
  world_lineages s.size s.now good.now (now_numbered s.size s.now s.last good.pair good.now),
  world_lineages s.size s.last good.last (last_numbered s.size s.now s.last good.pair good.last),
)

-- ---- a new pool

-- its one file system is empty
fresh_at : (name : Name) (f : FileSystem) → get fresh_world.file_systems name ≡ Some f → f ≡ empty_file_system
unfolding fresh_world
fresh_at name f at = ⊎_elim
    (λ k. k.1)
    (λ k. absurd (no_value f (sym (get-empty name_cmp name) ∙ k.1)))
    (put_cases empty root_name empty_file_system name f at)

pub lineages_begin : LineagesBegin
lineages_begin id size = pools_have_lineages (fresh_state id size) (fresh_keeps id size)

pub numbers_begin : NumbersBegin
numbers_begin id size = state_numbered (fresh_state id size) (fresh_keeps id size)

fresh_births : HasBirths fresh_world
fresh_births = record { born = λ d k c h. absurd (none d k c h); rise = λ d k c p h. absurd (none d k c h) }
  where
    none : (d : Dataset) (k : Key) (c : Cell) → get (map_of fresh_world d) k ≡ Some c → ⊥
    none (Live name) k c h =
        let f = cell_there fresh_world (Live name) k c h in
        no_value c (sym (get-empty key_cmp k) ∙ ap (λ m. get m k) (sym (ap (λ (x : FileSystem). x.live) (fresh_at name f.0 f.1)) ∙ sym (map_of_live fresh_world name f.0 f.1)) ∙ h)
    none (Snapped id) k c h =
        let t = cell_there fresh_world (Snapped id) k c h in
        subst (λ (x : FileSystem). IsIn x.snaps t.2) (fresh_at t.0 t.1 t.3) t.4

pub births_begin : BirthsBegin
unfolding fresh_state
births_begin id size = (fresh_births, fresh_births)

-- ---- views

identities : (w : World) → IsOrdered w → HasIdentities w
identities w order = record { once = order.once; closed = order.closed }

pub pools_are_viewing : PoolsAreViewing
pools_are_viewing s good numbered = record {
  numbers = numbered;
  there = good.views;
  now = identities s.now (world_ordered s.size s.now good.now);
  last = identities s.last (world_ordered s.size s.last good.last);
}

use Rattle.std.proofs.Common.{◌≡◌, List, Option, map, sym, ap, subst, ◌∙◌}
use Rattle.std.specs.Arc.{arc_value}
use Rattle.std.specs.FinSet.{difference}
use Rattle.std.specs.Option.{option_map}
use Rattle.base.specs.Map.{Map, BlockSet, blocks}
use Rattle.base.specs.Surveys.{dead_block}
use Rattle.deadlist.specs.Held.{Held}
use Rattle.snapshots.specs.declared.kept.Kept.{Kept}
use Rattle.world.specs.Deadlists.{Lists}
use Rattle.file_system.specs.Counts.{IsCounted}
use Rattle.file_system.specs.declared.origin.Origin.{Origin}
use Rattle.file_system.specs.Dead.{snaps_in, newest_blocks, AreAccounted, IsPlain}
use Rattle.file_system.specs.Origins.{origin_id, map_below, blocks_below}
use Rattle.file_system.specs.Rows.{system_of}
use Rattle.file_system.proofs.file_system.FileSystem.copy.Goals as goal

-- each part is the same
pub invariant_of-result : goal.invariant_of-result
invariant_of-result c =
    let ks = arc_value c.in_ok-snapshots.snapshots in
    let es = (arc_value c.in_ok-dead.dead).entries in
    let live : c.in_ok-live.live ≡ c.self.inside.live = c.in_ok-live.ensures.ok in
    let was : BlockSet = blocks_below (option_map arc_value c.self.inside.origin) in
    let below : blocks_below (option_map arc_value c.in_ok-origin.origin) ≡ was = ap blocks_below c.in_ok-origin.ensures.ok in
    record {
      accounted = subst (λ s. AreAccounted s ks) (sym below) (subst (AreAccounted was) (sym c.in_ok-snapshots.ensures) c.self.invariant.accounted);
      dead = subst (λ (s : BlockSet). Lists (map dead_block es) (difference (newest_blocks s (snaps_in ks)) (blocks c.in_ok-live.live))) (sym below)
          (subst (λ (m : Map). Lists (map dead_block es) (difference (newest_blocks was (snaps_in ks)) (blocks m))) (sym live)
          (subst (λ (h : Held). Lists (map dead_block h.entries) (difference (newest_blocks was (snaps_in ks)) (blocks c.self.inside.live))) (sym c.in_ok-dead.ensures)
          (subst (λ (l : List Kept). Lists (map dead_block (arc_value c.self.inside.dead).entries) (difference (newest_blocks was (snaps_in l)) (blocks c.self.inside.live))) (sym c.in_ok-snapshots.ensures) c.self.invariant.dead)));
      plain = subst IsPlain (sym c.in_ok-dead.ensures) c.self.invariant.plain;
      counted = subst (λ (p : Option Origin). IsCounted (map_below p) (snaps_in ks) c.in_ok-live.live c.self.inside.counts) (sym c.in_ok-origin.ensures.ok)
          (subst (λ (l : List Kept). IsCounted (map_below (option_map arc_value c.self.inside.origin)) (snaps_in l) c.in_ok-live.live c.self.inside.counts) (sym c.in_ok-snapshots.ensures)
          (subst (λ (m : Map). IsCounted (map_below (option_map arc_value c.self.inside.origin)) (snaps_in (arc_value c.self.inside.snapshots)) m c.self.inside.counts) (sym live) c.self.invariant.counted));
    }

pub returns-clause-ok : goal.returns-clause-ok
returns-clause-ok c =
    let live : c.in_ok-live.live ≡ c.self.inside.live = c.in_ok-live.ensures.ok in
    let origin : option_map arc_value c.in_ok-origin.origin ≡ option_map arc_value c.self.inside.origin = c.in_ok-origin.ensures.ok in
    (λ i. record {
      name = c.in_ok-name.ensures i;
      system = system_of (live i) (snaps_in (c.in_ok-snapshots.ensures i)) (origin_id (origin i)) c.self.inside.limits (c.in_ok-bookmarks.ensures i);
      below = map_below (origin i);
    })
    ∙ c.self.view_is

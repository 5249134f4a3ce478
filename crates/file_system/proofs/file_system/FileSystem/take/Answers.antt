use Rattle.std.proofs.Common.{◌≡◌, [], ◌∷◌, ◌++◌, map, sym, ap, subst, ◌∙◌}
use Rattle.std.specs.Arc.{arc_value}
use Rattle.std.specs.Option.{option_map}
use Rattle.std.specs.Result.{is_ok}
use Rattle.std.specs.FinSet.{difference}
use Rattle.base.specs.Map.{blocks}
use Rattle.base.specs.Surveys.{dead_block}
use Rattle.deadlist.specs.Held.{Held}
use Rattle.model.specs.World.{Snap}
use Rattle.model.specs.Sums.{size_without}
use Rattle.snapshots.specs.Snaps.{plain_snap}
use Rattle.snapshots.specs.declared.kept.Kept.{Kept}
use Rattle.world.specs.Deadlists.{Lists}
use Rattle.file_system.specs.Counts.{IsCounted}
use Rattle.file_system.specs.Dead.{snaps_in, newest_blocks, IsPlain}
use Rattle.file_system.specs.Origins.{origin_id, map_below, blocks_below}
use Rattle.file_system.specs.Rows.{Row, system_of, with_system, with_snap}
use Rattle.file_system.proofs.Counted.{taken_counted}
use Rattle.file_system.proofs.Plain.{fresh_plain}
use Rattle.file_system.proofs.Accounts.{snaps_more, taken_accounted, taken_dead}
use Rattle.file_system.proofs.file_system.FileSystem.take.Goals as goal

-- the dead list goes with the snapshot, and the live map's begins anew
pub invariant_of-self-2 : goal.invariant_of-self-2
invariant_of-self-2 c =
    let ks = arc_value c.self.inside.snapshots in
    let live = c.self.inside.live in
    let bs = blocks_below (option_map arc_value c.self.inside.origin) in
    let k : Kept = record { snapshot = c.new-snapshot.result; dead = c.in_ok-dead.dead; written = c.written-written.result } in
    let own = subst (λ (h : Held). Lists (map dead_block h.entries) (difference (newest_blocks bs (snaps_in ks)) (blocks live))) (sym c.in_ok-dead.ensures) c.self.invariant.dead in
    let map_is : k.snapshot.map ≡ live = ap (λ (t : Snap). t.map) c.new-snapshot.ensures ∙ c.in_ok-copy.ensures.ok in
    let written : k.written ≡ size_without (blocks live) (newest_blocks bs (snaps_in ks)) = c.written-written.ensures ∙ ap (λ (r : Row). size_without (blocks r.system.live) (newest_blocks (blocks r.below) r.system.snaps)) (sym c.self.view_is) in
    let bare = ap (λ (h : Held). h.entries) c.in_ok-fresh.ensures.ok ∙ c.new.ensures.entries in
    let pushed : arc_value (c.own.follows.lender c.push.new.self) ≡ ks ++ k ∷ [] = c.own.follows.holds c.push.new.self (ap is_ok c.in_ok-own.was) ∙ c.in_ok-push.ensures.ok ∙ ap (λ l. l ++ k ∷ []) c.in_ok-own.ensures.value in
    let plain : IsPlain (arc_value k.dead) = subst IsPlain (sym c.in_ok-dead.ensures) c.self.invariant.plain in
    record {
      accounted = taken_accounted bs ks _ k live _ c.self.invariant.accounted own map_is written pushed bare plain;
      dead = taken_dead bs ks _ k live _ c.self.invariant.accounted own map_is written pushed bare plain;
      plain = subst IsPlain (sym c.in_ok-fresh.ensures.ok) (fresh_plain c.new.result c.new.ensures.cuts c.new.ensures.waiting c.new.ensures.steps);
      counted = subst (λ l. IsCounted (map_below (option_map arc_value c.self.inside.origin)) l live c.self.inside.counts) (sym (ap snaps_in pushed ∙ snaps_more ks k))
          (taken_counted (map_below (option_map arc_value c.self.inside.origin)) (snaps_in ks) k.snapshot live c.self.inside.counts map_is c.self.invariant.counted);
    }

pub returns-clause-ok : goal.returns-clause-ok
returns-clause-ok c =
    let ks = arc_value c.self.inside.snapshots in
    let k : Kept = record { snapshot = c.new-snapshot.result; dead = c.in_ok-dead.dead; written = c.written-written.result } in
    let name : c.in_ok-copy_of.field-0 ≡ c.args.name.now = c.in_ok-copy_of.ensures.ok in
    let tree : c.in_ok-copy.field-0 ≡ c.self.inside.live = c.in_ok-copy.ensures.ok in
    let snap : c.new-snapshot.result ≡ plain_snap c.args.name.now c.self.inside.live c.args.guid.0 c.args.group.0 = c.new-snapshot.ensures ∙ λ i. plain_snap (name i) (tree i) c.args.guid.0 c.args.group.0 in
    let pushed : arc_value (c.own.follows.lender c.push.new.self) ≡ ks ++ k ∷ [] = c.own.follows.holds c.push.new.self (ap is_ok c.in_ok-own.was) ∙ c.in_ok-push.ensures.ok ∙ ap (λ l. l ++ k ∷ []) c.in_ok-own.ensures.value in
    let snaps = ap snaps_in pushed ∙ snaps_more ks k ∙ ap (λ t. snaps_in ks ++ t ∷ []) snap in
    ap (λ l. record { name = c.self.inside.name.value; system = system_of c.self.inside.live l (origin_id (option_map arc_value c.self.inside.origin)) c.self.inside.limits (arc_value c.self.inside.bookmarks); below = map_below (option_map arc_value c.self.inside.origin) }) snaps ∙ ap (λ (r : Row). with_system r (with_snap r.system c.args.name.now c.args.guid.0 c.args.group.0)) c.self.view_is

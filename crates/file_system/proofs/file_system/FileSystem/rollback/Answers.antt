use Rattle.std.proofs.Common.{◌≡◌, ◌-◌, List, [], Some, is_some, length, map, slice_get, sym, ap, subst, ◌∙◌, arith, true≢false}
use Rattle.std.proofs.lemmas.List.{length-map}
use Rattle.std.specs.Arc.{arc_value}
use Rattle.std.specs.FinSet.{difference}
use Rattle.std.specs.Option.{option_map, option_copied}
use Rattle.base.specs.Map.{Map, BlockSet, blocks}
use Rattle.base.specs.Surveys.{dead_block}
use Rattle.base.specs.declared.number.Dead.{Dead}
use Rattle.deadlist.specs.Held.{Held}
use Rattle.snapshots.specs.declared.kept.Kept.{Kept}
use Rattle.world.specs.Deadlists.{Lists}
use Rattle.file_system.specs.Counts.{AreLined, IsCounted}
use Rattle.file_system.specs.Dead.{snaps_in, newest_blocks, AreAccounted, IsPlain}
use Rattle.file_system.specs.Origins.{origin_id, origin_group, map_below, blocks_below, group_below}
use Rattle.file_system.specs.Losses.{newest_map}
use Rattle.file_system.specs.Rows.{Row, system_of, with_system}
use Rattle.file_system.proofs.Plain.{fresh_plain}
use Rattle.file_system.proofs.Accounts.{newest_blocks_are, nothing_dead}
use Rattle.file_system.proofs.Lines.{line_above, line_back}
use Rattle.file_system.proofs.Losses.{newest_map_is}
use Rattle.file_system.proofs.Stacks.{some_at}
use Rattle.file_system.proofs.file_system.FileSystem.rollback.Goals as goal

-- there is a newest one
pub unreachable-requires : goal.unreachable-requires
unreachable-requires c =
    let ks = arc_value c.self.inside.snapshots in
    let long = length-map ks (λ (k : Kept). k.snapshot) in
    let view = ap (λ (r : Row). length r.system.snaps) c.self.view_is in
    let some = c.requires.there in
    let there = some_at ks (length ks - 1) (omega arith) in
    let last = c.last.ensures ∙ ap (λ (l : List Kept). slice_get l (length l - 1)) c.deref.ensures in
    true≢false (ap is_some (sym there.1 ∙ sym last ∙ ap option_copied c.in_default.is))

-- what the counts are made again from
pub recounted-requires-clause-accounted : goal.recounted-requires-clause-accounted
recounted-requires-clause-accounted c =
    let origin : option_copied c.origin_in-origin.result ≡ option_map arc_value c.self.inside.origin = c.origin_in-origin.ensures in
    let kept : c.list-kept.result.now ≡ arc_value c.self.inside.snapshots = c.list-kept.ensures ∙ c.deref-2.ensures in
    subst (λ p. AreAccounted (blocks_below p) c.list-kept.result.now) (sym origin) (subst (AreAccounted (blocks_below (option_map arc_value c.self.inside.origin))) (sym kept) c.self.invariant.accounted)

pub recounted-requires-clause-dead : goal.recounted-requires-clause-dead
recounted-requires-clause-dead c =
    let ks = arc_value c.self.inside.snapshots in
    let newest : Kept = c.in-Some.newest.now in
    let last : Some newest ≡ slice_get ks (length ks - 1) = c.in-Some.ensures ∙ ap (λ (l : List Kept). slice_get l (length l - 1)) c.deref.ensures in
    let live : c.in_ok-live.live ≡ newest.snapshot.map = c.in_ok-live.ensures.ok ∙ c.tree.ensures in
    let bare : (arc_value c.in_ok-dead.dead).entries ≡ [] = ap (λ (h : Held). h.entries) c.in_ok-dead.ensures.ok ∙ c.new.ensures.entries in
    let o = option_map arc_value c.self.inside.origin in
    let bs = blocks_below o in
    let below : newest_blocks bs (snaps_in ks) ≡ blocks c.in_ok-live.live = sym (newest_blocks_are bs ks (Some newest) last) ∙ ap (λ (m : Map). blocks m) (sym live) in
    let dead : Lists (map dead_block (arc_value c.in_ok-dead.dead).entries) (difference (newest_blocks bs (snaps_in ks)) (blocks c.in_ok-live.live)) =
    subst (λ (s : BlockSet). Lists (map dead_block (arc_value c.in_ok-dead.dead).entries) (difference s (blocks c.in_ok-live.live))) (sym below)
    (subst (λ (l : List Dead). Lists (map dead_block l) (difference (blocks c.in_ok-live.live) (blocks c.in_ok-live.live))) (sym bare) (nothing_dead (blocks c.in_ok-live.live))) in
    let origin : option_copied c.origin_in-origin.result ≡ o = c.origin_in-origin.ensures in
    let kept : c.list-kept.result.now ≡ ks = c.list-kept.ensures ∙ c.deref-2.ensures in
    subst (λ p. Lists (map dead_block c.deref-3.result.now.entries) (difference (newest_blocks (blocks_below p) (snaps_in c.list-kept.result.now)) (blocks c.in_ok-live.live))) (sym origin)
    (subst (λ l. Lists (map dead_block c.deref-3.result.now.entries) (difference (newest_blocks bs (snaps_in l)) (blocks c.in_ok-live.live))) (sym kept)
    (subst (λ (h : Held). Lists (map dead_block h.entries) (difference (newest_blocks bs (snaps_in ks)) (blocks c.in_ok-live.live))) (sym c.deref-3.ensures) dead))

pub recounted-requires-clause-line : goal.recounted-requires-clause-line
recounted-requires-clause-line c =
    let ks = arc_value c.self.inside.snapshots in
    let newest : Kept = c.in-Some.newest.now in
    let last : Some newest ≡ slice_get ks (length ks - 1) = c.in-Some.ensures ∙ ap (λ (l : List Kept). slice_get l (length l - 1)) c.deref.ensures in
    let live : c.in_ok-live.live ≡ newest.snapshot.map = c.in_ok-live.ensures.ok ∙ c.tree.ensures in
    let bare : (arc_value c.in_ok-dead.dead).entries ≡ [] = ap (λ (h : Held). h.entries) c.in_ok-dead.ensures.ok ∙ c.new.ensures.entries in
    let o = option_map arc_value c.self.inside.origin in
    let bs = blocks_below o in
    let below : newest_blocks bs (snaps_in ks) ≡ blocks c.in_ok-live.live = sym (newest_blocks_are bs ks (Some newest) last) ∙ ap (λ (m : Map). blocks m) (sym live) in
    let dead : Lists (map dead_block (arc_value c.in_ok-dead.dead).entries) (difference (newest_blocks bs (snaps_in ks)) (blocks c.in_ok-live.live)) =
    subst (λ (s : BlockSet). Lists (map dead_block (arc_value c.in_ok-dead.dead).entries) (difference s (blocks c.in_ok-live.live))) (sym below)
    (subst (λ (l : List Dead). Lists (map dead_block l) (difference (blocks c.in_ok-live.live) (blocks c.in_ok-live.live))) (sym bare) (nothing_dead (blocks c.in_ok-live.live))) in
    let origin : option_copied c.origin_in-origin.result ≡ o = c.origin_in-origin.ensures in
    let kept : c.list-kept.result.now ≡ ks = c.list-kept.ensures ∙ c.deref-2.ensures in
    let lined : AreLined (map_below o) (group_below o) (snaps_in ks) c.self.inside.live =
    subst (λ (r : Row). AreLined r.below (origin_group r.system.origin) r.system.snaps r.system.live) (sym c.self.view_is) (line_above c.args.self.now.below c.args.self.now.system c.requires.above) in
    subst (λ p. AreLined (map_below p) (group_below p) (snaps_in c.list-kept.result.now) c.in_ok-live.live) (sym origin)
    (subst (λ l. AreLined (map_below o) (group_below o) (snaps_in l) c.in_ok-live.live) (sym kept) (record {
      born = lined.born;
      line = line_back bs (group_below o) (snaps_in ks) c.self.inside.live c.in_ok-live.live lined.line (sym below);
    }))

-- the live map has the newest snapshot's blocks
pub invariant_of-self : goal.invariant_of-self
invariant_of-self c =
    let ks = arc_value c.self.inside.snapshots in
    let newest : Kept = c.in-Some.newest.now in
    let last : Some newest ≡ slice_get ks (length ks - 1) = c.in-Some.ensures ∙ ap (λ (l : List Kept). slice_get l (length l - 1)) c.deref.ensures in
    let live : c.in_ok-live.live ≡ newest.snapshot.map = c.in_ok-live.ensures.ok ∙ c.tree.ensures in
    let bare : (arc_value c.in_ok-dead.dead).entries ≡ [] = ap (λ (h : Held). h.entries) c.in_ok-dead.ensures.ok ∙ c.new.ensures.entries in
    let o = option_map arc_value c.self.inside.origin in
    let bs = blocks_below o in
    let below : newest_blocks bs (snaps_in ks) ≡ blocks c.in_ok-live.live = sym (newest_blocks_are bs ks (Some newest) last) ∙ ap (λ (m : Map). blocks m) (sym live) in
    let dead : Lists (map dead_block (arc_value c.in_ok-dead.dead).entries) (difference (newest_blocks bs (snaps_in ks)) (blocks c.in_ok-live.live)) =
    subst (λ (s : BlockSet). Lists (map dead_block (arc_value c.in_ok-dead.dead).entries) (difference s (blocks c.in_ok-live.live))) (sym below)
    (subst (λ (l : List Dead). Lists (map dead_block l) (difference (blocks c.in_ok-live.live) (blocks c.in_ok-live.live))) (sym bare) (nothing_dead (blocks c.in_ok-live.live))) in
    let origin : option_copied c.origin_in-origin.result ≡ o = c.origin_in-origin.ensures in
    let kept : c.list-kept.result.now ≡ ks = c.list-kept.ensures ∙ c.deref-2.ensures in
    record {
      accounted = c.self.invariant.accounted;
      dead = dead;
      plain = subst IsPlain (sym c.in_ok-dead.ensures.ok) (fresh_plain c.new.result c.new.ensures.cuts c.new.ensures.waiting c.new.ensures.steps);
      counted = subst (λ p. IsCounted (map_below p) (snaps_in ks) c.in_ok-live.live c.in_ok-counts.counts) origin
          (subst (λ l. IsCounted (map_below (option_copied c.origin_in-origin.result)) (snaps_in l) c.in_ok-live.live c.in_ok-counts.counts) kept c.in_ok-counts.ensures.ok);
    }

pub returns-clause-ok : goal.returns-clause-ok
returns-clause-ok c =
    let ks = arc_value c.self.inside.snapshots in
    let newest : Kept = c.in-Some.newest.now in
    let last : Some newest ≡ slice_get ks (length ks - 1) = c.in-Some.ensures ∙ ap (λ (l : List Kept). slice_get l (length l - 1)) c.deref.ensures in
    let live : c.in_ok-live.live ≡ newest.snapshot.map = c.in_ok-live.ensures.ok ∙ c.tree.ensures in
    ap (λ (m : Map). record { name = c.self.inside.name.value; system = system_of m (snaps_in ks) (origin_id (option_map arc_value c.self.inside.origin)) c.self.inside.limits (arc_value c.self.inside.bookmarks); below = map_below (option_map arc_value c.self.inside.origin) }) (live ∙ sym (newest_map_is c.self.inside.live ks newest (sym last)))
    ∙ ap (λ (r : Row). with_system r (record r.system { live = newest_map r.system.live r.system.snaps })) c.self.view_is

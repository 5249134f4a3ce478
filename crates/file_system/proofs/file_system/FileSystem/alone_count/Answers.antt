use Rattle.std.proofs.Common.{◌≡◌, ◌+◌, Some, length, map, take, slice_get, ap, sym, subst, ◌∙◌, arith}
use Rattle.std.proofs.lemmas.List.{length-map}
use Rattle.std.specs.Arc.{arc_value}
use Rattle.std.specs.FinSet.{len}
use Rattle.std.specs.List.{filter}
use Rattle.std.specs.Option.{option_map}
use Rattle.base.specs.Map.{blocks}
use Rattle.base.specs.Surveys.{dead_block}
use Rattle.deadlist.specs.Entries.{is_after}
use Rattle.snapshots.specs.declared.kept.Kept.{Kept}
use Rattle.world.specs.Worlds.{AreRising}
use Rattle.world.proofs.lineage.Deadlists.{dead_counts}
use Rattle.file_system.specs.Alone.{entries_of, entries_at}
use Rattle.file_system.specs.Dead.{snaps_in, group_kept, IsAbove}
use Rattle.file_system.specs.Origins.{origin_group, blocks_below, group_below}
use Rattle.file_system.specs.Rows.{Row}
use Rattle.file_system.specs.Splices.{AreStacked, lost_from}
use Rattle.file_system.specs.Writes.{newest_group}
use Rattle.file_system.proofs.Alones.{alone_listed}
use Rattle.file_system.proofs.Stacks.{base_is, rising_from}
use Rattle.file_system.proofs.file_system.FileSystem.alone_count.Goals as goal

-- the snapshots of a clone rise above 0 too
pub around_of-around-requires-clause-rising : goal.around_of-around-requires-clause-rising
around_of-around-requires-clause-rising c =
    let ks = arc_value c.self.inside.snapshots in
    let kept : c.list.result.now ≡ ks = c.list.ensures ∙ c.deref.ensures in
    let base = group_below (option_map arc_value c.self.inside.origin) in
    let rising : AreRising base (snaps_in ks) = subst (λ (r : Row). AreRising (origin_group r.system.origin) r.system.snaps) (sym c.self.view_is) c.requires.above.rising in
    subst (λ l. AreRising 0 (snaps_in l)) (sym kept) (rising_from 0 base (snaps_in ks) (omega arith) rising)

-- the younger entries of the next dead list
pub returns-clause-count : goal.returns-clause-count
returns-clause-count c =
    let ks = arc_value c.self.inside.snapshots in
    let es = (arc_value c.self.inside.dead).entries in
    let live = c.self.inside.live in
    let g = c.args.group.0 in
    let i = c.around_of-around.ensures.0 in
    let o = option_map arc_value c.self.inside.origin in
    let bs = blocks_below o in
    let base = group_below o in
    let kept : c.list.result.now ≡ ks = c.list.ensures ∙ c.deref.ensures in
    let rising : AreRising base (snaps_in ks) = subst (λ (r : Row). AreRising (origin_group r.system.origin) r.system.snaps) (sym c.self.view_is) c.requires.above.rising in
    let each : AreStacked bs base (snaps_in ks) = subst (λ (r : Row). AreStacked (blocks r.below) (origin_group r.system.origin) r.system.snaps) (sym c.self.view_is) c.requires.above.each in
    let above : IsAbove bs base live (snaps_in ks) =
    subst (λ (r : Row). IsAbove (blocks r.below) (origin_group r.system.origin) r.system.live r.system.snaps) (sym c.self.view_is) c.requires.above.live in
    let at : option_map (λ (k : Kept). k.snapshot.group) (slice_get ks i) ≡ Some g = ap (λ l. option_map (λ (k : Kept). k.snapshot.group) (slice_get l i)) (sym kept) ∙ c.around_of-around.ensures.1 in
    let bottom : c.base_group.result.0 ≡ base = c.base_group.ensures ∙ ap group_below c.origin_in.ensures in
    let since : c.group_of-since.result.0 ≡ newest_group base (snaps_in (take i ks)) =
    c.group_of-since.ensures ∙ (λ j. group_kept (bottom j) (c.around_of-around.ensures.2.before j)) ∙ base_is base (take i c.list.result.now) ∙ ap (λ l. newest_group base (snaps_in (take i l))) kept in
    let next : c.dead_of.result.now.entries ≡ entries_at ks (i + 1) es = c.dead_of.ensures ∙ (λ j. entries_of (c.around_of-around.ensures.2.after j) ((c.deref-2.ensures j).entries)) ∙ ap (λ l. entries_at l (i + 1) es) kept in
    let listed = alone_listed bs base ks i g live es c.self.invariant.accounted c.self.invariant.dead rising each above at in
    let is : lost_from bs (snaps_in ks) live g ≡ lost_from (blocks c.args.self.now.below) c.args.self.now.system.snaps c.args.self.now.system.live g =
    ap (λ (r : Row). lost_from (blocks r.below) r.system.snaps r.system.live g) c.self.view_is in
    let young = filter (is_after (newest_group base (snaps_in (take i ks)))) (entries_at ks (i + 1) es) in
    let count : length (map dead_block young) ≡ len (lost_from bs (snaps_in ks) live g) = (dead_counts (map dead_block young) (lost_from bs (snaps_in ks) live g) 0 listed).0 in
    c.space_after.ensures.space ∙ (λ j. length (filter (is_after (since j)) (next j))) ∙ sym (length-map young dead_block) ∙ count ∙ ap (λ s. len s) is

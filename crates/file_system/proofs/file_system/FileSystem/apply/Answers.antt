use Rattle.std.proofs.Common.{◌≡◌, ℕ, List, ◌+◌, ◌<◌, ◌≤◌, arith, rules, refl, sym, subst, ap, ◌∙◌, map}
use Rattle.std.specs.Prelude.{max, nat_lt}
use Rattle.std.specs.List.{filter}
use Rattle.base.specs.Surveys.{dead_block}
use Rattle.base.specs.declared.number.Dead.{Dead}
use Rattle.file_system.specs.Writes.{newest_group}
use Rattle.file_system.proofs.Releases.{map_filter}
use Rattle.arrayvec.proofs.ArrayVecLemmas.{filter-from_retain}
use Rattle.std.specs.Arc.{arc_value}
use Rattle.std.specs.FinSet.{difference}
use Rattle.std.specs.Option.{option_map}
use Rattle.base.specs.Map.{Map, blocks}
use Rattle.world.specs.Deadlists.{Lists}
use Rattle.world.proofs.lineage.Shuffled.{lists_shuffled}
use Rattle.file_system.specs.Counts.{AreLined, IsCounted, IsRest, upto_count}
use Rattle.file_system.specs.declared.counts.UsedBlocks.{UsedBlocks}
use Rattle.file_system.specs.declared.counts.Rest.{Rest}
use Rattle.file_system.specs.Dead.{snaps_in, newest_blocks, IsAbove, HasGained}
use Rattle.file_system.specs.Origins.{origin_group, map_below, blocks_below, group_below}
use Rattle.file_system.specs.Rows.{Row}
use Rattle.file_system.proofs.Accounts.{dead_changed, count_is}
use Rattle.file_system.proofs.Lines.{line_above, newest_over}
use Rattle.file_system.proofs.Rewritten.{own_many, own_after, alone_after, upto_more}
use Rattle.tree.specs.Asking.{AllowsChange}
use Rattle.tree.specs.Change.{IsChange, CountsDropped}
use Rattle.tree.specs.ChangeParts.{change_done}
use Rattle.tree.specs.Updates.{changes_of}
use Rattle.file_system.proofs.file_system.FileSystem.apply.Goals as goal

-- the change may be asked for with the blocks young that are
pub put-requires-clause-can : goal.put-requires-clause-can
put-requires-clause-can c =
    let young : c.young_from-young.result.0 ≡ max c.args.synced.0 (newest_group (origin_group c.args.self.now.system.origin) c.args.self.now.system.snaps + 1) = c.young_from-young.ensures ∙ ap (λ n. max c.args.synced.0 (n + 1)) c.newest_group-newest.ensures in
    record {
      young = c.young_from-young.result.0;
      states = c.args.allocator.now;
      asks = subst (λ (r : Row). AllowsChange r.system.live c.args.updates.now c.args.group.0 c.young_from-young.result.0 c.args.allocator.now) (sym c.self.view_is)
          (subst (λ y. AllowsChange c.args.self.now.system.live c.args.updates.now c.args.group.0 y c.args.allocator.now) (sym young) c.requires.allowed.asks);
      is = c.in_ok-draft.ensures.ok;
    }

-- of what the tree released stays what was born after the newest snapshot
pub returns-clause-ok : goal.returns-clause-ok
returns-clause-ok c =
    let newest = newest_group (origin_group c.args.self.now.system.origin) c.args.self.now.system.snaps in
    let young : c.young_from-young.result.0 ≡ max c.args.synced.0 (newest + 1) = c.young_from-young.ensures ∙ ap (λ n. max c.args.synced.0 (n + 1)) c.newest_group-newest.ensures in
    let done = c.put.new.draft in
    let kept : c.retain.new.self.items ≡ filter (λ (d : Dead). nat_lt c.newest_group-newest.result.0 d.birth.0) done.released.items = filter-from_retain _ (λ (d : Dead). nat_lt c.newest_group-newest.result.0 d.birth.0) _ (λ x b g y k. search rules) _ _ c.retain.ensures.filtered in
    let asked : AllowsChange c.self.inside.live c.args.updates.now c.args.group.0 c.young_from-young.result.0 c.args.allocator.now =
    subst (λ (r : Row). AllowsChange r.system.live c.args.updates.now c.args.group.0 c.young_from-young.result.0 c.args.allocator.now) (sym c.self.view_is)
    (subst (λ y. AllowsChange c.args.self.now.system.live c.args.updates.now c.args.group.0 y c.args.allocator.now) (sym young) c.requires.allowed.asks) in
    let put : IsChange c.self.inside.live (changes_of c.args.updates.now) c.args.group.0 c.young_from-young.result.0 c.args.allocator.now (change_done c.self.inside.live c.put.new.live done) =
    c.in_ok-put.ensures.ok.changed c.young_from-young.result.0 c.args.allocator.now asked c.in_ok-draft.ensures.ok in
    record {
      change = change_done c.self.inside.live c.put.new.live done;
      is = subst (λ y. IsChange c.args.self.now.system.live (changes_of c.args.updates.now) c.args.group.0 y c.args.allocator.now (change_done c.self.inside.live c.put.new.live done)) young
          (subst (λ (r : Row). IsChange r.system.live (changes_of c.args.updates.now) c.args.group.0 c.young_from-young.result.0 c.args.allocator.now (change_done c.self.inside.live c.put.new.live done)) c.self.view_is put);
      new_is = refl;
      released = ap (map dead_block) (kept ∙ ap (λ n. filter (λ (d : Dead). nat_lt n d.birth.0) done.released.items) c.newest_group-newest.ensures) ∙ map_filter dead_block (λ b. nat_lt newest b.birth) done.released.items;
      taken = refl;
      made = refl;
    }

-- the draft has counted the blocks that go, and the put has taken none back
pub returns-clause-metered : goal.returns-clause-metered
returns-clause-metered c =
    let d = c.in_ok-draft.ensures.metered in
    subst (λ (r : Row). CountsDropped r.system.live (changes_of c.args.updates.now) c.args.meter.now c.put.new.meter) c.self.view_is
    (record { dropped = d.dropped; each = d.each; once = d.once; metered = omega (arith, d.metered, c.in_ok-put.ensures.never_lower) })

-- where memory was refused, the dead list's entries may stand in another order
pub invariant_of-self : goal.invariant_of-self
invariant_of-self c =
    let below = newest_blocks (blocks_below (option_map arc_value c.self.inside.origin)) (snaps_in (arc_value c.self.inside.snapshots)) in
    record {
      accounted = c.self.invariant.accounted;
      dead = subst (λ (m : Map). Lists (map dead_block (arc_value c.put.new.dead).entries) (difference below (blocks m))) (sym c.in_err-put.ensures.err)
          (lists_shuffled dead_block _ _ _ c.in_err-put.ensures.dead_err c.self.invariant.dead);
      plain = c.in_err-put.ensures.plain;
      counted = subst (λ (m : Map). IsCounted (map_below (option_map arc_value c.self.inside.origin)) (snaps_in (arc_value c.self.inside.snapshots)) m c.self.inside.counts) (sym c.in_err-put.ensures.err) c.self.invariant.counted;
    }

-- ---- the counts

-- what is left of the counts, by the entries of a slice
rest_over : (es : List Dead) (n : UsedBlocks) (nodes : ℕ) (rs : List Dead) (base newest : ℕ) (r : Rest) → rs ≡ es → IsRest n nodes rs base newest r → IsRest n nodes es base newest r
rest_over es n nodes rs base newest r e is = subst (λ l. IsRest n nodes l base newest r) e is

-- what is let go of the origin's is a part of what the live map has of it
pub rest_of-requires-clause-own : goal.rest_of-requires-clause-own
rest_of-requires-clause-own c =
    let snaps = snaps_in (arc_value c.self.inside.snapshots) in
    let o = option_map arc_value c.self.inside.origin in
    let below = map_below o in
    let base = group_below o in
    let m = c.self.inside.live in
    let bottom : c.base_group-base.result.0 ≡ base = c.base_group-base.ensures ∙ ap group_below c.origin_in.ensures in
    let top : c.newest_group-newest.result.0 ≡ newest_group base snaps = c.newest_group-newest.ensures ∙ ap (λ (r : Row). newest_group (origin_group r.system.origin) r.system.snaps) (sym c.self.view_is) in
    let lined : AreLined below base snaps m =
    subst (λ (r : Row). AreLined r.below (origin_group r.system.origin) r.system.snaps r.system.live) (sym c.self.view_is) (line_above c.args.self.now.below c.args.self.now.system c.requires.above) in
    let es = c.draft.new.draft.released.items in
    let many = own_many below base snaps m lined (changes_of c.args.updates.now) c.young_from-young.result.0 es c.in_ok-draft.ensures.released in
    let nodes = c.node_count-nodes.ensures.count ∙ sym (count_is m c.node_count-nodes.ensures.unique) in
    let was = c.self.invariant.counted.by_dataset in
    let low : upto_count c.base_group-base.result.0 c.as_slice.result.now ≡ upto_count base es = λ i. upto_count (bottom i) (c.as_slice.ensures i) in
    omega arith

pub rest_of-requires-clause-rising : goal.rest_of-requires-clause-rising
rest_of-requires-clause-rising c =
    let snaps = snaps_in (arc_value c.self.inside.snapshots) in
    let o = option_map arc_value c.self.inside.origin in
    let below = map_below o in
    let base = group_below o in
    let m = c.self.inside.live in
    let bottom : c.base_group-base.result.0 ≡ base = c.base_group-base.ensures ∙ ap group_below c.origin_in.ensures in
    let top : c.newest_group-newest.result.0 ≡ newest_group base snaps = c.newest_group-newest.ensures ∙ ap (λ (r : Row). newest_group (origin_group r.system.origin) r.system.snaps) (sym c.self.view_is) in
    let lined : AreLined below base snaps m =
    subst (λ (r : Row). AreLined r.below (origin_group r.system.origin) r.system.snaps r.system.live) (sym c.self.view_is) (line_above c.args.self.now.below c.args.self.now.system c.requires.above) in
    let es = c.draft.new.draft.released.items in
    let over = newest_over (blocks below) base snaps m lined.line in
    upto_more c.base_group-base.result.0 c.newest_group-newest.result.0 c.as_slice.result.now (omega arith)

-- the new live map has what is left of the origin's
pub counts_with-self-inside-requires : goal.counts_with-self-inside-requires
counts_with-self-inside-requires c =
    let snaps = snaps_in (arc_value c.self.inside.snapshots) in
    let o = option_map arc_value c.self.inside.origin in
    let below = map_below o in
    let base = group_below o in
    let m = c.self.inside.live in
    let bottom : c.base_group-base.result.0 ≡ base = c.base_group-base.ensures ∙ ap group_below c.origin_in.ensures in
    let top : c.newest_group-newest.result.0 ≡ newest_group base snaps = c.newest_group-newest.ensures ∙ ap (λ (r : Row). newest_group (origin_group r.system.origin) r.system.snaps) (sym c.self.view_is) in
    let lined : AreLined below base snaps m =
    subst (λ (r : Row). AreLined r.below (origin_group r.system.origin) r.system.snaps r.system.live) (sym c.self.view_is) (line_above c.args.self.now.below c.args.self.now.system c.requires.above) in
    let es = c.draft.new.draft.released.items in
    let newest = newest_group (origin_group c.args.self.now.system.origin) c.args.self.now.system.snaps in
    let young : c.young_from-young.result.0 ≡ max c.args.synced.0 (newest + 1) = c.young_from-young.ensures ∙ ap (λ n. max c.args.synced.0 (n + 1)) c.newest_group-newest.ensures in
    let done = c.put.new.draft in
    let new = c.put.new.live in
    let asked : AllowsChange m c.args.updates.now c.args.group.0 c.young_from-young.result.0 c.args.allocator.now =
    subst (λ (r : Row). AllowsChange r.system.live c.args.updates.now c.args.group.0 c.young_from-young.result.0 c.args.allocator.now) (sym c.self.view_is)
    (subst (λ y. AllowsChange c.args.self.now.system.live c.args.updates.now c.args.group.0 y c.args.allocator.now) (sym young) c.requires.allowed.asks) in
    let put : IsChange m (changes_of c.args.updates.now) c.args.group.0 c.young_from-young.result.0 c.args.allocator.now (change_done m new done) =
    c.in_ok-put.ensures.ok.changed c.young_from-young.result.0 c.args.allocator.now asked c.in_ok-draft.ensures.ok in
    let late : newest_group base snaps < c.young_from-young.result.0 = omega (arith, c.newest_group-newest.ensures) in
    let let_go : map dead_block done.released.items ≡ map dead_block es = ap (map dead_block) c.in_ok-put.ensures.ok.released in
    let rest = rest_over es c.self.inside.counts c.node_count-nodes.result _ c.base_group-base.result.0 c.newest_group-newest.result.0 c.in_ok-rest.rest c.as_slice.ensures c.in_ok-rest.ensures.ok in
    let old_nodes = c.node_count-nodes.ensures.count ∙ sym (count_is m c.node_count-nodes.ensures.unique) in
    let after = own_after m new (changes_of c.args.updates.now) c.args.group.0 c.young_from-young.result.0 c.args.allocator.now (change_done m new done) put c.in_ok-draft.ensures.unique refl asked.young es let_go below base snaps lined late in
    let low : upto_count c.base_group-base.result.0 es ≡ upto_count base es = ap (λ n. upto_count n es) bottom in
    let upper : upto_count c.newest_group-newest.result.0 es ≡ upto_count (newest_group base snaps) es = ap (λ n. upto_count n es) top in
    let was = c.self.invariant.counted.by_dataset in
    let new_nodes = c.node_count.ensures.count ∙ sym (count_is new c.node_count.ensures.unique) in
    let shared = rest.shared in
    omega arith

-- what the newest snapshot has of what was let go is on the dead list
pub invariant_of-self-2 : goal.invariant_of-self-2
invariant_of-self-2 c =
    let snaps = snaps_in (arc_value c.self.inside.snapshots) in
    let newest = newest_group (origin_group c.args.self.now.system.origin) c.args.self.now.system.snaps in
    let young : c.young_from-young.result.0 ≡ max c.args.synced.0 (newest + 1) = c.young_from-young.ensures ∙ ap (λ n. max c.args.synced.0 (n + 1)) c.newest_group-newest.ensures in
    let done = c.put.new.draft in
    let asked : AllowsChange c.self.inside.live c.args.updates.now c.args.group.0 c.young_from-young.result.0 c.args.allocator.now =
    subst (λ (r : Row). AllowsChange r.system.live c.args.updates.now c.args.group.0 c.young_from-young.result.0 c.args.allocator.now) (sym c.self.view_is)
    (subst (λ y. AllowsChange c.args.self.now.system.live c.args.updates.now c.args.group.0 y c.args.allocator.now) (sym young) c.requires.allowed.asks) in
    let put : IsChange c.self.inside.live (changes_of c.args.updates.now) c.args.group.0 c.young_from-young.result.0 c.args.allocator.now (change_done c.self.inside.live c.put.new.live done) =
    c.in_ok-put.ensures.ok.changed c.young_from-young.result.0 c.args.allocator.now asked c.in_ok-draft.ensures.ok in
    let bs = blocks_below (option_map arc_value c.self.inside.origin) in
    let base = group_below (option_map arc_value c.self.inside.origin) in
    let here : newest ≡ newest_group base snaps = ap (λ (r : Row). newest_group (origin_group r.system.origin) r.system.snaps) (sym c.self.view_is) in
    let above : IsAbove bs base c.self.inside.live snaps =
    subst (λ (r : Row). IsAbove (blocks r.below) (origin_group r.system.origin) r.system.live r.system.snaps) (sym c.self.view_is) c.requires.allowed.above in
    let late : newest_group base snaps < c.young_from-young.result.0 = omega arith in
    let early : c.young_from-young.result.0 ≤ c.args.group.0 = asked.young in
    let gained : HasGained (arc_value c.self.inside.dead).entries (arc_value c.put.new.dead).entries c.draft.new.draft.released.items (newest_group base snaps) =
    subst (HasGained (arc_value c.self.inside.dead).entries (arc_value c.put.new.dead).entries c.draft.new.draft.released.items) (c.newest_group-newest.ensures ∙ here) c.in_ok-put.ensures.dead in
    record {
      accounted = c.self.invariant.accounted;
      dead = dead_changed bs base c.self.inside.live c.put.new.live (changes_of c.args.updates.now) c.args.group.0 c.young_from-young.result.0 c.args.allocator.now (change_done c.self.inside.live c.put.new.live done)
          put c.in_ok-draft.ensures.unique snaps above late early _ _ c.draft.new.draft.released.items gained (ap (map dead_block) c.in_ok-put.ensures.ok.released) refl c.self.invariant.dead;
      plain = c.in_ok-put.ensures.plain;
      counted = (
          let snaps = snaps_in (arc_value c.self.inside.snapshots) in
          let o = option_map arc_value c.self.inside.origin in
          let below = map_below o in
          let base = group_below o in
          let m = c.self.inside.live in
          let bottom : c.base_group-base.result.0 ≡ base = c.base_group-base.ensures ∙ ap group_below c.origin_in.ensures in
          let top : c.newest_group-newest.result.0 ≡ newest_group base snaps = c.newest_group-newest.ensures ∙ ap (λ (r : Row). newest_group (origin_group r.system.origin) r.system.snaps) (sym c.self.view_is) in
          let lined : AreLined below base snaps m =
          subst (λ (r : Row). AreLined r.below (origin_group r.system.origin) r.system.snaps r.system.live) (sym c.self.view_is) (line_above c.args.self.now.below c.args.self.now.system c.requires.above) in
          let es = c.draft.new.draft.released.items in
          let newest = newest_group (origin_group c.args.self.now.system.origin) c.args.self.now.system.snaps in
          let young : c.young_from-young.result.0 ≡ max c.args.synced.0 (newest + 1) = c.young_from-young.ensures ∙ ap (λ n. max c.args.synced.0 (n + 1)) c.newest_group-newest.ensures in
          let done = c.put.new.draft in
          let new = c.put.new.live in
          let asked : AllowsChange m c.args.updates.now c.args.group.0 c.young_from-young.result.0 c.args.allocator.now =
          subst (λ (r : Row). AllowsChange r.system.live c.args.updates.now c.args.group.0 c.young_from-young.result.0 c.args.allocator.now) (sym c.self.view_is)
          (subst (λ y. AllowsChange c.args.self.now.system.live c.args.updates.now c.args.group.0 y c.args.allocator.now) (sym young) c.requires.allowed.asks) in
          let put : IsChange m (changes_of c.args.updates.now) c.args.group.0 c.young_from-young.result.0 c.args.allocator.now (change_done m new done) =
          c.in_ok-put.ensures.ok.changed c.young_from-young.result.0 c.args.allocator.now asked c.in_ok-draft.ensures.ok in
          let late : newest_group base snaps < c.young_from-young.result.0 = omega (arith, c.newest_group-newest.ensures) in
          let let_go : map dead_block done.released.items ≡ map dead_block es = ap (map dead_block) c.in_ok-put.ensures.ok.released in
          let rest = rest_over es c.self.inside.counts c.node_count-nodes.result _ c.base_group-base.result.0 c.newest_group-newest.result.0 c.in_ok-rest.rest c.as_slice.ensures c.in_ok-rest.ensures.ok in
          let old_nodes = c.node_count-nodes.ensures.count ∙ sym (count_is m c.node_count-nodes.ensures.unique) in
          let after = own_after m new (changes_of c.args.updates.now) c.args.group.0 c.young_from-young.result.0 c.args.allocator.now (change_done m new done) put c.in_ok-draft.ensures.unique refl asked.young es let_go below base snaps lined late in
          let low : upto_count c.base_group-base.result.0 es ≡ upto_count base es = ap (λ n. upto_count n es) bottom in
          let upper : upto_count c.newest_group-newest.result.0 es ≡ upto_count (newest_group base snaps) es = ap (λ n. upto_count n es) top in
          let was = c.self.invariant.counted.by_dataset in
          let new_nodes = c.node_count.ensures.count ∙ sym (count_is new c.node_count.ensures.unique) in
          let shared = rest.shared in
          let above = subst (λ (r : Row). IsAbove (blocks r.below) (origin_group r.system.origin) r.system.live r.system.snaps) (sym c.self.view_is) c.requires.allowed.above in
          let alone = alone_after m new (changes_of c.args.updates.now) c.args.group.0 c.young_from-young.result.0 c.args.allocator.now (change_done m new done) put c.in_ok-draft.ensures.unique refl asked.young es let_go below base snaps lined late above in
          let with_it = c.counts_with-self-inside.ensures.by_dataset in
          let kept = c.counts_with-self-inside.ensures.by_snapshots in
          let had = c.self.invariant.counted.by_snapshots in
          let goes_on = rest.by_snapshots in
          record { by_dataset = omega arith; by_snapshots = omega arith });
    }

use Rattle.std.proofs.Common.{◌≡◌, ◌<◌, ◌-◌, suc, Some, length, map, set, slice_get, ap, sym, subst, ◌∙◌, arith}
use Rattle.std.specs.Prelude.{remove}
use Rattle.std.specs.Arc.{arc_value}
use Rattle.std.specs.FinSet.{difference}
use Rattle.std.specs.Option.{option_map, option_copied}
use Rattle.std.specs.Result.{is_ok}
use Rattle.base.specs.Map.{blocks}
use Rattle.base.specs.Surveys.{dead_block}
use Rattle.deadlist.specs.Held.{Held}
use Rattle.snapshots.specs.declared.kept.Kept.{Kept}
use Rattle.snapshots.specs.Index.{AreNamesOnce}
use Rattle.world.specs.Deadlists.{Lists}
use Rattle.world.specs.Worlds.{AreRising}
use Rattle.file_system.specs.Counts.{AreLined, IsCounted}
use Rattle.file_system.specs.Dead.{snaps_in, newest_blocks, AreAccounted, AreUncut, IsAbove, IsPlain}
use Rattle.file_system.specs.Origins.{origin_id, origin_group, map_below, blocks_below, group_below}
use Rattle.file_system.specs.Rows.{Row, system_of, with_system}
use Rattle.file_system.specs.Splices.{lost_from, without_group, AreStacked, AreJoined, IsNext}
use Rattle.file_system.proofs.Fewer.{fewer_listed}
use Rattle.file_system.proofs.Lines.{line_above}
use Rattle.file_system.proofs.Stacks.{above_names, are_uncut, rising_from, next_snaps, next_accounted, next_dead, next_lost, last_accounted, last_dead, last_lost, others_stay}
use Rattle.file_system.proofs.file_system.FileSystem.splice.Goals as goal

-- each name is one snapshot's
pub splice-requires-clause-once : goal.splice-requires-clause-once
splice-requires-clause-once c = subst AreNamesOnce (sym c.in_ok-own.ensures.value)
    (above_names c.args.self.now.below c.args.self.now.system (arc_value c.self.inside.snapshots) c.requires.above (ap (λ (r : Row). r.system.snaps) c.self.view_is))

pub remove-requires-clause-once : goal.remove-requires-clause-once
remove-requires-clause-once c = subst AreNamesOnce (sym c.in_ok-own-2.ensures.value)
    (above_names c.args.self.now.below c.args.self.now.system (arc_value c.self.inside.snapshots) c.requires.above (ap (λ (r : Row). r.system.snaps) c.self.view_is))

pub joined-requires-clause-place : goal.joined-requires-clause-place
joined-requires-clause-place c = c.place_of-place.ensures.within

pub joined-requires-clause-uncut : goal.joined-requires-clause-uncut
joined-requires-clause-uncut c =
    let kept : c.list-kept.result.now ≡ arc_value c.self.inside.snapshots = c.list-kept.ensures ∙ c.deref.ensures in
    subst AreUncut (sym kept) (are_uncut (blocks_below (option_map arc_value c.self.inside.origin)) (arc_value c.self.inside.snapshots) c.self.invariant.accounted)

pub joined-requires-clause-next : goal.joined-requires-clause-next
joined-requires-clause-next c = ap (λ (h : Held). h.cuts) c.deref-2.ensures ∙ c.self.invariant.plain.uncut

pub remove-requires-clause-there : goal.remove-requires-clause-there
remove-requires-clause-there c =
    let kept : c.list-kept.result.now ≡ c.in_ok-own-2.field-0.now = c.list-kept.ensures ∙ c.deref.ensures ∙ sym c.in_ok-own-2.ensures.value in
    subst (λ l. c.place_of-place.result < length l) kept c.place_of-place.ensures.within

-- ---- one stands after it

pub invariant_of-self-then-place-count : goal.invariant_of-self-then-place-count
invariant_of-self-then-place-count c =
    let ks = arc_value c.self.inside.snapshots in
    let kept : c.list-kept.result.now ≡ ks = c.list-kept.ensures ∙ c.deref.ensures in
    let live = c.self.inside.live in
    let g = c.args.group.0 in
    let i = c.place_of-place.result in
    let o = option_map arc_value c.self.inside.origin in
    let bs = blocks_below o in
    let base = group_below o in
    let rising : AreRising base (snaps_in ks) = subst (λ (r : Row). AreRising (origin_group r.system.origin) r.system.snaps) (sym c.self.view_is) c.requires.above.rising in
    let at : option_map (λ (k : Kept). k.snapshot.group) (slice_get ks i) ≡ Some g = ap (λ l. option_map (λ (k : Kept). k.snapshot.group) (slice_get l i)) (sym kept) ∙ c.place_of-place.ensures.is in
    let next = c.in_ok-next.next in
    let lost = c.in_ok-next.lost.entries in
    let is : IsNext bs ks i next lost =
    subst (λ x. IsNext (blocks_below x) ks i next lost) c.origin_in-origin.ensures (subst (λ l. IsNext (blocks_below (option_copied c.origin_in-origin.result)) l i next lost) kept c.in_ok-next.ensures.ok) in
    let spliced : arc_value (c.own.follows.lender c.splice.new.self) ≡ set (remove ks i) i next = c.own.follows.holds c.splice.new.self (ap is_ok c.in_ok-own.was) ∙ c.in_ok-splice.ensures.ok ∙ ap (λ l. set (remove l i) i next) c.in_ok-own.ensures.value in
    let lined : AreLined (map_below o) base (snaps_in ks) live =
    subst (λ (r : Row). AreLined r.below (origin_group r.system.origin) r.system.snaps r.system.live) (sym c.self.view_is) (line_above c.args.self.now.below c.args.self.now.system c.requires.above) in
    let listed = next_lost bs base ks i g live next lost is rising at in
    let fewer = fewer_listed (map_below o) base g (snaps_in ks) live lined lost listed in
    let snaps = ap snaps_in spliced ∙ next_snaps bs base ks i g live next lost is rising at in
    let had = c.self.invariant.counted.by_snapshots in
    record {
      accounted = subst (AreAccounted bs) (sym spliced) (next_accounted bs base ks i g live next lost is rising at c.self.invariant.accounted);
      dead = subst (λ l. Lists (map dead_block (arc_value c.self.inside.dead).entries) (difference (newest_blocks bs (snaps_in l)) (blocks live))) (sym spliced)
          (next_dead bs base ks i g live next lost is rising at (arc_value c.self.inside.dead).entries c.self.invariant.dead);
      plain = c.self.invariant.plain;
      counted = subst (λ l. IsCounted (map_below o) l live (record c.self.inside.counts { by_snapshots = c.self.inside.counts.by_snapshots - c.len.result })) (sym snaps)
          (record { by_dataset = c.self.invariant.counted.by_dataset; by_snapshots = omega (arith, c.len.ensures) });
    }

-- the snapshots have counted what is lost
pub overflow_sub-self : goal.overflow_sub-self
overflow_sub-self c =
    let ks = arc_value c.self.inside.snapshots in
    let kept : c.list-kept.result.now ≡ ks = c.list-kept.ensures ∙ c.deref.ensures in
    let live = c.self.inside.live in
    let g = c.args.group.0 in
    let i = c.place_of-place.result in
    let o = option_map arc_value c.self.inside.origin in
    let bs = blocks_below o in
    let base = group_below o in
    let rising : AreRising base (snaps_in ks) = subst (λ (r : Row). AreRising (origin_group r.system.origin) r.system.snaps) (sym c.self.view_is) c.requires.above.rising in
    let at : option_map (λ (k : Kept). k.snapshot.group) (slice_get ks i) ≡ Some g = ap (λ l. option_map (λ (k : Kept). k.snapshot.group) (slice_get l i)) (sym kept) ∙ c.place_of-place.ensures.is in
    let next = c.in_ok-next.next in
    let lost = c.in_ok-next.lost.entries in
    let is : IsNext bs ks i next lost =
    subst (λ x. IsNext (blocks_below x) ks i next lost) c.origin_in-origin.ensures (subst (λ l. IsNext (blocks_below (option_copied c.origin_in-origin.result)) l i next lost) kept c.in_ok-next.ensures.ok) in
    let spliced : arc_value (c.own.follows.lender c.splice.new.self) ≡ set (remove ks i) i next = c.own.follows.holds c.splice.new.self (ap is_ok c.in_ok-own.was) ∙ c.in_ok-splice.ensures.ok ∙ ap (λ l. set (remove l i) i next) c.in_ok-own.ensures.value in
    let lined : AreLined (map_below o) base (snaps_in ks) live =
    subst (λ (r : Row). AreLined r.below (origin_group r.system.origin) r.system.snaps r.system.live) (sym c.self.view_is) (line_above c.args.self.now.below c.args.self.now.system c.requires.above) in
    let fewer = fewer_listed (map_below o) base g (snaps_in ks) live lined lost (next_lost bs base ks i g live next lost is rising at) in
    let had = c.self.invariant.counted.by_snapshots in
    omega (arith, c.len.ensures)

pub returns-then-place-count-clause-ok : goal.returns-then-place-count-clause-ok
returns-then-place-count-clause-ok c =
    let ks = arc_value c.self.inside.snapshots in
    let kept : c.list-kept.result.now ≡ ks = c.list-kept.ensures ∙ c.deref.ensures in
    let live = c.self.inside.live in
    let g = c.args.group.0 in
    let i = c.place_of-place.result in
    let o = option_map arc_value c.self.inside.origin in
    let bs = blocks_below o in
    let base = group_below o in
    let rising : AreRising base (snaps_in ks) = subst (λ (r : Row). AreRising (origin_group r.system.origin) r.system.snaps) (sym c.self.view_is) c.requires.above.rising in
    let at : option_map (λ (k : Kept). k.snapshot.group) (slice_get ks i) ≡ Some g = ap (λ l. option_map (λ (k : Kept). k.snapshot.group) (slice_get l i)) (sym kept) ∙ c.place_of-place.ensures.is in
    let next = c.in_ok-next.next in
    let lost = c.in_ok-next.lost.entries in
    let is : IsNext bs ks i next lost =
    subst (λ x. IsNext (blocks_below x) ks i next lost) c.origin_in-origin.ensures (subst (λ l. IsNext (blocks_below (option_copied c.origin_in-origin.result)) l i next lost) kept c.in_ok-next.ensures.ok) in
    let spliced : arc_value (c.own.follows.lender c.splice.new.self) ≡ set (remove ks i) i next = c.own.follows.holds c.splice.new.self (ap is_ok c.in_ok-own.was) ∙ c.in_ok-splice.ensures.ok ∙ ap (λ l. set (remove l i) i next) c.in_ok-own.ensures.value in
    ap (λ l. record { name = c.self.inside.name.value; system = system_of live l (origin_id (option_map arc_value c.self.inside.origin)) c.self.inside.limits (arc_value c.self.inside.bookmarks); below = map_below (option_map arc_value c.self.inside.origin) }) (ap snaps_in spliced ∙ next_snaps bs base ks i g live next lost is rising at)
    ∙ ap (λ (r : Row). with_system r (without_group r.system g)) c.self.view_is

pub returns-then-place-count-clause-lost : goal.returns-then-place-count-clause-lost
returns-then-place-count-clause-lost c =
    let ks = arc_value c.self.inside.snapshots in
    let kept : c.list-kept.result.now ≡ ks = c.list-kept.ensures ∙ c.deref.ensures in
    let live = c.self.inside.live in
    let g = c.args.group.0 in
    let i = c.place_of-place.result in
    let o = option_map arc_value c.self.inside.origin in
    let bs = blocks_below o in
    let base = group_below o in
    let rising : AreRising base (snaps_in ks) = subst (λ (r : Row). AreRising (origin_group r.system.origin) r.system.snaps) (sym c.self.view_is) c.requires.above.rising in
    let at : option_map (λ (k : Kept). k.snapshot.group) (slice_get ks i) ≡ Some g = ap (λ l. option_map (λ (k : Kept). k.snapshot.group) (slice_get l i)) (sym kept) ∙ c.place_of-place.ensures.is in
    let next = c.in_ok-next.next in
    let lost = c.in_ok-next.lost.entries in
    let is : IsNext bs ks i next lost =
    subst (λ x. IsNext (blocks_below x) ks i next lost) c.origin_in-origin.ensures (subst (λ l. IsNext (blocks_below (option_copied c.origin_in-origin.result)) l i next lost) kept c.in_ok-next.ensures.ok) in
    let spliced : arc_value (c.own.follows.lender c.splice.new.self) ≡ set (remove ks i) i next = c.own.follows.holds c.splice.new.self (ap is_ok c.in_ok-own.was) ∙ c.in_ok-splice.ensures.ok ∙ ap (λ l. set (remove l i) i next) c.in_ok-own.ensures.value in
    subst (λ (r : Row). Lists (map dead_block lost) (lost_from (blocks r.below) r.system.snaps r.system.live g)) c.self.view_is (next_lost bs base ks i g live next lost is rising at)

-- ---- none does, but the live map

pub invariant_of-self-2 : goal.invariant_of-self-2
invariant_of-self-2 c =
    let ks = arc_value c.self.inside.snapshots in
    let kept : c.list-kept.result.now ≡ ks = c.list-kept.ensures ∙ c.deref.ensures in
    let live = c.self.inside.live in
    let g = c.args.group.0 in
    let i = c.place_of-place.result in
    let o = option_map arc_value c.self.inside.origin in
    let bs = blocks_below o in
    let base = group_below o in
    let rising : AreRising base (snaps_in ks) = subst (λ (r : Row). AreRising (origin_group r.system.origin) r.system.snaps) (sym c.self.view_is) c.requires.above.rising in
    let at : option_map (λ (k : Kept). k.snapshot.group) (slice_get ks i) ≡ Some g = ap (λ l. option_map (λ (k : Kept). k.snapshot.group) (slice_get l i)) (sym kept) ∙ c.place_of-place.ensures.is in
    let old = (arc_value c.self.inside.dead).entries in
    let new = c.in_ok-dead.dead.entries in
    let lost = c.in_ok-dead.lost.entries in
    let bottom : c.base_group.result.0 ≡ base = c.base_group.ensures ∙ ap group_below c.origin_in-origin.ensures in
    let j : AreJoined base ks i old new lost =
    subst (λ (h : Held). AreJoined base ks i h.entries new lost) c.deref-2.ensures
    (subst (λ l. AreJoined base l i c.deref-2.result.now.entries new lost) kept (subst (λ n. AreJoined n c.list-kept.result.now i c.deref-2.result.now.entries new lost) bottom c.in_ok-dead.ensures.ok)) in
    let each : AreStacked bs base (snaps_in ks) = subst (λ (r : Row). AreStacked (blocks r.below) (origin_group r.system.origin) r.system.snaps) (sym c.self.view_is) c.requires.above.each in
    let above : IsAbove bs base live (snaps_in ks) =
    subst (λ (r : Row). IsAbove (blocks r.below) (origin_group r.system.origin) r.system.live r.system.snaps) (sym c.self.view_is) c.requires.above.live in
    let within = subst (λ l. i < length l) kept c.place_of-place.ensures.within in
    let count = c.len-count.ensures ∙ ap length kept in
    let no_more = c.if-place-count.false in
    let last : suc i ≡ length ks = omega arith in
    let removed : arc_value (c.own-2.follows.lender c.remove.new.self) ≡ remove ks i = c.own-2.follows.holds c.remove.new.self (ap is_ok c.in_ok-own-2.was) ∙ c.in_ok-remove.ensures.ok ∙ ap (λ l. remove l i) c.in_ok-own-2.ensures.value in
    let lined : AreLined (map_below o) base (snaps_in ks) live =
    subst (λ (r : Row). AreLined r.below (origin_group r.system.origin) r.system.snaps r.system.live) (sym c.self.view_is) (line_above c.args.self.now.below c.args.self.now.system c.requires.above) in
    let listed = last_lost bs base ks i g live old new lost j c.self.invariant.accounted c.self.invariant.dead rising each above at last in
    let fewer = fewer_listed (map_below o) base g (snaps_in ks) live lined lost listed in
    let had = c.self.invariant.counted.by_snapshots in
    let snaps = ap snaps_in removed ∙ others_stay base g i ks rising at in
    record {
      accounted = subst (AreAccounted bs) (sym removed) (last_accounted bs base ks i g live old new lost j c.self.invariant.accounted c.self.invariant.dead rising each above at last);
      dead = subst (λ (h : Held). Lists (map dead_block h.entries) (difference (newest_blocks bs (snaps_in (arc_value (c.own-2.follows.lender c.remove.new.self)))) (blocks live))) (sym c.in_ok-dead-2.ensures.ok)
          (subst (λ l. Lists (map dead_block new) (difference (newest_blocks bs (snaps_in l)) (blocks live))) (sym removed)
          (last_dead bs base ks i g live old new lost j c.self.invariant.accounted c.self.invariant.dead rising each above at last));
      plain = subst IsPlain (sym c.in_ok-dead-2.ensures.ok) c.in_ok-dead.ensures.plain;
      counted = subst (λ l. IsCounted (map_below o) l live (record c.self.inside.counts { by_snapshots = c.self.inside.counts.by_snapshots - c.len-2.result })) (sym snaps)
          (record { by_dataset = c.self.invariant.counted.by_dataset; by_snapshots = omega (arith, c.len-2.ensures) });
    }

pub overflow_sub-self-2 : goal.overflow_sub-self-2
overflow_sub-self-2 c =
    let ks = arc_value c.self.inside.snapshots in
    let kept : c.list-kept.result.now ≡ ks = c.list-kept.ensures ∙ c.deref.ensures in
    let live = c.self.inside.live in
    let g = c.args.group.0 in
    let i = c.place_of-place.result in
    let o = option_map arc_value c.self.inside.origin in
    let bs = blocks_below o in
    let base = group_below o in
    let rising : AreRising base (snaps_in ks) = subst (λ (r : Row). AreRising (origin_group r.system.origin) r.system.snaps) (sym c.self.view_is) c.requires.above.rising in
    let at : option_map (λ (k : Kept). k.snapshot.group) (slice_get ks i) ≡ Some g = ap (λ l. option_map (λ (k : Kept). k.snapshot.group) (slice_get l i)) (sym kept) ∙ c.place_of-place.ensures.is in
    let old = (arc_value c.self.inside.dead).entries in
    let new = c.in_ok-dead.dead.entries in
    let lost = c.in_ok-dead.lost.entries in
    let bottom : c.base_group.result.0 ≡ base = c.base_group.ensures ∙ ap group_below c.origin_in-origin.ensures in
    let j : AreJoined base ks i old new lost =
    subst (λ (h : Held). AreJoined base ks i h.entries new lost) c.deref-2.ensures
    (subst (λ l. AreJoined base l i c.deref-2.result.now.entries new lost) kept (subst (λ n. AreJoined n c.list-kept.result.now i c.deref-2.result.now.entries new lost) bottom c.in_ok-dead.ensures.ok)) in
    let each : AreStacked bs base (snaps_in ks) = subst (λ (r : Row). AreStacked (blocks r.below) (origin_group r.system.origin) r.system.snaps) (sym c.self.view_is) c.requires.above.each in
    let above : IsAbove bs base live (snaps_in ks) =
    subst (λ (r : Row). IsAbove (blocks r.below) (origin_group r.system.origin) r.system.live r.system.snaps) (sym c.self.view_is) c.requires.above.live in
    let within = subst (λ l. i < length l) kept c.place_of-place.ensures.within in
    let count = c.len-count.ensures ∙ ap length kept in
    let no_more = c.if-place-count.false in
    let last : suc i ≡ length ks = omega arith in
    let removed : arc_value (c.own-2.follows.lender c.remove.new.self) ≡ remove ks i = c.own-2.follows.holds c.remove.new.self (ap is_ok c.in_ok-own-2.was) ∙ c.in_ok-remove.ensures.ok ∙ ap (λ l. remove l i) c.in_ok-own-2.ensures.value in
    let lined : AreLined (map_below o) base (snaps_in ks) live =
    subst (λ (r : Row). AreLined r.below (origin_group r.system.origin) r.system.snaps r.system.live) (sym c.self.view_is) (line_above c.args.self.now.below c.args.self.now.system c.requires.above) in
    let listed = last_lost bs base ks i g live old new lost j c.self.invariant.accounted c.self.invariant.dead rising each above at last in
    let fewer = fewer_listed (map_below o) base g (snaps_in ks) live lined lost listed in
    let had = c.self.invariant.counted.by_snapshots in
    omega (arith, c.len-2.ensures)

pub returns-clause-ok : goal.returns-clause-ok
returns-clause-ok c =
    let ks = arc_value c.self.inside.snapshots in
    let kept : c.list-kept.result.now ≡ ks = c.list-kept.ensures ∙ c.deref.ensures in
    let live = c.self.inside.live in
    let g = c.args.group.0 in
    let i = c.place_of-place.result in
    let o = option_map arc_value c.self.inside.origin in
    let bs = blocks_below o in
    let base = group_below o in
    let rising : AreRising base (snaps_in ks) = subst (λ (r : Row). AreRising (origin_group r.system.origin) r.system.snaps) (sym c.self.view_is) c.requires.above.rising in
    let at : option_map (λ (k : Kept). k.snapshot.group) (slice_get ks i) ≡ Some g = ap (λ l. option_map (λ (k : Kept). k.snapshot.group) (slice_get l i)) (sym kept) ∙ c.place_of-place.ensures.is in
    let removed : arc_value (c.own-2.follows.lender c.remove.new.self) ≡ remove ks i = c.own-2.follows.holds c.remove.new.self (ap is_ok c.in_ok-own-2.was) ∙ c.in_ok-remove.ensures.ok ∙ ap (λ l. remove l i) c.in_ok-own-2.ensures.value in
    ap (λ l. record { name = c.self.inside.name.value; system = system_of live l (origin_id (option_map arc_value c.self.inside.origin)) c.self.inside.limits (arc_value c.self.inside.bookmarks); below = map_below (option_map arc_value c.self.inside.origin) }) (ap snaps_in removed ∙ others_stay base g i ks rising at)
    ∙ ap (λ (r : Row). with_system r (without_group r.system g)) c.self.view_is

pub returns-clause-lost : goal.returns-clause-lost
returns-clause-lost c =
    let ks = arc_value c.self.inside.snapshots in
    let kept : c.list-kept.result.now ≡ ks = c.list-kept.ensures ∙ c.deref.ensures in
    let live = c.self.inside.live in
    let g = c.args.group.0 in
    let i = c.place_of-place.result in
    let o = option_map arc_value c.self.inside.origin in
    let bs = blocks_below o in
    let base = group_below o in
    let rising : AreRising base (snaps_in ks) = subst (λ (r : Row). AreRising (origin_group r.system.origin) r.system.snaps) (sym c.self.view_is) c.requires.above.rising in
    let at : option_map (λ (k : Kept). k.snapshot.group) (slice_get ks i) ≡ Some g = ap (λ l. option_map (λ (k : Kept). k.snapshot.group) (slice_get l i)) (sym kept) ∙ c.place_of-place.ensures.is in
    let old = (arc_value c.self.inside.dead).entries in
    let new = c.in_ok-dead.dead.entries in
    let lost = c.in_ok-dead.lost.entries in
    let bottom : c.base_group.result.0 ≡ base = c.base_group.ensures ∙ ap group_below c.origin_in-origin.ensures in
    let j : AreJoined base ks i old new lost =
    subst (λ (h : Held). AreJoined base ks i h.entries new lost) c.deref-2.ensures
    (subst (λ l. AreJoined base l i c.deref-2.result.now.entries new lost) kept (subst (λ n. AreJoined n c.list-kept.result.now i c.deref-2.result.now.entries new lost) bottom c.in_ok-dead.ensures.ok)) in
    let each : AreStacked bs base (snaps_in ks) = subst (λ (r : Row). AreStacked (blocks r.below) (origin_group r.system.origin) r.system.snaps) (sym c.self.view_is) c.requires.above.each in
    let above : IsAbove bs base live (snaps_in ks) =
    subst (λ (r : Row). IsAbove (blocks r.below) (origin_group r.system.origin) r.system.live r.system.snaps) (sym c.self.view_is) c.requires.above.live in
    let within = subst (λ l. i < length l) kept c.place_of-place.ensures.within in
    let count = c.len-count.ensures ∙ ap length kept in
    let no_more = c.if-place-count.false in
    let last : suc i ≡ length ks = omega arith in
    subst (λ (r : Row). Lists (map dead_block lost) (lost_from (blocks r.below) r.system.snaps r.system.live g)) c.self.view_is
    (last_lost bs base ks i g live old new lost j c.self.invariant.accounted c.self.invariant.dead rising each above at last)

-- ---- the search for it

-- the snapshots of a clone rise above 0 too
pub place_of-place-requires-clause-rising : goal.place_of-place-requires-clause-rising
place_of-place-requires-clause-rising c =
    let ks = arc_value c.self.inside.snapshots in
    let kept : c.list-kept.result.now ≡ ks = c.list-kept.ensures ∙ c.deref.ensures in
    let base = group_below (option_map arc_value c.self.inside.origin) in
    let rising : AreRising base (snaps_in ks) = subst (λ (r : Row). AreRising (origin_group r.system.origin) r.system.snaps) (sym c.self.view_is) c.requires.above.rising in
    subst (λ l. AreRising 0 (snaps_in l)) (sym kept) (rising_from 0 base (snaps_in ks) (omega arith) rising)

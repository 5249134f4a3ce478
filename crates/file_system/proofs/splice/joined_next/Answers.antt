use Rattle.std.proofs.Common.{◌≡◌, ◌+◌, is_some, map, ap, sym, subst, ◌∙◌, true≢false}
use Rattle.std.specs.FinSet.{difference}
use Rattle.std.specs.Option.{option_copied}
use Rattle.base.specs.Map.{Map, BlockSet, blocks}
use Rattle.base.specs.Surveys.{dead_block}
use Rattle.deadlist.specs.Held.{Held}
use Rattle.model.specs.World.{Snap}
use Rattle.model.specs.Sums.{size_without}
use Rattle.snapshots.specs.declared.kept.Kept.{Kept}
use Rattle.world.specs.Deadlists.{Lists}
use Rattle.file_system.specs.Dead.{blocks_kept, IsPlain}
use Rattle.file_system.specs.Origins.{blocks_below, group_below}
use Rattle.file_system.specs.Splices.{blocks_before, AreJoined}
use Rattle.file_system.proofs.Stacks.{are_uncut, uncut_at, some_at, before_blocks, between_dead, between_lost}
use Rattle.file_system.proofs.splice.joined_next.Goals as goal

-- one stands after it
pub unreachable-requires : goal.unreachable-requires
unreachable-requires c =
    let there = some_at c.args.kept.now (c.args.place + 1) c.requires.next in
    true≢false (ap is_some (sym there.1 ∙ sym c.get.ensures ∙ ap option_copied c.in_default.is))

-- its dead list is one over what stands before
pub written_over-written-requires : goal.written_over-written-requires
written_over-written-requires c =
    let ks = c.args.kept.now in
    let n : Kept = c.in-Some.next.now in
    let bs = blocks_below (option_copied c.args.origin) in
    let before : blocks_kept bs (option_copied c.before-2.result) ≡ blocks_before bs ks c.args.place = ap (blocks_kept bs) c.before-2.ensures ∙ before_blocks bs ks c.args.place in
    let base : c.base_group.result.0 ≡ group_below (option_copied c.args.origin) = c.base_group.ensures in
    let j : AreJoined (group_below (option_copied c.args.origin)) ks c.args.place c.deref.result.now.entries c.in_ok-dead.dead.entries c.in_ok-dead.lost.entries =
    subst (λ n. AreJoined n ks c.args.place c.deref.result.now.entries c.in_ok-dead.dead.entries c.in_ok-dead.lost.entries) base c.in_ok-dead.ensures.ok in
    let tree : c.tree.result.now ≡ n.snapshot.map = c.tree.ensures ∙ ap (λ (t : Snap). t.map) c.in_ok-snapshot.ensures.ok in
    let dead = between_dead bs (group_below (option_copied c.args.origin)) ks c.args.place c.requires n (sym c.in-Some.ensures) c.deref.result.now.entries c.in_ok-dead.dead.entries c.in_ok-dead.lost.entries (ap (λ (h : Held). h.entries) c.deref.ensures) j in
    subst (λ (s : BlockSet). Lists (map dead_block c.in_ok-dead.dead.entries) (difference s (blocks c.tree.result.now))) (sym before)
    (subst (λ (m : Map). Lists (map dead_block c.in_ok-dead.dead.entries) (difference (blocks_before bs ks c.args.place) (blocks m))) (sym tree) dead)

pub joined-requires-clause-uncut : goal.joined-requires-clause-uncut
joined-requires-clause-uncut c = are_uncut (blocks_below (option_copied c.args.origin)) c.args.kept.now c.requires.accounted

-- nor is that of the next one cut
pub joined-requires-clause-next : goal.joined-requires-clause-next
joined-requires-clause-next c =
    ap (λ (h : Held). h.cuts) c.deref.ensures
    ∙ uncut_at c.args.kept.now (c.args.place + 1) c.in-Some.next.now (are_uncut (blocks_below (option_copied c.args.origin)) c.args.kept.now c.requires.accounted) (sym c.in-Some.ensures)

pub returns-clause-ok : goal.returns-clause-ok
returns-clause-ok c =
    let ks = c.args.kept.now in
    let n : Kept = c.in-Some.next.now in
    let bs = blocks_below (option_copied c.args.origin) in
    let before : blocks_kept bs (option_copied c.before-2.result) ≡ blocks_before bs ks c.args.place = ap (blocks_kept bs) c.before-2.ensures ∙ before_blocks bs ks c.args.place in
    let base : c.base_group.result.0 ≡ group_below (option_copied c.args.origin) = c.base_group.ensures in
    let j : AreJoined (group_below (option_copied c.args.origin)) ks c.args.place c.deref.result.now.entries c.in_ok-dead.dead.entries c.in_ok-dead.lost.entries =
    subst (λ n. AreJoined n ks c.args.place c.deref.result.now.entries c.in_ok-dead.dead.entries c.in_ok-dead.lost.entries) base c.in_ok-dead.ensures.ok in
    let snap : c.in_ok-snapshot.snapshot ≡ n.snapshot = c.in_ok-snapshot.ensures.ok in
    let is = ap (λ (h : Held). h.entries) c.deref.ensures in
    let dead = between_dead bs (group_below (option_copied c.args.origin)) ks c.args.place c.requires n (sym c.in-Some.ensures) c.deref.result.now.entries c.in_ok-dead.dead.entries c.in_ok-dead.lost.entries is j in
    record {
      gone = j.gone;
      there = j.there;
      after = n;
      after_is = sym c.in-Some.ensures;
      snapshot = snap;
      accounted = record {
        dead = subst (λ (h : Held). Lists (map dead_block h.entries) (difference (blocks_before bs ks c.args.place) (blocks c.in_ok-snapshot.snapshot.map))) (sym c.in_ok-dead-2.ensures.ok)
            (subst (λ (t : Snap). Lists (map dead_block c.in_ok-dead.dead.entries) (difference (blocks_before bs ks c.args.place) (blocks t.map))) (sym snap) dead);
        plain = subst IsPlain (sym c.in_ok-dead-2.ensures.ok) c.in_ok-dead.ensures.plain;
        written = c.written_over-written.ensures ∙ ap (λ (m : Map). size_without (blocks m) (blocks_kept bs (option_copied c.before-2.result))) c.tree.ensures ∙ ap (size_without (blocks c.in_ok-snapshot.snapshot.map)) before;
      };
      lost_is = between_lost bs (group_below (option_copied c.args.origin)) ks c.args.place c.requires n (sym c.in-Some.ensures) c.deref.result.now.entries c.in_ok-dead.dead.entries c.in_ok-dead.lost.entries is j;
    }

use Rattle.std.proofs.Common.{◌≡◌, Bor, true, ◌&&◌, List, ◌∷◌, ◌++◌, map, sym, ap, ◌∙◌, is_gt, nat_cmp, arith}
use Rattle.shared_list.specs.Left.{left}
use Rattle.datasets.specs.Dead.{snaps_in}
use Rattle.datasets.specs.Holders.{snap_in_system}
use Rattle.datasets.specs.Rows.{Entry, entry_of}
use Rattle.world.specs.Tables.{without_snap}
use Rattle.snapshots.specs.declared.kept.Kept.{Kept}
use Rattle.std.specs.Prelude.{nat_lt, is_some}
use Rattle.model.specs.World.{id_of}
use Rattle.world.proofs.lists.Finding.{any_none}
use Rattle.removals.specs.Needs.{has_clone, has_clone_and_is_later}
use Rattle.removals.proofs.Identified.{without_ids, ids_none, ids_clones}
use Rattle.removals.proofs.Losses.{lost_none, lost_then}
use Rattle.removals.proofs.Rolled.{later_gone}
use Rattle.snap.proofs.Yielded.{yielded_all, yielded_front, gt_is}
use Rattle.removals.proofs.Yielded.{newer_there, newer_yielded, newer_goes, older_stays, all_yielded, kept_here}
use Rattle.removals.proofs.working_copy.WorkingCopy.remove_newer.Goals as goal

pub loop-kept-init : goal.loop-kept-init
loop-kept-init c = record { so_far = sym (ids_none c.args.self.now.to); lost = lost_none c.args.self.now.to c.args.self.now.freeing c.requires.apart; never_lower = omega arith }

pub remove_snapshot-requires : goal.remove_snapshot-requires
remove_snapshot-requires c =
    let t = c.args.self.now.to in
    let r : Entry = entry_of c.args.file_system.now in
    let us = c.args.file_system.now.system.snaps in
    let x : Kept = c.in-Some.kept.now in
    let xs : List Kept = map (λ (x : Bor Kept). x.now) c.loop-kept.yielded in
    let ys : List Kept = left c.next.new.self in
    let front = yielded_front left c.into_iter-kept-iterator.result c.loop-kept.yielded c.loop-kept.kept-iterator c.loop-kept.yielded_by ∙ ap (λ l. xs ++ l) c.in-Some.ensures.steps in
    let snaps : us ≡ snaps_in (xs ++ x ∷ ys) =
    sym c.snapshots.ensures ∙ ap snaps_in (sym c.iter-kept-items.ensures ∙ ap left (sym c.into_iter-kept-iterator.ensures.into_iter_gives) ∙ front) in
    let newer : nat_lt c.args.group.0 x.snapshot.group ≡ true =
    sym (gt_is x.snapshot.group c.args.group.0) ∙ ap (λ n. is_gt (nat_cmp n c.args.group.0)) (sym c.group.ensures) ∙ sym c.gt.ensures ∙ c.if-gt.true in
    record {
      apart = c.loop-kept.invariant.lost.apart;
      there = (λ i. is_some (snap_in_system c.loop-kept.self.to (c.name-name.ensures i) (c.id.ensures i)))
          ∙ newer_there t c.facts.ensures.good r c.requires.there c.args.group.0 c.loop-kept.yielded x ys snaps c.loop-kept.self.to c.loop-kept.invariant.so_far;
      no_clone = (λ i. has_clone (c.loop-kept.invariant.so_far i) (c.id.ensures i))
          ∙ ids_clones t (newer_yielded c.args.group.0 c.loop-kept.yielded) (id_of x.snapshot)
          ∙ sym (ap (λ b. b && has_clone t (id_of x.snapshot)) newer)
          ∙ any_none (has_clone_and_is_later t c.args.group.0) us c.requires.no_clone x.snapshot (kept_here us xs x ys snaps);
    }

pub loop-kept-preserved-in-Continue-1 : goal.loop-kept-preserved-in-Continue-1
loop-kept-preserved-in-Continue-1 c = record {
  so_far = newer_goes c.args.self.now.to c.loop-kept.self.to c.args.group.0 c.loop-kept.yielded c.in-Some.kept c.loop-kept.invariant.so_far
      (sym (gt_is c.in-Some.kept.now.snapshot.group c.args.group.0) ∙ ap (λ n. is_gt (nat_cmp n c.args.group.0)) (sym c.group.ensures) ∙ sym c.gt.ensures ∙ c.if-gt.true)
      c.remove_snapshot.new.self.to
      (c.in_ok-remove_snapshot.ensures.ok ∙ ap (without_snap c.loop-kept.self.to) c.id.ensures);
  lost = lost_then c.args.self.now.to c.loop-kept.self.to c.remove_snapshot.new.self.to c.args.self.now.freeing c.loop-kept.self.freeing c.remove_snapshot.new.self.freeing
      c.loop-kept.invariant.lost c.in_ok-remove_snapshot.ensures.lost;
  never_lower = omega (arith, c.loop-kept.invariant.never_lower, c.in_ok-remove_snapshot.ensures.never_lower);
}

pub loop-kept-preserved : goal.loop-kept-preserved
loop-kept-preserved c = record {
  so_far = older_stays c.args.self.now.to c.loop-kept.self.to c.args.group.0 c.loop-kept.yielded c.in-Some.kept c.loop-kept.invariant.so_far
      (sym (gt_is c.in-Some.kept.now.snapshot.group c.args.group.0) ∙ ap (λ n. is_gt (nat_cmp n c.args.group.0)) (sym c.group.ensures) ∙ sym c.gt.ensures ∙ c.if-gt.false);
  lost = c.loop-kept.invariant.lost;
  never_lower = c.loop-kept.invariant.never_lower;
}

pub returns-clause-ok : goal.returns-clause-ok
returns-clause-ok c =
    let all = yielded_all left c.into_iter-kept-iterator.result c.loop-kept.yielded c.loop-kept.kept-iterator c.loop-kept.yielded_by c.in-None.ensures.steps.0 in
    c.loop-kept.invariant.so_far
    ∙ ap (without_ids c.args.self.now.to) (all_yielded c.args.group.0 c.args.file_system.now.system.snaps c.loop-kept.yielded
    (sym c.snapshots.ensures ∙ ap snaps_in (sym c.iter-kept-items.ensures ∙ ap left (sym c.into_iter-kept-iterator.ensures.into_iter_gives) ∙ all)))
    ∙ later_gone c.args.self.now.to (entry_of c.args.file_system.now) c.requires.there c.args.group.0 c.facts.ensures.good

use Rattle.std.proofs.Common.{◌≡◌, sym, ap, subst, ◌∙◌, drop, map, length, arith}
use Rattle.datasets.specs.Rows.{entry_in, entry_of}
use Rattle.model.specs.Hierarchy.{is_in_family}
use Rattle.world.proofs.lists.Listed.{length-mapped}
use Rattle.world.specs.Tables.{CanRemoveFileSystem, without_system}
use Rattle.snap.proofs.Shared.{shared_are}
use Rattle.removals.proofs.Losses.{lost_none, lost_then}
use Rattle.removals.proofs.SystemsGone.{left_by}
use Rattle.removals.proofs.FamilyGone.{first_turn, last_turn, stays, can, goes}
use Rattle.removals.proofs.family.remove_family.Goals as goal

pub loop-left-init : goal.loop-left-init
loop-left-init c = record {
  within = omega arith;
  so_far = first_turn c.args.table.now c.args.name.now (map entry_in c.file_systems-rows.result.now) (shared_are c.args.table.now.file_systems c.file_systems-rows.result.now c.file_systems-rows.ensures)
      (length c.file_systems-rows.result.now) (sym (length-mapped entry_in c.file_systems-rows.result.now)) c.args.edit.now.to c.requires.same;
  lost = lost_none c.args.edit.now.to c.args.edit.now.freeing c.requires.apart;
}

pub remove_file_system-requires-clause-can : goal.remove_file_system-requires-clause-can
remove_file_system-requires-clause-can c =
    let within = (λ i. is_in_family (sym c.as_bytes.ensures.value i) (sym (c.as_bytes-in-loop-left.ensures.value ∙ c.name.ensures) i)) ∙ sym c.is_in_family.ensures ∙ c.if-is_in_family.true in
    subst (CanRemoveFileSystem c.loop-left.edit.to) (sym c.name-then-is_in_family.ensures)
    (can entry_in c.args.table.now c.args.name.now c.file_systems-rows.result.now (shared_are c.args.table.now.file_systems c.file_systems-rows.result.now c.file_systems-rows.ensures) c.loop-left.left c.loop-left-test.true c.loop-left.invariant.within
    c.index-rows-left.result c.index-rows-left.is (entry_of c.deref-file_system.result.now) (ap entry_of c.deref-file_system.ensures) c.loop-left.edit.to c.loop-left.invariant.so_far within c.requires.not_root c.requires.bare)

pub loop-left-preserved-in-Continue-1 : goal.loop-left-preserved-in-Continue-1
loop-left-preserved-in-Continue-1 c = record {
  within = let l = c.loop-left.invariant.within in omega (arith, l);
  so_far =
      let within = (λ i. is_in_family (sym c.as_bytes.ensures.value i) (sym (c.as_bytes-in-loop-left.ensures.value ∙ c.name.ensures) i)) ∙ sym c.is_in_family.ensures ∙ c.if-is_in_family.true in
      goes entry_in c.args.table.now c.args.name.now c.file_systems-rows.result.now (shared_are c.args.table.now.file_systems c.file_systems-rows.result.now c.file_systems-rows.ensures) c.loop-left.left c.loop-left-test.true c.loop-left.invariant.within
      c.index-rows-left.result c.index-rows-left.is (entry_of c.deref-file_system.result.now) (ap entry_of c.deref-file_system.ensures) c.loop-left.edit.to c.loop-left.invariant.so_far within
      c.remove_file_system.new.table (c.in_ok-remove_file_system.ensures.ok ∙ ap (without_system c.loop-left.edit.to) c.name-then-is_in_family.ensures);
  lost = lost_then c.args.edit.now.to c.loop-left.edit.to c.remove_file_system.new.table c.args.edit.now.freeing c.loop-left.edit.freeing c.remove_file_system.new.freeing
      c.loop-left.invariant.lost c.in_ok-remove_file_system.ensures.lost;
}

pub loop-left-preserved : goal.loop-left-preserved
loop-left-preserved c = record {
  within = let l = c.loop-left.invariant.within in omega (arith, l);
  so_far =
      let out = (λ i. is_in_family (sym c.as_bytes.ensures.value i) (sym (c.as_bytes-in-loop-left.ensures.value ∙ c.name.ensures) i)) ∙ sym c.is_in_family.ensures ∙ c.if-is_in_family.false in
      stays entry_in c.args.table.now c.args.name.now c.file_systems-rows.result.now (shared_are c.args.table.now.file_systems c.file_systems-rows.result.now c.file_systems-rows.ensures) c.loop-left.left c.loop-left-test.true c.loop-left.invariant.within
      c.index-rows-left.result c.index-rows-left.is (entry_of c.deref-file_system.result.now) (ap entry_of c.deref-file_system.ensures) c.loop-left.edit.to c.loop-left.invariant.so_far out;
  lost = c.loop-left.invariant.lost;
}

pub returns-clause-ok : goal.returns-clause-ok
returns-clause-ok c =
    let none : c.loop-left.left ≡ 0 = let l = c.loop-left-test.false in omega (arith, l) in
    last_turn c.args.table.now c.args.name.now (map entry_in c.file_systems-rows.result.now) (shared_are c.args.table.now.file_systems c.file_systems-rows.result.now c.file_systems-rows.ensures) c.loop-left.edit.to
    (c.loop-left.invariant.so_far ∙ ap (λ n. left_by c.args.table.now c.args.name.now (drop n (map entry_in c.file_systems-rows.result.now))) none)

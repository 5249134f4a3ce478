use Rattle.removals.proofs.FamilyGone.{family_part}
use Rattle.removals.proofs.Losses.{lost_then, apart_copied, lost_put}
use Rattle.removals.proofs.destroying.remove_and_sweep.Goals as goal

pub remove_file_systems-requires-clause-apart : goal.remove_file_systems-requires-clause-apart
remove_file_systems-requires-clause-apart c = apart_copied c.args.table.now c.in_ok-edit.edit.to c.args.freeing.now c.in_ok-edit.edit.freeing c.in_ok-edit.ensures.ok c.requires.apart

pub sweep-requires-clause-part : goal.sweep-requires-clause-part
sweep-requires-clause-part c = family_part c.args.table.now c.args.name.now c.args.recursive c.remove_file_systems.new.edit.to c.in_ok-remove_file_systems.ensures.ok

pub returns-clause-lost : goal.returns-clause-lost
returns-clause-lost c =
    lost_put c.args.table.now c.in_ok-edit.edit.to c.sweep.new.edit.to c.put.new.table c.args.freeing.now c.in_ok-edit.edit.freeing c.sweep.new.edit.freeing c.put.new.freeing
    c.in_ok-edit.ensures.ok
    (lost_then c.in_ok-edit.edit.to c.remove_file_systems.new.edit.to c.sweep.new.edit.to c.in_ok-edit.edit.freeing c.remove_file_systems.new.edit.freeing c.sweep.new.edit.freeing
    c.in_ok-remove_file_systems.ensures.lost c.in_ok-sweep.ensures.lost)
    c.put.ensures.to c.put.ensures.freeing

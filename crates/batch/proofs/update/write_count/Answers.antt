use Rattle.std.proofs.Common.{sym, ap, subst, ◌∙◌, arith}
use Rattle.std.proofs.lemmas.List.Sums.{count_by_more_yes, count_by_more_no}
use Rattle.batch.specs.Said.{is_write, IsSized}
use Rattle.batch.proofs.Lists.{one_more}
use Rattle.batch.proofs.update.write_count.Goals as goal
use Rattle.batch.proofs.update.write_count.Goals.{in-Write, in-Punch}

pub loop-update-preserved : goal.loop-update-preserved
loop-update-preserved c = elim c.match-update.branch [
  | in-Write w ↦
      let more = count_by_more_yes is_write c.args.updates.now c.loop-update.update-index _ c.loop-update-test.true (ap is_write w.in-Write.is) in
      record {
        few = omega (arith, w.count-is);
        counted = omega (arith, w.count-is, more, c.loop-update.invariant.counted);
        sized = one_more IsSized c.args.updates.now c.loop-update.update-index _ c.loop-update.invariant.sized (subst IsSized (sym w.in-Write.is) (w.size_of-octets.ensures.full, w.size_of-octets.ensures.octets));
      }
  | in-Punch w ↦
      let more = count_by_more_no is_write c.args.updates.now c.loop-update.update-index _ c.loop-update-test.true (ap is_write w.in-Punch.is) in
      record {
        few = omega (arith, w.count-is);
        counted = w.count-is ∙ c.loop-update.invariant.counted ∙ sym more;
        sized = one_more IsSized c.args.updates.now c.loop-update.update-index _ c.loop-update.invariant.sized (subst IsSized (sym w.in-Punch.is) tt);
      }
]

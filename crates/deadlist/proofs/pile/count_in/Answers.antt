use Rattle.std.proofs.Common.{◌≡◌, ℕ, Bool, cond, get_or, arith, ap, sym, ◌∙◌}
use Rattle.std.proofs.lemmas.List.Filters.{length-filter_more}
use Rattle.base.specs.declared.number.Dead.{Dead}
use Rattle.deadlist.specs.Entries.{is_after}
use Rattle.deadlist.proofs.Meters.{counted_most}
use Rattle.deadlist.proofs.pile.count_in.Goals as goal
use Rattle.deadlist.proofs.pile.count_in.Goals.{then-is_born_after, else-is_born_after}

pub loop-dead-preserved : goal.loop-dead-preserved
loop-dead-preserved c =
    let xs = c.args.entries.now in
    let i = c.loop-dead.dead-index in
    let d : Dead = record { block = record { 0 = 0 }; birth = record { 0 = 0 } } in
    let more = length-filter_more (is_after c.args.cut) xs i d c.loop-dead-test.true in
    let one = counted_most c.loop-dead.meter 1 in
    let was = c.loop-dead.invariant in
    let after = c.is_born_after.ensures.after in
    elim c.if-is_born_after.branch [
      | then-is_born_after w ↦
          let yes : cond {A = ℕ} (is_after c.args.cut (get_or xs i d)) 1 0 ≡ 1 = ap (λ (b : Bool). cond {A = ℕ} b 1 0) (sym after ∙ w.if-is_born_after.true) in
          record {
            count = omega (arith, more, yes, w.count-is);
            few = omega (arith, w.count-is);
            looked = omega (arith, one);
            never_lower = omega arith;
          }
      | else-is_born_after w ↦
          let no : cond {A = ℕ} (is_after c.args.cut (get_or xs i d)) 1 0 ≡ 0 = ap (λ (b : Bool). cond {A = ℕ} b 1 0) (sym after ∙ w.if-is_born_after.false) in
          record {
            count = omega (arith, more, no, w.count-is);
            few = omega (arith, w.count-is);
            looked = omega (arith, one);
            never_lower = omega arith;
          }
    ]

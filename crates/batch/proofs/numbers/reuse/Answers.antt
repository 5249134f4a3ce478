use Rattle.std.proofs.Common.{◌≡◌, ◌+◌, ◌-◌, ◌++◌, length, take, drop, ap, sym, ◌∙◌, arith, length-append}
use Rattle.batch.specs.Numbers.{numbers, young_numbers}
use Rattle.batch.proofs.NumberLaws.{take_step, take_full, take_none, young_here, young_skip, young_over, push_number}
use Rattle.batch.proofs.numbers.reuse.Goals as goal
use Rattle.batch.proofs.numbers.reuse.Goals.{then-dead-young+in_ok-push, else-dead-young}

pub returns-then-len-need : goal.returns-then-len-need
returns-then-len-need c =
    sym (take_full c.args.need (length c.loop-dead.out.items) (numbers c.loop-dead.out.items) _ (omega (arith, c.len.ensures, c.if-len-need.true))) ∙ c.loop-dead.invariant.got

pub loop-dead-preserved : goal.loop-dead-preserved
loop-dead-preserved c =
    let ds = c.args.released.now in
    let i = c.loop-dead.dead-index in
    let y = c.args.young.0 in
    let need = c.args.need in
    let out = c.loop-dead.out.items in
    elim c.if-dead-young.branch [
      | then-dead-young+in_ok-push w ↦
          let items = ap (λ v. v.items) w.out-is ∙ w.in_ok-push.ensures.items in
          let m = ap length items ∙ length-append out _ in
          let k : length c.if-dead-young.out.items ≡ length out + 1 = omega (arith, m) in
          let here = young_here y i ds (record { block = record { 0 = 0 }; birth = record { 0 = 0 } }) c.loop-dead-test.true w.if-dead-young.true in
          record {
            few = omega (arith, k, c.len.ensures, c.if-len-need.false, c.loop-dead.invariant.few);
            got =
                (λ j. push_number out c.if-dead-young.out.items _ items j ++ take (need - k j) (young_numbers y (drop (i + 1) ds)))
                ∙ sym (take_step need (length out) _ (numbers out) (young_numbers y (drop (i + 1) ds)) (omega (arith, c.len.ensures, c.if-len-need.false, c.loop-dead.invariant.few)))
                ∙ ap (λ zs. numbers out ++ take (need - length out) zs) (sym here) ∙ c.loop-dead.invariant.got;
          }
      | else-dead-young w ↦
          let items = ap (λ v. v.items) w.out-is in
          let skip = young_skip y i ds (record { block = record { 0 = 0 }; birth = record { 0 = 0 } }) c.loop-dead-test.true w.if-dead-young.false in
          record {
            few = omega (arith, ap length items, c.loop-dead.invariant.few);
            got = (λ j. numbers (items j) ++ take (need - length (items j)) (sym skip j)) ∙ c.loop-dead.invariant.got;
          }
    ]

pub returns : goal.returns
returns c =
    sym (take_none _ (numbers c.loop-dead.out.items) _ (young_over c.args.young.0 c.loop-dead.dead-index c.args.released.now c.loop-dead-test.false)) ∙ c.loop-dead.invariant.got

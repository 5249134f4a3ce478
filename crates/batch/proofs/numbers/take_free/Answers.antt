use Rattle.std.proofs.Common.{◌+◌, ◌-◌, ◌++◌, length, take, ap, sym, ◌∙◌, arith, length-append}
use Rattle.batch.specs.Numbers.{numbers, frees_from}
use Rattle.batch.proofs.NumberLaws.{take_step, take_none, frees_found, frees_none, push_number}
use Rattle.batch.proofs.numbers.take_free.Goals as goal

pub returns-in_default : goal.returns-in_default
returns-in_default c =
    sym (take_none _ (numbers c.loop-count.out.items) _ (frees_none c.args.allocator.now c.loop-count.from c.in_default.ensures.none)) ∙ c.loop-count.invariant.got

pub loop-count-preserved : goal.loop-count-preserved
loop-count-preserved c =
    let states = c.args.allocator.now in
    let out = c.loop-count.out.items in
    let need = c.args.need in
    let items = c.in_ok-push.ensures.items in
    let m = ap length items ∙ length-append out _ in
    let here = frees_found states c.loop-count.from c.in-Some.b.0 c.in-Some.ensures.not_below c.in-Some.ensures.found c.in-Some.ensures.least in
    record {
      some = omega (arith, m, c.loop-count.invariant.some);
      got =
          ap (λ xs. xs ++ take (need - (c.loop-count._count + 1)) (frees_from (c.in-Some.b.0 + 1) states)) (push_number out _ _ items)
          ∙ sym (take_step need c.loop-count._count c.in-Some.b.0 (numbers out) (frees_from (c.in-Some.b.0 + 1) states) c.loop-count-test.true)
          ∙ ap (λ zs. numbers out ++ take (need - c.loop-count._count) zs) (sym here) ∙ c.loop-count.invariant.got;
    }

use Rattle.std.proofs.Common.{◌/◌, ◌+◌, ◌∙◌, false, length, sym, ap, arith, subst}
use Rattle.std.proofs.lemmas.List.{length-replicate}
use Rattle.zalloc.specs.declared.BlockState.TheVariants.{Free}
use Rattle.zalloc.specs.Paired.{NoneWaits}
use Rattle.zalloc.proofs.Pairing.{same_but, none_at_first}
use Rattle.zalloc.proofs.numbers.Numbers.new.Goals as goal

pub invariant_of-result : goal.invariant_of-result
invariant_of-result c =
    let p = c.in_ok-present.ensures.ok in
    let s = c.in_ok-synced.ensures.ok in
    let t = c.in_ok-touched.ensures in
    record {
      len = ap length s ∙ sym (ap length p);
      flags = omega (arith, ap length t, length-replicate (c.args.n / 64 + 1) false, ap length p, length-replicate c.args.n Free);
      same = same_but c.in_ok-touched.touched c.in_ok-present.present c.in_ok-synced.synced (p ∙ sym s);
      none_waits = subst NoneWaits (sym s) (none_at_first c.args.n);
    }

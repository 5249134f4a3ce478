use Rattle.std.proofs.Common.{◌≡◌, ◌+◌, ◌/◌, arith, sym, false, replicate, rules}
use Rattle.std.proofs.lemmas.List.{length-replicate}
use Rattle.zalloc.proofs.Noted.{none_flagged, no_flags}
use Rattle.zalloc.proofs.touched.Touched.new.Goals as goal

pub invariant_of-result : goal.invariant_of-result
invariant_of-result c =
    let n = c.args.numbers / 64 + 1 in
    let e : c.in_ok-flags.flags.items ≡ replicate n false = c.in_ok-flags.ensures.items_if_clones_equal (search rules) in
    record {
      count = rw (e, c.in_ok-noted.ensures.items) (sym (no_flags n));
      listed = rw e (λ k h. absurd (none_flagged n k h));
      within = rw c.in_ok-noted.ensures.items (λ i h. absurd (omega (arith, h)));
      room = rw e (omega (arith, length-replicate n false, c.in_ok-noted.ensures.exact));
    }

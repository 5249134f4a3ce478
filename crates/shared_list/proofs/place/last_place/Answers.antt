use Rattle.std.proofs.Common.{◌≡◌, ◌-◌, ◌<◌, Some, suc, length, slice_get, ap, sym, subst, ◌∙◌, arith}
use Rattle.std.proofs.lemmas.List.{take_all}
use Rattle.std.proofs.lemmas.Option.{slice_get_within}
use Rattle.shared_list.specs.Elements.{flattened}
use Rattle.shared_list.proofs.Points.{none_last, read_of, taken_more}
use Rattle.shared_list.proofs.place.last_place.Goals as goal

pub returns-in_err-last-clause-none : goal.returns-in_err-last-clause-none
returns-in_err-last-clause-none g c = λ e. ap flattened (none_last c.args.chunks.now (sym c.in_err-last.ensures))

pub returns-clause-place : goal.returns-clause-place
returns-clause-place g c =
    let xs = c.args.chunks.now in
    let k = c.len-k.result - 1 in
    let a = c.in_ok-last.field-0.now in
    let is : slice_get xs k ≡ Some a = ap (λ n. slice_get xs (n - 1)) c.len-k.ensures ∙ sym c.in_ok-last.ensures in
    let within : c.len-at.result - 1 < length a = omega (arith, c.len-at.ensures.len, c.len-at.ensures.some) in
    record {
      chunk = slice_get_within xs k a is;
      within = λ d. subst (λ v. c.len-at.result - 1 < length v) (read_of xs k a is d) within;
    }

pub returns-clause-last : goal.returns-clause-last
returns-clause-last g c =
    let xs = c.args.chunks.now in
    let k = c.len-k.result - 1 in
    let a = c.in_ok-last.field-0.now in
    let is : slice_get xs k ≡ Some a = ap (λ n. slice_get xs (n - 1)) c.len-k.ensures ∙ sym c.in_ok-last.ensures in
    let lt = slice_get_within xs k a is in
    let more = taken_more (λ v. v) xs k a lt (read_of xs k a is a) in
    let all = take_all (suc k) xs (omega (arith, c.len-k.ensures)) in
    omega (arith, more, ap (λ ys. length (flattened ys)) all, c.len-at.ensures.len, c.len-at.ensures.some)

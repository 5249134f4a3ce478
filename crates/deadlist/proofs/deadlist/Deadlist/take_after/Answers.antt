use Rattle.std.proofs.Common.{◌≡◌, ℕ, ◌+◌, ◌++◌, List, length, filter, arith, ap, ◌∙◌, length-append}
use Rattle.base.specs.declared.number.Dead.{Dead}
use Rattle.deadlist.specs.Entries.{is_after, is_upto}
use Rattle.deadlist.specs.Held.{Held}
use Rattle.deadlist.specs.Segments.{entries_of}
use Rattle.deadlist.proofs.Births.{born_from_both, born_by_both, born_from_filter, born_by_filter, born_by_cut, born_after_cut}
use Rattle.deadlist.proofs.Filters.{filter_le, split_length}
use Rattle.std.proofs.lemmas.List.Elements.{filter-append}
use Rattle.deadlist.proofs.deadlist.Deadlist.take_after.Goals as goal

-- how many it takes out
taken_count : (cut : ℕ) (es fs : List Dead) (sum few : ℕ) → sum ≡ length (filter (is_after cut) es) → few ≡ length (filter (is_after cut) fs) → sum + few ≡ length (filter (is_after cut) (es ++ fs))
taken_count cut es fs sum few a b =
    let two = ap length (filter-append (is_after cut) es fs) ∙ length-append (filter (is_after cut) es) (filter (is_after cut) fs) in
    omega (arith, two, a, b)

pub sum_from-requires-clause-fits : goal.sum_from-requires-clause-fits
sum_from-requires-clause-fits c =
    let es = entries_of c.self.inside.parts in
    let le = filter_le (is_after c.args.cut.0) es in
    let taken = ap length c.in_ok-parts.ensures.taken in
    let l = length-append es c.self.inside.fresh.items in
    let all = c.self.invariant.1 in
    omega (arith, le, taken, l, all)

pub overflow_add-count : goal.overflow_add-count
overflow_add-count c =
    let cut = c.args.cut.0 in
    let es = entries_of c.self.inside.parts in
    let fs = c.self.inside.fresh.items in
    let few : c.len.result ≡ length (filter (is_after cut) fs) = let n = ap length (c.in_ok-kept.ensures.1 ∙ ap (filter (is_after cut)) c.as_slice.ensures.value) in omega (arith, n, c.len.ensures, c.in_ok-kept.taken.ok.0) in
    let space = taken_count cut es fs c.sum_from.result c.len.result (c.sum_from.ensures ∙ ap length c.in_ok-parts.ensures.taken) few in
    let le = filter_le (is_after cut) (es ++ fs) in
    let all = c.self.invariant.1 in
    omega (arith, le, space, all)

pub overflow_sub-self : goal.overflow_sub-self
overflow_sub-self c =
    let cut = c.args.cut.0 in
    let es = entries_of c.self.inside.parts in
    let fs = c.self.inside.fresh.items in
    let few : c.len.result ≡ length (filter (is_after cut) fs) = let n = ap length (c.in_ok-kept.ensures.1 ∙ ap (filter (is_after cut)) c.as_slice.ensures.value) in omega (arith, n, c.len.ensures, c.in_ok-kept.taken.ok.0) in
    let space = taken_count cut es fs c.sum_from.result c.len.result (c.sum_from.ensures ∙ ap length c.in_ok-parts.ensures.taken) few in
    let le = filter_le (is_after cut) (es ++ fs) in
    let all = c.self.invariant.1 in
    omega (arith, le, space, all)

pub invariant_of-self-2 : goal.invariant_of-self-2
invariant_of-self-2 c =
    let cut = c.args.cut.0 in
    let es = entries_of c.self.inside.parts in
    let fs = c.self.inside.fresh.items in
    let few : c.len.result ≡ length (filter (is_after cut) fs) = let n = ap length (c.in_ok-kept.ensures.1 ∙ ap (filter (is_after cut)) c.as_slice.ensures.value) in omega (arith, n, c.len.ensures, c.in_ok-kept.taken.ok.0) in
    let space = taken_count cut es fs c.sum_from.result c.len.result (c.sum_from.ensures ∙ ap length c.in_ok-parts.ensures.taken) few in
    let all = c.self.invariant.1 in
    let split = split_length cut (es ++ fs) in
    let low = c.in_ok-kept.ensures.0 ∙ ap (filter (is_upto cut)) c.as_slice.ensures.value in
    let two = filter-append (is_upto cut) es fs in
    let whole = es ++ fs in (
      c.in_ok-parts.ensures.kept_cut,
      rw (c.in_ok-parts.ensures.kept, low, ← two) (omega (arith, space, all, split)),
      rw (c.in_ok-parts.ensures.kept, low, ← two) (born_from_filter c.self.inside.low (is_upto cut) whole c.self.invariant.2),
      rw (c.in_ok-parts.ensures.kept, low, ← two) (born_by_both c.self.inside.high cut c.min-self-inside.result (filter (is_upto cut) whole) (born_by_filter c.self.inside.high (is_upto cut) whole c.self.invariant.3) (born_by_cut cut whole) (omega (arith, c.min-self-inside.ensures))),
    )

pub invariant_of-result : goal.invariant_of-result
invariant_of-result c =
    let cut = c.args.cut.0 in
    let es = entries_of c.self.inside.parts in
    let fs = c.self.inside.fresh.items in
    let few : c.len.result ≡ length (filter (is_after cut) fs) = let n = ap length (c.in_ok-kept.ensures.1 ∙ ap (filter (is_after cut)) c.as_slice.ensures.value) in omega (arith, n, c.len.ensures, c.in_ok-kept.taken.ok.0) in
    let space = taken_count cut es fs c.sum_from.result c.len.result (c.sum_from.ensures ∙ ap length c.in_ok-parts.ensures.taken) few in
    let whole = es ++ fs in
    let high = c.in_ok-kept.ensures.1 ∙ ap (filter (is_after cut)) c.as_slice.ensures.value in
    let two = filter-append (is_after cut) es fs in (
      c.in_ok-parts.ensures.taken_cut,
      rw (c.in_ok-parts.ensures.taken, high, ← two) space,
      rw (c.in_ok-parts.ensures.taken, high, ← two) (born_from_both c.self.inside.low (cut + 1) c.max-low.result (filter (is_after cut) whole) (born_from_filter c.self.inside.low (is_after cut) whole c.self.invariant.2) (born_after_cut cut whole) (omega (arith, c.max-low.ensures, c.saturating_add.ensures))),
      rw (c.in_ok-parts.ensures.taken, high, ← two) (born_by_filter c.self.inside.high (is_after cut) whole c.self.invariant.3),
    )

pub returns-clause-kept : goal.returns-clause-kept
returns-clause-kept c =
    let cut = c.args.cut.0 in
    let low = c.in_ok-kept.ensures.0 ∙ ap (filter (is_upto cut)) c.as_slice.ensures.value in
    let two = filter-append (is_upto cut) (entries_of c.self.inside.parts) c.self.inside.fresh.items in
    rw (c.in_ok-parts.ensures.kept, low, ← two) (ap (λ (h : Held). filter (is_upto cut) h.entries) c.self.view_is)

pub returns-clause-kept_waiting : goal.returns-clause-kept_waiting
returns-clause-kept_waiting c =
    let low = ap length (c.in_ok-kept.ensures.0 ∙ ap (filter (is_upto c.args.cut.0)) c.as_slice.ensures.value) in
    let le = filter_le (is_upto c.args.cut.0) c.self.inside.fresh.items in
    let was = ap (λ (h : Held). h.waiting) c.self.view_is in
    omega (arith, low, le, was)

pub returns-clause-taken_waiting : goal.returns-clause-taken_waiting
returns-clause-taken_waiting c =
    let high = ap length (c.in_ok-kept.ensures.1 ∙ ap (filter (is_after c.args.cut.0)) c.as_slice.ensures.value) in
    let le = filter_le (is_after c.args.cut.0) c.self.inside.fresh.items in
    let was = ap (λ (h : Held). h.waiting) c.self.view_is in
    omega (arith, high, le, was)

pub returns-clause-kept_steps : goal.returns-clause-kept_steps
returns-clause-kept_steps c =
    let was = ap (λ (h : Held). h.steps) c.self.view_is in
    omega (arith, was, c.in_ok-parts.ensures.kept_steps)

pub returns-clause-taken_steps : goal.returns-clause-taken_steps
returns-clause-taken_steps c =
    let was = ap (λ (h : Held). h.steps) c.self.view_is in
    omega (arith, was, c.in_ok-parts.ensures.taken_steps)

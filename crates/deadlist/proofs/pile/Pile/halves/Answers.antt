use Rattle.std.proofs.Common.{◌≡◌, ◌+◌, ◌++◌, length, filter, arith, ap, sym, subst, ◌∙◌, length-append}
use Rattle.std.proofs.lemmas.List.Elements.{filter-append}
use Rattle.deadlist.specs.Entries.{is_after, is_upto, AreBornBy, AreBornFrom, run_entries, runs_steps}
use Rattle.deadlist.specs.Piled.{Piled}
use Rattle.deadlist.proofs.Births.{born_from_filter, born_by_filter, born_by_cut, born_after_cut, born_from_weaker}
use Rattle.deadlist.proofs.Filters.{filter_le, split_length}
use Rattle.deadlist.proofs.pile.Pile.halves.Goals as goal

pub total-requires : goal.total-requires
total-requires c =
    let s = c.self.inside in
    let t = is_upto c.args.cut in
    let es = run_entries s.runs.items in
    let runs = ap length (c.in_ok-low_runs.ensures.entries.0 ∙ ap (λ rs. filter t (run_entries rs)) c.as_slice.ensures.value) in
    let own = ap (λ rs. length (run_entries rs)) c.as_slice-3.ensures.value in
    let le = filter_le t es in
    let l = length-append es s.tail.items in
    let was = c.self.invariant.0 in
    omega (arith, runs, own, le, l, was)

pub overflow_add-count : goal.overflow_add-count
overflow_add-count c =
    let s = c.self.inside in
    let t = is_upto c.args.cut in
    let es = run_entries s.runs.items in
    let runs = ap length (c.in_ok-low_runs.ensures.entries.0 ∙ ap (λ rs. filter t (run_entries rs)) c.as_slice.ensures.value) in
    let own = ap (λ rs. length (run_entries rs)) c.as_slice-3.ensures.value in
    let tail = ap length (c.in_ok-low_tail.ensures.0 ∙ ap (filter t) c.as_slice-2.ensures.value) in
    let two = ap length (filter-append t es s.tail.items) ∙ length-append (filter t es) (filter t s.tail.items) in
    let count : c.total.result + c.len.result ≡ length (filter t (es ++ s.tail.items)) = omega (arith, runs, own, tail, two, c.total.ensures, c.len.ensures, c.in_ok-low_tail.low_tail.ok.0) in
    let split = split_length c.args.cut (es ++ s.tail.items) in
    let was = c.self.invariant.0 in
    omega (arith, count, split, was)

pub overflow_sub-high : goal.overflow_sub-high
overflow_sub-high c =
    let s = c.self.inside in
    let t = is_upto c.args.cut in
    let es = run_entries s.runs.items in
    let runs = ap length (c.in_ok-low_runs.ensures.entries.0 ∙ ap (λ rs. filter t (run_entries rs)) c.as_slice.ensures.value) in
    let own = ap (λ rs. length (run_entries rs)) c.as_slice-3.ensures.value in
    let tail = ap length (c.in_ok-low_tail.ensures.0 ∙ ap (filter t) c.as_slice-2.ensures.value) in
    let two = ap length (filter-append t es s.tail.items) ∙ length-append (filter t es) (filter t s.tail.items) in
    let count : c.total.result + c.len.result ≡ length (filter t (es ++ s.tail.items)) = omega (arith, runs, own, tail, two, c.total.ensures, c.len.ensures, c.in_ok-low_tail.low_tail.ok.0) in
    let split = split_length c.args.cut (es ++ s.tail.items) in
    let was = c.self.invariant.0 in
    omega (arith, count, split, was)

pub invariant_of-low : goal.invariant_of-low
invariant_of-low c =
    let cut = c.args.cut in
    let s = c.self.inside in
    let t = is_upto c.args.cut in
    let es = run_entries s.runs.items in
    let runs = ap length (c.in_ok-low_runs.ensures.entries.0 ∙ ap (λ rs. filter t (run_entries rs)) c.as_slice.ensures.value) in
    let own = ap (λ rs. length (run_entries rs)) c.as_slice-3.ensures.value in
    let tail = ap length (c.in_ok-low_tail.ensures.0 ∙ ap (filter t) c.as_slice-2.ensures.value) in
    let two = ap length (filter-append t es s.tail.items) ∙ length-append (filter t es) (filter t s.tail.items) in
    let count : c.total.result + c.len.result ≡ length (filter t (es ++ s.tail.items)) = omega (arith, runs, own, tail, two, c.total.ensures, c.len.ensures, c.in_ok-low_tail.low_tail.ok.0) in
    let a = c.in_ok-low_runs.ensures.entries.0 ∙ ap (λ rs. filter t (run_entries rs)) c.as_slice.ensures.value in
    let b = c.in_ok-low_tail.ensures.0 ∙ ap (filter t) c.as_slice-2.ensures.value in
    let is : run_entries c.in_ok-low_runs.low_runs.items ++ c.in_ok-low_tail.low_tail.items ≡ filter t (es ++ s.tail.items) = (λ i. a i ++ b i) ∙ sym (filter-append t es s.tail.items) in (
      count ∙ ap length (sym is),
      subst (AreBornFrom s.low) (sym is) (born_from_filter s.low t (es ++ s.tail.items) c.self.invariant.1),
      subst (AreBornBy cut) (sym is) (born_by_cut cut (es ++ s.tail.items)),
    )

pub invariant_of-high : goal.invariant_of-high
invariant_of-high c =
    let cut = c.args.cut in
    let s = c.self.inside in
    let t = is_upto c.args.cut in
    let es = run_entries s.runs.items in
    let runs = ap length (c.in_ok-low_runs.ensures.entries.0 ∙ ap (λ rs. filter t (run_entries rs)) c.as_slice.ensures.value) in
    let own = ap (λ rs. length (run_entries rs)) c.as_slice-3.ensures.value in
    let tail = ap length (c.in_ok-low_tail.ensures.0 ∙ ap (filter t) c.as_slice-2.ensures.value) in
    let two = ap length (filter-append t es s.tail.items) ∙ length-append (filter t es) (filter t s.tail.items) in
    let count : c.total.result + c.len.result ≡ length (filter t (es ++ s.tail.items)) = omega (arith, runs, own, tail, two, c.total.ensures, c.len.ensures, c.in_ok-low_tail.low_tail.ok.0) in
    let u = is_after cut in
    let a = c.in_ok-low_runs.ensures.entries.1 ∙ ap (λ rs. filter u (run_entries rs)) c.as_slice.ensures.value in
    let b = c.in_ok-low_tail.ensures.1 ∙ ap (filter u) c.as_slice-2.ensures.value in
    let is : run_entries c.in_ok-low_runs.high_runs.items ++ c.in_ok-low_tail.high_tail.items ≡ filter u (es ++ s.tail.items) = (λ i. a i ++ b i) ∙ sym (filter-append u es s.tail.items) in
    let split = split_length cut (es ++ s.tail.items) in
    let many : length (run_entries c.in_ok-low_runs.high_runs.items ++ c.in_ok-low_tail.high_tail.items) ≡ length (filter u (es ++ s.tail.items)) = ap length is in
    let was = c.self.invariant.0 in
    let next = c.saturating_add.ensures in (
      omega (arith, count, split, many, was),
      subst (AreBornFrom c.saturating_add.result) (sym is) (born_from_weaker (cut + 1) c.saturating_add.result (filter u (es ++ s.tail.items)) (born_after_cut cut (es ++ s.tail.items)) (omega (arith, next))),
      subst (AreBornBy s.high) (sym is) (born_by_filter s.high u (es ++ s.tail.items) c.self.invariant.2),
    )

pub returns-clause-steps : goal.returns-clause-steps
returns-clause-steps c =
    let s = c.self.inside in
    let is = ap (λ (p : Piled). p.steps) c.self.view_is in
    let runs = ap runs_steps c.as_slice.ensures.value in
    let low = ap length (c.in_ok-low_tail.ensures.0 ∙ ap (filter (is_upto c.args.cut)) c.as_slice-2.ensures.value) in
    let high = ap length (c.in_ok-low_tail.ensures.1 ∙ ap (filter (is_after c.args.cut)) c.as_slice-2.ensures.value) in
    let le = filter_le (is_upto c.args.cut) s.tail.items in
    let more = filter_le (is_after c.args.cut) s.tail.items in
    (omega (arith, is, runs, low, le, c.in_ok-low_runs.ensures.steps.0), omega (arith, is, runs, high, more, c.in_ok-low_runs.ensures.steps.1))

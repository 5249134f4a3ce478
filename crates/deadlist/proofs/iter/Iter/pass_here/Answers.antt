use Rattle.std.proofs.Common.{◌≡◌, ℕ, ◌+◌, ◌-◌, ◌≤◌, List, ◌++◌, drop, length, sym, ap, ◌∙◌, arith, append_assoc}
use Rattle.std.proofs.Math.Seq.{drop-append-add}
use Rattle.base.specs.declared.number.Dead.{Dead}
use Rattle.deadlist.specs.Left.{left_beyond}
use Rattle.deadlist.specs.Entries.{run_entries}
use Rattle.deadlist.proofs.iter.Iter.pass_here.Goals as goal

past : (xs ys zs : List Dead) (n : ℕ) → length xs ≤ n → drop (n - length xs) (ys ++ zs) ≡ drop n ((xs ++ ys) ++ zs)
past xs ys zs n h =
    sym (drop-append-add xs (ys ++ zs) (n - length xs))
    ∙ ap (λ k. drop k (xs ++ (ys ++ zs))) (let e : length xs + (n - length xs) ≡ n = omega arith in e)
    ∙ ap (drop n) (sym (append_assoc xs ys zs))

pub returns-then-not-open_run-clause-left : goal.returns-then-not-open_run-clause-left
returns-then-not-open_run-clause-left c =
    let s = c.loop-rest.self in
    ap (drop (c.loop-rest.count - length s.now.now)) (λ i. c.open_run.ensures.here i ++ c.open_run.ensures.beyond i)
    ∙ past s.now.now (run_entries s.runs.now ++ s.tail.now) (left_beyond s) c.loop-rest.count (omega (arith, c.in_default.ensures.lookup))
    ∙ c.loop-rest.invariant.0

pub loop-rest-preserved : goal.loop-rest-preserved
loop-rest-preserved c =
    let s = c.loop-rest.self in (
      ap (drop (c.loop-rest.count - length s.now.now)) (λ i. c.open_run.ensures.here i ++ c.open_run.ensures.beyond i)
          ∙ past s.now.now (run_entries s.runs.now ++ s.tail.now) (left_beyond s) c.loop-rest.count (omega (arith, c.in_default.ensures.lookup))
          ∙ c.loop-rest.invariant.0,
      c.open_run.ensures.unopened ∙ c.loop-rest.invariant.1,
    )

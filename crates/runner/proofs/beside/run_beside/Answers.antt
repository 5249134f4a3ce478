use Rattle.std.proofs.Common.{◌≡◌, ◌<◌, ℕ, subst}
use Rattle.runner.proofs.Rans.{ran_beside}
use Rattle.runner.proofs.beside.run_beside.Goals as goal

pub returns-clause-ran : goal.returns-clause-ran
returns-clause-ran g c = λ low.
    let same : c.close.result ≡ c.run_seated-status.result.0 = c.close.ensures.same low in
    let past = c.close.ensures.history low in
    let workers = c.run_seated-status.ensures.workers c.in-Some.ensures.workers in
    let ran = c.run_seated-status.ensures.ran (subst (λ (n : ℕ). n < 2) same low) in
    rw same (ran_beside _ _ _ _ _ _ _ _ _ _ c.in-Some.ensures.new ran.1 workers past)

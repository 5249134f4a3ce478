use Rattle.std.proofs.Common.{◌++◌, [], ◌∷◌, take, sym, ap, subst, ◌∙◌, arith}
use Rattle.std.proofs.lemmas.List.{take_all, take_more}
use Rattle.pool.specs.Applied.{AreApplied}
use Rattle.pool.proofs.Applying.{applied_grows, run_of}
use Rattle.pool.proofs.pool.Pool.run.Goals as goal

pub loop-request-preserved : goal.loop-request-preserved
loop-request-preserved c =
    let before = take c.loop-request.request-index c.args.requests.now in
    let grown = applied_grows c.args.self.now c.loop-request.self c.apply.new.self before c.loop-request.replies.items
    c.request-item.result c.apply.new.reply c.loop-request.invariant.0 c.apply.ensures.step c.apply.ensures.applied c.apply.ensures.between in
    let longer = take_more c.args.requests.now c.loop-request.request-index c.request-item.result c.loop-request-test.true
    ∙ ap (λ q. before ++ q ∷ []) (sym c.request-item.is) in
    let pushed = c.push_reserved.ensures in (
      subst (λ qs. AreApplied c.args.self.now qs c.push_reserved.new.self.items c.apply.new.self) (sym longer)
          (subst (λ rs. AreApplied c.args.self.now (before ++ c.request-item.result ∷ []) rs c.apply.new.self) (sym pushed.items) grown),
      c.apply.ensures.between,
      omega (arith, pushed.len),
      omega (arith, pushed.capacity),
    )

-- a chain is a run
pub returns-clause-ok : goal.returns-clause-ok
returns-clause-ok c =
    let all = take_all c.loop-request.request-index c.args.requests.now (omega (arith, c.loop-request-test.false)) in
    run_of c.args.self.now c.loop-request.self c.args.requests.now c.loop-request.replies.items
    (subst (λ qs. AreApplied c.args.self.now qs c.loop-request.replies.items c.loop-request.self) all c.loop-request.invariant.0)

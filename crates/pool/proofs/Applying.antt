-- Chains of what requests do.
use Rattle.std.proofs.Common.{List, [], ◌∷◌, ◌++◌, refl, sym, ap, subst}
use Rattle.model.specs.declared.request.Request.{Request}
use Rattle.model.specs.declared.reply.Reply.{Reply}
use Rattle.model.specs.Run.{Run}
use Rattle.model.specs.Step.{Step}
use Rattle.pool.specs.Applied.{IsBetween, IsApplied, AreApplied}
use Rattle.pool.specs.Shown.{Shown}

-- a chain and one request more is a chain
pub applied_grows : (s t u : Shown) (qs : List Request) (rs : List Reply) (q : Request) (r : Reply) → AreApplied s qs rs t → Step t.state q r u.state → IsApplied t q r u → IsBetween u
    → AreApplied s (qs ++ q ∷ []) (rs ++ r ∷ []) u
applied_grows s t u [] [] q r same step applied between =
    (u, subst (λ (x : Shown). Step x.state q r u.state) (sym same) step, subst (λ (x : Shown). IsApplied x q r u) (sym same) applied, between, refl)
applied_grows s t u [] (x ∷ rs) q r chain step applied between = absurd chain
applied_grows s t u (x ∷ qs) [] q r chain step applied between = absurd chain
applied_grows s t u (x ∷ qs) (y ∷ rs) q r (p, first, done, held, rest) step applied between =
    (p, first, done, held, applied_grows p t u qs rs q r rest step applied between)

-- a chain is a run
pub run_of : (s u : Shown) (qs : List Request) (rs : List Reply) → AreApplied s qs rs u → Run s.state qs rs u.state
run_of s u [] [] same = ap (λ (x : Shown). x.state) same
run_of s u [] (r ∷ rs) chain = absurd chain
run_of s u (q ∷ qs) [] chain = absurd chain
run_of s u (q ∷ qs) (r ∷ rs) (p, step, done, held, rest) = (p.state, step, run_of p u qs rs rest)

use Rattle.std.proofs.Common.{◌≡◌, ◌≢◌, ◌<◌, ◌≤◌, ◌⊎◌, ◌&&◌, ℕ, zero, suc, true, false, not, Some, Result, Ok, Err, refl, sym, ◌∙◌, true≢false, inl, inr, ⊎_elim, arith, rules}
use Rattle.std.specs.Prelude.{nat_le}
use Rattle.std.proofs.lemmas.Bool.{le-leb, cases_lt}
use Rattle.base.specs.declared.refusal.Refusal.TheVariants.{BadName, TooMany}
use Rattle.zalloc.specs.declared.TheConstants.{MOST_BLOCKS}
use Rattle.runner.specs.Args.{is_bad}
use Rattle.runner.specs.declared.args.Args.{Args}
use Rattle.runner.proofs.run.run_args.Goals as goal

pub returns-in_default-clause-usage : goal.returns-in_default-clause-usage
returns-in_default-clause-usage g c = search rules

pub returns-in_default-clause-most : goal.returns-in_default-clause-most
returns-in_default-clause-most g c = search rules

pub returns-in_default-clause-ran : goal.returns-in_default-clause-ran
returns-in_default-clause-ran g c = search rules

-- numbers of which a pool is made are within their limits
within_limits : (a : Args) → (a.id ≡ 0 → ⊥) → ((0 < a.id) × ((a.blocks < 1) ⊎ (MOST_BLOCKS < a.blocks)) → ⊥) → is_bad (Some a) ≡ false
within_limits a id blocks = λ i. not ((ids i && least i) && most i)
  where
    above : (n : ℕ) → (n ≡ 0 → ⊥) → 1 ≤ n
    above zero k = absurd (k refl)
    above (suc n) k = omega arith

    first : 1 ≤ a.id
    first = above a.id id

    ids : nat_le 1 a.id ≡ true
    ids = le-leb 1 a.id first

    least : nat_le 1 a.blocks ≡ true
    least = le-leb 1 a.blocks (above a.blocks (λ e. blocks (omega (arith, first), inl (omega (arith, e)))))

    most : nat_le a.blocks MOST_BLOCKS ≡ true
    most = le-leb a.blocks MOST_BLOCKS (⊎_elim (λ l. absurd (blocks (omega (arith, first), inr l))) (λ l. l) (cases_lt MOST_BLOCKS a.blocks))

no_error : {A E : Type 0} (r : Result A E) (a : A) (e : E) → r ≡ Ok a → r ≡ Err e → ⊥
no_error r a e is k = let same : Ok a ≡ Err e = sym is ∙ k in cc

pub returns-in-Ok-clause-usage : goal.returns-in-Ok-clause-usage
returns-in-Ok-clause-usage g c = (
  λ e. let f = c.run_pool.ensures.fault (omega (arith, e)) in absurd (omega (arith, e, f)),
  λ bad. absurd (true≢false (sym (rw c.in-Some.is at bad) ∙ within_limits c.in-Some.args.now
      (λ e. no_error c.create.result c.in-Ok.pool BadName c.in-Ok.is (c.create.ensures.bad_name.1 e))
      (λ e. no_error c.create.result c.in-Ok.pool TooMany c.in-Ok.is (c.create.ensures.too_many.1 e)))),
)

pub returns-in-Ok-clause-most : goal.returns-in-Ok-clause-most
returns-in-Ok-clause-most g c = search rules

pub returns-in-Ok-clause-ran : goal.returns-in-Ok-clause-ran
returns-in-Ok-clause-ran g c = search rules

pub returns-in-Ok-clause-beside : goal.returns-in-Ok-clause-beside
returns-in-Ok-clause-beside g c = search rules

pub returns-in_default-clause-beside : goal.returns-in_default-clause-beside
returns-in_default-clause-beside g c = search rules

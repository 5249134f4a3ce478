-- A batch, one update after another.
use Rattle.std.proofs.Common.{◌≡◌, ℕ, zero, suc, ◌+◌, ◌<◌, ◌≤◌, List, [], ◌∷◌, length, get_or, drop, sym, subst, arith, drop-cons}
use Rattle.batch.specs.declared.update.Update.{Update}
use Rattle.tree.specs.Updates.{IsBatchFrom, IsOfTree, first_of, past_of}

pub batch_step : (us : List Update) (i low first past : ℕ) (d : Update) → i < length us → low ≤ first → first ≡ first_of (get_or us i d) → past ≡ past_of (get_or us i d) → IsOfTree (get_or us i d) → IsBatchFrom past (drop (i + 1) us) → IsBatchFrom low (drop i us)
batch_step us i low first past d h l f p t rest =
    let one : i + 1 ≡ suc i = omega arith in
    let after : IsBatchFrom (past_of (get_or us i d)) (drop (suc i) us) = subst (λ n. IsBatchFrom n (drop (suc i) us)) p (subst (λ n. IsBatchFrom past (drop n us)) one rest) in
    subst (IsBatchFrom low) (sym (drop-cons us i d h)) (omega (arith, l, f), t, after)

pub batch_end : (us : List Update) (i low : ℕ) → length us ≤ i → IsBatchFrom low (drop i us)
batch_end [] zero low h = tt
batch_end [] (suc i) low h = tt
batch_end (u ∷ us) zero low h = absurd (omega arith)
batch_end (u ∷ us) (suc i) low h = batch_end us i low (omega arith)

-- Counts of segments, one after the other.
use Rattle.std.proofs.Common.{◌≡◌, ℕ, ◌+◌, ◌≤◌, ◌<◌, ◌^◌, Bool, true, false, cond, eqb, List, arith, sym, refl, ◌∙◌}
use Rattle.std.specs.List.{list_any}
use Rattle.base.specs.Counting.{counted, most}
use Rattle.deadlist.specs.Spans.{Span}
use Rattle.deadlist.specs.Segments.{uppers, has_cut}
use Rattle.deadlist.proofs.Counts.{has_cut_any}

pub counted_none : (a : ℕ) → a < 2 ^ 64 → a ≡ counted a 0
unfolding counted most
counted_none a h = omega arith

pub counted_more : (a m n : ℕ) → counted (counted a m) n ≡ counted a (m + n)
unfolding counted most
counted_more a m n = omega arith

-- what a meter counts where a cut stands, and where it doesn't
pub counted_standing : (xs : List Span) (g before now m n : ℕ) (stands : Bool) → stands ≡ has_cut g xs → (stands ≡ true → now ≡ counted before m) → (stands ≡ false → now ≡ counted before n) → now ≡ counted before (cond (list_any (λ c. eqb c g) (uppers xs)) m n)
counted_standing xs g before now m n true e yes' no' =
    let any : list_any (λ c. eqb c g) (uppers xs) ≡ true = sym (has_cut_any xs g) ∙ sym e in
    rw any (yes' refl)
counted_standing xs g before now m n false e yes' no' =
    let any : list_any (λ c. eqb c g) (uppers xs) ≡ false = sym (has_cut_any xs g) ∙ sym e in
    rw any (no' refl)

-- a count that stops at the greatest is no higher than one that doesn't, and no lower than one of fewer
pub counted_most : (a n : ℕ) → counted a n ≤ a + n
unfolding counted most
counted_most a n = omega arith

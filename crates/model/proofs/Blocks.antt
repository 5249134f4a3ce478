-- What is told of the numbers of objects and blocks.
use Rattle.std.proofs.Common.{◌≡◌, ◌≤◌, ◌⊎◌, ◌↔◌, ℕ, Bool, true, false, ◌&&◌, refl, ap, inl, inr, ⊎_elim}
use Rattle.std.specs.Prelude.{nat_lt}
use Rattle.std.proofs.lemmas.Bool.{ltb-false, le-ltb}
use Rattle.model.specs.Targets.{is_object, is_block}

either_false : (a b : Bool) → (a && b) ≡ false → (a ≡ false) ⊎ (b ≡ false)
either_false true b e = inr e
either_false false b e = inl e

left_false : (a b : Bool) → a ≡ false → (a && b) ≡ false
left_false a b e = ap (λ x. x && b) e

right_false : (a b : Bool) → b ≡ false → (a && b) ≡ false
right_false true b e = e
right_false false b e = refl

-- what is told of numbers outside the limits, told of the test
pub object_tells : (object : ℕ) {P : Type 0} → P ↔ (256 ≤ object) → P ↔ (is_object object ≡ false)
object_tells object t = (λ p. le-ltb object 256 (t.0 p), λ e. t.1 (ltb-false object 256 e))

pub block_tells : (object block : ℕ) {P : Type 0} → P ↔ ((256 ≤ object) ⊎ (4096 ≤ block)) → P ↔ (is_block object block ≡ false)
block_tells object block t = (
  λ p. ⊎_elim
      (λ l. left_false (is_object object) (nat_lt block 4096) (le-ltb object 256 l))
      (λ l. right_false (is_object object) (nat_lt block 4096) (le-ltb block 4096 l))
      (t.0 p),
  λ e. t.1 (⊎_elim (λ a. inl (ltb-false object 256 a)) (λ b. inr (ltb-false block 4096 b)) (either_false (is_object object) (nat_lt block 4096) e)),
)

-- a test that is not false
pub not_false : (b : Bool) → (b ≡ false → ⊥) → b ≡ true
not_false true h = refl
not_false false h = absurd (h refl)

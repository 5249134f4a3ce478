-- The changes of batches of one update.
use Rattle.std.proofs.Common.{◌≡◌, ℕ, Bor, ◌/◌, Bool, true, false, List, [], ◌∷◌, refl, ap, ◌∙◌, arith}
use Rattle.std.specs.Prelude.{◌==◌, ◌||◌}
use Rattle.base.specs.Rewrite.{writes_leaf, punches_leaf, frees_object}
use Rattle.std.specs.FinMap as finmap
use Rattle.batch.specs.declared.update.Update.TheVariants.{Write, Punch}
use Rattle.batch.specs.Updates.{changes_of}

or_false : (b : Bool) → (b || false) ≡ b
or_false true = refl
or_false false = refl

-- one leaf written
pub write_changes : (leaf : ℕ) (bytes : Bor (List ℕ)) → changes_of (Write leaf bytes ∷ []) ≡ writes_leaf leaf bytes.now
unfolding changes_of
write_changes leaf bytes = refl

-- one leaf punched
pub punch_changes : (leaf : ℕ) → changes_of (Punch (record { level = 0; index = leaf }) ∷ []) ≡ punches_leaf leaf
unfolding changes_of
punch_changes leaf = λ i. record { writes = finmap.empty; punches = λ n. (or_false (n / 1 == leaf) ∙ ap (λ m. m == leaf) (let e : n / 1 ≡ n = omega arith in e)) i }

-- an object punched whole
pub free_changes : (object : ℕ) → changes_of (Punch (record { level = 3; index = object }) ∷ []) ≡ frees_object object
unfolding changes_of
free_changes object = λ i. record { writes = finmap.empty; punches = λ n. or_false (n / 4096 == object) i }

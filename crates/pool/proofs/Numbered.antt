-- The numbers of open views stay below the next one.
use Rattle.std.proofs.Common.{◌≡◌, ◌+◌, ℕ, sym, ap, ◌∙◌, ⊎_elim, arith}
use Rattle.std.specs.FinMap as finmap
use Rattle.std.specs.FinMap.{get, insert, remove, get-empty}
use Rattle.std.specs.Ordering.{nat_cmp}
use Rattle.model.specs.State.{Views}
use Rattle.model.specs.World.{SnapId}
use Rattle.world.specs.Shapes.{view_order}
use Rattle.world.proofs.lists.Maps.{key_cases, no_value, get-insert_other, get-remove_same, get-remove_other}
use Rattle.pool.specs.Pools.{AreBelow}

-- no view is open
pub none_below : (next : ℕ) → AreBelow finmap.empty next
none_below next v id e = absurd (no_value id (sym (get-empty nat_cmp v) ∙ e))

module _ (views : Views) (next : ℕ) (below : AreBelow views next) where
  -- one is opened under the next number
  pub opened_below : (id : SnapId) → AreBelow (insert views next id) (next + 1)
  opened_below id v other e = ⊎_elim
      (λ (same : v ≡ next). omega arith)
      (λ (not_same : v ≡ next → ⊥). let l = below v other (sym (get-insert_other view_order views next id v not_same) ∙ e) in omega arith)
      (key_cases view_order v next)

  -- and one is closed
  pub closed_below : (number : ℕ) → AreBelow (remove views number) next
  closed_below number v id e = below v id (⊎_elim
      (λ (same : v ≡ number). absurd (no_value id (sym (get-remove_same view_order views number) ∙ ap (get (remove views number)) (sym same) ∙ e)))
      (λ (not_same : v ≡ number → ⊥). sym (get-remove_other view_order views number v not_same) ∙ e)
      (key_cases view_order v number))

-- The states that an image keeps: just the numbers of the last synced world's blocks are Allocated.
use Rattle.std.proofs.Common.{◌≡◌, ◌≤◌, ◌<◌, ℕ, Bool, true, false, cond, List, [], ◌∷◌, Some, None, length, refl, sym, ap, subst, ◌∙◌, ⊎_elim, arith, zero, suc}
use Rattle.std.specs.Prelude.{slice_get}
use Rattle.std.specs.FinSet.{difference}
use Rattle.std.proofs.lemmas.Bool.{cases_lt}
use Rattle.zalloc.specs.declared.BlockState.{BlockState}
use Rattle.zalloc.specs.declared.BlockState.TheVariants.{Free, Allocated, Waiting}
use Rattle.model.specs.State.{State, is_number_of}
use Rattle.model.specs.World.{reach_of}
use Rattle.base.specs.Map.{Block, BlockSet}
use Rattle.world.specs.Sets.{Has}
use Rattle.world.specs.Blocks.{block_order as o}
use Rattle.world.specs.Worlds.{IsPoolState}
use Rattle.world.proofs.lists.SetCounts.{in_union_right}
use Rattle.world.proofs.maps.Cells.{number_in, from_number}
use Rattle.image.specs.Opened.{KeepsJust}
use Rattle.steps.specs.Settles.{state_at, AreStatesOf}
use Rattle.steps.proofs.numbers.Known.{are_known}
use Rattle.pool.specs.Numbers.{synced_numbers}

past : {A : Type 0} (xs : List A) (n : ℕ) (x : A) → length xs ≤ n → slice_get xs n ≡ Some x → ⊥
past [] n x le e = no_value e
  where
    no_value : None ≡ Some x → ⊥
    no_value e = cc
past (y ∷ ys) zero x le e = absurd (omega (arith, le))
past (y ∷ ys) (suc n) x le e = past ys n x (omega (arith, le)) e

in_set : (r : BlockSet) (n : ℕ) → state_at r r n ≡ Allocated → (b : Block) × Has r b × (b.number ≡ n)
in_set r n e = by_number (is_number_of r n) refl
  where
    waits : (b : Bool) → cond b Waiting Free ≡ Allocated → ⊥
    waits true e = cc
    waits false e = cc

    by_number : (b : Bool) → is_number_of r n ≡ b → (b : Block) × Has r b × (b.number ≡ n)
    by_number true t = from_number r n t
    by_number false t = absurd (waits (is_number_of (difference r r) n) (ap (λ x. cond x Allocated (cond (is_number_of (difference r r) n) Waiting Free)) (sym t) ∙ e))

module _ (s : State) (good : IsPoolState s) where
  known : AreStatesOf (reach_of s.last) (reach_of s.last) s.size (synced_numbers s.size s.last)
  known = are_known (reach_of s.last) (reach_of s.last) s.size

  pub kept_long : length (synced_numbers s.size s.last) ≡ s.size
  kept_long = known.count

  pub kept_just : KeepsJust (reach_of s.last) (synced_numbers s.size s.last)
  kept_just = record {
    each = λ b h.
        known.each b.number (good.pair.reached.small b (in_union_right o (reach_of s.now) (reach_of s.last) b h))
        ∙ ap (λ t. Some (cond t Allocated (cond (is_number_of (difference (reach_of s.last) (reach_of s.last)) b.number) Waiting Free))) (number_in (reach_of s.last) b.number b h refl);
    only = λ n e. ⊎_elim
        (λ (low : n < s.size). in_set (reach_of s.last) n (same_value _ _ (sym (known.each n low) ∙ e)))
        (λ (high : s.size ≤ n). absurd (past (synced_numbers s.size s.last) n Allocated (subst (λ l. l ≤ n) (sym known.count) high) e))
        (cases_lt n s.size);
  }
    where
      same_value : (x y : BlockState) → Some x ≡ Some y → x ≡ y
      same_value x y e = cc

-- The states of numbers, from the sets of blocks that both worlds reach.
use Rattle.std.proofs.Common.{◌≡◌, ℕ, zero, suc, ◌+◌, ◌<◌, Bool, true, false, cond, not, ◌||◌, List, [], ◌∷◌, Some, refl, sym, ap, ◌∙◌, true≢false, ⊎_elim, length, arith}
use Rattle.std.specs.Prelude.{slice_get, count_by}
use Rattle.std.specs.FinSet.{union, difference}
use Rattle.std.proofs.lemmas.List.Sums.{sum_by-cons}
use Rattle.std.proofs.lemmas.Bool.{or_cases, or_right}
use Rattle.base.specs.Map.{Block, BlockSet}
use Rattle.zalloc.specs.declared.BlockState.{BlockState}
use Rattle.zalloc.specs.declared.BlockState.TheVariants.{Free, Allocated, Waiting}
use Rattle.zalloc.specs.States.{is_free}
use Rattle.model.specs.State.{is_number_of}
use Rattle.world.specs.Sets.{Has}
use Rattle.steps.specs.Settles.{state_at}
use Rattle.world.specs.Blocks.{block_order as o}
use Rattle.world.proofs.lists.SetCounts.{in_union_left, in_union_right, from_union, in_difference, from_difference}
use Rattle.world.proofs.maps.Cells.{number_in, from_number}
use Rattle.steps.proofs.numbers.Free.{count_below}
use Rattle.steps.proofs.numbers.Settles.{both_ways}

module _ (A L : BlockSet) where
  pub state_at-now : (b : Block) → Has A b → state_at A L b.number ≡ Allocated
  state_at-now b h = rw (number_in A b.number b h refl) refl

  -- no block of either set has a number that is Free
  pub not_free : (b : Block) → Has (union A L) b → state_at A L b.number ≡ Free → ⊥
  not_free b h e = at (is_number_of A b.number) refl
    where
      apart : Allocated ≡ Free → ⊥
      apart f = cc

      apart_waiting : Waiting ≡ Free → ⊥
      apart_waiting f = cc

      at : (t : Bool) → is_number_of A b.number ≡ t → ⊥
      at true t = apart (sym (ap (λ x. cond x Allocated (cond (is_number_of (difference L A) b.number) Waiting Free)) t) ∙ e)
      at false t =
          let out : Has A b → ⊥ = λ a. true≢false (sym (number_in A b.number b a refl) ∙ t) in
          let l = ⊎_elim (λ a. absurd (out a)) (λ l. l) (from_union o A L b h) in
          let w = number_in (difference L A) b.number b (in_difference o L A b l out) refl in
          apart_waiting (sym (λ i. cond (t i) Allocated (cond (w i) Waiting Free)) ∙ e)

  number_either : (n : ℕ) → is_number_of (union A L) n ≡ (is_number_of A n || is_number_of (difference L A) n)
  number_either n = both_ways _ _
      (λ t. let b = from_number (union A L) n t in at b.0 b.1 b.2 (is_number_of A n) refl)
      (λ t. ⊎_elim
      (λ a. let b = from_number A n a in number_in (union A L) n b.0 (in_union_left o A L b.0 b.1) b.2)
      (λ l. let b = from_number (difference L A) n l in number_in (union A L) n b.0 (in_union_right o A L b.0 (from_difference o L A b.0 b.1).0) b.2)
      (or_cases _ _ t))
    where
      at : (b : Block) → Has (union A L) b → b.number ≡ n → (t : Bool) → is_number_of A n ≡ t → (is_number_of A n || is_number_of (difference L A) n) ≡ true
      at b h e true t = ap (λ x. x || is_number_of (difference L A) n) t
      at b h e false t =
          let out : Has A b → ⊥ = λ a. true≢false (sym (number_in A n b a e) ∙ t) in
          or_right _ _ (number_in (difference L A) n b (in_difference o L A b (⊎_elim (λ a. absurd (out a)) (λ l. l) (from_union o A L b h)) out) e)

  pub free-state_at : (n : ℕ) → is_free (state_at A L n) ≡ not (is_number_of (union A L) n)
  free-state_at n = at (is_number_of A n) (is_number_of (difference L A) n) ∙ ap not (sym (number_either n))
    where
      at : (a w : Bool) → is_free (cond a Allocated (cond w Waiting Free)) ≡ not (a || w)
      at true w = refl
      at false true = refl
      at false false = refl

-- counting from the front
pub count_below-front : (q : ℕ → Bool) (n : ℕ) → count_below q (suc n) ≡ cond {A = ℕ} (q 0) 1 0 + count_below (λ k. q (suc k)) n
count_below-front q zero = refl
count_below-front q (suc n) = let ih = count_below-front q n in omega (arith, ih)

pub count-list : (p : BlockState → Bool) (xs : List BlockState) (f : ℕ → BlockState) → ((k : ℕ) → k < length xs → slice_get xs k ≡ Some (f k))
    → count_by p xs ≡ count_below (λ k. p (f k)) (length xs)
count-list p [] f h = refl
count-list p (x ∷ xs) f h =
    let ih = count-list p xs (λ k. f (suc k)) (λ k l. h (suc k) (omega arith)) in
    sum_by-cons (λ z. cond (p z) 1 0) x xs
    ∙ (λ i. cond {A = ℕ} (p (same_value x (f 0) (h 0 (omega arith)) i)) 1 0 + ih i)
    ∙ sym (count_below-front (λ k. p (f k)) (length xs))
  where
    same_value : (a b : BlockState) → Some a ≡ Some b → a ≡ b
    same_value a b e = cc

pub count_below-same : (p q : ℕ → Bool) (n : ℕ) → ((k : ℕ) → p k ≡ q k) → count_below p n ≡ count_below q n
count_below-same p q zero h = refl
count_below-same p q (suc n) h = λ i. cond {A = ℕ} (h n i) 1 0 + count_below-same p q n h i

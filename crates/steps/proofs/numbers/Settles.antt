-- After a change is settled every number has the state that the worlds give it.
use Rattle.std.proofs.Common.{◌≡◌, ℕ, zero, suc, Bool, true, false, cond, List, [], ◌∷◌, Some, refl, sym, ap, subst, ◌∙◌, true≢false, map, ◌⊎◌, inl, inr, ⊎_elim}
use Rattle.std.specs.Prelude.{slice_get, slice_set, ◌==◌}
use Rattle.std.specs.FinSet.{difference}
use Rattle.std.proofs.lemmas.Bool.{eqb-true, eq-eqb}
use Rattle.base.specs.Map.{Block, BlockSet}
use Rattle.base.specs.Surveys.{IsIn, AreDifferent}
use Rattle.zalloc.specs.declared.BlockState.{BlockState}
use Rattle.zalloc.specs.declared.BlockState.TheVariants.{Free, Allocated, Waiting}
use Rattle.tree.specs.Taking.{takes, AllFree}
use Rattle.model.specs.State.{is_number_of}
use Rattle.world.specs.Sets.{Has}
use Rattle.steps.specs.Settles.{state_at, released_state, releases, AllAllocated}
use Rattle.world.specs.Plans.{IsSettling}
use Rattle.world.specs.Blocks.{block_order as o}
use Rattle.world.proofs.lists.SetCounts.{in_union_left, in_union_right, in_difference, from_difference}
use Rattle.world.proofs.maps.Cells.{number_in, from_number}
use Rattle.world.proofs.lists.Listed.{map_in, in_map, different_map}

false_from : (b : Bool) → (b ≡ true → ⊥) → b ≡ false
false_from true h = absurd (h refl)
false_from false h = refl

pub both_ways : (a b : Bool) → (a ≡ true → b ≡ true) → (b ≡ true → a ≡ true) → a ≡ b
both_ways true b f g = sym (f refl)
both_ways false true f g = absurd (true≢false (sym (g refl)))
both_ways false false f g = refl

-- whether a number is one of a list's
pub is_in : (ns : List ℕ) (n : ℕ) → IsIn ns n ⊎ (IsIn ns n → ⊥)
is_in [] n = inr (λ h. h)
is_in (m ∷ ns) n = at (n == m) refl (is_in ns n)
  where
    at : (b : Bool) → (n == m) ≡ b → IsIn ns n ⊎ (IsIn ns n → ⊥) → IsIn (m ∷ ns) n ⊎ (IsIn (m ∷ ns) n → ⊥)
    at true e r = inl (inl (eqb-true n m e))
    at false e (inl h) = inl (inr h)
    at false e (inr h) = inr (λ k. ⊎_elim (λ is. true≢false (sym (eq-eqb n m is) ∙ e)) h k)

set_here : (xs : List BlockState) (i : ℕ) (x y : BlockState) → slice_get xs i ≡ Some x → slice_get (slice_set xs i y) i ≡ Some y
set_here [] i x y e = cc
set_here (a ∷ xs) zero x y e = refl
set_here (a ∷ xs) (suc i) x y e = set_here xs i x y e

pub set_other : (xs : List BlockState) (i k : ℕ) (y : BlockState) → (k ≡ i → ⊥) → slice_get (slice_set xs i y) k ≡ slice_get xs k
set_other [] i k y n = refl
set_other (a ∷ xs) zero zero y n = absurd (n refl)
set_other (a ∷ xs) zero (suc k) y n = refl
set_other (a ∷ xs) (suc i) zero y n = refl
set_other (a ∷ xs) (suc i) (suc k) y n = set_other xs i k y (λ e. n (ap suc e))

takes_other : (st : List BlockState) (ns : List ℕ) (n : ℕ) → (IsIn ns n → ⊥) → slice_get (takes st ns) n ≡ slice_get st n
takes_other st [] n h = refl
takes_other st (m ∷ ns) n h = takes_other (slice_set st m Allocated) ns n (λ i. h (inr i)) ∙ set_other st m n Allocated (λ e. h (inl e))

takes_here : (st : List BlockState) (ns : List ℕ) (n : ℕ) → AreDifferent ns → IsIn ns n → (x : BlockState) → slice_get st n ≡ Some x
    → slice_get (takes st ns) n ≡ Some Allocated
takes_here st [] n d h x e = absurd h
takes_here st (m ∷ ns) n d (inl is) x e =
    takes_other (slice_set st m Allocated) ns n (λ i. d.0 (subst (λ k. IsIn ns k) is i))
    ∙ subst (λ k. slice_get (slice_set st k Allocated) n ≡ Some Allocated) is (set_here st n x Allocated e)
takes_here st (m ∷ ns) n d (inr h) x e =
    takes_here (slice_set st m Allocated) ns n d.1 h x (set_other st m n Allocated (λ is. d.0 (subst (λ k. IsIn ns k) is h)) ∙ e)

abbrev pub numbers_of : List Block → List ℕ
numbers_of = map (λ (b : Block). b.number)

module _ (g : ℕ) where
  pub releases_other : (st : List BlockState) (bs : List Block) (n : ℕ) → (IsIn (numbers_of bs) n → ⊥) → slice_get (releases g st bs) n ≡ slice_get st n
  releases_other st [] n h = refl
  releases_other st (b ∷ bs) n h = releases_other (slice_set st b.number (released_state g b)) bs n (λ i. h (inr i)) ∙ set_other st b.number n _ (λ e. h (inl e))

  pub releases_here : (st : List BlockState) (bs : List Block) (b : Block) → AreDifferent (numbers_of bs) → IsIn bs b
      → (x : BlockState) → slice_get st b.number ≡ Some x → slice_get (releases g st bs) b.number ≡ Some (released_state g b)
  releases_here st [] b d h x e = absurd h
  releases_here st (a ∷ bs) b d (inl is) x e =
      releases_other (slice_set st a.number (released_state g a)) bs b.number (λ i. d.0 (subst (λ (y : Block). IsIn (numbers_of bs) y.number) is i))
      ∙ subst (λ (y : Block). slice_get (slice_set st y.number (released_state g y)) b.number ≡ Some (released_state g b)) is (set_here st b.number x _ e)
  releases_here st (a ∷ bs) b d (inr h) x e =
      releases_here (slice_set st a.number (released_state g a)) bs b d.1 h x
      (set_other st a.number b.number _ (λ is. d.0 (subst (λ n. IsIn (numbers_of bs) n) is (map_in (λ (b : Block). b.number) bs b h))) ∙ e)

  all_allocated : (st : List BlockState) (bs : List Block) → AreDifferent (numbers_of bs) → ((b : Block) → IsIn bs b → slice_get st b.number ≡ Some Allocated)
      → AllAllocated g st bs
  all_allocated st [] d h = tt
  all_allocated st (b ∷ bs) d h = (
    h b (inl refl),
    all_allocated (slice_set st b.number (released_state g b)) bs d.1
        (λ x i. set_other st b.number x.number _ (λ is. d.0 (subst (λ n. IsIn (numbers_of bs) n) is (map_in (λ (b : Block). b.number) bs x i))) ∙ h x (inr i)),
  )

all_free : (st : List BlockState) (ns : List ℕ) → AreDifferent ns → ((n : ℕ) → IsIn ns n → slice_get st n ≡ Some Free) → AllFree st ns
all_free st [] d h = tt
all_free st (n ∷ ns) d h = (
  h n (inl refl),
  all_free (slice_set st n Allocated) ns d.1 (λ k i. set_other st n k _ (λ is. d.0 (subst (λ y. IsIn ns y) is i)) ∙ h k (inr i)),
)

module _ (A A' L : BlockSet) (g : ℕ) (released : List Block) (taken : List ℕ) (settling : IsSettling A A' L g released taken) where
  abbrev gone : List ℕ
  gone = numbers_of released

  gone_once : AreDifferent gone
  gone_once = different_map (λ (b : Block). b.number) released
      (λ a b h k e. settling.unique a b (in_union_left o A L a (settling.there a h)) (in_union_left o A L b (settling.there b k)) e) settling.once

  made_state : (n : ℕ) → IsIn taken n → state_at A' L n ≡ Allocated
  made_state n h = let b = settling.made n h in rw (number_in A' n b.0 b.1 b.2) refl

  not_gone : (n : ℕ) → (IsIn gone n → ⊥) → (b : Block) → b.number ≡ n → IsIn released b → ⊥
  not_gone n out b e i = out (subst (λ k. IsIn gone k) e (map_in (λ (b : Block). b.number) released b i))

  -- where a number is neither taken nor released, a block now has it just where one had it
  same_now : (n : ℕ) → (IsIn taken n → ⊥) → (IsIn gone n → ⊥) → is_number_of A' n ≡ is_number_of A n
  same_now n no_taken no_gone = both_ways _ _
      (λ t. let b = from_number A' n t in ⊎_elim
      (λ k. number_in A n k.0 k.1 (k.2 ∙ b.2))
      (λ i. absurd (no_taken (subst (λ k. IsIn taken k) b.2 i)))
      (settling.came b.0 b.1))
      (λ t. let b = from_number A n t in
      let s = settling.stays b.0 b.1 (not_gone n no_gone b.0 b.2) in
      number_in A' n s.0.0 s.0.1 (s.0.2 ∙ b.2))

  same_waiting : (n : ℕ) → (IsIn taken n → ⊥) → (IsIn gone n → ⊥) → is_number_of (difference L A') n ≡ is_number_of (difference L A) n
  same_waiting n no_taken no_gone = both_ways _ _
      (λ t. let b = from_number (difference L A') n t in
      let p = from_difference o L A' b.0 b.1 in
      number_in (difference L A) n b.0 (in_difference o L A b.0 p.0 (λ h. p.1 ((settling.stays b.0 h (not_gone n no_gone b.0 b.2)).1 p.0))) b.2)
      (λ t. let b = from_number (difference L A) n t in
      let p = from_difference o L A b.0 b.1 in
      number_in (difference L A') n b.0 (in_difference o L A' b.0 p.0 (λ h. ⊎_elim
      (λ k. p.1 (subst (λ x. Has A x) (settling.unique k.0 b.0 (in_union_left o A L k.0 k.1) (in_union_right o A L b.0 p.0) k.2) k.1))
      (λ i. no_taken (subst (λ k. IsIn taken k) b.2 i))
      (settling.came b.0 h))) b.2)

  -- no block is left with a number that is released and not taken
  none_now : (b : Block) → IsIn released b → (IsIn taken b.number → ⊥) → is_number_of A' b.number ≡ false
  none_now b h no_taken = false_from _ (λ t.
      let x = from_number A' b.number t in ⊎_elim
      (λ k. k.3 (subst (λ y. IsIn released y) (settling.unique b k.0 (in_union_left o A L b (settling.there b h)) (in_union_left o A L k.0 k.1) (sym (k.2 ∙ x.2))) h))
      (λ i. no_taken (subst (λ k. IsIn taken k) x.2 i))
      (settling.came x.0 x.1))

  gone_state : (b : Block) → IsIn released b → (IsIn taken b.number → ⊥) → state_at A' L b.number ≡ released_state g b
  gone_state b h no_taken = rw (none_now b h no_taken) (ap (λ t. cond t Waiting Free) (both_ways _ _
      (λ t. let x = from_number (difference L A') b.number t in
      let p = from_difference o L A' x.0 x.1 in
      (settling.waits b (settling.there b h)).0
      (subst (λ y. Has L y) (settling.unique x.0 b (in_union_right o A L x.0 p.0) (in_union_left o A L b (settling.there b h)) x.2) p.0))
      (λ t. number_in (difference L A') b.number b (in_difference o L A' b ((settling.waits b (settling.there b h)).1 t)
      (λ k. true≢false (sym (number_in A' b.number b k refl) ∙ none_now b h no_taken))) refl)))

  -- the states of the numbers are those of the worlds before the change, and the numbers that it takes are Free
  module _ (states : List BlockState) (small : ℕ → Type 0)
      (was : (n : ℕ) → small n → slice_get states n ≡ Some (state_at A L n))
      (in_pool : (b : Block) → Has A b → small b.number)
      (taken_free : (n : ℕ) → IsIn taken n → slice_get states n ≡ Some Free) where
    was_allocated : (b : Block) → IsIn released b → slice_get states b.number ≡ Some Allocated
    was_allocated b i =
        let h = settling.there b i in
        was b.number (in_pool b h) ∙ ap (λ t. Some (cond t Allocated (cond (is_number_of (difference L A) b.number) Waiting Free))) (number_in A b.number b h refl)

    pub release_them : AllAllocated g states released
    release_them = all_allocated g states released gone_once was_allocated

    free_not_allocated : {X : Type 0} → Some Free ≡ Some Allocated → X
    free_not_allocated e = cc

    not_released : (n : ℕ) → IsIn taken n → IsIn gone n → ⊥
    not_released n i k =
        let b = in_map (λ (b : Block). b.number) released n k in
        free_not_allocated (sym (taken_free n i) ∙ ap (slice_get states) b.2 ∙ was_allocated b.0 b.1)

    still_free : (n : ℕ) → IsIn taken n → slice_get (releases g states released) n ≡ Some Free
    still_free n i = releases_other g states released n (not_released n i) ∙ taken_free n i

    pub take_them : AllFree (releases g states released) taken
    take_them = all_free (releases g states released) taken settling.taken_once still_free

    -- and then every number has the state that the worlds after it give it
    pub settled : (n : ℕ) → small n → slice_get (takes (releases g states released) taken) n ≡ Some (state_at A' L n)
    settled n l = by_taken (is_in taken n)
      where
        at_gone : (IsIn taken n → ⊥) → IsIn gone n ⊎ (IsIn gone n → ⊥) → slice_get (releases g states released) n ≡ Some (state_at A' L n)
        at_gone no_taken (inl h) =
            let b = in_map (λ (b : Block). b.number) released n h in
            ap (slice_get (releases g states released)) b.2
            ∙ releases_here g states released b.0 gone_once b.1 Allocated (was_allocated b.0 b.1)
            ∙ ap Some (sym (gone_state b.0 b.1 (λ i. no_taken (subst (λ k. IsIn taken k) (sym b.2) i))) ∙ ap (state_at A' L) (sym b.2))
        at_gone no_taken (inr no_gone) =
            releases_other g states released n no_gone ∙ was n l
            ∙ sym (λ i. Some (cond (same_now n no_taken no_gone i) Allocated (cond (same_waiting n no_taken no_gone i) Waiting Free)))

        by_taken : IsIn taken n ⊎ (IsIn taken n → ⊥) → slice_get (takes (releases g states released) taken) n ≡ Some (state_at A' L n)
        by_taken (inl h) = takes_here (releases g states released) taken n settling.taken_once h Free (still_free n h) ∙ ap Some (sym (made_state n h))
        by_taken (inr h) = takes_other (releases g states released) taken n h ∙ at_gone h (is_in gone n)

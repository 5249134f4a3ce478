-- Two lists of states that are the same but for touched windows.
use Rattle.std.proofs.Common.{◌≡◌, ◌≢◌, ℕ, zero, suc, ◌/◌, ◌<◌, ◌⊎◌, inl, inr, ⊎_elim, Bool, true, false, List, [], ◌∷◌, length, map, set, Option, Some, replicate, refl, ap, sym, ◌∙◌, arith}
use Rattle.std.specs.Prelude.{slice_get, slice_set, count_by}
use Rattle.std.specs.List.{Contains}
use Rattle.std.proofs.lemmas.Bool.{cases_eq}
use Rattle.zalloc.specs.declared.BlockState.{BlockState}
use Rattle.zalloc.specs.declared.BlockState.TheVariants.{Free, Allocated, Waiting}
use Rattle.zalloc.specs.declared.set.NumberSet.{NumberSet}
use Rattle.zalloc.specs.States.{is_waiting, after_group}
use Rattle.zalloc.specs.Sets.{is_held, AreSame}
use Rattle.zalloc.specs.Allocator.{state_from, states_from}
use Rattle.zalloc.specs.Paired.{AreSameBut, NoneWaits}
use Rattle.zalloc.proofs.Counting.{cons}
use Rattle.zalloc.proofs.States.{state_get, same_held, same_sets}

pub set_here : {X : Type 0} (xs : List X) (i : ℕ) (x : X) → i < length xs → slice_get (set xs i x) i ≡ Some x
set_here [] i x h = absurd (omega arith)
set_here (y ∷ xs) zero x h = refl
set_here (y ∷ xs) (suc i) x h = set_here xs i x (omega arith)

pub set_there : {X : Type 0} (xs : List X) (i k : ℕ) (x : X) → k ≢ i → slice_get (set xs i x) k ≡ slice_get xs k
set_there [] i k x ne = refl
set_there (y ∷ xs) zero zero x ne = absurd (ne refl)
set_there (y ∷ xs) zero (suc k) x ne = refl
set_there (y ∷ xs) (suc i) zero x ne = refl
set_there (y ∷ xs) (suc i) (suc k) x ne = set_there xs i k x (λ e. ne (ap suc e))

-- after a number has another state, and was noted
pub noted_step : (touched : List Bool) (a b : List BlockState) (i : ℕ) (x : BlockState) → i / 64 < length touched → AreSameBut touched a b → AreSameBut (slice_set touched (i / 64) true) (slice_set a i x) b
noted_step touched a b i x small h k =
    ⊎_elim
    (λ (e : k / 64 ≡ i / 64). inr (ap (slice_get (set touched (i / 64) true)) e ∙ set_here touched (i / 64) true small))
    (λ (ne : k / 64 ≡ i / 64 → ⊥). ⊎_elim
    (λ (s : slice_get a k ≡ slice_get b k). inl (set_there a i k x (λ e. ne (ap (λ z. z / 64) e)) ∙ s))
    (λ (s : slice_get touched (k / 64) ≡ Some true). inr (set_there touched (i / 64) (k / 64) true ne ∙ s))
    (h k))
    (cases_eq (k / 64) (i / 64))

ended_same : (a : List BlockState) (k : ℕ) (o : Option BlockState) → slice_get a k ≡ o → (o ≡ Some Waiting → ⊥) → slice_get (map after_group a) k ≡ o
ended_same [] k o e none = e
ended_same (Free ∷ a) zero o e none = e
ended_same (Allocated ∷ a) zero o e none = e
ended_same (Waiting ∷ a) zero o e none = absurd (none (sym e))
ended_same (x ∷ a) (suc k) o e none = ended_same a k o e none

-- after the group has ended, where none waits in the other; the other way round
pub ended_step : (touched : List Bool) (a b : List BlockState) → NoneWaits b → AreSameBut touched a b → AreSameBut touched b (map after_group a)
ended_step touched a b none h k =
    ⊎_elim
    (λ (e : slice_get a k ≡ slice_get b k). inl (sym (ended_same a k (slice_get b k) e (none k))))
    (λ (t : slice_get touched (k / 64) ≡ Some true). inr t)
    (h k)

-- the same, whatever was touched
pub same_but : (touched : List Bool) (a b : List BlockState) → a ≡ b → AreSameBut touched a b
same_but touched a b e k = inl (ap (λ z. slice_get z k) e)

-- none waits
pub none_after : (a : List BlockState) → NoneWaits (map after_group a)
none_after [] k e = cc
none_after (Free ∷ a) zero e = cc
none_after (Allocated ∷ a) zero e = cc
none_after (Waiting ∷ a) zero e = cc
none_after (x ∷ a) (suc k) e = none_after a k e

pub none_at_first : (n : ℕ) → NoneWaits (replicate n Free)
none_at_first zero k e = cc
none_at_first (suc n) zero e = cc
none_at_first (suc n) (suc k) e = none_at_first n k e

-- the sets of two allocators, which are the same but for the windows of a list
abbrev pub AreApart : NumberSet → NumberSet → Type 0
AreApart x y = (k : ℕ) → k < x.numbers → is_held x k ≡ true → is_held y k ≡ false

module _ (x y v w : NumberSet) (touched : List Bool) (ws : List ℕ) (n : v.numbers ≡ x.numbers) (a : AreApart x y) (b : AreApart v w) (same : AreSameBut touched (states_from x y) (states_from v w)) (all : (i : ℕ) → slice_get touched i ≡ Some true → Contains ws i) where
  pub free_but : (k : ℕ) → k < x.numbers → (is_held x k ≡ is_held v k) ⊎ Contains ws (k / 64)
  free_but k h =
      ⊎_elim
      (λ (e : slice_get (states_from x y) k ≡ slice_get (states_from v w) k). inl (same_held x y v w k n a b h e).0)
      (λ (t : slice_get touched (k / 64) ≡ Some true). inr (all (k / 64) t))
      (same k)

  pub waiting_but : (k : ℕ) → k < x.numbers → (is_held y k ≡ is_held w k) ⊎ Contains ws (k / 64)
  waiting_but k h =
      ⊎_elim
      (λ (e : slice_get (states_from x y) k ≡ slice_get (states_from v w) k). inl (same_held x y v w k n a b h e).1)
      (λ (t : slice_get touched (k / 64) ≡ Some true). inr (all (k / 64) t))
      (same k)

-- the states of sets that were copied
pub copied_states : (x y v w : NumberSet) → y.numbers ≡ x.numbers → AreSame x v → AreSame y w → states_from v w ≡ states_from x y
copied_states x y v w n f g = same_sets x y v w f.numbers (λ k h. (f.held k h, g.held k (omega (arith, h, n))))

-- where none waits, no number is in the set of those that do, and none is counted
waiting_is : (f w : Bool) → (f ≡ true → w ≡ false) → (Some (state_from f w) ≡ Some Waiting → ⊥) → w ≡ false
waiting_is true w a none = a refl
waiting_is false true a none = absurd (none refl)
waiting_is false false a none = refl

pub not_waiting : (x y : NumberSet) → AreApart x y → NoneWaits (states_from x y) → (k : ℕ) → k < x.numbers → is_held y k ≡ false
not_waiting x y a none k h = waiting_is (is_held x k) (is_held y k) (a k h) (λ e. none k (state_get x y k h ∙ e))

pub none_held : (x y v w : NumberSet) → v.numbers ≡ x.numbers → y.numbers ≡ x.numbers → w.numbers ≡ v.numbers → AreApart x y → AreApart v w → NoneWaits (states_from x y) → NoneWaits (states_from v w) → AreSame w y
none_held x y v w n p q a b none there = record {
  numbers = p ∙ sym n ∙ sym q;
  held = λ k h. not_waiting x y a none k (omega (arith, h, n, q)) ∙ sym (not_waiting v w b there k (omega (arith, h, q)));
}

pub none_counted : (xs : List BlockState) → NoneWaits xs → count_by is_waiting xs ≡ 0
none_counted [] none = refl
none_counted (Free ∷ xs) none = let h = none_counted xs (λ k. none (suc k)) in omega (arith, h, cons is_waiting Free xs)
none_counted (Allocated ∷ xs) none = let h = none_counted xs (λ k. none (suc k)) in omega (arith, h, cons is_waiting Allocated xs)
none_counted (Waiting ∷ xs) none = absurd (none 0 refl)

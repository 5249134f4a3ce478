-- Flags of windows, and how many are set.
use Rattle.std.proofs.Common.{◌≡◌, ℕ, zero, suc, ◌+◌, ◌<◌, ◌⊎◌, inl, inr, ⊎_elim, Bool, true, false, List, [], ◌∷◌, ◌++◌, length, Some, replicate, refl, sym, ap, subst, arith, length-set}
use Rattle.std.specs.Prelude.{slice_get, slice_set, slice_index, count_by}
use Rattle.std.specs.List.{Contains}
use Rattle.std.proofs.lemmas.List.Elements.{Contains-push, Contains-append_left}
use Rattle.std.proofs.lemmas.Option.{slice_get_within, get_or_from_slice_get}
use Rattle.std.proofs.lemmas.List.Sums.{sum_by-set, count_by-le-length}
use Rattle.std.proofs.lemmas.List.Folds.{sum_by-replicate}
use Rattle.zalloc.specs.Touched.{itself}
use Rattle.zalloc.proofs.Counting.{one}

-- one more flag
pub flag_more : (xs : List Bool) (i : ℕ) → slice_get xs i ≡ Some false → count_by itself (slice_set xs i true) ≡ count_by itself xs + 1
flag_more xs i e =
    let at = get_or_from_slice_get xs i false false e in
    let h = sum_by-set (λ z. one z) xs i true false (slice_get_within xs i false e) in
    let f = rw at at h in
    omega (arith, f)

-- there is room for it
pub room_to_note : (xs : List Bool) (i : ℕ) → slice_get xs i ≡ Some false → count_by itself xs < length xs
room_to_note xs i e = omega (arith, flag_more xs i e, count_by-le-length itself (slice_set xs i true), length-set xs i true)

-- what has its flag then
pub flag_set : (xs : List Bool) (i k : ℕ) → slice_get (slice_set xs i true) k ≡ Some true → (k ≡ i) ⊎ (slice_get xs k ≡ Some true)
flag_set [] i k e = inr e
flag_set (a ∷ xs) zero zero e = inl refl
flag_set (a ∷ xs) zero (suc k) e = inr e
flag_set (a ∷ xs) (suc i) zero e = inr e
flag_set (a ∷ xs) (suc i) (suc k) e = ⊎_elim (λ (n : k ≡ i). inl (ap suc n)) inr (flag_set xs i k e)

pub listed_more : (xs : List Bool) (ns : List ℕ) (i : ℕ) → ((k : ℕ) → slice_get xs k ≡ Some true → Contains ns k) → (k : ℕ) → slice_get (slice_set xs i true) k ≡ Some true → Contains (ns ++ i ∷ []) k
listed_more xs ns i h k e =
    ⊎_elim
    (λ (n : k ≡ i). subst (λ m. Contains (ns ++ i ∷ []) m) (sym n) (Contains-push ns i))
    (λ (o : slice_get xs k ≡ Some true). Contains-append_left ns (i ∷ []) k (h k o))
    (flag_set xs i k e)

pub within_more : (ns : List ℕ) (w m : ℕ) → w < m → ((i : ℕ) → i < length ns → slice_index ns i < m) → (i : ℕ) → i < length (ns ++ w ∷ []) → slice_index (ns ++ w ∷ []) i < m
within_more [] w m p h zero q = p
within_more [] w m p h (suc i) q = absurd (omega arith)
within_more (n ∷ ns) w m p h zero q = h zero (omega arith)
within_more (n ∷ ns) w m p h (suc i) q = within_more ns w m p (λ j r. h (suc j) (omega (arith, r))) i (omega (arith, q))

-- none at first
pub none_flagged : (n k : ℕ) → slice_get (replicate n false) k ≡ Some true → ⊥
none_flagged zero k e = cc
none_flagged (suc n) zero e = cc
none_flagged (suc n) (suc k) e = none_flagged n k e

pub no_flags : (n : ℕ) → count_by itself (replicate n false) ≡ 0
no_flags n = omega (arith, sum_by-replicate (λ z. one z) n false)

-- where none is flagged
pub unflagged : (xs : List Bool) → ((k : ℕ) → slice_get xs k ≡ Some true → ⊥) → xs ≡ replicate (length xs) false
unflagged [] h = refl
unflagged (true ∷ xs) h = absurd (h 0 refl)
unflagged (false ∷ xs) h = ap (λ ys. false ∷ ys) (unflagged xs (λ k. h (suc k)))

-- What a change of one state does to the counts.
use Rattle.std.proofs.Common.{◌≡◌, ℕ, zero, suc, ◌+◌, ◌<◌, Bool, cond, List, [], ◌∷◌, length, map, Some, refl, arith, replicate}
use Rattle.std.specs.Prelude.{slice_get, slice_set, count_by}
use Rattle.std.proofs.lemmas.Option.{slice_get_within, get_or_from_slice_get}
use Rattle.std.proofs.lemmas.List.Sums.{sum_by-set, sum_by-cons}
use Rattle.std.proofs.lemmas.List.Folds.{sum_by-replicate}
use Rattle.zalloc.specs.declared.BlockState.{BlockState}
use Rattle.zalloc.specs.declared.BlockState.TheVariants.{Free, Allocated, Waiting}
use Rattle.zalloc.specs.States.{is_free, is_waiting, is_allocated, after_group}

abbrev pub one : Bool → ℕ
one b = cond b 1 0

pub cons : (p : BlockState → Bool) (x : BlockState) (xs : List BlockState) → count_by p (x ∷ xs) ≡ one (p x) + count_by p xs
cons p x xs = sum_by-cons (λ z. cond (p z) 1 0) x xs

pub count_set : (p : BlockState → Bool) (xs : List BlockState) (i : ℕ) (x y : BlockState) → slice_get xs i ≡ Some x → count_by p (slice_set xs i y) + one (p x) ≡ count_by p xs + one (p y)
count_set p xs i x y e =
    let at = get_or_from_slice_get xs i x x e in
    let h = sum_by-set (λ z. cond (p z) 1 0) xs i y x (slice_get_within xs i x e) in
    rw at at h

pub three : (xs : List BlockState) → count_by is_free xs + count_by is_waiting xs + count_by is_allocated xs ≡ length xs
three [] = refl
three (Free ∷ xs) = let h = three xs in omega (arith, h, cons is_free Free xs, cons is_waiting Free xs, cons is_allocated Free xs)
three (Allocated ∷ xs) = let h = three xs in omega (arith, h, cons is_free Allocated xs, cons is_waiting Allocated xs, cons is_allocated Allocated xs)
three (Waiting ∷ xs) = let h = three xs in omega (arith, h, cons is_free Waiting xs, cons is_waiting Waiting xs, cons is_allocated Waiting xs)

pub ended_free : (xs : List BlockState) → count_by is_free (map after_group xs) ≡ count_by is_free xs + count_by is_waiting xs
ended_free [] = refl
ended_free (Free ∷ xs) = let h = ended_free xs in omega (arith, h, cons is_free Free xs, cons is_waiting Free xs, cons is_free (after_group Free) (map after_group xs))
ended_free (Allocated ∷ xs) = let h = ended_free xs in omega (arith, h, cons is_free Allocated xs, cons is_waiting Allocated xs, cons is_free (after_group Allocated) (map after_group xs))
ended_free (Waiting ∷ xs) = let h = ended_free xs in omega (arith, h, cons is_free Waiting xs, cons is_waiting Waiting xs, cons is_free (after_group Waiting) (map after_group xs))

pub ended_waiting : (xs : List BlockState) → count_by is_waiting (map after_group xs) ≡ 0
ended_waiting [] = refl
ended_waiting (Free ∷ xs) = let h = ended_waiting xs in omega (arith, h, cons is_waiting (after_group Free) (map after_group xs))
ended_waiting (Allocated ∷ xs) = let h = ended_waiting xs in omega (arith, h, cons is_waiting (after_group Allocated) (map after_group xs))
ended_waiting (Waiting ∷ xs) = let h = ended_waiting xs in omega (arith, h, cons is_waiting (after_group Waiting) (map after_group xs))

pub free_to_take : (xs : List BlockState) (i : ℕ) → slice_get xs i ≡ Some Free → 0 < count_by is_free xs
free_to_take [] i e = cc
free_to_take (Free ∷ xs) zero e = omega (arith, cons is_free Free xs)
free_to_take (Allocated ∷ xs) zero e = cc
free_to_take (Waiting ∷ xs) zero e = cc
free_to_take (x ∷ xs) (suc i) e = let h = free_to_take xs i e in omega (arith, h, cons is_free x xs)

pub no_count_at_first : (n : ℕ) → count_by is_waiting (replicate n Free) ≡ 0
no_count_at_first n = omega (arith, sum_by-replicate (λ z. one (is_waiting z)) n Free)

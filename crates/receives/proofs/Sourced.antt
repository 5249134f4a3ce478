-- The last snapshot with a guid that a walk over a file system's snapshots has seen, and how many are of a later group.
use Rattle.std.proofs.Common.{◌≡◌, ℕ, zero, suc, ◌-◌, ◌<◌, get_or, Bool, true, false, cond, List, [], ◌∷◌, ◌++◌, Option, Some, None, Bor, map, refl, ap, ◌∙◌, length, arith}
use Rattle.std.specs.Prelude.{nat_lt, nat_le}
use Rattle.std.proofs.lemmas.Bool.Decides.{nat_tests}
use Rattle.std.specs.List.{filter, last_or}
use Rattle.std.specs.List.Sorted.{IsPartitionedBy, IsPartitionPoint}
use Rattle.datasets.specs.Dead.{snaps_in}
use Rattle.world.specs.Worlds.{AreRising}
use Rattle.model.specs.World.{Snap}
use Rattle.snapshots.specs.declared.kept.Kept.{Kept}

-- one more at the end
last_pushed : (p : Snap → Bool) (o : Option Snap) (xs : List Snap) (x : Snap) → last_or o (filter p (xs ++ x ∷ [])) ≡ cond (p x) (Some x) (last_or o (filter p xs))
last_pushed p o [] x = by_test (p x)
  where
    by_test : (b : Bool) → last_or o (cond b (x ∷ []) []) ≡ cond b (Some x) o
    by_test true = refl
    by_test false = refl
last_pushed p o (y ∷ ys) x = by_test (p y) (last_pushed p (Some y) ys x) (last_pushed p o ys x)
  where
    by_test : (b : Bool) → last_or (Some y) (filter p (ys ++ x ∷ [])) ≡ cond (p x) (Some x) (last_or (Some y) (filter p ys))
        → last_or o (filter p (ys ++ x ∷ [])) ≡ cond (p x) (Some x) (last_or o (filter p ys))
        → last_or o (cond b (y ∷ filter p (ys ++ x ∷ [])) (filter p (ys ++ x ∷ []))) ≡ cond (p x) (Some x) (last_or o (cond b (y ∷ filter p ys) (filter p ys)))
    by_test true it rest = it
    by_test false it rest = rest

pushed : (xs : List (Bor Kept)) (x : Bor Kept) → map (λ (y : Bor Kept). y.now.snapshot) (xs ++ x ∷ []) ≡ map (λ (y : Bor Kept). y.now.snapshot) xs ++ x.now.snapshot ∷ []
pushed [] x = refl
pushed (y ∷ ys) x = ap (λ l. y.now.snapshot ∷ l) (pushed ys x)

-- of those that an iterator has yielded
pub last_yielded : (p : Snap → Bool) (xs : List (Bor Kept)) (x : Bor Kept)
    → last_or None (filter p (map (λ (y : Bor Kept). y.now.snapshot) (xs ++ x ∷ []))) ≡ cond (p x.now.snapshot) (Some x.now.snapshot) (last_or None (filter p (map (λ (y : Bor Kept). y.now.snapshot) xs)))
last_yielded p xs x = ap (λ l. last_or None (filter p l)) (pushed xs x) ∙ last_pushed p None (map (λ (y : Bor Kept). y.now.snapshot) xs) x.now.snapshot

-- ---- how many are of a later group

-- those of a group or an earlier one come first
pub parted : (low g : ℕ) (ks : List Kept) → AreRising low (snaps_in ks) → IsPartitionedBy (λ (k : Kept). nat_le k.snapshot.group g) ks
parted low g [] up i j d le lt e = absurd (Prim.omega arith)
parted low g (k ∷ ks) up zero zero d le lt e = e
parted low g (k ∷ ks) up zero (suc j) d le lt e =
    let l = at_place k.snapshot.group j ks up.1 d (Prim.omega arith) in
    Prim.grind (arith, nat_tests)
  where
    at_place : (low j : ℕ) (ks : List Kept) → AreRising low (snaps_in ks) → (d : Kept) → j < length ks → low < (get_or ks j d).snapshot.group
    at_place low j [] up d lt = absurd (Prim.omega arith)
    at_place low zero (x ∷ ks) up d lt = up.0
    at_place low (suc j) (x ∷ ks) up d lt = let l = up.0 in let m = at_place x.snapshot.group j ks up.1 d (Prim.omega arith) in Prim.omega arith
parted low g (k ∷ ks) up (suc i) zero d le lt e = absurd (Prim.omega arith)
parted low g (k ∷ ks) up (suc i) (suc j) d le lt e = parted k.snapshot.group g ks up.1 i j d (Prim.omega arith) (Prim.omega arith) e

-- and all behind them are later
pub counted_later : (g i : ℕ) (ks : List Kept) → IsPartitionPoint (λ (k : Kept). nat_le k.snapshot.group g ≡ true) (λ (k : Kept). nat_le k.snapshot.group g ≡ false) ks i
    → length (filter (λ (t : Snap). nat_lt g t.group) (snaps_in ks)) ≡ length ks - i
counted_later g i [] point = Prim.omega arith
counted_later g zero (k ∷ ks) point =
    let early : nat_le k.snapshot.group g ≡ false = point.1 zero k (Prim.omega arith) (Prim.omega arith) in
    let later : nat_lt g k.snapshot.group ≡ true = Prim.grind (arith, nat_tests) in
    let rest = counted_later g zero ks ((λ j d l m. absurd (Prim.omega arith)), (λ j d l m. point.1 (suc j) d (Prim.omega arith) (Prim.omega arith))) in
    ap (λ b. length (cond b (k.snapshot ∷ filter (λ (t : Snap). nat_lt g t.group) (snaps_in ks)) (filter (λ (t : Snap). nat_lt g t.group) (snaps_in ks)))) later
    ∙ Prim.omega (arith, rest)
counted_later g (suc i) (k ∷ ks) point =
    let early : nat_le k.snapshot.group g ≡ true = point.0 zero k (Prim.omega arith) (Prim.omega arith) in
    let later : nat_lt g k.snapshot.group ≡ false = Prim.grind (arith, nat_tests) in
    let rest = counted_later g i ks ((λ j d l m. point.0 (suc j) d (Prim.omega arith) (Prim.omega arith)), (λ j d l m. point.1 (suc j) d (Prim.omega arith) (Prim.omega arith))) in
    ap (λ b. length (cond b (k.snapshot ∷ filter (λ (t : Snap). nat_lt g t.group) (snaps_in ks)) (filter (λ (t : Snap). nat_lt g t.group) (snaps_in ks)))) later
    ∙ Prim.omega (arith, rest)

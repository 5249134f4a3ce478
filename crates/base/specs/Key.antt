-- The keys of a dataset's tree of blocks, of levels 0 to 5 with fan-out 16 (On-Disk Specification, chapter 3: indirect blocks; the sizes are profile).
use Rattle.std.specs.Prelude.{◌≡◌, ◌<◌, ◌≤◌, ◌+◌, ◌-◌, ◌*◌, ◌/◌, ◌^◌, ℕ, Bool, List, [], ◌∷◌, ◌==◌, nat_le, ◌&&◌, map}
use Rattle.std.specs.declared.cmp.Ordering.{Ordering}
use Rattle.std.specs.Ordering.{nat_cmp, ordering_then, is_eq, on, flip_args, then_cmp}
use Rattle.std.specs.declared.cmp.Ordering.TheVariants.{Less, Equal, Greater}
use Rattle.std.specs.Cmp.{IsTotalOrder}
use Rattle.std.proofs.lemmas.Cmp.{then_total, on_total, nat_cmp_total, back_total}
use Rattle.std.proofs.Math.Nat.{pow-suc, mul-div_cancel}
use Rattle.std.specs.FinMap.{IsAntisymmetric, nat_cmp-IsAntisymmetric}
use Rattle.std.proofs.Common.{refl, sym, ap, ◌∙◌, subst, zero, suc, arith}
use lib.Dec.{T}
use Rattle.base.specs.declared.number.Key.{Key}

-- the first leaf that a key covers (profile)
abbrev pub first_leaf : Key → ℕ
first_leaf k = k.index * 16 ^ k.level

-- by first leaf covered, and a parent before its children (profile)
abbrev pub key_cmp : Key → Key → Ordering
key_cmp = then_cmp (on first_leaf nat_cmp) (flip_args (on (λ k. k.level) nat_cmp))

-- a level, and an index within the level (profile)
pub record IsKey (k : Key) : Type 0 where
  pub level : k.level ≤ 5
  pub index : k.index < 16 ^ (5 - k.level)

-- the key of the indirect block that points to this one (On-Disk Specification, chapter 3)
abbrev pub parent : Key → Key
parent k = record { level = k.level + 1; index = k.index / 16 }

-- the leaf of a block of an object: the data block with that number (On-Disk Specification, chapter 3; 4096 blocks an object are profile)
abbrev pub leaf_index : ℕ → ℕ → ℕ
leaf_index object block = 4096 * object + block

-- the object that a leaf belongs to (profile)
abbrev pub object_of : ℕ → ℕ
object_of leaf = leaf / 4096

-- whether a leaf is at or below a key: the leaves from `index * 16 ^ level` on, to the next key's first (On-Disk Specification, chapter 3)
abbrev pub covers : Key → ℕ → Bool
covers k leaf = leaf / 16 ^ k.level == k.index

-- a key lies at or below another (On-Disk Specification, chapter 3)
abbrev pub is_at_or_below : Key → Key → Bool
is_at_or_below top k = nat_le k.level top.level && (k.index / 16 ^ (top.level - k.level) == top.index)

-- a leaf's key and its ancestors up to the root (On-Disk Specification, chapter 3)
abbrev pub path : ℕ → List Key
path leaf = map (λ l. record { level = l; index = leaf / 16 ^ l }) (0 ∷ 1 ∷ 2 ∷ 3 ∷ 4 ∷ 5 ∷ [])

-- what both parts of a tied comparison are
pub tied_parts : (r s : Ordering) → ordering_then r s ≡ Equal → (r ≡ Equal) × (s ≡ Equal)
tied_parts Less s e = absurd (subst (λ r. T (is_eq r)) (sym e) tt)
tied_parts Equal s e = (refl, e)
tied_parts Greater s e = absurd (subst (λ r. T (is_eq r)) (sym e) tt)

-- the order of keys is total
pub key_cmp_total : IsTotalOrder key_cmp
key_cmp_total = then_total (on_total first_leaf nat_cmp_total) (on_total (λ (k : Key). k.level) (back_total nat_cmp_total))

power_positive : (l : ℕ) → 0 < 16 ^ l
power_positive zero = Prim.omega arith
power_positive (suc l) = let e = pow-suc 16 l in let p = power_positive l in Prim.omega (arith, e, p)

-- a level and a first leaf are one key's
same_key : (a b : Key) → first_leaf a ≡ first_leaf b → a.level ≡ b.level → a ≡ b
same_key a b e l =
    let same : a.index * 16 ^ a.level ≡ b.index * 16 ^ a.level = e ∙ ap (λ n. b.index * 16 ^ n) (sym l) in
    let positive = power_positive a.level in
    let index : a.index ≡ b.index = sym (mul-div_cancel a.index positive) ∙ ap (λ n. n / 16 ^ a.level) same ∙ mul-div_cancel b.index positive in
    λ i. record { level = l i; index = index i }

-- only equal keys tie
pub key_cmp-IsAntisymmetric : IsAntisymmetric key_cmp
key_cmp-IsAntisymmetric a b e =
    let parts = tied_parts (nat_cmp (first_leaf a) (first_leaf b)) (nat_cmp b.level a.level) e in
    same_key a b (nat_cmp-IsAntisymmetric _ _ parts.0) (sym (nat_cmp-IsAntisymmetric _ _ parts.1))

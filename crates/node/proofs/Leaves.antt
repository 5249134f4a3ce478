-- The bytes of the leaves.
use Rattle.std.proofs.Common.{◌≡◌, ℕ, zero, suc, List, [], sym, arith, ◌-◌, ◌/◌, ◌%◌, ◌^◌, length, Option, Some, None, refl, ap, subst}
use Rattle.std.specs.Prelude.{IfSome, IsSome, unwrap_or}
use Rattle.std.specs.Option.{option_map, option_and_then}
use Rattle.base.specs.Map.{Cell}
use Rattle.node.specs.Cells.{cell_of}
use Rattle.node.specs.declared.cell.Cell.{Cell as Found}
use Rattle.node.specs.Shape.{Forest, done, gap, grown, Part, part_at, cell_below}
use Rattle.node.specs.Entries.{IsWell}
use Rattle.node.specs.Kid.{IsSound}

same_value : {A : Type 0} (a b : A) → Some a ≡ Some b → a ≡ b
same_value a b e = ap (λ o. unwrap_or o a) e

-- the part at a place has its level's shape
well_at : (l g : ℕ) (f : Forest) (k : ℕ) (p : Part) → IsWell l g f → part_at f k ≡ Some p → IsSound l p
well_at l g done k p w e = absurd (cc)
well_at l g (gap r) zero p w e = absurd (cc)
well_at l g (gap r) (suc k) p w e = well_at l g r k p w e
well_at l g (grown c b r) zero p w e = subst (IsSound l) (same_value _ _ e) (w.1, w.2)
well_at l g (grown c b r) (suc k) p w e = well_at l g r k p w.3 e

-- a leaf has 512 bytes
leaf_bytes : (d : ℕ) (p : Part) (q : ℕ) (c : Cell) → IsSound d p → cell_below d p q ≡ Some c → length c.bytes ≡ 512
leaf_bytes zero p q c s e = subst (λ (x : Cell). length x.bytes ≡ 512) (same_value _ _ e) s.0.1
leaf_bytes (suc d) p q c s e =
    let well : IsWell d p.cell.birth p.below = let down : suc d - 1 ≡ d = omega arith in subst (λ l. IsWell l p.cell.birth p.below) down s.1 in
    below (part_at p.below (q / 16 ^ d)) refl e (λ k here is. leaf_bytes d k (q % 16 ^ d) c (well_at d p.cell.birth p.below (q / 16 ^ d) k well here) is)
  where
    below : (o : Option Part) → part_at p.below (q / 16 ^ d) ≡ o → option_and_then (λ k. cell_below d k (q % 16 ^ d)) o ≡ Some c
        → ((k : Part) → part_at p.below (q / 16 ^ d) ≡ Some k → cell_below d k (q % 16 ^ d) ≡ Some c → length c.bytes ≡ 512) → length c.bytes ≡ 512
    below None here is next = absurd (cc)
    below (Some k) here is next = next k here is

no_bytes : (n : ℕ) → n ≡ 0 → n ≡ 512 → ⊥
no_bytes n none long = omega arith

some_bytes : {R : Type 0} (f : R → List ℕ) (o : Option R) → length (unwrap_or (option_map f o) []) ≡ 512 → IsSome o
some_bytes f (Some bytes) long = refl
some_bytes f None long = absurd (no_bytes 0 refl long)

-- a leaf that is found has its bytes
pub bytes_there : (P : Type 0) (g : ℕ) (p : Part) (q : ℕ) (r : Option Found) → IsWell 5 g (grown p.cell p.below done) → (P → option_map cell_of r ≡ cell_below 5 p q) → IfSome r (λ c. P → IsSome c.bytes)
bytes_there P g p q None w e = tt
bytes_there P g p q (Some found) w e = λ h. some_bytes (λ x. x.now) found.bytes (leaf_bytes 5 p q (cell_of found) (w.1, w.2) (sym (e h)))

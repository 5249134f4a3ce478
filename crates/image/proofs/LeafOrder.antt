-- The leaves that are found stand in their order.
use Rattle.std.proofs.Common.{◌≡◌, ℕ, zero, suc, ◌+◌, ◌*◌, ◌^◌, ◌<◌, ◌≤◌, List, [], ◌∷◌, ◌++◌, Option, Some, None, refl, sym, ap, subst, ◌∙◌, arith, T}
use Rattle.std.specs.List.{range_with_len}
use Rattle.std.specs.Option.{option_map, option_and_then}
use Rattle.std.specs.Ordering.{nat_cmp}
use Rattle.std.specs.Cmp.{nat_cmp_is, nat_cmp_total}
use Rattle.std.specs.declared.cmp.Ordering.TheVariants.{Less}
use Rattle.std.specs.FinMap.{entries, from_entries, from_sorted, entries-from_sorted, get-from_entries, get-from_sorted, same_map, nat_cmp-IsAntisymmetric, is_sorted}
use Rattle.std.specs.FinMap.Entries.{below_all}
use Rattle.std.proofs.Math.Nat.{pow-suc}
use Rattle.base.specs.Map.{Block}
use Rattle.image.specs.ImageWalk.{pointer_in, joined, followed, leaves_of}
use Rattle.node.proofs.Options.{same_value}
use Rattle.world.proofs.lists.Maps.{no_value}
use Rattle.snapshots.proofs.Sorted.{T_both}

-- rising numbers from one on and below another
abbrev pub Rises : ℕ → ℕ → List (ℕ × List ℕ) → Type 0
Rises low high [] = low ≤ high
Rises low high (x ∷ xs) = (low ≤ x.0) × Rises (x.0 + 1) high xs

rises_wider : (a b c : ℕ) (xs : List (ℕ × List ℕ)) → a ≤ b → Rises b c xs → Rises a c xs
rises_wider a b c [] h r = omega arith
rises_wider a b c (x ∷ xs) h r = (let l = r.0 in omega arith, r.1)

rises_append : (a b c : ℕ) (xs ys : List (ℕ × List ℕ)) → Rises a b xs → Rises b c ys → Rises a c (xs ++ ys)
rises_append a b c [] ys p q = rises_wider a b c ys p q
rises_append a b c (x ∷ xs) ys p q = (p.0, rises_append (x.0 + 1) b c xs ys p.1 q)

below_rising : (k low high : ℕ) (xs : List (ℕ × List ℕ)) → k < low → Rises low high xs → T (below_all nat_cmp k xs)
below_rising k low high [] h r = tt
below_rising k low high (x ∷ xs) h r = T_both _ _
    (let l = r.0 in let lt : k < x.0 = omega arith in let e : Less ≡ nat_cmp k x.0 = nat_cmp_is k x.0 Less lt in rw (← e) tt)
    (below_rising k (x.0 + 1) high xs (let l = r.0 in omega arith) r.1)

pub rising_sorted : (low high : ℕ) (xs : List (ℕ × List ℕ)) → Rises low high xs → T (is_sorted nat_cmp xs)
rising_sorted low high [] r = tt
rising_sorted low high (x ∷ xs) r = T_both _ _ (below_rising x.0 (x.0 + 1) high xs (omega arith) r.1) (rising_sorted (x.0 + 1) high xs r.1)

-- the entries of the map of a sorted list are the list
pub entries_of_sorted : (xs : List (ℕ × List ℕ)) → T (is_sorted nat_cmp xs) → entries (from_entries {R = nat_cmp} xs) ≡ xs
entries_of_sorted xs s =
    let same : from_entries {R = nat_cmp} xs ≡ from_sorted {R = nat_cmp} xs = same_map nat_cmp_total nat_cmp-IsAntisymmetric _ _ (λ q. get-from_entries nat_cmp_total xs q ∙ sym (get-from_sorted nat_cmp xs q s)) in
    ap entries same ∙ entries-from_sorted nat_cmp xs s

-- what both parts of a joined list are
joined_parts : (f : ℕ → Option (List (ℕ × List ℕ))) (a : ℕ) (is : List ℕ) (o r : Option (List (ℕ × List ℕ))) (all : List (ℕ × List ℕ)) → f a ≡ o → joined f is ≡ r → joined f (a ∷ is) ≡ Some all
    → (here : List (ℕ × List ℕ)) × (rest : List (ℕ × List ℕ)) × (f a ≡ Some here) × (joined f is ≡ Some rest) × (all ≡ here ++ rest)
joined_parts f a is None r all e g h = absurd (no_value all (sym (ap (option_and_then (λ h. option_map (λ x. h ++ x) (joined f is))) e) ∙ h))
joined_parts f a is (Some here) None all e g h =
    absurd (no_value all (sym (λ z. option_and_then (λ h. option_map (λ x. h ++ x) (g z)) (e z)) ∙ h))
joined_parts f a is (Some here) (Some rest) all e g h =
    (here, rest, e, g, same_value all (here ++ rest) (sym h ∙ (λ z. option_and_then (λ h. option_map (λ x. h ++ x) (g z)) (e z))))

places_rise : (f : ℕ → Option (List (ℕ × List ℕ))) (s b : ℕ) → ((i : ℕ) (xs : List (ℕ × List ℕ)) → f i ≡ Some xs → Rises ((b + i) * s) ((b + i + 1) * s) xs)
    → (k a : ℕ) (xs : List (ℕ × List ℕ)) → joined f (range_with_len a k) ≡ Some xs → Rises ((b + a) * s) ((b + (a + k)) * s) xs
places_rise f s b each zero a xs e =
    let nil : [] ≡ xs = same_value [] xs e in
    subst (Rises ((b + a) * s) ((b + (a + 0)) * s)) nil (let z : a + 0 ≡ a = omega arith in rw z (omega arith))
places_rise f s b each (suc k) a xs e =
    let parts = joined_parts f a (range_with_len (a + 1) k) (f a) (joined f (range_with_len (a + 1) k)) xs refl refl e in
    let here = each a parts.0 parts.2 in
    let rest = places_rise f s b each k (a + 1) parts.1 parts.3 in
    let next : b + a + 1 ≡ b + (a + 1) = omega arith in
    let end : a + 1 + k ≡ a + suc k = omega arith in
    subst (Rises ((b + a) * s) ((b + (a + suc k)) * s)) (sym parts.4)
    (rises_append ((b + a) * s) ((b + (a + 1)) * s) ((b + (a + suc k)) * s) parts.0 parts.1
    (subst (λ n. Rises ((b + a) * s) (n * s) parts.0) next here)
    (subst (λ n. Rises ((b + (a + 1)) * s) ((b + n) * s) parts.1) end rest))

module _ (image : ℕ → List ℕ) (n : ℕ) where
  followed_rise : (low high : ℕ) (f : Block → Option (List (ℕ × List ℕ))) → low ≤ high → ((b : Block) (xs : List (ℕ × List ℕ)) → f b ≡ Some xs → Rises low high xs)
      → (p : Option (Option Block)) (xs : List (ℕ × List ℕ)) → followed f p ≡ Some xs → Rises low high xs
  followed_rise low high f h each None xs e = absurd (no_value xs e)
  followed_rise low high f h each (Some None) xs e = subst (Rises low high) (same_value [] xs e) h
  followed_rise low high f h each (Some (Some b)) xs e = each b xs e

  inner_rise : (l : ℕ) → ((j : ℕ) (b : Block) (xs : List (ℕ × List ℕ)) → leaves_of image n l j b ≡ Some xs → Rises (j * 16 ^ l) ((j + 1) * 16 ^ l) xs)
      → (j : ℕ) (b : Block) (xs : List (ℕ × List ℕ)) → leaves_of image n (suc l) j b ≡ Some xs → Rises (j * 16 ^ suc l) ((j + 1) * 16 ^ suc l) xs
  unfolding leaves_of
  inner_rise l lower j b xs e =
      let p : 16 ^ suc l ≡ 16 ^ l * 16 = pow-suc 16 l in
      let low : (16 * j + 0) * 16 ^ l ≡ j * 16 ^ suc l = omega (arith, ap (λ x. j * x) p) in
      let high : (16 * j + (0 + 16)) * 16 ^ l ≡ (j + 1) * 16 ^ suc l = omega (arith, ap (λ x. (j + 1) * x) p) in
      let all = places_rise (λ i. followed (leaves_of image n l (16 * j + i)) (pointer_in n l b.birth (image b.number) i)) (16 ^ l) (16 * j)
      (λ i ys h. followed_rise _ _ (leaves_of image n l (16 * j + i)) (omega arith) (λ q zs g. lower (16 * j + i) q zs g) (pointer_in n l b.birth (image b.number) i) ys h)
      16 0 xs e in
      subst (λ x. Rises x ((j + 1) * 16 ^ suc l) xs) low (subst (λ x. Rises ((16 * j + 0) * 16 ^ l) x xs) high all)

  leaf_rise : (j : ℕ) (b : Block) (xs : List (ℕ × List ℕ)) → leaves_of image n 0 j b ≡ Some xs → Rises (j * 16 ^ 0) ((j + 1) * 16 ^ 0) xs
  unfolding leaves_of
  leaf_rise j b xs e = subst (Rises (j * 1) ((j + 1) * 1)) (same_value ((j, image b.number) ∷ []) xs e) (omega arith, omega arith)

  pub leaves_rise : (l j : ℕ) (b : Block) (xs : List (ℕ × List ℕ)) → leaves_of image n l j b ≡ Some xs → Rises (j * 16 ^ l) ((j + 1) * 16 ^ l) xs
  leaves_rise zero j b xs e = leaf_rise j b xs e
  leaves_rise (suc l) j b xs e = inner_rise l (leaves_rise l) j b xs e

  -- the leaves that were found are the entries of their map
  pub in_order : (b : Block) (xs : List (ℕ × List ℕ)) → leaves_of image n 5 0 b ≡ Some xs → entries (from_entries {R = nat_cmp} xs) ≡ xs
  in_order b xs e = entries_of_sorted xs (rising_sorted _ _ xs (leaves_rise 5 0 b xs e))

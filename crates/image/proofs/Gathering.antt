-- How the leaves below a block come together, a place at a time.
use Rattle.std.proofs.Common.{◌≡◌, ℕ, suc, ◌+◌, ◌-◌, ◌*◌, ◌^◌, ◌<◌, ◌≤◌, List, [], ◌∷◌, ◌++◌, Option, Some, None, refl, sym, ap, ◌∙◌, arith, append-nil, append_assoc}
use Rattle.std.specs.List.{range_with_len}
use Rattle.std.specs.Option.{option_map, option_and_then}
use Rattle.std.proofs.Math.Nat.{pow-suc, mul-le-mul_left, mul-le-mul_right, one-le-pow}
use Rattle.base.specs.Map.{Block}
use Rattle.image.specs.ImageWalk.{pointer_in, joined, followed, leaves_of}
use Rattle.node.proofs.Options.{same_value}
use Rattle.world.proofs.lists.Maps.{no_value}

-- what is found at a place of a block whose places have the level l
abbrev pub found_at : (ℕ → List ℕ) → ℕ → ℕ → ℕ → Block → ℕ → Option (List (ℕ × List ℕ))
found_at image n l j b i = followed (leaves_of image n l (16 * j + i)) (pointer_in n l b.birth (image b.number) i)

-- leaves behind others
abbrev pub behind : List (ℕ × List ℕ) → Option (List (ℕ × List ℕ)) → Option (List (ℕ × List ℕ))
behind front o = option_map (λ more. front ++ more) o

-- what is out, with what is found from a place on, is what was out before with all that is found below the block
pub record GoesOn (image : ℕ → List ℕ) (n level j : ℕ) (b : Block) (before out : List (ℕ × List ℕ)) (place : ℕ) : Type 0 where
  pub rest : behind out (joined (found_at image n (level - 1) j b) (range_with_len place (16 - place))) ≡ behind before (leaves_of image n level j b)

inner_leaves : (image : ℕ → List ℕ) (n l j : ℕ) (b : Block) → leaves_of image n (suc l) j b ≡ joined (found_at image n l j b) (range_with_len 0 16)
unfolding leaves_of
inner_leaves image n l j b = refl

pub leaf_is : (image : ℕ → List ℕ) (n level j : ℕ) (b : Block) → level ≡ 0 → leaves_of image n level j b ≡ Some ((j, image b.number) ∷ [])
unfolding leaves_of
leaf_is image n level j b e = ap (λ l. leaves_of image n l j b) e

none_behind : (front : List (ℕ × List ℕ)) (o : Option (List (ℕ × List ℕ))) → behind front o ≡ None → o ≡ None
none_behind front None e = refl
none_behind front (Some xs) e = absurd (no_value _ (sym e))

some_behind : (front all : List (ℕ × List ℕ)) (o : Option (List (ℕ × List ℕ))) → behind front o ≡ Some all → (xs : List (ℕ × List ℕ)) × (o ≡ Some xs) × (all ≡ front ++ xs)
some_behind front all None e = absurd (no_value _ e)
some_behind front all (Some xs) e = (xs, refl, sym (same_value (front ++ xs) all e))

twice_behind : (front xs : List (ℕ × List ℕ)) (o : Option (List (ℕ × List ℕ))) → behind (front ++ xs) o ≡ behind front (option_map (λ rest. xs ++ rest) o)
twice_behind front xs None = refl
twice_behind front xs (Some ys) = ap Some (append_assoc front xs ys)

next_range : (place : ℕ) → place < 16 → range_with_len place (16 - place) ≡ place ∷ range_with_len (place + 1) (16 - (place + 1))
next_range place h = ap (range_with_len place) (let e : 16 - place ≡ suc (16 - (place + 1)) = omega arith in e)

module _ (image : ℕ → List ℕ) (n level j : ℕ) (b : Block) where
  pub begins : (before : List (ℕ × List ℕ)) → 0 < level → GoesOn image n level j b before before 0
  begins before h = record {
    rest =
        let e : suc (level - 1) ≡ level = omega arith in
        ap (behind before) (sym (inner_leaves image n (level - 1) j b) ∙ ap (λ l. leaves_of image n l j b) e);
  }

  pub goes_on : (before out new : List (ℕ × List ℕ)) (place : ℕ) → GoesOn image n level j b before out place → place < 16 → behind out (found_at image n (level - 1) j b place) ≡ Some new → GoesOn image n level j b before new (place + 1)
  goes_on before out new place g h e =
      let here = some_behind out new (found_at image n (level - 1) j b place) e in
      let all : joined (found_at image n (level - 1) j b) (range_with_len place (16 - place)) ≡ option_map (λ rest. here.0 ++ rest) (joined (found_at image n (level - 1) j b) (range_with_len (place + 1) (16 - (place + 1)))) =
      ap (joined (found_at image n (level - 1) j b)) (next_range place h) ∙ ap (option_and_then (λ h. option_map (λ rest. h ++ rest) (joined (found_at image n (level - 1) j b) (range_with_len (place + 1) (16 - (place + 1)))))) here.1 in
      record {
        rest = ap (λ xs. behind xs (joined (found_at image n (level - 1) j b) (range_with_len (place + 1) (16 - (place + 1))))) here.2
            ∙ twice_behind out here.0 (joined (found_at image n (level - 1) j b) (range_with_len (place + 1) (16 - (place + 1)))) ∙ ap (behind out) (sym all) ∙ g.rest;
      }

  pub stops : (before out : List (ℕ × List ℕ)) (place : ℕ) → GoesOn image n level j b before out place → place < 16 → found_at image n (level - 1) j b place ≡ None → leaves_of image n level j b ≡ None
  stops before out place g h e =
      let all : joined (found_at image n (level - 1) j b) (range_with_len place (16 - place)) ≡ None =
      ap (joined (found_at image n (level - 1) j b)) (next_range place h) ∙ ap (option_and_then (λ h. option_map (λ rest. h ++ rest) (joined (found_at image n (level - 1) j b) (range_with_len (place + 1) (16 - (place + 1)))))) e in
      none_behind before (leaves_of image n level j b) (sym g.rest ∙ ap (behind out) all)

  pub ends : (before out : List (ℕ × List ℕ)) (place : ℕ) → GoesOn image n level j b before out place → 16 ≤ place → behind before (leaves_of image n level j b) ≡ Some out
  ends before out place g h =
      let none : 16 - place ≡ 0 = omega arith in
      sym g.rest ∙ ap (λ k. behind out (joined (found_at image n (level - 1) j b) (range_with_len place k))) none ∙ ap Some (append-nil out)

  -- a pointer to no block
  pub finds_none : (out : List (ℕ × List ℕ)) (place : ℕ) → pointer_in n (level - 1) b.birth (image b.number) place ≡ Some None → behind out (found_at image n (level - 1) j b place) ≡ Some out
  finds_none out place e = ap (λ p. behind out (followed (leaves_of image n (level - 1) (16 * j + place)) p)) e ∙ ap Some (append-nil out)

  -- a pointer to a block
  pub finds_block : (place : ℕ) (q : Block) → pointer_in n (level - 1) b.birth (image b.number) place ≡ Some (Some q) → found_at image n (level - 1) j b place ≡ leaves_of image n (level - 1) (16 * j + place) q
  finds_block place q e = ap (followed (leaves_of image n (level - 1) (16 * j + place))) e

  pub finds_bad : (place : ℕ) → pointer_in n (level - 1) b.birth (image b.number) place ≡ None → found_at image n (level - 1) j b place ≡ None
  finds_bad place e = ap (followed (leaves_of image n (level - 1) (16 * j + place))) e

-- the leaves of a child are among those of a block
pub child_within : (level j i : ℕ) → 0 < level → i < 16 → (j + 1) * 16 ^ level ≤ 1048576 → (16 * j + i + 1) * 16 ^ (level - 1) ≤ 1048576
child_within level j i deep small h =
    let one : suc (level - 1) ≡ level = omega arith in
    let power : 16 ^ level ≡ 16 ^ (level - 1) * 16 = ap (λ n. 16 ^ n) (sym one) ∙ pow-suc 16 (level - 1) in
    let more : (16 * j + i + 1) * 16 ^ (level - 1) ≤ (16 * (j + 1)) * 16 ^ (level - 1) = mul-le-mul_right (16 ^ (level - 1)) (omega arith) in
    omega (arith, more, h, ap (λ x. (j + 1) * x) power)

pub index_small : (level j : ℕ) → 0 < level → (j + 1) * 16 ^ level ≤ 1048576 → 16 * (j + 1) ≤ 1048576
index_small level j deep h =
    let one : suc (level - 1) ≡ level = omega arith in
    let power : 16 ^ level ≡ 16 ^ (level - 1) * 16 = ap (λ n. 16 ^ n) (sym one) ∙ pow-suc 16 (level - 1) in
    let some : 1 ≤ 16 ^ (level - 1) = one-le-pow (level - 1) 16 (omega arith) in
    let least : (16 * (j + 1)) * 1 ≤ (16 * (j + 1)) * 16 ^ (level - 1) = mul-le-mul_left (16 * (j + 1)) some in
    omega (arith, least, h, ap (λ x. (j + 1) * x) power)

-- Where an image holds a map, the leaves that are found below a block are the map's.
use Rattle.std.proofs.Common.{◌≡◌, ℕ, zero, suc, ◌+◌, ◌-◌, ◌*◌, ◌/◌, ◌%◌, ◌^◌, ◌<◌, ◌≤◌, ◌⊎◌, inl, inr, ⊎_elim, false, cond, List, [], ◌∷◌, ◌++◌, length, get_or, drop, Option, Some, None, refl, sym, ap, subst, ◌∙◌, arith}
use Rattle.std.specs.Prelude.{◌==◌, IsSome, IfSome}
use Rattle.std.specs.List.{range_with_len}
use Rattle.std.specs.Option.{option_map, option_and_then}
use Rattle.std.specs.FinMap.{get}
use Rattle.std.proofs.Math.Nat.{mod-lt}
use Rattle.base.specs.declared.number.Key.{Key}
use Rattle.base.specs.Key.{parent}
use Rattle.std.proofs.lemmas.Bool.{cases_lt}
use Rattle.base.specs.Map.{Map, Cell, HasBytes, block_of}
use Rattle.base.specs.Surveys.{IsIn}
use Rattle.base.proofs.Contents.{leaf_key}
use Rattle.tree.specs.Branch.{child_key}
use Rattle.tree.specs.Reading.{key_over}
use Rattle.image.specs.ImageBlocks.{pointer_bytes, pointers_bytes, pointers_of, bytes_of}
use Rattle.image.specs.ImageWalk.{pointer_in, joined, followed, leaves_of}
use Rattle.image.specs.HasBlocks.{HasBlocks, IsWritable}
use Rattle.node.specs.Entries.{key_at}
use Rattle.node.proofs.Options.{same_value, not_some}
use Rattle.node.proofs.Digits.{eq_not}
use Rattle.batch.proofs.NumberLaws.{in_append, in_left, in_right}
use Rattle.tree.proofs.Told.{at_range, range_long}
use Rattle.image.proofs.Options.{is_there}
use Rattle.image.proofs.LeafPaths.{same_key, over_leaf, from_above, above_leaf}
use Rattle.image.proofs.Pointers.{pointer_there, says_none, says_some}

-- a leaf that was found has the bytes of the map's
abbrev pub AreRight : Map → List (ℕ × List ℕ) → Type 0
AreRight m ls = (x : ℕ) (b : List ℕ) → IsIn ls (x, b) → option_map (λ (c : Cell). c.bytes) (get m (leaf_key x)) ≡ Some b

-- the leaves of the map below a key of level l at the index j were found
abbrev pub AreAll : Map → ℕ → ℕ → List (ℕ × List ℕ) → Type 0
AreAll m l j ls = (x : ℕ) (c : Cell) → x / 16 ^ l ≡ j → get m (leaf_key x) ≡ Some c → IsIn ls (x, c.bytes)

pub record FoundAt (m : Map) (l j : ℕ) (found : Option (List (ℕ × List ℕ))) : Type 0 where
  pub leaves : List (ℕ × List ℕ)
  pub is : found ≡ Some leaves
  pub right : AreRight m leaves
  pub all : AreAll m l j leaves

-- the same of places side by side
record FoundFrom (m : Map) (l j a k : ℕ) (found : Option (List (ℕ × List ℕ))) : Type 0 where
  leaves : List (ℕ × List ℕ)
  is : found ≡ Some leaves
  right : AreRight m leaves
  all : (i : ℕ) → a ≤ i → i < a + k → AreAll m l (16 * j + i) leaves

no_leaf : (m : Map) → AreRight m []
no_leaf m x b i = absurd i

both_right : (m : Map) (xs ys : List (ℕ × List ℕ)) → AreRight m xs → AreRight m ys → AreRight m (xs ++ ys)
both_right m xs ys f g x b i = ⊎_elim (f x b) (g x b) (in_append xs ys (x, b) i)

same_pair : (x y : ℕ) (a b : List ℕ) → x ≡ y → a ≡ b → ◌≡◌ {A = ℕ × List ℕ} (x, a) (y, b)
same_pair x y a b e f = λ i. (e i, f i)

module _ (image : ℕ → List ℕ) (n : ℕ) (m : Map) (holds : HasBlocks image m) (w : IsWritable n m) where
  -- the bytes of an indirect block
  inner_bytes : (l j : ℕ) (c : Cell) → get m (key_at (suc l) j) ≡ Some c → image c.number ≡ pointers_bytes l (pointers_of m (key_at (suc l) j))
  unfolding bytes_of
  inner_bytes l j c there =
      let above : (suc l == 0) ≡ false = eq_not (suc l) 0 (λ e. omega arith) in
      holds (key_at (suc l) j) c there ∙ ap (λ b. cond b c.bytes (pointers_bytes (suc l - 1) (pointers_of m (key_at (suc l) j)))) above
      ∙ ap (λ d. pointers_bytes d (pointers_of m (key_at (suc l) j))) (let e : suc l - 1 ≡ l = omega arith in e)

  child : (l j i : ℕ) → child_key (key_at (suc l) j) i ≡ key_at l (16 * j + i)
  child l j i = same_key _ _ (let e : suc l - 1 ≡ l = omega arith in e) refl

  the_pointer : (l j i : ℕ) → i < 16 → get_or (pointers_of m (key_at (suc l) j)) i None ≡ option_map block_of (get m (key_at l (16 * j + i)))
  unfolding pointers_of
  the_pointer l j i h =
      at_range (λ i. option_map block_of (get m (child_key (key_at (suc l) j) i))) None 16 0 i h
      ∙ ap (λ k. option_map block_of (get m k)) (child l j (0 + i) ∙ (let e : 0 + i ≡ i = omega arith in ap (λ x. key_at l (16 * j + x)) e))

  there_are_16 : (k : Key) → length (pointers_of m k) ≡ 16
  unfolding pointers_of
  there_are_16 k = range_long (λ i. option_map block_of (get m (child_key k i))) 16 0

  level_of : (l j : ℕ) (c : Cell) → get m (key_at l j) ≡ Some c → l ≤ 5
  level_of l j c there = (w.tree.keys (key_at l j) (is_there (get m (key_at l j)) c there)).level

  pub within : (k : Key) (c : Cell) → get m k ≡ Some c → c.number < n
  within k c there = (subst (λ o. IfSome o (λ (c : Cell). (c.number < n) × HasBytes k c)) there (w.tree.cells k)).0

  above_child : (l j i : ℕ) → i < 16 → parent (key_at l (16 * j + i)) ≡ key_at (suc l) j
  above_child l j i h = same_key _ _ (let e : l + 1 ≡ suc l = omega arith in e) (omega (arith, h))

  -- what a pointer says is what the map has there
  pointer_says : (l j i : ℕ) (c : Cell) (o : Option Cell) → get m (key_at (suc l) j) ≡ Some c → i < 16 → get m (key_at l (16 * j + i)) ≡ o
      → pointer_in n l c.birth (image c.number) i ≡ Some (option_map block_of o)
  pointer_says l j i c None there h below =
      let at = pointer_there l i (pointers_of m (key_at (suc l) j)) (omega (arith, there_are_16 (key_at (suc l) j))) in
      let p : get_or (pointers_of m (key_at (suc l) j)) i None ≡ None = the_pointer l j i h ∙ ap (option_map block_of) below in
      says_none n l c.birth i (image c.number) at.0 (ap (drop (32 * i)) (inner_bytes l j c there) ∙ at.1 ∙ ap (λ q. pointer_bytes l q ++ at.0) p)
  pointer_says l j i c (Some d) there h below =
      let at = pointer_there l i (pointers_of m (key_at (suc l) j)) (omega (arith, there_are_16 (key_at (suc l) j))) in
      let p : get_or (pointers_of m (key_at (suc l) j)) i None ≡ Some (block_of d) = the_pointer l j i h ∙ ap (option_map block_of) below in
      let low : suc l ≤ 5 = level_of (suc l) j c there in
      let old : d.birth ≤ c.birth = w.rising (key_at l (16 * j + i)) d c below (ap (get m) (above_child l j i h) ∙ there) in
      says_some n l c.birth i (image c.number) at.0 (block_of d) (ap (drop (32 * i)) (inner_bytes l j c there) ∙ at.1 ∙ ap (λ q. pointer_bytes l q ++ at.0) p)
      (omega (arith, low)) w.few (w.births (key_at (suc l) j) c there) (within (key_at l (16 * j + i)) d below) old

  -- a leaf
  leaf_found : (j : ℕ) (c : Cell) → get m (key_at 0 j) ≡ Some c → FoundAt m 0 j (leaves_of image n 0 j (block_of c))
  unfolding leaves_of bytes_of
  leaf_found j c there =
      let bytes : image c.number ≡ c.bytes = holds (key_at 0 j) c there in
      record {
        leaves = (j, image c.number) ∷ [];
        is = refl;
        right = λ x b i. ⊎_elim
            (λ (e : (x, b) ≡ (j, image c.number)).
            let at : x ≡ j = ap (λ (p : ℕ × List ℕ). p.0) e in
            let are : b ≡ image c.number = ap (λ (p : ℕ × List ℕ). p.1) e in
            ap (λ y. option_map (λ (c : Cell). c.bytes) (get m (leaf_key y))) at ∙ ap (option_map (λ (c : Cell). c.bytes)) there ∙ ap Some (sym (are ∙ bytes)))
            (λ h. absurd h) i;
        all = λ x d at h.
            let same : x ≡ j = sym (ap (λ (k : Key). k.index) (over_leaf x)) ∙ at in
            let cells : d ≡ c = same_value d c (sym h ∙ ap (λ y. get m (leaf_key y)) same ∙ there) in
            inl (same_pair x j d.bytes (image c.number) same (ap (λ (c : Cell). c.bytes) cells ∙ sym bytes));
      }

  module _ (l : ℕ) (lower : (j : ℕ) (c : Cell) → get m (key_at l j) ≡ Some c → FoundAt m l j (leaves_of image n l j (block_of c))) (j : ℕ) (c : Cell) (there : get m (key_at (suc l) j) ≡ Some c) where
    at : ℕ → Option (List (ℕ × List ℕ))
    at i = followed (leaves_of image n l (16 * j + i)) (pointer_in n l c.birth (image c.number) i)

    one : (i : ℕ) (o : Option Cell) → i < 16 → get m (key_at l (16 * j + i)) ≡ o → FoundAt m l (16 * j + i) (at i)
    unfolding at
    one i None h below = record {
      leaves = [];
      is = ap (followed (leaves_of image n l (16 * j + i))) (pointer_says l j i c None there h below);
      right = no_leaf m;
      all = λ x d at leaf.
          let low : suc l ≤ 5 = level_of (suc l) j c there in
          let over_it : IsSome (get m (key_over x l)) = above_leaf n m w.tree x l (omega (arith, low)) (is_there (get m (leaf_key x)) d leaf) in
          absurd (not_some (get m (key_over x l)) (ap (λ k. get m (key_at l k)) at ∙ below) over_it);
    }
    one i (Some d) h below =
        let found = lower (16 * j + i) d below in
        record {
          leaves = found.leaves;
          is = ap (followed (leaves_of image n l (16 * j + i))) (pointer_says l j i c (Some d) there h below) ∙ found.is;
          right = found.right;
          all = found.all;
        }

    several : (k a : ℕ) → a + k ≤ 16 → FoundFrom m l j a k (joined at (range_with_len a k))
    several zero a h = record { leaves = []; is = refl; right = no_leaf m; all = λ i low high. absurd (omega arith) }
    several (suc k) a h =
        let here = one a (get m (key_at l (16 * j + a))) (omega arith) refl in
        let rest = several k (a + 1) (omega arith) in
        record {
          leaves = here.leaves ++ rest.leaves;
          is = λ z. option_and_then (λ h. option_map (λ r. h ++ r) (rest.is z)) (here.is z);
          right = both_right m here.leaves rest.leaves here.right rest.right;
          all = λ i low high x d e leaf. ⊎_elim
              (λ (same : i ≡ a). in_left here.leaves rest.leaves (x, d.bytes) (here.all x d (e ∙ ap (λ p. 16 * j + p) same) leaf))
              (λ (more : a + 1 ≤ i). in_right here.leaves rest.leaves (x, d.bytes) (rest.all i more (omega arith) x d e leaf))
              (first_or_later i a low);
        }
      where
        first_or_later : (i a : ℕ) → a ≤ i → (i ≡ a) ⊎ (a + 1 ≤ i)
        first_or_later i a low = ⊎_elim (λ lt. inr (omega arith)) (λ le. inl (omega arith)) (cases_lt a i)

    pub inner_found : FoundAt m (suc l) j (leaves_of image n (suc l) j (block_of c))
    unfolding leaves_of at
    inner_found =
        let all = several 16 0 (omega arith) in
        record {
          leaves = all.leaves;
          is = all.is;
          right = all.right;
          all = λ x d e leaf. all.all ((x / 16 ^ l) % 16) (omega arith) (let p : 0 < 16 = omega arith in let s = mod-lt (x / 16 ^ l) p in omega (arith, s)) x d (from_above x l j e) leaf;
        }

  -- the leaves below each block of the map
  pub found : (l j : ℕ) (c : Cell) → get m (key_at l j) ≡ Some c → FoundAt m l j (leaves_of image n l j (block_of c))
  found zero j c there = leaf_found j c there
  found (suc l) j c there = inner_found l (found l) j c there

-- How many blocks of a map pass a test, whatever the numbers of the open group's blocks are.
use Rattle.std.proofs.Common.{◌≡◌, ℕ, ◌+◌, ◌≤◌, ◌<◌, Bool, true, false, cond, not, List, [], ◌∷◌, length, Option, Some, None, map, refl, sym, ap, subst, ◌∙◌, true≢false, inl, inr, ⊎_elim, ◌⊎◌, arith}
use Rattle.std.specs.Prelude.{is_some}
use Rattle.std.specs.List.{filter}
use Rattle.std.specs.Option.{option_map_or}
use Rattle.std.specs.FinMap.{get, entries, keys}
use Rattle.std.specs.FinSet.{len, retain, difference, union, contains}
use Rattle.std.proofs.lemmas.Bool.{false_from_ne_true}
use Rattle.base.specs.declared.number.Key.{Key}
use Rattle.base.specs.Map.{Map, Cell, Block, BlockSet, block_of, blocks}
use Rattle.base.specs.Rewrite.{Changes, rewrite, is_touched}
use Rattle.base.specs.Surveys.{IsIn, AreDifferent}
use Rattle.world.specs.Sets.{Has}
use Rattle.world.specs.Blocks.{block_order as o}
use Rattle.world.specs.Shapes.{key_order}
use Rattle.world.specs.Usage.{IsEntry, AreApart}
use Rattle.world.specs.Trees.{total}
use Rattle.world.proofs.lists.SetCounts.{same_members, in_difference, from_difference, in_retain, from_retain, in_union_left, in_union_right, from_union}
use Rattle.world.proofs.lists.Maps.{same_value, at_entry, entries_apart}
use Rattle.world.proofs.lists.Lists.{len-from_list, from_list-filter, once_filter}
use Rattle.world.proofs.maps.Cells.{in_blocks, from_blocks}
use Rattle.base.proofs.Presence.{same_presence}
use Rattle.world.proofs.maps.Rewrites.{rewrite_is_change}
use Rattle.limits.specs.Asked.{AreAlike, IsNumberedOnce}
use Rattle.limits.proofs.Totals.{total_more}
use Rattle.limits.proofs.Keys.{in_keys, from_keys, keys_once}

-- ---- the blocks of a map, counted by its keys

stands_from : (es : List (Key × Cell)) (b : Block) → IsIn (map block_of (map (λ e. e.1) es)) b → (k : Key) × (c : Cell) × IsEntry es k c × (b ≡ block_of c)
stands_from [] b h = absurd h
stands_from (e ∷ es) b h = ⊎_elim (λ is. (e.0, e.1, inl (refl, refl), is)) (λ r. let x = stands_from es b r in (x.0, x.1, inr x.2, x.3)) h

stands_once : (es : List (Key × Cell)) → AreApart es → ((j k : Key) (x y : Cell) → IsEntry es j x → IsEntry es k y → x.number ≡ y.number → j ≡ k)
    → AreDifferent (map block_of (map (λ e. e.1) es))
stands_once [] a once = tt
stands_once (e ∷ es) a once = (
  (λ h. let x = stands_from es (block_of e.1) h in a.0 x.0 x.1 x.2 (once x.0 e.0 x.1 e.1 (inr x.2) (inl (refl, refl)) (ap (λ (b : Block). b.number) (sym x.3)))),
  stands_once es a.1 (λ j k x y i l n. once j k x y (inr i) (inr l) n),
)

abbrev weight : (Block → Bool) → Option Cell → ℕ
weight p x = option_map_or (λ (c : Cell). cond {A = ℕ} (p (block_of c)) 1 0) x 0

length-filter : (p : Block → Bool) (xs : List Block) → length (filter p xs) ≡ total (λ x. cond {A = ℕ} (p x) 1 0) xs
length-filter p [] = refl
length-filter p (x ∷ xs) = at (p x) (length-filter p xs)
  where
    at : (b : Bool) → length (filter p xs) ≡ total (λ x. cond {A = ℕ} (p x) 1 0) xs → length (cond b (x ∷ filter p xs) (filter p xs)) ≡ cond {A = ℕ} b 1 0 + total (λ x. cond {A = ℕ} (p x) 1 0) xs
    at true e = omega (arith, e)
    at false e = omega (arith, e)

by_keys : (p : Block → Bool) (m : Map) (es : List (Key × Cell)) → ((k : Key) (c : Cell) → IsEntry es k c → get m k ≡ Some c)
    → total (λ x. cond {A = ℕ} (p x) 1 0) (map block_of (map (λ e. e.1) es)) ≡ total (λ k. weight p (get m k)) (map (λ e. e.0) es)
by_keys p m [] h = refl
by_keys p m (e ∷ es) h =
    let a : weight p (get m e.0) ≡ weight p (Some e.1) = ap (weight p) (h e.0 e.1 (inl (refl, refl))) in
    let r = by_keys p m es (λ k c i. h k c (inr i)) in
    omega (arith, a, r)

pub count_blocks : (p : Block → Bool) (m : Map) → IsNumberedOnce m → len (retain (blocks m) p) ≡ total (λ k. weight p (get m k)) (keys m)
unfolding blocks
count_blocks p m once =
    let s = stands_once (entries m) (entries_apart key_order m) (λ j k x y i l n. once j k x y (at_entry key_order m j x i) (at_entry key_order m k y l) n) in
    ap len (sym (from_list-filter o p (map block_of (map (λ e. e.1) (entries m)))))
    ∙ len-from_list o (filter p (map block_of (map (λ e. e.1) (entries m)))) (once_filter o p (map block_of (map (λ e. e.1) (entries m))) s)
    ∙ length-filter p (map block_of (map (λ e. e.1) (entries m)))
    ∙ by_keys p m (entries m) (λ k c i. at_entry key_order m k c i)

-- ---- two maps that are alike

pub alike_back : (g : ℕ) (m n : Map) → AreAlike g m n → AreAlike g n m
alike_back g m n a k = ⊎_elim (λ e. inl (sym e)) (λ (x, y, e, f, b, c). inr (y, x, f, e, c, b)) (a k)

pub alike_itself : (g : ℕ) (m : Map) → AreAlike g m m
alike_itself g m k = inl refl

module _ (g : ℕ) where
  count_more : (p : Block → Bool) → ((b c : Block) → b.birth ≡ g → c.birth ≡ g → p b ≡ p c) → (m n : Map) → AreAlike g m n
      → total (λ k. weight p (get m k)) (keys m) ≤ total (λ k. weight p (get n k)) (keys n)
  count_more p flat m n alike = total_more (λ k. weight p (get m k)) (λ k. weight p (get n k)) (keys m) (keys n) (keys_once key_order m)
      (λ k i. let x = from_keys key_order m k i in ⊎_elim
      (λ e. let w = ap (weight p) e in inr (omega (arith, w), in_keys key_order n k x.0 (sym e ∙ x.1)))
      (λ (y, z, e, f, b, c).
      let w : weight p (get m k) ≡ weight p (get n k) = ap (weight p) e ∙ ap (λ t. cond {A = ℕ} t 1 0) (flat (block_of y) (block_of z) b c) ∙ sym (ap (weight p) f) in
      inr (omega (arith, w), in_keys key_order n k z f))
      (alike k))

  pub count_alike : (p : Block → Bool) → ((b c : Block) → b.birth ≡ g → c.birth ≡ g → p b ≡ p c) → (m n : Map) → AreAlike g m n → IsNumberedOnce m → IsNumberedOnce n
      → len (retain (blocks m) p) ≡ len (retain (blocks n) p)
  count_alike p flat m n alike once once' =
      let a = count_more p flat m n alike in
      let b = count_more p flat n m (alike_back g m n alike) in
      let c = count_blocks p m once in
      let d = count_blocks p n once' in
      omega (arith, a, b, c, d)

  -- as many are in neither of them but in an older set
  pub count_without : (m n : Map) → AreAlike g m n → IsNumberedOnce m → IsNumberedOnce n → (older : BlockSet) → ((b : Block) → Has older b → b.birth < g)
      → len (difference (blocks m) older) ≡ len (difference (blocks n) older)
  count_without m n alike once once' older low =
      ap len (as_test (blocks m)) ∙ count_alike (λ b. not (contains older b))
      (λ b c e f. ap not (out b e ∙ sym (out c f))) m n alike once once' ∙ sym (ap len (as_test (blocks n)))
    where
      as_test : (s : BlockSet) → difference s older ≡ retain s (λ b. not (contains older b))
      as_test s = same_members o _ _
          (λ b h. let k = from_difference o s older b h in in_retain o s (λ b. not (contains older b)) b k.0 (ap not (false_from_ne_true (contains older b) k.1)))
          (λ b h. let k = from_retain o s (λ b. not (contains older b)) b h in in_difference o s older b k.0 (λ e. true≢false (sym k.1 ∙ ap not e)))

      out : (b : Block) → b.birth ≡ g → contains older b ≡ false
      out b e = false_from_ne_true (contains older b) (λ h. let l = low b h in absurd (omega (arith, l, e)))

  -- an older block is in both or in neither
  pub older_in : (m n : Map) → AreAlike g m n → (b : Block) → b.birth < g → Has (blocks m) b → Has (blocks n) b
  older_in m n alike b low h =
      let f = from_blocks m b h in
      ⊎_elim
      (λ e. subst (λ x. Has (blocks n) x) f.3 (in_blocks n f.0 f.1 (sym e ∙ f.2)))
      (λ (x, y, e, e', c, d).
      let s : f.1 ≡ x = same_value f.1 x (sym f.2 ∙ e) in
      let l : f.1.birth ≡ x.birth = ap (λ (z : Cell). z.birth) s in
      let r : f.1.birth ≡ b.birth = ap (λ (z : Block). z.birth) f.3 in
      absurd (omega (arith, l, r, c, low)))
      (alike f.0)

  -- what an older set has that they haven't
  pub older_without : (m n : Map) → AreAlike g m n → (older rest : BlockSet) → ((b : Block) → Has older b → b.birth < g)
      → difference older (union (blocks m) rest) ≡ difference older (union (blocks n) rest)
  older_without m n alike older rest low = same_members o _ _ (one_way m n alike) (one_way n m (alike_back g m n alike))
    where
      one_way : (m n : Map) → AreAlike g m n → (b : Block) → Has (difference older (union (blocks m) rest)) b → Has (difference older (union (blocks n) rest)) b
      one_way m n alike b h =
          let k = from_difference o older (union (blocks m) rest) b h in
          in_difference o older (union (blocks n) rest) b k.0 (λ i. k.1 (⊎_elim
          (λ x. in_union_left o (blocks m) rest b (older_in n m (alike_back g m n alike) b (low b k.0) x))
          (λ x. in_union_right o (blocks m) rest b x)
          (from_union o (blocks n) rest b i)))

-- ---- a change with any numbers

pub rewrites_alike : (m : Map) (c : Changes) (g : ℕ) (number other : Key → ℕ) → AreAlike g (rewrite m c g number) (rewrite m c g other)
rewrites_alike m c g number other k = by_touch (is_touched m c k) refl
  where
    some : (x : Option Cell) → get (rewrite m c g number) k ≡ x → (y : Option Cell) → get (rewrite m c g other) k ≡ y → is_touched m c k ≡ true → is_some x ≡ is_some y
        → (get (rewrite m c g number) k ≡ get (rewrite m c g other) k)
        ⊎ ((x : Cell) × (y : Cell) × (get (rewrite m c g number) k ≡ Some x) × (get (rewrite m c g other) k ≡ Some y) × (x.birth ≡ g) × (y.birth ≡ g))
    some None e None f t s = inl (e ∙ sym f)
    some None e (Some y) f t s = absurd (true≢false (sym s))
    some (Some x) e None f t s = absurd (true≢false s)
    some (Some x) e (Some y) f t s = inr (x, y, e, f, ((rewrite_is_change m c g number).made k x t e).1, ((rewrite_is_change m c g other).made k y t f).1)

    by_touch : (t : Bool) → is_touched m c k ≡ t → (get (rewrite m c g number) k ≡ get (rewrite m c g other) k)
        ⊎ ((x : Cell) × (y : Cell) × (get (rewrite m c g number) k ≡ Some x) × (get (rewrite m c g other) k ≡ Some y) × (x.birth ≡ g) × (y.birth ≡ g))
    by_touch true t = some (get (rewrite m c g number) k) refl (get (rewrite m c g other) k) refl t (same_presence m c g g number other k)
    by_touch false t = inl ((rewrite_is_change m c g number).kept k t ∙ sym ((rewrite_is_change m c g other).kept k t))

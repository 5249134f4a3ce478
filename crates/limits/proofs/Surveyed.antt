-- How many blocks of a changed map pass a test, from a survey of the change.
use Rattle.std.proofs.Common.{◌≡◌, ℕ, ◌+◌, ◌≤◌, ◌<◌, Bool, true, false, List, [], ◌∷◌, Some, map, filter, length, refl, sym, ap, subst, ◌∙◌, true≢false, inl, inr, ⊎_elim, arith}
use Rattle.std.specs.Prelude.{count_by, is_some, nat_le, nat_lt, cond, ◌&&◌}
use Rattle.std.specs.FinMap.{get}
use Rattle.std.specs.FinSet.{len, retain, difference, from_list}
use Rattle.std.proofs.lemmas.Bool.{cases_lt, lt-ltb, ltb-true, le-leb, leb-true}
use Rattle.std.proofs.lemmas.List.Sums.{length-filter, sum_by-cons}
use Rattle.base.specs.declared.number.Key.{Key}
use Rattle.base.specs.Map.{Map, Cell, Block, BlockSet, block_of, blocks}
use Rattle.base.specs.Rewrite.{Changes, rewrite, is_touched}
use Rattle.base.specs.Surveys.{IsIn, AreDifferent, IsSurvey}
use Rattle.world.specs.Sets.{Has}
use Rattle.world.specs.Blocks.{block_cmp, block_order as o, after}
use Rattle.world.specs.Numbering.{ChangesKeys}
use Rattle.world.proofs.lists.SetCounts.{Has-cases, same_members, in_difference, from_difference, in_retain, from_retain, len-two_parts}
use Rattle.world.proofs.lists.Lists.{in_listed, from_listed, len-from_list, from_list-filter, once_filter}
use Rattle.world.proofs.lists.Listed.{in_map, map_in, different_map, length-mapped}
use Rattle.world.proofs.lineage.Lineage.{in_after, from_after}
use Rattle.world.proofs.lists.Maps.{some_of}
use Rattle.world.proofs.maps.Cells.{in_blocks, from_blocks, from_new_blocks}
use Rattle.base.proofs.Presence.{same_presence}
use Rattle.world.proofs.maps.Rewrites.{rewrite_is_change}
use Rattle.limits.specs.Asked.{IsNumberedOnce}
use Rattle.limits.specs.Forecasts.{count_after, count_between}

-- so many blocks of a list pass a test
count_listed : (p : Block → Bool) (bs : List Block) → AreDifferent bs → len (retain (from_list {R = block_cmp} bs) p) ≡ count_by p bs
count_listed p bs d =
    ap len (sym (from_list-filter o p bs)) ∙ len-from_list o (filter p bs) (once_filter o p bs d) ∙ length-filter p bs

-- those born after a group: those born by another, and those born after that one
pub count_split : (low high : ℕ) (bs : List Block) → low ≤ high → count_after low bs ≡ count_between low high bs + count_after high bs
count_split low high [] l = refl
count_split low high (x ∷ xs) l =
    let a = sum_by-cons (λ (b : Block). cond {A = ℕ} (nat_lt low b.birth) 1 0) x xs in
    let c = sum_by-cons (λ (b : Block). cond {A = ℕ} (nat_lt low b.birth && nat_le b.birth high) 1 0) x xs in
    let d = sum_by-cons (λ (b : Block). cond {A = ℕ} (nat_lt high b.birth) 1 0) x xs in
    let r = count_split low high xs l in
    let e = by_birth (nat_lt low x.birth) refl (nat_le x.birth high) refl (nat_lt high x.birth) refl in
    omega (arith, a, c, d, r, e)
  where
    by_birth : (p : Bool) → nat_lt low x.birth ≡ p → (q : Bool) → nat_le x.birth high ≡ q → (r : Bool) → nat_lt high x.birth ≡ r
        → cond {A = ℕ} p 1 0 ≡ cond {A = ℕ} (p && q) 1 0 + cond {A = ℕ} r 1 0
    by_birth true e true f true g = let u = leb-true x.birth high f in let v = ltb-true high x.birth g in absurd (omega (arith, u, v))
    by_birth true e true f false g = refl
    by_birth true e false f true g = refl
    by_birth true e false f false g = ⊎_elim
        (λ v. absurd (true≢false (sym (lt-ltb high x.birth v) ∙ g)))
        (λ u. absurd (true≢false (sym (le-leb x.birth high u) ∙ f)))
        (cases_lt high x.birth)
    by_birth false e q f true g = let v = ltb-true high x.birth g in absurd (true≢false (sym (lt-ltb low x.birth (omega (arith, l, v))) ∙ e))
    by_birth false e q f false g = refl

-- what a set has that a second hasn't, where a third in its place has lost some blocks of a list, and has got none of the set
pub lost_more : (x y z : BlockSet) (bs : List Block) (p : Block → Bool) → AreDifferent bs
    → ((b : Block) → Has x b → Has z b → Has y b)
    → ((b : Block) → IsIn bs b → p b ≡ true → Has x b × Has y b × ¬ (Has z b))
    → ((b : Block) → Has x b → Has y b → ¬ (Has z b) → IsIn bs b × (p b ≡ true))
    → len (difference x z) ≡ len (difference x y) + count_by p bs
lost_more x y z bs p once none lost all =
    len-two_parts o (difference x z) (difference x y) (retain (from_list bs) p)
    (λ b h. let k = from_difference o x y b h in in_difference o x z b k.0 (λ i. k.1 (none b k.0 i)))
    (λ b h. let k = passing b h in let l = lost b k.0 k.1 in in_difference o x z b l.0 l.2)
    (λ b h g. let k = passing b g in (from_difference o x y b h).1 (lost b k.0 k.1).1)
    (λ b h.
    let k = from_difference o x z b h in
    ⊎_elim
    (λ i. let a = all b k.0 i k.1 in inr (in_retain o (from_list bs) p b (in_listed o bs b a.0) a.1))
    (λ n. inl (in_difference o x y b k.0 n))
    (Has-cases o y b))
    ∙ ap (λ n. len (difference x y) + n) (count_listed p bs once)
  where
    passing : (b : Block) → Has (retain (from_list {R = block_cmp} bs) p) b → IsIn bs b × (p b ≡ true)
    passing b h = let k = from_retain o (from_list bs) p b h in (from_listed o bs b k.0, k.1)

-- a change whose numbers are none of the map's
module _ (m : Map) (once : IsNumberedOnce m) (ch : Changes) (dropped : List Block) (made : List Key) (survey : IsSurvey m ch dropped made) (g : ℕ)
    (number : Key → ℕ) (once' : IsNumberedOnce (rewrite m ch g number)) (fresh : (k : Key) (b : Block) → Has (blocks m) b → b.number ≡ number k → ⊥) where
  change : ChangesKeys m (rewrite m ch g number) (is_touched m ch) g number
  change = rewrite_is_change m ch g number

  -- ---- what is dropped

  -- a dropped block was the map's
  pub own : (b : Block) → IsIn dropped b → Has (blocks m) b
  own b i = let d = (survey.gone b).0 i in subst (λ y. Has (blocks m) y) d.is (in_blocks m d.key d.cell d.there)

  -- its key is touched
  touched : (k : Key) (x : Cell) (b : Block) → get m k ≡ Some x → block_of x ≡ b → IsIn dropped b → is_touched m ch k ≡ true
  touched k x b e is i =
      let d = (survey.gone b).0 i in
      ap (is_touched m ch) (once k d.key x d.cell e d.there (ap (λ (y : Block). y.number) (is ∙ sym d.is))) ∙ d.touched

  -- and the map hasn't it afterwards
  pub goes : (b : Block) → IsIn dropped b → ¬ (Has (blocks (rewrite m ch g number)) b)
  goes b i h = ⊎_elim
      (λ (k, x, e, is, t). true≢false (sym (touched k x b e is i) ∙ t))
      (λ (k, x, e, t, is, n, birth). fresh k b (own b i) n)
      (from_new_blocks m (rewrite m ch g number) (is_touched m ch) g number change b h)

  -- a block that isn't dropped stays
  stays : (b : Block) → Has (blocks m) b → ¬ (IsIn dropped b) → Has (blocks (rewrite m ch g number)) b
  stays b h out = let f = from_blocks m b h in at f.0 f.1 f.2 f.3 (is_touched m ch f.0) refl
    where
      at : (k : Key) (x : Cell) → get m k ≡ Some x → block_of x ≡ b → (t : Bool) → is_touched m ch k ≡ t → Has (blocks (rewrite m ch g number)) b
      at k x e is true t = absurd (out ((survey.gone b).1 (record { key = k; cell = x; there = e; is = is; touched = t })))
      at k x e is false t = subst (λ y. Has (blocks (rewrite m ch g number)) y) is (in_blocks (rewrite m ch g number) k x (change.kept k t ∙ e))

  -- so a block that the map has no more is dropped
  pub gone : (b : Block) → Has (blocks m) b → ¬ (Has (blocks (rewrite m ch g number)) b) → IsIn dropped b
  gone b h out = ⊎_elim
      (λ i. from_listed o dropped b i)
      (λ n. absurd (out (stays b h (λ i. n (in_listed o dropped b i)))))
      (Has-cases o (from_list dropped) b)

  -- ---- what is made

  abbrev block_at : Key → Block
  block_at k = record { number = number k; birth = g }

  from_made : (k : Key) → IsIn made k → (x : Cell) × (get (rewrite m ch g number) k ≡ Some x) × (block_of x ≡ record { number = number k; birth = g })
  from_made k i =
      let p = (survey.each k).0 i in
      let s = some_of (get (rewrite m ch g number) k) (same_presence m ch g 0 number (λ _. 0) k ∙ p.1) in
      let w = change.made k s.0 p.0 s.1 in
      (s.0, s.1, λ i. record { number = w.0 i; birth = w.1 i })

  in_made : (k : Key) (x : Cell) → is_touched m ch k ≡ true → get (rewrite m ch g number) k ≡ Some x → IsIn made k
  in_made k x t e = (survey.each k).1 (t, same_presence m ch 0 g (λ _. 0) number k ∙ ap is_some e)

  count_made : len (from_list {R = block_cmp} (map block_at made)) ≡ length made
  count_made =
      len-from_list o (map block_at made) (different_map block_at made
      (λ j k a b e.
      let x = from_made j a in
      let y = from_made k b in
      once' j k x.0 y.0 x.1 y.1 (ap (λ (z : Block). z.number) (x.2 ∙ e ∙ sym y.2)))
      survey.made_once)
      ∙ length-mapped block_at made

  -- ---- a test that the open group's blocks pass

  module _ (p : Block → Bool) (all : (b : Block) → b.birth ≡ g → p b ≡ true) where
    abbrev rest : BlockSet
    rest = difference (retain (blocks m) p) (from_list dropped)

    before : len (retain (blocks m) p) ≡ len rest + count_by p dropped
    before =
        len-two_parts o (retain (blocks m) p) rest (retain (from_list dropped) p)
        (λ b h. (from_difference o (retain (blocks m) p) (from_list dropped) b h).0)
        (λ b h. let k = from_retain o (from_list dropped) p b h in in_retain o (blocks m) p b (own b (from_listed o dropped b k.0)) k.1)
        (λ b h k. (from_difference o (retain (blocks m) p) (from_list dropped) b h).1 (from_retain o (from_list dropped) p b k).0)
        (λ b h. ⊎_elim
        (λ i. inr (in_retain o (from_list dropped) p b i (from_retain o (blocks m) p b h).1))
        (λ n. inl (in_difference o (retain (blocks m) p) (from_list dropped) b h n))
        (Has-cases o (from_list dropped) b))
        ∙ ap (λ n. len rest + n) (count_listed p dropped survey.gone_once)

    from_rest : (b : Block) → Has rest b → Has (blocks m) b × (p b ≡ true) × ¬ (IsIn dropped b)
    from_rest b h =
        let k = from_difference o (retain (blocks m) p) (from_list dropped) b h in
        let r = from_retain o (blocks m) p b k.0 in
        (r.0, r.1, λ i. k.1 (in_listed o dropped b i))

    from_block_at : (b : Block) → Has (from_list {R = block_cmp} (map block_at made)) b → (k : Key) × IsIn made k × (b ≡ record { number = number k; birth = g })
    from_block_at b h = in_map block_at made b (from_listed o (map block_at made) b h)

    afterwards : len (retain (blocks (rewrite m ch g number)) p) ≡ len rest + length made
    afterwards =
        len-two_parts o (retain (blocks (rewrite m ch g number)) p) rest (from_list (map block_at made))
        (λ b h. let r = from_rest b h in in_retain o (blocks (rewrite m ch g number)) p b (stays b r.0 r.2) r.1)
        (λ b h.
        let k = from_block_at b h in
        let x = from_made k.0 k.1 in
        in_retain o (blocks (rewrite m ch g number)) p b
        (subst (λ y. Has (blocks (rewrite m ch g number)) y) (x.2 ∙ sym k.2) (in_blocks (rewrite m ch g number) k.0 x.0 x.1))
        (all b (ap (λ (y : Block). y.birth) k.2)))
        (λ b h i. let k = from_block_at b i in fresh k.0 b (from_rest b h).0 (ap (λ (y : Block). y.number) k.2))
        (λ b h.
        let r = from_retain o (blocks (rewrite m ch g number)) p b h in
        ⊎_elim
        (λ (k, x, e, is, t). inl (in_difference o (retain (blocks m) p) (from_list dropped) b
        (in_retain o (blocks m) p b (subst (λ y. Has (blocks m) y) is (in_blocks m k x e)) r.1)
        (λ i. goes b (from_listed o dropped b i) r.0)))
        (λ (k, x, e, t, is, n, birth). inr (in_listed o (map block_at made) b
        (subst (IsIn (map block_at made)) (λ i. record { number = sym n i; birth = sym birth i }) (map_in block_at made k (in_made k x t e)))))
        (from_new_blocks m (rewrite m ch g number) (is_touched m ch) g number change b r.0))
        ∙ ap (λ n. len rest + n) count_made

    -- what passes afterwards: what passed, less what of it is dropped, and what is made
    pub count_changed : len (retain (blocks (rewrite m ch g number)) p) + count_by p dropped ≡ len (retain (blocks m) p) + length made
    count_changed = let a = before in let b = afterwards in omega (arith, a, b)

  -- so it is of all
  pub count_all : len (blocks (rewrite m ch g number)) + length dropped ≡ len (blocks m) + length made
  count_all =
      let c = count_changed (λ _. true) (λ b e. refl) in
      let x = whole (blocks m) in
      let y = whole (blocks (rewrite m ch g number)) in
      let d = sym (count_listed (λ _. true) dropped survey.gone_once) ∙ whole (from_list dropped) ∙ len-from_list o dropped survey.gone_once in
      omega (arith, c, x, y, d)
    where
      whole : (x : BlockSet) → len (retain x (λ _. true)) ≡ len x
      whole x = ap len (same_members o _ _ (λ b h. (from_retain o x (λ _. true) b h).0) (λ b h. in_retain o x (λ _. true) b h refl))

  -- ---- what an older set hasn't

  module _ (older : BlockSet) (cut : ℕ) (low : cut < g) (born : (b : Block) → Has older b → b.birth ≤ cut)
      (kept : (b : Block) → Has (blocks m) b → b.birth ≤ cut → Has older b) where
    is_after : (n : Map) → ((b : Block) → Has (blocks n) b → b.birth ≤ cut → Has older b) → difference (blocks n) older ≡ after cut (blocks n)
    is_after n each = same_members o _ _
        (λ b h.
        let k = from_difference o (blocks n) older b h in
        let not_low : ¬ (b.birth ≤ cut) = λ l. k.1 (each b k.0 l) in
        in_after cut (blocks n) b k.0 (omega (arith, not_low)))
        (λ b h.
        let k = from_after cut (blocks n) b h in
        let high = k.1 in
        in_difference o (blocks n) older b k.0 (λ i. let l = born b i in absurd (omega (arith, l, high))))

    kept_after : (b : Block) → Has (blocks (rewrite m ch g number)) b → b.birth ≤ cut → Has older b
    kept_after b h l = ⊎_elim
        (λ (k, x, e, is, t). kept b (subst (λ y. Has (blocks m) y) is (in_blocks m k x e)) l)
        (λ (k, x, e, t, is, n, birth). absurd (omega (arith, birth, low, l)))
        (from_new_blocks m (rewrite m ch g number) (is_touched m ch) g number change b h)

    -- of a set that has what was born by a group
    pub without_changed : len (difference (blocks (rewrite m ch g number)) older) + count_after cut dropped ≡ len (difference (blocks m) older) + length made
    without_changed =
        let c = count_changed (λ b. nat_lt cut b.birth) (λ b is. lt-ltb cut b.birth (omega (arith, is, low))) in
        let x = ap len (is_after (rewrite m ch g number) kept_after) in
        let y = ap len (is_after m kept) in
        omega (arith, c, x, y)

-- What the counts from deadlists are.
use Rattle.std.proofs.Common.{◌≡◌, ℕ, ◌+◌, ◌<◌, ◌≤◌, List, [], ◌∷◌, Some, refl, sym, ap, subst, ◌∙◌, ◌⊎◌, inl, inr, ⊎_elim, arith}
use Rattle.std.proofs.lemmas.Bool.{cases_lt}
use Rattle.std.specs.FinSet.{empty, difference, union, intersection, len, len-empty}
use Rattle.world.specs.Sets.{Has, IsSubset, AreDisjoint, IsInOne, ArePairwiseDisjoint, union_all, sum_len}
use Rattle.world.specs.Blocks.{Block, BlockSet, block_cmp, block_order as o, after, upto}
use Rattle.world.specs.Lineage.{Row, Rows, IsSound, Facts, IsUnion, Outside}
use Rattle.world.specs.Space.{AreBornBy, Follow, newest, blocks_of_all, dead_upto, dead_after, between, dead_in_all, IsOneOf, Stretch, used_by_dataset, used_by_snapshots, used_by_all, datasets, IsAt, IsInOneStretch, AreStretches}
use Rattle.world.proofs.lists.SetCounts.{no-empty, same_members, Has-cases, in_difference, from_difference, in_intersection, from_intersection, in_union_left, in_union_right, from_union, len-two_parts, len-difference, from_union_all, in_union_all, len-union_all}
use Rattle.world.proofs.lineage.Lineage.{alone, stays_inside, birthplace, stands_before, prior_is, in_dead, from_dead, in_upto, from_upto, in_after, from_after}

module _ {D : Type 0} where
  -- a block of the newest that was born by the group before is in the one before: so a block that is gone along a lineage never returns
  pub reaches_down : (g : ℕ) (s : BlockSet) (xs : List (Row D)) (b : Block) → Follow g s xs → Has (newest s xs) b → b.birth ≤ g → Has s b
  reaches_down g s [] b f h l = h
  reaches_down g s (x ∷ xs) b f h l =
      let lower = f.2.falls in
      subst (λ t. Has t b) f.1 (f.2.kept b (reaches_down x.group x.blocks xs b f.3 h (omega (arith, f.0))) (omega (arith, f.0)))

  -- the same of each of the stretch
  pub each_reaches_down : (g : ℕ) (s : BlockSet) (xs : List (Row D)) (b : Block) → Follow g s xs → Has (blocks_of_all xs) b → b.birth ≤ g → Has s b
  each_reaches_down g s [] b f h l = absurd (no-empty o b h)
  each_reaches_down g s (x ∷ xs) b f h l =
      let lower = f.2.falls in
      let in_x : Has x.blocks b = ⊎_elim (λ k. k) (λ k. each_reaches_down x.group x.blocks xs b f.3 k (omega (arith, f.0))) (from_union o x.blocks (blocks_of_all xs) b h) in
      subst (λ t. Has t b) f.1 (f.2.kept b in_x (omega (arith, f.0)))

  pub newest_among : (s : BlockSet) (xs : List (Row D)) (b : Block) → Has (newest s xs) b → Has s b ⊎ Has (blocks_of_all xs) b
  newest_among s [] b h = inl h
  newest_among s (x ∷ xs) b h = inr (⊎_elim (in_union_left o x.blocks (blocks_of_all xs) b) (in_union_right o x.blocks (blocks_of_all xs) b) (newest_among x.blocks xs b h))

  -- of the blocks born by the cut, what one step of the lineage drops is on the deadlist
  step_upto : (cut : ℕ) (x : Row D) → IsSound D x → cut ≤ x.base → len (upto cut x.below) ≡ len (upto cut x.blocks) + len (upto cut x.dead)
  step_upto cut x f l = len-two_parts o (upto cut x.below) (upto cut x.blocks) (upto cut x.dead)
      (λ b h. let k = from_upto cut x.blocks b h in in_upto cut x.below b (f.kept b k.0 (let m = k.1 in omega arith)) k.1)
      (λ b h. let k = from_upto cut x.dead b h in in_upto cut x.below b (from_dead x f b k.0).0 k.1)
      (λ b h g. (from_dead x f b (from_upto cut x.dead b g).0).1 (from_upto cut x.blocks b h).0)
      (λ b h. let k = from_upto cut x.below b h in ⊎_elim (λ q. inl (in_upto cut x.blocks b q k.1)) (λ q. inr (in_upto cut x.dead b (in_dead x f b k.0 q) k.1)) (Has-cases o x.blocks b))

  pub len_upto : (cut g : ℕ) (s : BlockSet) (xs : List (Row D)) → Follow g s xs → cut ≤ g → len (upto cut s) ≡ len (upto cut (newest s xs)) + dead_upto cut xs
  len_upto cut g s [] f l = omega arith
  len_upto cut g s (x ∷ xs) f l =
      let lower = f.2.falls in
      let one = step_upto cut x f.2 (omega (arith, f.0)) in
      let more = len_upto cut x.group x.blocks xs f.3 (omega (arith, f.0)) in
      omega (arith, one, more, ap (λ t. len (upto cut t)) f.1)

  -- written since: what the newest has and the one before the stretch has not
  pub written_since : (g : ℕ) (s : BlockSet) (xs : List (Row D)) → Follow g s xs → AreBornBy g s → len (difference (newest s xs) s) + len s ≡ len (newest s xs) + dead_upto g xs
  written_since g s xs f born =
      let whole : upto g s ≡ s = same_members o _ _ (λ b h. (from_upto g s b h).0) (λ b h. in_upto g s b h (born b h)) in
      let both : upto g (newest s xs) ≡ intersection (newest s xs) s = same_members o _ _
      (λ b h. let k = from_upto g (newest s xs) b h in in_intersection o (newest s xs) s b k.0 (reaches_down g s xs b f k.0 k.1))
      (λ b h. let k = from_intersection o (newest s xs) s b h in in_upto g (newest s xs) b k.0 (born b k.1)) in
      omega (arith, len_upto g g s xs f (omega arith), ap len whole, ap len both, len-difference o (newest s xs) s)

  -- the blocks born after the cut that the stretch and the one before have, and its newest has not
  dropped : ℕ → BlockSet → List (Row D) → BlockSet
  dropped cut s xs = difference (after cut (union s (blocks_of_all xs))) (newest s xs)

  from_dropped : (cut : ℕ) (s : BlockSet) (xs : List (Row D)) (b : Block) → Has (dropped cut s xs) b → (Has s b ⊎ Has (blocks_of_all xs) b) × (cut < b.birth) × (¬ (Has (newest s xs) b))
  unfolding dropped
  from_dropped cut s xs b h =
      let k = from_difference o (after cut (union s (blocks_of_all xs))) (newest s xs) b h in
      let q = from_after cut (union s (blocks_of_all xs)) b k.0 in
      (from_union o s (blocks_of_all xs) b q.0, q.1, k.1)

  in_dropped : (cut : ℕ) (s : BlockSet) (xs : List (Row D)) (b : Block) → Has s b ⊎ Has (blocks_of_all xs) b → cut < b.birth → ¬ (Has (newest s xs) b) → Has (dropped cut s xs) b
  unfolding dropped
  in_dropped cut s xs b h l out = in_difference o _ _ b
      (in_after cut _ b (⊎_elim (in_union_left o s (blocks_of_all xs) b) (in_union_right o s (blocks_of_all xs) b) h) l) out

  len_dropped : (cut g : ℕ) (s : BlockSet) (xs : List (Row D)) → Follow g s xs → AreBornBy g s → len (dropped cut s xs) ≡ dead_after cut xs
  len_dropped cut g s [] f born =
      ap len (same_members o (dropped cut s []) empty
      (λ b h. let k = from_dropped cut s [] b h in absurd (⊎_elim (λ q. k.2 q) (λ q. no-empty o b q) k.0))
      (λ b h. absurd (no-empty o b h)))
      ∙ len-empty block_cmp
  len_dropped cut g s (x ∷ xs) f born =
      len-two_parts o (dropped cut s (x ∷ xs)) (after cut x.dead) (dropped cut x.blocks xs) left right apart each
      ∙ ap (λ k. len (after cut x.dead) + k) (len_dropped cut x.group x.blocks xs f.3 f.2.born)
    where
      -- a block that x dropped is nowhere further on
      goes : (b : Block) → Has x.dead b → ¬ (Has (blocks_of_all xs) b)
      goes b h k =
          let q = from_dead x f.2 b h in
          let l = born b (subst (λ t. Has t b) f.1 q.0) in
          let lower = f.2.falls in
          q.1 (each_reaches_down x.group x.blocks xs b f.3 k (omega (arith, f.0)))

      left : IsSubset (after cut x.dead) (dropped cut s (x ∷ xs))
      left b h =
          let k = from_after cut x.dead b h in
          let q = from_dead x f.2 b k.0 in
          in_dropped cut s (x ∷ xs) b (inl (subst (λ t. Has t b) f.1 q.0)) k.1
          (λ in_newest. ⊎_elim (λ r. q.1 r) (λ r. goes b k.0 r) (newest_among x.blocks xs b in_newest))

      right : IsSubset (dropped cut x.blocks xs) (dropped cut s (x ∷ xs))
      right b h =
          let k = from_dropped cut x.blocks xs b h in
          in_dropped cut s (x ∷ xs) b (inr (⊎_elim (in_union_left o x.blocks (blocks_of_all xs) b) (in_union_right o x.blocks (blocks_of_all xs) b) k.0)) k.1 k.2

      apart : AreDisjoint (after cut x.dead) (dropped cut x.blocks xs)
      apart b h g =
          let k = from_after cut x.dead b h in
          ⊎_elim (λ r. (from_dead x f.2 b k.0).1 r) (λ r. goes b k.0 r) (from_dropped cut x.blocks xs b g).0

      each : (b : Block) → Has (dropped cut s (x ∷ xs)) b → Has (after cut x.dead) b ⊎ Has (dropped cut x.blocks xs) b
      each b h =
          let k = from_dropped cut s (x ∷ xs) b h in
          let at_x : Has x.blocks b → Has (dropped cut x.blocks xs) b = λ q. in_dropped cut x.blocks xs b (inl q) k.1 k.2 in
          ⊎_elim
          (λ in_s. ⊎_elim (λ q. inr (at_x q)) (λ q. inl (in_after cut x.dead b (in_dead x f.2 b (subst (λ t. Has t b) (sym f.1) in_s) q) k.1)) (Has-cases o x.blocks b))
          (λ r. ⊎_elim (λ q. inr (at_x q)) (λ q. inr (in_dropped cut x.blocks xs b (inr q) k.1 k.2)) (from_union o x.blocks (blocks_of_all xs) b r))
          k.0

  -- what stands between: used by snapshots, and what would be freed
  pub len_between : (g : ℕ) (s : BlockSet) (xs : List (Row D)) → Follow g s xs → AreBornBy g s → len (between s xs) ≡ dead_after g xs
  len_between g s xs f born = ap len (same_members o (between s xs) (dropped g s xs)
      (λ b h.
      let k = from_difference o (difference (blocks_of_all xs) (newest s xs)) s b h in
      let q = from_difference o (blocks_of_all xs) (newest s xs) b k.0 in
      in_dropped g s xs b (inr q.0)
      (⊎_elim (λ (l : g < b.birth). l) (λ (l : b.birth ≤ g). absurd (k.1 (each_reaches_down g s xs b f q.0 l))) (cases_lt g b.birth)) q.1)
      (λ b h.
      let k = from_dropped g s xs b h in
      let out : ¬ (Has s b) = λ q. let l = born b q in let m = k.1 in absurd (omega arith) in
      in_difference o _ _ b (in_difference o _ _ b (⊎_elim (λ q. absurd (out q)) (λ q. q) k.0) k.2) out))
      ∙ len_dropped g g s xs f born

  -- a block of all the deadlists: one that the dataset has and that none of those next after it has
  in_all_from : (s : BlockSet) (xs : List (Row D)) (b : Block) → Has (dead_in_all s xs) b → Has s b × ((x : Row D) → IsOneOf xs x → Has x.dead b)
  in_all_from s [] b h = (h, λ x k. absurd k)
  in_all_from s (y ∷ ys) b h =
      let k = from_intersection o y.dead (dead_in_all s ys) b h in
      let q = in_all_from s ys b k.1 in
      (q.0, λ x r. ⊎_elim (λ (e : x ≡ y). subst (λ z. Has z.dead b) (sym e) k.0) (λ r. q.1 x r) r)

  in_all_to : (s : BlockSet) (xs : List (Row D)) (b : Block) → Has s b → ((x : Row D) → IsOneOf xs x → Has x.dead b) → Has (dead_in_all s xs) b
  in_all_to s [] b h f = h
  in_all_to s (y ∷ ys) b h f = in_intersection o y.dead (dead_in_all s ys) b (f y (inl refl)) (in_all_to s ys b h (λ x r. f x (inr r)))

  among : (b : Block) (n : Row D) (ys : List (Row D)) → IsOneOf ys n → Has n.blocks b → Has (blocks_of_all ys) b
  among b n [] h k = absurd h
  among b n (y ∷ ys) h k = ⊎_elim (λ (e : n ≡ y). in_union_left o y.blocks (blocks_of_all ys) b (subst (λ z. Has z.blocks b) e k)) (λ q. in_union_right o y.blocks (blocks_of_all ys) b (among b n ys q k)) h

  -- a block of the stretch that was not there before came in on the stretch
  came_in : (h : ℕ) (t : BlockSet) (ys : List (Row D)) (b : Block) → Follow h t ys → Has (blocks_of_all ys) b → ¬ (Has t b) → (x : Row D) × IsOneOf ys x × Has x.blocks b × (x.base < b.birth)
  came_in h t [] b e k out = absurd (no-empty o b k)
  came_in h t (y ∷ ys) b e k out = ⊎_elim here (λ r. ⊎_elim here (λ no. let q = came_in y.group y.blocks ys b e.3 r no in (q.0, inr q.1, q.2, q.3)) (Has-cases o y.blocks b)) (from_union o y.blocks (blocks_of_all ys) b k)
    where
      here : Has y.blocks b → (x : Row D) × IsOneOf (y ∷ ys) x × Has x.blocks b × (x.base < b.birth)
      here r = (y, inl refl, r, ⊎_elim (λ (lt : y.base < b.birth). lt) (λ (le : b.birth ≤ y.base). absurd (out (subst (λ t. Has t b) e.1 (e.2.kept b r le)))) (cases_lt y.base b.birth))

  base_rises : (h : ℕ) (t : BlockSet) (ys : List (Row D)) (x : Row D) → Follow h t ys → IsOneOf ys x → h ≤ x.base
  base_rises h t [] x e k = absurd k
  base_rises h t (y ∷ ys) x e k = ⊎_elim
      (λ (is : x ≡ y). let p : x.base ≡ y.base = ap (λ z. z.base) is in omega (arith, e.0))
      (λ r. let l = base_rises y.group y.blocks ys x e.3 r in let f = e.2.falls in omega (arith, e.0))
      k

  module _ (w : Rows D) (facts : Facts D w) where
    -- `used` of a snapshot: what it has and no other dataset
    pub used_of_snapshot : (S : D) (s : Row D) (xs : List (Row D)) (others : BlockSet) → w S s
        → ((e : D) (n : Row D) → w e n → n.prev ≡ Some S → IsOneOf xs n)
        → ((x : Row D) → IsOneOf xs x → (e : D) × w e x × (x.prev ≡ Some S))
        → IsUnion D (Outside D w (λ d. d ≡ S)) others
        → difference s.blocks others ≡ after s.base (dead_in_all s.blocks xs)
    used_of_snapshot S s xs others h complete are all = same_members o _ _
        (λ b k.
        let q = from_difference o s.blocks others b k in
        in_after s.base (dead_in_all s.blocks xs) b
        (in_all_to s.blocks xs b q.0 (λ x r.
        let y = are x r in
        let p = prior_is w facts y.0 S x s y.1 h y.2 in
        in_dead x (facts.sound y.0 x y.1) b (subst (λ t. Has t b) p.1 q.0)
        (λ in_x. q.1 (all.within y.0 x b (not_next y.0 x y.1 y.2, y.1) in_x))))
        (⊎_elim (λ (lt : s.base < b.birth). lt)
        (λ (le : b.birth ≤ s.base).
        let r = stands_before w facts s.prev s.base s.below b (facts.prior S s h) ((facts.sound S s h).kept b q.0 le) in
        absurd (q.1 (all.within r.0 r.1 b (not_before r.0 r.3, r.2) r.5)))
        (cases_lt s.base b.birth)))
        (λ b k.
        let q = from_after s.base (dead_in_all s.blocks xs) b k in
        let r = in_all_from s.blocks xs b q.0 in
        in_difference o s.blocks others b r.0 (λ in_others.
        let y = all.reached b in_others in
        y.2.0 (alone w facts S s b h r.0 q.1
        (λ e n in_w prev_is in_n. (from_dead n (facts.sound e n in_w) b (r.1 n (complete e n in_w prev_is))).1 in_n)
        y.0 y.1 y.2.1 y.3)))
      where
        -- groups fall, so S is neither next after itself nor before itself
        not_next : (e : D) (x : Row D) → w e x → x.prev ≡ Some S → ¬ (e ≡ S)
        not_next e x in_w prev_is is =
            let p = prior_is w facts e S x s in_w h prev_is in
            let same : x ≡ s = facts.one S x s (subst (λ d. w d x) is in_w) h in
            let f = (facts.sound e x in_w).falls in
            let g : x.group ≡ s.group = ap (λ y. y.group) same in
            absurd (omega (arith, p.0))

        not_before : (e : D) → s.prev ≡ Some e → ¬ (e ≡ S)
        not_before e prev_is is = not_next S s h (prev_is ∙ ap Some is) refl

    -- what would be freed: the datasets of a stretch go, and those next after them are of the stretch or its newest
    module _ (In : D → Type 0) (g : ℕ) (s : BlockSet) (xs : List (Row D)) (f : Follow g s xs) (born : AreBornBy g s) (last : Row D)
        (newest_is : newest s xs ≡ last.blocks)
        -- the datasets of the stretch: those that go, and the last, which stays
        (go_or_last : (x : Row D) → IsOneOf xs x → ((d : D) × In d × w d x) ⊎ (x ≡ last))
        (goes : (d : D) (n : Row D) → In d → w d n → IsOneOf xs n)
        (last_stays : (E : D) × (¬ (In E)) × w E last)
        (nexts : (p e : D) (n : Row D) → In p → w e n → n.prev ≡ Some p → In e ⊎ (n ≡ last))
        -- the one before the stretch stays
        (before_stays : (b : Block) → Has s b → (d : D) × (n : Row D) × (¬ (In d)) × w d n × Has n.blocks b) where
      pub would_free : (u u' : BlockSet) → IsUnion D w u → IsUnion D (Outside D w In) u' → difference u u' ≡ between s xs
      would_free u u' all all' = same_members o _ _
          (λ b k.
          let q = from_difference o u u' b k in
          let r = all.reached b q.0 in
          let out_s : ¬ (Has s b) = λ in_s. let y = before_stays b in_s in q.1 (all'.within y.0 y.1 b (y.2, y.3) y.4) in
          let out_last : ¬ (Has (newest s xs) b) = λ in_last. q.1 (all'.within last_stays.0 last b (last_stays.1, last_stays.2) (subst (λ t. Has t b) newest_is in_last)) in
          in_difference o _ _ b (in_difference o _ _ b (⊎_elim (λ z. z) (λ no. absurd (q.1 (all'.within r.0 r.1 b (no, r.2) r.3))) (is_inside b r.0 r.1 r.2 r.3)) out_last) out_s)
          (λ b k.
          let q = from_difference o (difference (blocks_of_all xs) (newest s xs)) s b k in
          let r = from_difference o (blocks_of_all xs) (newest s xs) b q.0 in
          let c = came_in g s xs b f r.0 q.1 in
          let place = go_or_last c.0 c.1 in
          ⊎_elim
          (λ y. in_difference o u u' b (all.within y.0 c.0 b y.2 c.2) (λ in_u'.
          let z = all'.reached b in_u' in
          z.2.0 (stays_inside w facts In y.0 c.0 b y.1 y.2 c.2 c.3
          (λ p e n in_p in_w prev_is in_n. ⊎_elim (λ i. i) (λ is. absurd (r.1 (subst (λ t. Has t b) (sym newest_is) (subst (λ x. Has x.blocks b) is in_n)))) (nexts p e n in_p in_w prev_is))
          z.0 z.1 z.2.1 z.3)))
          (λ is. absurd (r.1 (subst (λ t. Has t b) (sym newest_is) (subst (λ x. Has x.blocks b) is c.2))))
          place)
        where
          is_inside : (b : Block) (d : D) (n : Row D) → w d n → Has n.blocks b → Has (blocks_of_all xs) b ⊎ ¬ (In d)
          is_inside b d n h has = ⊎_elim inl (λ no. inr (λ is_in. no (among b n xs (goes d n is_in h) has))) (Has-cases o (blocks_of_all xs) b)

  -- what a file system has and its origin has not
  abbrev pub owned : Stretch D → BlockSet
  owned f = difference (blocks_of_all (datasets f.rows)) f.origin

  len_owned : (f : Stretch D) → len (owned f) ≡ used_by_dataset f + used_by_snapshots f
  len_owned f = len-two_parts o (owned f) (difference (newest f.origin (datasets f.rows)) f.origin) (between f.origin (datasets f.rows))
      (λ b h.
      let k = from_difference o (newest f.origin (datasets f.rows)) f.origin b h in
      in_difference o _ _ b (⊎_elim (λ q. absurd (k.1 q)) (λ q. q) (newest_among f.origin (datasets f.rows) b k.0)) k.1)
      (λ b h.
      let k = from_difference o (difference (blocks_of_all (datasets f.rows)) (newest f.origin (datasets f.rows))) f.origin b h in
      in_difference o _ _ b (from_difference o (blocks_of_all (datasets f.rows)) (newest f.origin (datasets f.rows)) b k.0).0 k.1)
      (λ b h g.
      let k = from_difference o (difference (blocks_of_all (datasets f.rows)) (newest f.origin (datasets f.rows))) f.origin b g in
      (from_difference o (blocks_of_all (datasets f.rows)) (newest f.origin (datasets f.rows)) b k.0).1 (from_difference o (newest f.origin (datasets f.rows)) f.origin b h).0)
      (λ b h.
      let k = from_difference o (blocks_of_all (datasets f.rows)) f.origin b h in
      ⊎_elim (λ q. inl (in_difference o _ _ b q k.1)) (λ q. inr (in_difference o _ _ b (in_difference o _ _ b k.0 q) k.1)) (Has-cases o (newest f.origin (datasets f.rows)) b))

  abbrev pub owned_by_all : List (Stretch D) → List BlockSet
  owned_by_all [] = []
  owned_by_all (f ∷ fs) = owned f ∷ owned_by_all fs

  sum_owned : (fs : List (Stretch D)) → sum_len (owned_by_all fs) ≡ used_by_all fs
  sum_owned [] = refl
  sum_owned (f ∷ fs) = let a = len_owned f in let b = sum_owned fs in omega arith

  module _ (w : Rows D) (facts : Facts D w) where
    named : (rs : List (D × Row D)) (x : Row D) → IsOneOf (datasets rs) x → (d : D) × IsAt rs d x
    named [] x h = absurd h
    named (r ∷ rs) x h = ⊎_elim (λ e. (r.0, inl (refl, e))) (λ k. let q = named rs x k in (q.0, inr q.1)) h

    listed : (rs : List (D × Row D)) (d : D) (x : Row D) → IsAt rs d x → IsOneOf (datasets rs) x
    listed [] d x h = absurd h
    listed (r ∷ rs) d x h = ⊎_elim (λ e. inl e.1) (λ k. inr (listed rs d x k)) h

    from_owned : (fs : List (Stretch D)) (b : Block) → AreStretches w fs → IsInOne (owned_by_all fs) b → (d : D) × (x : Row D) × w d x × IsInOneStretch fs d x × Has x.blocks b × (x.base < b.birth)
    from_owned [] b h k = absurd k
    from_owned (f ∷ fs) b h k = ⊎_elim
        (λ q.
        let r = from_difference o (blocks_of_all (datasets f.rows)) f.origin b q in
        let c = came_in f.group f.origin (datasets f.rows) b h.0 r.0 r.1 in
        let n = named f.rows c.0 c.1 in
        (n.0, c.0, h.2 n.0 c.0 n.1, inl n.1, c.2, c.3))
        (λ q. let r = from_owned fs b h.4 q in (r.0, r.1, r.2, inr r.3, r.4, r.5))
        k

    into_owned : (fs : List (Stretch D)) (b : Block) (d : D) (x : Row D) → AreStretches w fs → IsInOneStretch fs d x → Has x.blocks b → x.base < b.birth → IsInOne (owned_by_all fs) b
    into_owned [] b d x h k has lt = absurd k
    into_owned (f ∷ fs) b d x h k has lt = ⊎_elim
        (λ q. inl (in_difference o _ _ b (among b x (datasets f.rows) (listed f.rows d x q) has)
        (λ in_origin. let l = h.1 b in_origin in let m = base_rises f.group f.origin (datasets f.rows) x h.0 (listed f.rows d x q) in absurd (omega arith))))
        (λ q. inr (into_owned fs b d x h.4 q has lt))
        k

    owned_apart : (fs : List (Stretch D)) → AreStretches w fs → ArePairwiseDisjoint (owned_by_all fs)
    owned_apart [] h = tt
    owned_apart (f ∷ fs) h = (
      λ b k q.
          let r = from_difference o (blocks_of_all (datasets f.rows)) f.origin b k in
          let c = came_in f.group f.origin (datasets f.rows) b h.0 r.0 r.1 in
          let n = named f.rows c.0 c.1 in
          let t = from_owned fs b h.4 (from_union_all o (owned_by_all fs) b q) in
          let same : n.0 ≡ t.0 = facts.once n.0 t.0 c.0 t.1 b (h.2 n.0 c.0 n.1) t.2 c.2 t.4 c.3 t.5 in
          h.3 t.0 c.0 t.1 (subst (λ d. IsAt f.rows d c.0) same n.1) t.3,
      owned_apart fs h.4,
    )

    -- the blocks that datasets have, counted by file systems
    pub total_used : (fs : List (Stretch D)) (u : BlockSet) → AreStretches w fs → ((d : D) (n : Row D) → w d n → IsInOneStretch fs d n) → IsUnion D w u → used_by_all fs ≡ len u
    total_used fs u h complete all =
        sym (sum_owned fs)
        ∙ sym (len-union_all o (owned_by_all fs) (owned_apart fs h))
        ∙ ap len (same_members o (union_all (owned_by_all fs)) u
        (λ b k. let t = from_owned fs b h (from_union_all o (owned_by_all fs) b k) in all.within t.0 t.1 b t.2 t.4)
        (λ b k.
        let r = all.reached b k in
        let p = birthplace w facts r.0 r.1 b r.2 r.3 in
        in_union_all o (owned_by_all fs) b (into_owned fs b p.0 p.1 h (complete p.0 p.1 p.2) p.3 p.4)))

-- Each step keeps the facts, and what it loses.
use Rattle.std.proofs.Common.{◌≡◌, ℕ, ◌<◌, ◌≤◌, Option, Some, None, refl, sym, ap, subst, ◌∙◌, ◌⊎◌, inl, inr, ⊎_elim, arith}
use Rattle.std.proofs.lemmas.Bool.{cases_lt}
use Rattle.std.specs.FinSet.{difference, union}
use Rattle.world.specs.Sets.{Has}
use Rattle.world.specs.Blocks.{Block, BlockSet, block_order as o, after, upto}
use Rattle.world.specs.Lineage.{Row, Rows, IsPrior, IsLeaf, IsSound, Facts, IsUnion, Puts, Removes, Splices, spliced, went_on, Takes, Raises}
use Rattle.world.proofs.lists.SetCounts.{no-empty, same_members, Has-cases, in_difference, from_difference, in_union_left, in_union_right, from_union}
use Rattle.world.proofs.lineage.Lineage.{alone, stands_before, below_born, prior_is, in_dead, from_dead, in_upto, from_upto, in_after, from_after}

-- The deadlist after a splice: that of the one that goes, and the entries of the next that were born by the group before it.
module _ {D : Type 0} (s n : Row D) (sound_S : IsSound D s) (sound_E : IsSound D n) (group_is : s.group ≡ n.base) (blocks_are : s.blocks ≡ n.below)
    (born : (b : Block) → Has s.below b → b.birth ≤ s.base) where
  pub spliced_dead : union s.dead (upto s.base n.dead) ≡ difference s.below n.blocks
  spliced_dead = same_members o _ _
      (λ b h. ⊎_elim (from_S b) (from_E b) (from_union o s.dead (upto s.base n.dead) b h))
      (λ b h. let k = from_difference o s.below n.blocks b h in back b k.0 k.1 (Has-cases o s.blocks b))
    where
      from_S : (b : Block) → Has s.dead b → Has (difference s.below n.blocks) b
      from_S b h =
          let k = from_dead s sound_S b h in
          let l = born b k.0 in
          in_difference o s.below n.blocks b k.0 (λ in_n. k.1 (subst (λ t. Has t b) (sym blocks_are) (sound_E.kept b in_n (omega (arith, sound_S.falls, group_is)))))

      from_E : (b : Block) → Has (upto s.base n.dead) b → Has (difference s.below n.blocks) b
      from_E b h =
          let k = from_upto s.base n.dead b h in
          let q = from_dead n sound_E b k.0 in
          in_difference o s.below n.blocks b (sound_S.kept b (subst (λ t. Has t b) (sym blocks_are) q.0) k.1) q.1

      back : (b : Block) → Has s.below b → ¬ (Has n.blocks b) → Has s.blocks b ⊎ ¬ (Has s.blocks b) → Has (union s.dead (upto s.base n.dead)) b
      back b h k c = ⊎_elim
          (λ in_s. in_union_right o s.dead (upto s.base n.dead) b (in_upto s.base n.dead b (in_dead n sound_E b (subst (λ t. Has t b) blocks_are in_s) k) (born b h)))
          (λ out. in_union_left o s.dead (upto s.base n.dead) b (in_dead s sound_S b h out))
          c

module _ {D : Type 0} (same : (x y : D) → (x ≡ y) ⊎ ¬ (x ≡ y)) (w w' : Rows D) (facts : Facts D w) where
  -- removal of a snapshot with one dataset next after it
  module _ (S : D) (s : Row D) (E : D) (n : Row D) (step : Splices D w w' S s E n) where
    group_is : s.group ≡ n.base
    group_is = (prior_is w facts E S n s step.next step.before step.linked).0

    blocks_are : s.blocks ≡ n.below
    blocks_are = (prior_is w facts E S n s step.next step.before step.linked).1

    sound_S : IsSound D s
    sound_S = facts.sound S s step.before

    sound_E : IsSound D n
    sound_E = facts.sound E n step.next

    dead_is : union s.dead (upto s.base n.dead) ≡ difference s.below n.blocks
    dead_is = spliced_dead s n sound_S sound_E group_is blocks_are (λ b. below_born w facts S s b step.before)

    sound_spliced : IsSound D (spliced D s n)
    sound_spliced = record {
      born = sound_E.born;
      falls = omega (arith, sound_S.falls, sound_E.falls, group_is);
      kept = λ b h l. sound_S.kept b (subst (λ t. Has t b) (sym blocks_are) (sound_E.kept b h (omega (arith, sound_S.falls, group_is)))) l;
      gone = dead_is;
    }

    -- what stands before stays there
    prior_stays : (p : Option D) (g : ℕ) (t : BlockSet) → ¬ (p ≡ Some S) → IsPrior D w p g t → IsPrior D w' p g t
    prior_stays None g t ne h = h
    prior_stays (Some e) g t ne h = ⊎_elim
        (λ (is : e ≡ E). let m_is : h.0 ≡ n = facts.one E h.0 n (subst (λ x. w x h.0) is h.1) step.next in
        (spliced D s n, subst (λ x. w' x (spliced D s n)) (sym is) step.here, ap (λ m. m.group) (sym m_is) ∙ h.2, ap (λ m. m.blocks) (sym m_is) ∙ h.3))
        (λ (isnt : ¬ (e ≡ E)). (h.0, step.rest e h.0 isnt (λ q. ne (ap Some q)) h.1, h.2, h.3))
        (same e E)

    no_loop : ¬ (s.prev ≡ Some S)
    no_loop e = let q = prior_is w facts S S s s step.before step.before e in let f = sound_S.falls in absurd (omega (arith, q.0))

    pub splice_keeps : Facts D w'
    splice_keeps = record {
      one = λ d m k h g. one_of d m k (step.new d m h) (step.new d k g);
      sound = λ d m h. ⊎_elim (λ q. subst (IsSound D) (sym q.1) sound_spliced) (λ q. facts.sound d m q.2) (step.new d m h);
      prior = λ d m h. ⊎_elim
          (λ q. subst (λ x. IsPrior D w' x.prev x.base x.below) (sym q.1) (prior_stays s.prev s.base s.below no_loop (facts.prior S s step.before)))
          (λ q. prior_stays m.prev m.base m.below (λ e. q.0 (step.only d m q.2 e)) (facts.prior d m q.2))
          (step.new d m h);
      once = λ d e m k b h g in_m in_k lt lt'. once_of d e m k b in_m in_k lt lt' (step.new d m h) (step.new e k g);
    }
      where
        one_of : (d : D) (m k : Row D) → ((d ≡ E) × (m ≡ spliced D s n)) ⊎ ((¬ (d ≡ E)) × (¬ (d ≡ S)) × w d m) → ((d ≡ E) × (k ≡ spliced D s n)) ⊎ ((¬ (d ≡ E)) × (¬ (d ≡ S)) × w d k) → m ≡ k
        one_of d m k (inl a) (inl b) = a.1 ∙ sym b.1
        one_of d m k (inl a) (inr b) = absurd (b.0 a.0)
        one_of d m k (inr a) (inl b) = absurd (a.0 b.0)
        one_of d m k (inr a) (inr b) = facts.one d m k a.2 b.2

        -- a block that E brings in after the step and another dataset too
        with_E : (e : D) (k : Row D) (b : Block) → Has n.blocks b → Has k.blocks b → s.base < b.birth → k.base < b.birth → ¬ (e ≡ E) → ¬ (e ≡ S) → w e k → ⊥
        with_E e k b in_n in_k lt lt' ne ns h = ⊎_elim
            (λ (l : n.base < b.birth). ne (facts.once e E k n b h step.next in_k in_n lt' l))
            (λ (l : b.birth ≤ n.base). ns (facts.once e S k s b h step.before in_k (subst (λ t. Has t b) (sym blocks_are) (sound_E.kept b in_n l)) lt' lt))
            (cases_lt n.base b.birth)

        once_of : (d e : D) (m k : Row D) (b : Block) → Has m.blocks b → Has k.blocks b → m.base < b.birth → k.base < b.birth
            → ((d ≡ E) × (m ≡ spliced D s n)) ⊎ ((¬ (d ≡ E)) × (¬ (d ≡ S)) × w d m) → ((e ≡ E) × (k ≡ spliced D s n)) ⊎ ((¬ (e ≡ E)) × (¬ (e ≡ S)) × w e k) → d ≡ e
        once_of d e m k b in_m in_k lt lt' (inl a) (inl c) = a.0 ∙ sym c.0
        once_of d e m k b in_m in_k lt lt' (inl a) (inr c) =
            absurd (with_E e k b (subst (λ x. Has x.blocks b) a.1 in_m) in_k (subst (λ x. x.base < b.birth) a.1 lt) lt' c.0 c.1 c.2)
        once_of d e m k b in_m in_k lt lt' (inr a) (inl c) =
            absurd (with_E d m b (subst (λ x. Has x.blocks b) c.1 in_k) in_m (subst (λ x. x.base < b.birth) c.1 lt') lt a.0 a.1 a.2)
        once_of d e m k b in_m in_k lt lt' (inr a) (inr c) = facts.once d e m k b a.2 c.2 in_m in_k lt lt'

    pub splice_loses : (u u' : BlockSet) → IsUnion D w u → IsUnion D w' u' → after s.base n.dead ≡ difference u u'
    splice_loses u u' all all' = same_members o _ _
        (λ b h.
        let k = from_after s.base n.dead b h in
        let q = from_dead n sound_E b k.0 in
        let in_s = subst (λ t. Has t b) (sym blocks_are) q.0 in
        in_difference o u u' b (all.within S s b step.before in_s) (λ in_u'. not_left b in_s k.1 q.1 (all'.reached b in_u')))
        (λ b h.
        let k = from_difference o u u' b h in
        let r = all.reached b k.0 in
        lost b k.1 r.0 r.1 r.2 r.3 (same r.0 E) (same r.0 S))
      where
        not_left : (b : Block) → Has s.blocks b → s.base < b.birth → ¬ (Has n.blocks b) → (d : D) × (m : Row D) × w' d m × Has m.blocks b → ⊥
        not_left b in_s lt out r = ⊎_elim
            (λ q. out (subst (λ x. Has x.blocks b) q.1 r.3))
            (λ q. q.1 (alone w facts S s b step.before in_s lt
            (λ e m h is has. let e_is = step.only e m h is in out (subst (λ x. Has x.blocks b) (facts.one E m n (subst (λ x. w x m) e_is h) step.next) has))
            r.0 r.1 q.2 r.3))
            (step.new r.0 r.1 r.2)

        lost : (b : Block) → ¬ (Has u' b) → (d : D) (m : Row D) → w d m → Has m.blocks b → (d ≡ E) ⊎ ¬ (d ≡ E) → (d ≡ S) ⊎ ¬ (d ≡ S) → Has (after s.base n.dead) b
        lost b out d m h has (inl e) c =
            absurd (out (all'.within E (spliced D s n) b step.here (subst (λ x. Has x.blocks b) (facts.one E m n (subst (λ x. w x m) e h) step.next) has)))
        lost b out d m h has (inr ne) (inr ns) = absurd (out (all'.within d m b (step.rest d m ne ns h) has))
        lost b out d m h has (inr ne) (inl is) =
            let m_is : m ≡ s = facts.one S m s (subst (λ x. w x m) is h) step.before in
            let in_s : Has s.blocks b = subst (λ x. Has x.blocks b) m_is has in
            let out_n : ¬ (Has n.blocks b) = λ g. out (all'.within E (spliced D s n) b step.here g) in
            in_after s.base n.dead b (in_dead n sound_E b (subst (λ t. Has t b) blocks_are in_s) out_n)
            (⊎_elim (λ (lt : s.base < b.birth). lt)
            (λ (le : b.birth ≤ s.base).
            let r = stands_before w' splice_keeps s.prev s.base s.below b (prior_stays s.prev s.base s.below no_loop (facts.prior S s step.before)) (sound_S.kept b in_s le) in
            absurd (out (all'.within r.0 r.1 b r.2 r.5)))
            (cases_lt s.base b.birth))

  -- removal of a dataset that nothing comes after
  module _ (d : D) (n : Row D) (in_w : w d n) (leaf : IsLeaf D w d) (step : Removes D w w' d) where
    prior_left : (p : Option D) (g : ℕ) (t : BlockSet) → ¬ (p ≡ Some d) → IsPrior D w p g t → IsPrior D w' p g t
    prior_left None g t ne h = h
    prior_left (Some e) g t ne h = (h.0, step.rest e h.0 (λ q. ne (ap Some q)) h.1, h.2, h.3)

    pub remove_keeps : Facts D w'
    remove_keeps = record {
      one = λ e m k h g. facts.one e m k (step.new e m h).1 (step.new e k g).1;
      sound = λ e m h. facts.sound e m (step.new e m h).1;
      prior = λ e m h. let q = step.new e m h in prior_left m.prev m.base m.below (leaf e m q.1) (facts.prior e m q.1);
      once = λ e f m k b h g. facts.once e f m k b (step.new e m h).1 (step.new f k g).1;
    }

    pub remove_loses : (u u' : BlockSet) → IsUnion D w u → IsUnion D w' u' → after n.base n.blocks ≡ difference u u'
    remove_loses u u' all all' = same_members o _ _
        (λ b h.
        let k = from_after n.base n.blocks b h in
        in_difference o u u' b (all.within d n b in_w k.0) (λ in_u'.
        let r = all'.reached b in_u' in
        let q = step.new r.0 r.1 r.2 in
        q.0 (alone w facts d n b in_w k.0 k.1 (λ e m h is has. leaf e m h is) r.0 r.1 q.1 r.3)))
        (λ b h.
        let k = from_difference o u u' b h in
        let r = all.reached b k.0 in
        lost b k.1 r.0 r.1 r.2 r.3 (same r.0 d))
      where
        lost : (b : Block) → ¬ (Has u' b) → (e : D) (m : Row D) → w e m → Has m.blocks b → (e ≡ d) ⊎ ¬ (e ≡ d) → Has (after n.base n.blocks) b
        lost b out e m h has (inr ne) = absurd (out (all'.within e m b (step.rest e m ne h) has))
        lost b out e m h has (inl is) =
            let in_n : Has n.blocks b = subst (λ x. Has x.blocks b) (facts.one d m n (subst (λ x. w x m) is h) in_w) has in
            in_after n.base n.blocks b in_n
            (⊎_elim (λ (lt : n.base < b.birth). lt)
            (λ (le : b.birth ≤ n.base).
            let r = stands_before w' remove_keeps n.prev n.base n.below b (prior_left n.prev n.base n.below (leaf d n in_w) (facts.prior d n in_w)) ((facts.sound d n in_w).kept b in_n le) in
            absurd (out (all'.within r.0 r.1 b r.2 r.5)))
            (cases_lt n.base b.birth))

  -- what stands before another stays, where d is made or changed
  pub prior_kept : (d : D) (n : Row D) → Puts D w w' d n → (p : Option D) (g : ℕ) (t : BlockSet) → ¬ (p ≡ Some d) → IsPrior D w p g t → IsPrior D w' p g t
  prior_kept d n step None g t ne h = h
  prior_kept d n step (Some e) g t ne h = (h.0, step.rest e h.0 (λ q. ne (ap Some q)) h.1, h.2, h.3)

  -- a dataset that nothing comes after is made or changed
  module _ (d : D) (n : Row D) (step : Puts D w w' d n) (leaf : IsLeaf D w d) (sound : IsSound D n)
      (ready : IsPrior D w' n.prev n.base n.below)
      (brings : (b : Block) → Has n.blocks b → n.base < b.birth → (e : D) (m : Row D) → ¬ (e ≡ d) → w e m → ¬ (Has m.blocks b)) where
    pub put_keeps : Facts D w'
    put_keeps = record {
      one = λ e m k h g. one_of e m k (step.new e m h) (step.new e k g);
      sound = λ e m h. ⊎_elim (λ q. subst (IsSound D) (sym q.1) sound) (λ q. facts.sound e m q.1) (step.new e m h);
      prior = λ e m h. ⊎_elim
          (λ q. subst (λ x. IsPrior D w' x.prev x.base x.below) (sym q.1) ready)
          (λ q. prior_kept d n step m.prev m.base m.below (leaf e m q.1) (facts.prior e m q.1))
          (step.new e m h);
      once = λ e f m k b h g in_m in_k lt lt'. once_of e f m k b in_m in_k lt lt' (step.new e m h) (step.new f k g);
    }
      where
        one_of : (e : D) (m k : Row D) → ((e ≡ d) × (m ≡ n)) ⊎ ((¬ (e ≡ d)) × w e m) → ((e ≡ d) × (k ≡ n)) ⊎ ((¬ (e ≡ d)) × w e k) → m ≡ k
        one_of e m k (inl a) (inl b) = a.1 ∙ sym b.1
        one_of e m k (inl a) (inr b) = absurd (b.0 a.0)
        one_of e m k (inr a) (inl b) = absurd (a.0 b.0)
        one_of e m k (inr a) (inr b) = facts.one e m k a.1 b.1

        once_of : (e f : D) (m k : Row D) (b : Block) → Has m.blocks b → Has k.blocks b → m.base < b.birth → k.base < b.birth
            → ((e ≡ d) × (m ≡ n)) ⊎ ((¬ (e ≡ d)) × w e m) → ((f ≡ d) × (k ≡ n)) ⊎ ((¬ (f ≡ d)) × w f k) → e ≡ f
        once_of e f m k b in_m in_k lt lt' (inl a) (inl c) = a.0 ∙ sym c.0
        once_of e f m k b in_m in_k lt lt' (inl a) (inr c) =
            absurd (brings b (subst (λ x. Has x.blocks b) a.1 in_m) (subst (λ x. x.base < b.birth) a.1 lt) f k c.0 c.1 in_k)
        once_of e f m k b in_m in_k lt lt' (inr a) (inl c) =
            absurd (brings b (subst (λ x. Has x.blocks b) c.1 in_k) (subst (λ x. x.base < b.birth) c.1 lt') e m a.0 a.1 in_m)
        once_of e f m k b in_m in_k lt lt' (inr a) (inr c) = facts.once e f m k b a.1 c.1 in_m in_k lt lt'

    -- what a change of d loses: what d alone had, and has no more
    pub put_loses : (l : Row D) → w d l → l.base ≡ n.base → l.below ≡ n.below → (u u' : BlockSet) → IsUnion D w u → IsUnion D w' u'
        → difference (after l.base l.blocks) n.blocks ≡ difference u u'
    put_loses l in_w base_is below_is u u' all all' = same_members o _ _
        (λ b h.
        let q = from_difference o (after l.base l.blocks) n.blocks b h in
        let k = from_after l.base l.blocks b q.0 in
        in_difference o u u' b (all.within d l b in_w k.0) (λ in_u'. not_left b k.0 k.1 q.1 (all'.reached b in_u')))
        (λ b h.
        let k = from_difference o u u' b h in
        let r = all.reached b k.0 in
        lost b k.1 r.0 r.1 r.2 r.3 (same r.0 d))
      where
        not_left : (b : Block) → Has l.blocks b → l.base < b.birth → ¬ (Has n.blocks b) → (e : D) × (m : Row D) × w' e m × Has m.blocks b → ⊥
        not_left b in_l lt out r = ⊎_elim
            (λ q. out (subst (λ x. Has x.blocks b) q.1 r.3))
            (λ q. q.0 (alone w facts d l b in_w in_l lt (λ e m h is has. leaf e m h is) r.0 r.1 q.1 r.3))
            (step.new r.0 r.1 r.2)

        lost : (b : Block) → ¬ (Has u' b) → (e : D) (m : Row D) → w e m → Has m.blocks b → (e ≡ d) ⊎ ¬ (e ≡ d) → Has (difference (after l.base l.blocks) n.blocks) b
        lost b out e m h has (inr ne) = absurd (out (all'.within e m b (step.rest e m ne h) has))
        lost b out e m h has (inl is) =
            let in_l : Has l.blocks b = subst (λ x. Has x.blocks b) (facts.one d m l (subst (λ x. w x m) is h) in_w) has in
            let born : l.base < b.birth = ⊎_elim (λ (lt : l.base < b.birth). lt)
            (λ (le : b.birth ≤ l.base).
            let in_below = subst (λ t. Has t b) below_is ((facts.sound d l in_w).kept b in_l le) in
            let r = stands_before w' put_keeps n.prev n.base n.below b ready in_below in
            absurd (out (all'.within r.0 r.1 b r.2 r.5)))
            (cases_lt l.base b.birth) in
            in_difference o (after l.base l.blocks) n.blocks b (in_after l.base l.blocks b in_l born) (λ g. out (all'.within d n b step.here g))

  -- a block that a leaf alone brought in is in no other dataset
  pub own_of_leaf : (d : D) (l : Row D) → w d l → IsLeaf D w d → (b : Block) → Has l.blocks b → l.base < b.birth → (e : D) (m : Row D) → ¬ (e ≡ d) → w e m → ¬ (Has m.blocks b)
  own_of_leaf d l h leaf b has lt e m ne k in_m = ne (alone w facts d l b h has lt (λ f x i is _. leaf f x i is) e m k in_m)

  -- a snapshot is taken
  module _ (L : D) (n : Row D) (S : D) (g h : ℕ) (step : Takes D w w' L n S g h) where
    apart : ¬ (L ≡ S)
    apart e = step.fresh n (subst (λ x. w x n) e step.live)

    prior_held : (p : Option D) (k : ℕ) (t : BlockSet) → ¬ (p ≡ Some L) → IsPrior D w p k t → IsPrior D w' p k t
    prior_held None k t ne q = q
    prior_held (Some e) k t ne q = (q.0, step.rest e q.0 (λ r. ne (ap Some r)) q.1, q.2, q.3)

    sound_went_on : IsSound D (went_on D n S g h)
    sound_went_on = record {
      born = λ b q. let c = step.closed b q in let e = step.opens in omega arith;
      falls = step.opens;
      kept = λ b q l. q;
      gone = same_members o _ _ (λ b q. absurd (no-empty o b q)) (λ b q. let k = from_difference o n.blocks n.blocks b q in absurd (k.1 k.0));
    }

    sound_snapped : IsSound D (record n { group = g })
    sound_snapped = let f = facts.sound L n step.live in record { born = step.closed; falls = step.above; kept = f.kept; gone = f.gone }

    abbrev Case : D → Row D → Type 0
    Case e m = ((e ≡ L) × (m ≡ went_on D n S g h)) ⊎ ((e ≡ S) × (m ≡ record n { group = g })) ⊎ ((¬ (e ≡ L)) × (¬ (e ≡ S)) × w e m)

    pub take_keeps : Facts D w'
    take_keeps = record {
      one = λ e m k p q. one_of e m k (step.new e m p) (step.new e k q);
      sound = λ e m p. sound_of e m (step.new e m p);
      prior = λ e m p. prior_of e m (step.new e m p);
      once = λ e f m k b p q in_m in_k lt lt'. once_of e f m k b in_m in_k lt lt' (step.new e m p) (step.new f k q);
    }
      where
        one_of : (e : D) (m k : Row D) → Case e m → Case e k → m ≡ k
        one_of e m k (inl a) (inl b) = a.1 ∙ sym b.1
        one_of e m k (inl a) (inr (inl b)) = absurd (apart (sym a.0 ∙ b.0))
        one_of e m k (inl a) (inr (inr b)) = absurd (b.0 a.0)
        one_of e m k (inr (inl a)) (inl b) = absurd (apart (sym b.0 ∙ a.0))
        one_of e m k (inr (inl a)) (inr (inl b)) = a.1 ∙ sym b.1
        one_of e m k (inr (inl a)) (inr (inr b)) = absurd (b.1 a.0)
        one_of e m k (inr (inr a)) (inl b) = absurd (a.0 b.0)
        one_of e m k (inr (inr a)) (inr (inl b)) = absurd (a.1 b.0)
        one_of e m k (inr (inr a)) (inr (inr b)) = facts.one e m k a.2 b.2

        sound_of : (e : D) (m : Row D) → Case e m → IsSound D m
        sound_of e m (inl a) = subst (IsSound D) (sym a.1) sound_went_on
        sound_of e m (inr (inl a)) = subst (IsSound D) (sym a.1) sound_snapped
        sound_of e m (inr (inr a)) = facts.sound e m a.2

        prior_of : (e : D) (m : Row D) → Case e m → IsPrior D w' m.prev m.base m.below
        prior_of e m (inl a) = subst (λ x. IsPrior D w' x.prev x.base x.below) (sym a.1) (record n { group = g }, step.taken, refl, refl)
        prior_of e m (inr (inl a)) = subst (λ x. IsPrior D w' x.prev x.base x.below) (sym a.1) (prior_held n.prev n.base n.below (step.leaf L n step.live) (facts.prior L n step.live))
        prior_of e m (inr (inr a)) = prior_held m.prev m.base m.below (step.leaf e m a.2) (facts.prior e m a.2)

        -- the live dataset that went on brings nothing in
        brings_none : (m : Row D) (b : Block) → m ≡ went_on D n S g h → Has m.blocks b → m.base < b.birth → ⊥
        brings_none m b e has lt =
            let c = step.closed b (subst (λ x. Has x.blocks b) e has) in
            let l : g < b.birth = subst (λ x. x.base < b.birth) e lt in
            absurd (omega arith)

        once_of : (e f : D) (m k : Row D) (b : Block) → Has m.blocks b → Has k.blocks b → m.base < b.birth → k.base < b.birth → Case e m → Case f k → e ≡ f
        once_of e f m k b in_m in_k lt lt' (inl a) c = absurd (brings_none m b a.1 in_m lt)
        once_of e f m k b in_m in_k lt lt' (inr a) (inl c) = absurd (brings_none k b c.1 in_k lt')
        once_of e f m k b in_m in_k lt lt' (inr (inl a)) (inr (inl c)) = a.0 ∙ sym c.0
        once_of e f m k b in_m in_k lt lt' (inr (inl a)) (inr (inr c)) =
            absurd (c.0 (facts.once f L k n b c.2 step.live in_k (subst (λ x. Has x.blocks b) a.1 in_m) lt' (subst (λ x. x.base < b.birth) a.1 lt)))
        once_of e f m k b in_m in_k lt lt' (inr (inr a)) (inr (inl c)) =
            absurd (a.0 (facts.once e L m n b a.2 step.live in_m (subst (λ x. Has x.blocks b) c.1 in_k) lt (subst (λ x. x.base < b.birth) c.1 lt')))
        once_of e f m k b in_m in_k lt lt' (inr (inr a)) (inr (inr c)) = facts.once e f m k b a.2 c.2 in_m in_k lt lt'

    pub take_loses_none : (u u' : BlockSet) → IsUnion D w u → IsUnion D w' u' → u' ≡ u
    take_loses_none u u' all all' = same_members o _ _
        (λ b p. let r = all'.reached b p in ⊎_elim
        (λ a. all.within L n b step.live (subst (λ x. Has x.blocks b) a.1 r.3))
        (⊎_elim (λ a. all.within L n b step.live (subst (λ x. Has x.blocks b) a.1 r.3)) (λ a. all.within r.0 r.1 b a.2 r.3))
        (step.new r.0 r.1 r.2))
        (λ b p. let r = all.reached b p in ⊎_elim
        (λ is. all'.within S (record n { group = g }) b step.taken (subst (λ x. Has x.blocks b) (facts.one L r.1 n (subst (λ x. w x r.1) is r.2) step.live) r.3))
        (λ isnt. all'.within r.0 r.1 b (step.rest r.0 r.1 isnt r.2) r.3)
        (same r.0 L))

  -- the open group goes up
  module _ (step : Raises D w w') where
    pub raise_keeps : Facts D w'
    raise_keeps = record {
      one = step.one;
      sound = λ e m h. let q = step.new e m h in let f = facts.sound e q.0 q.1 in subst (IsSound D) (sym q.2) (record {
        born = λ b k. let c = f.born b k in let l = q.3 in omega arith;
        falls = let c = f.falls in let l = q.3 in omega arith;
        kept = f.kept;
        gone = f.gone;
      });
      prior = λ e m h. let q = step.new e m h in subst (λ x. IsPrior D w' x.prev x.base x.below) (sym q.2) (up e q.0 q.1 q.0.prev q.0.base q.0.below refl (facts.prior e q.0 q.1));
      once = λ e f m k b h g in_m in_k lt lt'.
          let q = step.new e m h in let r = step.new f k g in
          facts.once e f q.0 r.0 b q.1 r.1 (subst (λ x. Has x.blocks b) q.2 in_m) (subst (λ x. Has x.blocks b) r.2 in_k) (subst (λ x. x.base < b.birth) q.2 lt) (subst (λ x. x.base < b.birth) r.2 lt');
    }
      where
        up : (e : D) (n : Row D) → w e n → (p : Option D) (g : ℕ) (t : BlockSet) → n.prev ≡ p → IsPrior D w p g t → IsPrior D w' p g t
        up e n h None g t is q = q
        up e n h (Some f) g t is q = (q.0, step.rest f e q.0 n q.1 h is, q.2, q.3)

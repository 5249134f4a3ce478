-- A snapshot without a clone is removed: the world changes by a splice.
use Rattle.std.proofs.Common.{◌≡◌, ℕ, ◌<◌, ◌≤◌, List, [], ◌∷◌, ◌++◌, Option, Some, None, refl, sym, ap, subst, ◌∙◌, ◌⊎◌, ◌↔◌, inl, inr, ⊎_elim, arith}
use Rattle.std.specs.FinSet.{difference, union}
use Rattle.world.specs.Blocks.{BlockSet, upto, after}
use Rattle.world.specs.Lineage.{Row, IsSound, Splices, spliced}
use Rattle.world.specs.Shapes.{Name, name_order, SnapId, Dataset, SnapShape, Shape, Shapes, Before, before_next, before_live, row, IsAmong, HasSnapshot, Starts, IsSnapRow, IsTail, IsRow, lineages, IsOneToAnId, IsClosed, IsGood, Drops, RemoveIsJoin}
use Rattle.model.specs.World.{Live, Snapped}
use Rattle.world.proofs.lists.Maps.{key_cases}
use Rattle.world.proofs.lineage.Lineage.{below_born, prior_is}
use Rattle.world.proofs.lineage.Steps.{spliced_dead, splice_keeps, splice_loses}
use Rattle.world.proofs.lineage.Shapes.{the_system, among_left, among_right, among_either, tail_left, tail_right, tail_either}
use Rattle.world.proofs.lineage.Replace.{same_snap, same_some, prev_of_row, one_to_an_id, one_start, Elsewhere, from_old, to_old, rows_apart, from_new, to_new, to_new_else, dataset_cases}

-- the oldest of the rows from some snapshots on, and those after it
abbrev pub first_id : Name → List SnapShape → Dataset
first_id name [] = Live name
first_id name (e ∷ es) = Snapped e.id

abbrev pub first_row : ℕ → BlockSet → Before → List SnapShape → Row Dataset
first_row g live q [] = row g q live
first_row g live q (e ∷ es) = row e.id.group q e.blocks

abbrev pub IsLater : ℕ → Name → BlockSet → List SnapShape → Dataset → Row Dataset → Type 0
IsLater g name live [] d n = ⊥
IsLater g name live (e ∷ es) d n = IsTail g name live (before_next e) es d n

pub tail_first : (g : ℕ) (name : Name) (live : BlockSet) (q : Before) (ss : List SnapShape) → IsTail g name live q ss (first_id name ss) (first_row g live q ss)
tail_first g name live q [] = (refl, refl)
tail_first g name live q (e ∷ es) = inl (refl, refl)

pub tail_split : (g : ℕ) (name : Name) (live : BlockSet) (q : Before) (ss : List SnapShape) (d : Dataset) (n : Row Dataset) → IsTail g name live q ss d n → ((d ≡ first_id name ss) × (n ≡ first_row g live q ss)) ⊎ IsLater g name live ss d n
tail_split g name live q [] d n h = inl h
tail_split g name live q (e ∷ es) d n h = h

pub later_in : (g : ℕ) (name : Name) (live : BlockSet) (q : Before) (ss : List SnapShape) (d : Dataset) (n : Row Dataset) → IsLater g name live ss d n → IsTail g name live q ss d n
later_in g name live q [] d n h = absurd h
later_in g name live q (e ∷ es) d n h = inr h

-- groups rise along the rows
module _ (g : ℕ) (name : Name) (live : BlockSet) where
  pub base_of_row : (q : Before) (ss : List SnapShape) → ((d : Dataset) (n : Row Dataset) → IsTail g name live q ss d n → IsSound Dataset n) → (d : Dataset) (n : Row Dataset) → IsTail g name live q ss d n → q.base ≤ n.base
  base_of_row q [] sound d n h = let e : n.base ≡ q.base = ap (λ x. x.base) h.1 in omega arith
  base_of_row q (x ∷ xs) sound d n h = ⊎_elim
      (λ (k : (d ≡ Snapped x.id) × (n ≡ row x.id.group q x.blocks)). let e : n.base ≡ q.base = ap (λ x. x.base) k.1 in omega arith)
      (λ k.
      let l = base_of_row (before_next x) xs (λ d n r. sound d n (inr r)) d n k in
      let f = (sound (Snapped x.id) (row x.id.group q x.blocks) (inl (refl, refl))).falls in
      omega arith)
      h

  pub base_up : (q : Before) (xs ys : List SnapShape) → ((d : Dataset) (n : Row Dataset) → IsTail g name live q (xs ++ ys) d n → IsSound Dataset n) → q.base ≤ (before_live q xs).base
  base_up q [] ys sound = omega arith
  base_up q (x ∷ xs) ys sound =
      let l = base_up (before_next x) xs ys (λ d n r. sound d n (inr r)) in
      let f = (sound (Snapped x.id) (row x.id.group q x.blocks) (inl (refl, refl))).falls in
      omega arith

  pub group_of_older : (q : Before) (xs ys : List SnapShape) → ((d : Dataset) (n : Row Dataset) → IsTail g name live q (xs ++ ys) d n → IsSound Dataset n) → (d : Dataset) (n : Row Dataset) → IsSnapRow q xs d n → n.group ≤ (before_live q xs).base
  group_of_older q [] ys sound d n h = absurd h
  group_of_older q (x ∷ xs) ys sound d n h = ⊎_elim
      (λ (k : (d ≡ Snapped x.id) × (n ≡ row x.id.group q x.blocks)).
      let e : n.group ≡ x.id.group = ap (λ x. x.group) k.1 in
      let l = base_up (before_next x) xs ys (λ d n r. sound d n (inr r)) in
      omega arith)
      (λ k. group_of_older (before_next x) xs ys (λ d n r. sound d n (inr r)) d n k)
      h

  pub base_of_later : (q : Before) (ss : List SnapShape) → ((d : Dataset) (n : Row Dataset) → IsTail g name live q ss d n → IsSound Dataset n) → (d : Dataset) (n : Row Dataset) → IsLater g name live ss d n → (first_row g live q ss).group ≤ n.base
  base_of_later q [] sound d n h = absurd h
  base_of_later q (e ∷ es) sound d n h = base_of_row (before_next e) es (λ d n r. sound d n (inr r)) d n h

  pub first_fields : (q : Before) (ss : List SnapShape) → ((first_row g live q ss).prev ≡ q.prev) × ((first_row g live q ss).base ≡ q.base) × ((first_row g live q ss).below ≡ q.below)
  first_fields q [] = (refl, refl, refl)
  first_fields q (e ∷ es) = (refl, refl, refl)

  -- the oldest row with something else before it
  first_moved : (q r : Before) (ss : List SnapShape) (dead : BlockSet) → dead ≡ difference r.below (first_row g live q ss).blocks
      → first_row g live r ss ≡ record (first_row g live q ss) { dead = dead; prev = r.prev; base = r.base; below = r.below }
  first_moved q r [] dead e = λ i. record { blocks = live; dead = sym e i; group = g; prev = r.prev; base = r.base; below = r.below }
  first_moved q r (x ∷ xs) dead e = λ i. record { blocks = x.blocks; dead = sym e i; group = x.id.group; prev = r.prev; base = r.base; below = r.below }

module _ (m : Shapes) (g : ℕ) (good : IsGood m g) (new : Shapes) (name : Name) (s : SnapShape) (p : Drops m new name s) where
  unique : IsOneToAnId m
  unique = one_to_an_id m g good

  pub q : Before
  q = (good.closed name p.system p.at).0

  st : Starts m p.system.origin q
  unfolding q
  st = (good.closed name p.system p.at).1

  abbrev f' : Shape
  f' = record p.system { snapshots = p.older ++ p.newer }

  abbrev m' : Shapes
  m' = new

  here' : new name ≡ Some (record p.system { snapshots = p.older ++ p.newer })
  here' = p.here

  there : (id : SnapId) (t : SnapShape) → ¬ (id ≡ s.id) → HasSnapshot m id t → HasSnapshot m' id t
  there id t ne (other, e, is, a, id_is) = ⊎_elim
      (λ (same : other ≡ name).
      let e_is = the_system m other name e p.system is p.at same in
      let a' = subst (λ l. IsAmong l t) (ap (λ x. x.snapshots) e_is ∙ p.snapshots_are) a in
      (name, f', here', ⊎_elim (λ k. among_left p.older p.newer t k) (⊎_elim (λ k. absurd (ne (sym id_is ∙ ap (λ x. x.id) k))) (λ k. among_right p.older p.newer t k)) (among_either p.older (s ∷ p.newer) t a'), id_is))
      (λ (no : ¬ (other ≡ name)). (other, e, p.others other no ∙ is, a, id_is))
      (key_cases name_order other name)

  among_more : (t : SnapShape) → IsAmong (p.older ++ p.newer) t → IsAmong p.system.snapshots t
  among_more t a = subst (λ l. IsAmong l t) (sym p.snapshots_are)
      (⊎_elim (λ k. among_left p.older (s ∷ p.newer) t k) (λ k. among_right p.older (s ∷ p.newer) t (inr k)) (among_either p.older p.newer t a))

  back : (id : SnapId) (t : SnapShape) → HasSnapshot m' id t → HasSnapshot m id t
  back id t (other, e, is, a, id_is) = ⊎_elim
      (λ (same : other ≡ name).
      let e_is = the_system m' other name e f' is here' same in
      (name, p.system, p.at, among_more t (subst (λ x. IsAmong x.snapshots t) e_is a), id_is))
      (λ (no : ¬ (other ≡ name)). (other, e, sym (p.others other no) ∙ is, a, id_is))
      (key_cases name_order other name)

  starts : (other : Name) (e : Shape) (r : Before) → m other ≡ Some e → Starts m e.origin r ↔ Starts m' e.origin r
  starts other e r is = go e.origin refl
    where
      go : (origin : Option SnapId) → e.origin ≡ origin → Starts m origin r ↔ Starts m' origin r
      go None i = (λ k. k, λ k. k)
      go (Some id) i = (λ k. (k.0, there id k.0 (λ same. p.no_clone other e is (i ∙ ap Some same)) k.1, k.2), λ k. (k.0, back id k.0 k.1, k.2))

  -- what stands before s, the row of s and that of the next
  abbrev pub qa : Before
  qa = before_live q p.older

  abbrev pub sD : Row Dataset
  sD = row s.id.group qa s.blocks

  abbrev pub E : Dataset
  E = first_id name p.newer

  abbrev pub nD : Row Dataset
  nD = first_row g p.system.live (before_next s) p.newer

  old_rows : (d : Dataset) (n : Row Dataset) → IsTail g name p.system.live q (p.older ++ s ∷ p.newer) d n → lineages m g d n
  old_rows d n r = (name, p.system, q, p.at, st, subst (λ l. IsTail g name p.system.live q l d n) (sym p.snapshots_are) r)

  sound_rows : (d : Dataset) (n : Row Dataset) → IsTail g name p.system.live q (p.older ++ s ∷ p.newer) d n → IsSound Dataset n
  sound_rows d n r = good.facts.sound d n (old_rows d n r)

  before_S : lineages m g (Snapped s.id) sD
  before_S = old_rows (Snapped s.id) sD (tail_right g name p.system.live q p.older (s ∷ p.newer) (Snapped s.id) sD (inl (refl, refl)))

  next_E : lineages m g E nD
  next_E = old_rows E nD (tail_right g name p.system.live q p.older (s ∷ p.newer) E nD (inr (tail_first g name p.system.live (before_next s) p.newer)))

  split_old : (d : Dataset) (n : Row Dataset) → lineages m g d n
      → (IsSnapRow q p.older d n ⊎ ((d ≡ Snapped s.id) × (n ≡ sD)) ⊎ ((d ≡ E) × (n ≡ nD)) ⊎ IsLater g name p.system.live p.newer d n) ⊎ Elsewhere m name g d n
  split_old d n h = ⊎_elim
      (λ (r, rs, k).
      let r_is = one_start m unique p.system.origin r q rs st in
      let k' = subst (λ l. IsTail g name p.system.live q l d n) p.snapshots_are (subst (λ x. IsRow g name p.system x d n) r_is k) in
      inl (⊎_elim inl (λ l. inr (⊎_elim inl (λ x. inr (tail_split g name p.system.live (before_next s) p.newer d n x)) l)) (tail_either g name p.system.live q p.older (s ∷ p.newer) d n k')))
      inr
      (from_old m name p.system p.at g d n h)

  -- groups
  older_low : (d : Dataset) (n : Row Dataset) → IsSnapRow q p.older d n → n.group ≤ qa.base
  older_low d n r = group_of_older g name p.system.live q p.older (s ∷ p.newer) sound_rows d n r

  later_high : (d : Dataset) (n : Row Dataset) → IsLater g name p.system.live p.newer d n → nD.group ≤ n.base
  later_high d n r = base_of_later g name p.system.live (before_next s) p.newer
      (λ d n k. sound_rows d n (tail_right g name p.system.live q p.older (s ∷ p.newer) d n (inr k))) d n r

  falls_S : qa.base < s.id.group
  falls_S = (good.facts.sound (Snapped s.id) sD before_S).falls

  falls_E : s.id.group < nD.group
  falls_E = let f = (good.facts.sound E nD next_E).falls in subst (λ x. x < nD.group) (first_fields g name p.system.live (before_next s) p.newer).1 f

  start_not_S : (other : Name) (e : Shape) (r : Before) → m other ≡ Some e → Starts m e.origin r → r.prev ≡ Some (Snapped s.id) → ⊥
  start_not_S other e r is k prev_is = go e.origin refl k
    where
      nothing : r.prev ≡ None → ⊥
      nothing i = cc

      go : (origin : Option SnapId) → e.origin ≡ origin → Starts m origin r → ⊥
      go None i k = nothing (ap (λ x. x.prev) k)
      go (Some id) i k = p.no_clone other e is (i ∙ ap Some (sym k.1.4 ∙ same_snap k.0.id s.id (same_some (Snapped k.0.id) (Snapped s.id) (ap (λ x. x.prev) (sym k.2) ∙ prev_is))))

  only_next : (d : Dataset) (n : Row Dataset) → lineages m g d n → n.prev ≡ Some (Snapped s.id) → d ≡ E
  only_next d n h e =
      let base_is = (prior_is (lineages m g) good.facts d (Snapped s.id) n sD h before_S e).0 in
      let f = (good.facts.sound d n h).falls in
      ⊎_elim
      (⊎_elim
      (λ r. let l = older_low d n r in absurd (omega (arith, base_is, falls_S)))
      (⊎_elim
      (λ r. let i : n.base ≡ qa.base = ap (λ x. x.base) r.1 in absurd (omega (arith, base_is, falls_S)))
      (⊎_elim (λ r. r.0) (λ r. let l = later_high d n r in absurd (omega (arith, base_is, falls_E))))))
      (λ (other, k, r, ne, is, rs, x). absurd (⊎_elim
      (λ i. start_not_S other k r is rs i)
      (λ (t, a, i). ne (good.placed other name k p.system t s is p.at a (subst (λ l. IsAmong l s) (sym p.snapshots_are) (among_right p.older (s ∷ p.newer) s (inl refl))) (same_snap t.id s.id (sym i))))
      (prev_of_row g other k.live r k.snapshots d (Snapped s.id) n x e)))
      (split_old d n h)

  moved : first_row g p.system.live qa p.newer ≡ spliced Dataset sD nD
  moved =
      let b = first_fields g name p.system.live (before_next s) p.newer in
      first_moved g name p.system.live (before_next s) qa p.newer (union sD.dead (upto sD.base nD.dead))
      (spliced_dead sD nD (good.facts.sound (Snapped s.id) sD before_S) (good.facts.sound E nD next_E) (sym b.1) (sym b.2) (λ x. below_born (lineages m g) good.facts (Snapped s.id) sD x before_S))

  new_row : (d : Dataset) (n : Row Dataset) → IsTail g name p.system.live q (p.older ++ p.newer) d n → lineages m' g d n
  new_row d n r = to_new m name p.system p.at g f' new p.here p.others refl starts q st d n r

  pub splices : Splices Dataset (lineages m g) (lineages m' g) (Snapped s.id) sD E nD
  splices = record {
    before = before_S;
    next = next_E;
    linked = (first_fields g name p.system.live (before_next s) p.newer).0;
    only = only_next;
    new = λ d n h. ⊎_elim
        (λ (r, rs, k).
        let r_is = one_start m unique p.system.origin r q rs st in
        ⊎_elim
        (λ l. inr (not_E_low d n l, not_S_low d n l, old_rows d n (tail_left g name p.system.live q p.older (s ∷ p.newer) d n l)))
        (λ l. ⊎_elim
        (λ x. inl (x.0, x.1 ∙ moved))
        (λ x. inr (not_E_high d n x, not_S_high d n x, later_old d n x))
        (tail_split g name p.system.live qa p.newer d n l))
        (tail_either g name p.system.live q p.older p.newer d n (subst (λ x. IsTail g name p.system.live x (p.older ++ p.newer) d n) r_is k)))
        (λ k. inr (
          (λ is. rows_apart m name p.system p.at g good.placed q E nD n (subst (λ l. IsTail g name p.system.live q l E nD) (sym p.snapshots_are) (tail_right g name p.system.live q p.older (s ∷ p.newer) E nD (inr (tail_first g name p.system.live (before_next s) p.newer)))) (subst (λ x. Elsewhere m name g x n) is k)),
          (λ is. rows_apart m name p.system p.at g good.placed q (Snapped s.id) sD n (subst (λ l. IsTail g name p.system.live q l (Snapped s.id) sD) (sym p.snapshots_are) (tail_right g name p.system.live q p.older (s ∷ p.newer) (Snapped s.id) sD (inl (refl, refl)))) (subst (λ x. Elsewhere m name g x n) is k)),
          to_old m name p.system p.at g d n k,
        ))
        (from_new m name p.system p.at g f' new p.here p.others refl starts d n h);
    here = new_row E (spliced Dataset sD nD) (subst (λ x. IsTail g name p.system.live q (p.older ++ p.newer) E x) moved (tail_right g name p.system.live q p.older p.newer E (first_row g p.system.live qa p.newer) (tail_first g name p.system.live qa p.newer)));
    rest = λ d n ne ns h. ⊎_elim
        (⊎_elim
        (λ r. new_row d n (tail_left g name p.system.live q p.older p.newer d n r))
        (⊎_elim (λ r. absurd (ns r.0))
        (⊎_elim (λ r. absurd (ne r.0)) (λ r. new_row d n (tail_right g name p.system.live q p.older p.newer d n (later_in g name p.system.live qa p.newer d n r))))))
        (λ k. to_new_else m name p.system p.at g f' new p.here p.others refl starts d n k)
        (split_old d n h);
  }
    where
      later_old : (d : Dataset) (n : Row Dataset) → IsLater g name p.system.live p.newer d n → lineages m g d n
      later_old d n x = old_rows d n (tail_right g name p.system.live q p.older (s ∷ p.newer) d n (inr (later_in g name p.system.live (before_next s) p.newer d n x)))

      older_old : (d : Dataset) (n : Row Dataset) → IsSnapRow q p.older d n → lineages m g d n
      older_old d n l = old_rows d n (tail_left g name p.system.live q p.older (s ∷ p.newer) d n l)

      not_E_low : (d : Dataset) (n : Row Dataset) → IsSnapRow q p.older d n → ¬ (d ≡ E)
      not_E_low d n l is =
          let same : n ≡ nD = good.facts.one E n nD (subst (λ x. lineages m g x n) is (older_old d n l)) next_E in
          let groups : n.group ≡ nD.group = ap (λ x. x.group) same in
          let low = older_low d n l in
          absurd (omega (arith, falls_S, falls_E))

      not_S_low : (d : Dataset) (n : Row Dataset) → IsSnapRow q p.older d n → ¬ (d ≡ Snapped s.id)
      not_S_low d n l is =
          let same : n ≡ sD = good.facts.one (Snapped s.id) n sD (subst (λ x. lineages m g x n) is (older_old d n l)) before_S in
          let groups : n.group ≡ s.id.group = ap (λ x. x.group) same in
          let low = older_low d n l in
          absurd (omega (arith, falls_S))

      not_E_high : (d : Dataset) (n : Row Dataset) → IsLater g name p.system.live p.newer d n → ¬ (d ≡ E)
      not_E_high d n l is =
          let same : n ≡ nD = good.facts.one E n nD (subst (λ x. lineages m g x n) is (later_old d n l)) next_E in
          let groups : n.group ≡ nD.group = ap (λ x. x.group) same in
          let high = later_high d n l in
          let f = (good.facts.sound d n (later_old d n l)).falls in
          absurd (omega arith)

      not_S_high : (d : Dataset) (n : Row Dataset) → IsLater g name p.system.live p.newer d n → ¬ (d ≡ Snapped s.id)
      not_S_high d n l is =
          let same : n ≡ sD = good.facts.one (Snapped s.id) n sD (subst (λ x. lineages m g x n) is (later_old d n l)) before_S in
          let groups : n.group ≡ s.id.group = ap (λ x. x.group) same in
          let high = later_high d n l in
          let f = (good.facts.sound d n (later_old d n l)).falls in
          absurd (omega (arith, falls_E))

  -- what stands in the new world stood in the old one
  back_at : (other : Name) (e : Shape) (t : SnapShape) → m' other ≡ Some e → IsAmong e.snapshots t → (k : Shape) × (m other ≡ Some k) × IsAmong k.snapshots t
  back_at other e t is a = ⊎_elim
      (λ (same : other ≡ name).
      let e_is = the_system m' other name e f' is here' same in
      (p.system, ap m same ∙ p.at, among_more t (subst (λ x. IsAmong x.snapshots t) e_is a)))
      (λ (no : ¬ (other ≡ name)). (e, sym (p.others other no) ∙ is, a))
      (key_cases name_order other name)

  closed' : IsClosed m'
  closed' other e is = ⊎_elim
      (λ (same : other ≡ name).
      let e_is = the_system m' other name e f' is here' same in
      (q, subst (λ o. Starts m' o q) (ap (λ x. x.origin) (sym e_is)) ((starts name p.system q p.at).0 st)))
      (λ (no : ¬ (other ≡ name)).
      let is' = sym (p.others other no) ∙ is in
      let c = good.closed other e is' in
      (c.0, (starts other e c.0 is').0 c.1))
      (key_cases name_order other name)

  good' : IsGood m' g
  good' = record {
    facts = splice_keeps dataset_cases (lineages m g) (lineages m' g) good.facts (Snapped s.id) sD E nD splices;
    closed = closed';
    placed = λ a b x y t v is is' k l ids.
        let c = back_at a x t is k in
        let d = back_at b y v is' l in
        good.placed a b c.0 d.0 t v c.1 d.1 c.2 d.2 ids;
  }

pub drop_is_splice : RemoveIsJoin
drop_is_splice old new g name s good p = (
  good' old g good new name s p,
  λ d k n in_k in_n prev_is.
      let k_is : k ≡ sD old g good new name s p = good.facts.one (Snapped s.id) k (sD old g good new name s p) in_k (before_S old g good new name s p) in
      let d_is : d ≡ E old g good new name s p = only_next old g good new name s p d n in_n prev_is in
      let n_is : n ≡ nD old g good new name s p = good.facts.one (E old g good new name s p) n (nD old g good new name s p) (subst (λ x. lineages old g x n) d_is in_n) (next_E old g good new name s p) in
      let sp = splices old g good new name s p in (
        subst (λ x. lineages new g x (spliced Dataset k n)) (sym d_is)
            (subst (λ (x : Row Dataset × Row Dataset). lineages new g (E old g good new name s p) (spliced Dataset x.0 x.1)) (λ i. (sym k_is i, sym n_is i)) sp.here),
        λ u u' all all'.
            (λ i. after (k_is i).base (n_is i).dead)
            ∙ splice_loses dataset_cases (lineages old g) (lineages new g) good.facts (Snapped s.id) (sD old g good new name s p) (E old g good new name s p) (nD old g good new name s p) sp u u' all all',
      ),
)

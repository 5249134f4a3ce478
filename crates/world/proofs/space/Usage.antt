-- The space that file systems use.
use Rattle.std.proofs.Common.{◌≡◌, ℕ, ◌+◌, List, [], ◌∷◌, Some, refl, sym, ap, subst, ◌∙◌, ◌⊎◌, inl, inr, ⊎_elim}
use Rattle.std.specs.FinSet.{empty, difference, intersection, len}
use Rattle.world.specs.Sets.{Has}
use Rattle.world.specs.Blocks.{BlockSet, Block, block_order as o, after}
use Rattle.world.specs.Lineage.{Row, IsSound}
use Rattle.world.specs.Space.{AreBornBy, Follow, newest, blocks_of_all, dead_upto, between, dead_in_all, IsOneOf, Stretch, datasets, IsAt, IsInOneStretch, AreStretches}
use Rattle.world.specs.Shapes.{Name, Dataset, SnapShape, Shape, Shapes, Before, before_next, row, IsAmong, Starts, IsTail, lineages, IsGood}
use Rattle.model.specs.World.{Live, Snapped}
use Rattle.world.specs.Usage.{IsEntry, AreApart, tail_rows, AreOf, TotalUsed, snapshot_blocks, UsedBy, UsedOfSnapshot}
use Rattle.world.proofs.lists.SetCounts.{no-empty, same_members, in_difference, from_difference, in_intersection, from_intersection, in_union_left, in_union_right, from_union}
use Rattle.world.proofs.lineage.Lineage.{prior_is, from_dead}
use Rattle.world.proofs.space.Space.{written_since, len_between, total_used, used_of_snapshot}
use Rattle.world.proofs.lineage.Replace.{same_live, same_snap, live_or_snap, id_of_row, one_to_an_id, one_start}
use Rattle.world.proofs.lineage.Moves.{before_born}

module _ (g : ℕ) (name : Name) (live : BlockSet) where
  rows_follow : (q : Before) (ss : List SnapShape) → ((d : Dataset) (n : Row Dataset) → IsTail g name live q ss d n → IsSound Dataset n) → Follow q.base q.below (datasets (tail_rows g name live q ss))
  rows_follow q [] sound = (refl, refl, sound (Live name) (row g q live) (refl, refl), tt)
  rows_follow q (s ∷ ss) sound = (refl, refl, sound (Snapped s.id) (row s.id.group q s.blocks) (inl (refl, refl)), rows_follow (before_next s) ss (λ d n h. sound d n (inr h)))

  rows_at : (q : Before) (ss : List SnapShape) (d : Dataset) (n : Row Dataset) → IsAt (tail_rows g name live q ss) d n → IsTail g name live q ss d n
  rows_at q [] d n h = ⊎_elim (λ k. k) (λ k. absurd k) h
  rows_at q (s ∷ ss) d n h = ⊎_elim inl (λ k. inr (rows_at (before_next s) ss d n k)) h

  at_rows : (q : Before) (ss : List SnapShape) (d : Dataset) (n : Row Dataset) → IsTail g name live q ss d n → IsAt (tail_rows g name live q ss) d n
  at_rows q [] d n h = inl h
  at_rows q (s ∷ ss) d n h = ⊎_elim inl (λ k. inr (at_rows (before_next s) ss d n k)) h

  newest_is_live : (q : Before) (t : BlockSet) (ss : List SnapShape) → newest t (datasets (tail_rows g name live q ss)) ≡ live
  newest_is_live q t [] = refl
  newest_is_live q t (s ∷ ss) = newest_is_live (before_next s) s.blocks ss

  rows_have : (q : Before) (ss : List SnapShape) (b : Block) → Has (blocks_of_all (datasets (tail_rows g name live q ss))) b → Has (snapshot_blocks ss) b ⊎ Has live b
  rows_have q [] b h = ⊎_elim inr (λ k. absurd (no-empty o b k)) (from_union o live empty b h)
  rows_have q (s ∷ ss) b h = ⊎_elim
      (λ k. inl (in_union_left o s.blocks (snapshot_blocks ss) b k))
      (λ k. ⊎_elim (λ l. inl (in_union_right o s.blocks (snapshot_blocks ss) b l)) inr (rows_have (before_next s) ss b k))
      (from_union o s.blocks (blocks_of_all (datasets (tail_rows g name live (before_next s) ss))) b h)

  have_rows : (q : Before) (ss : List SnapShape) (b : Block) → Has (snapshot_blocks ss) b → Has (blocks_of_all (datasets (tail_rows g name live q ss))) b
  have_rows q [] b h = absurd (no-empty o b h)
  have_rows q (s ∷ ss) b h = ⊎_elim
      (λ k. in_union_left o s.blocks (blocks_of_all (datasets (tail_rows g name live (before_next s) ss))) b k)
      (λ k. in_union_right o s.blocks (blocks_of_all (datasets (tail_rows g name live (before_next s) ss))) b (have_rows (before_next s) ss b k))
      (from_union o s.blocks (snapshot_blocks ss) b h)

module _ (m : Shapes) (g : ℕ) (good : IsGood m g) where
  row_in : (name : Name) (f : Shape) (q : Before) → m name ≡ Some f → Starts m f.origin q → (d : Dataset) (n : Row Dataset) → IsTail g name f.live q f.snapshots d n → lineages m g d n
  row_in name f q at st d n r = (name, f, q, at, st, r)

  follow : (name : Name) (f : Shape) (q : Before) → m name ≡ Some f → Starts m f.origin q → Follow q.base q.below (datasets (tail_rows g name f.live q f.snapshots))
  follow name f q at st = rows_follow g name f.live q f.snapshots (λ d n r. good.facts.sound d n (row_in name f q at st d n r))

  -- the stretches of a part of the entries
  in_entries : (es : List (Name × Shape)) (xs : List (Stretch Dataset)) → AreOf m g es xs → (d : Dataset) (n : Row Dataset) → IsInOneStretch xs d n
      → (name : Name) × (f : Shape) × (q : Before) × IsEntry es name f × IsTail g name f.live q f.snapshots d n
  in_entries [] [] h d n k = absurd k
  in_entries [] (x ∷ xs) h d n k = absurd h
  in_entries (e ∷ es) [] h d n k = absurd k
  in_entries (e ∷ es) (x ∷ xs) h d n k = ⊎_elim
      (λ a. (e.0, e.1, h.0.0, inl (refl, refl), rows_at g e.0 e.1.live h.0.0 e.1.snapshots d n (subst (λ y. IsAt y.rows d n) h.0.2 a)))
      (λ a. let r = in_entries es xs h.1 d n a in (r.0, r.1, r.2, inr r.3, r.4))
      k

  of_entries : (es : List (Name × Shape)) (xs : List (Stretch Dataset)) → AreOf m g es xs → (name : Name) (f : Shape) (q : Before) → IsEntry es name f → Starts m f.origin q → (d : Dataset) (n : Row Dataset)
      → IsTail g name f.live q f.snapshots d n → IsInOneStretch xs d n
  of_entries [] xs h name f q k st d n r = absurd k
  of_entries (e ∷ es) [] h name f q k st d n r = absurd h
  of_entries (e ∷ es) (x ∷ xs) h name f q k st d n r = ⊎_elim
      (λ is.
      let r' = subst (λ y. IsTail g y f.live q f.snapshots d n) is.0 r in
      let r'' = subst (λ y. IsTail g e.0 y.live q y.snapshots d n) is.1 r' in
      let q_is = one_start m (one_to_an_id m g good) e.1.origin q h.0.0 (subst (λ y. Starts m y.origin q) is.1 st) h.0.1 in
      inl (subst (λ y. IsAt y.rows d n) (sym h.0.2) (at_rows g e.0 e.1.live h.0.0 e.1.snapshots d n (subst (λ y. IsTail g e.0 e.1.live y e.1.snapshots d n) q_is r''))))
      (λ a. inr (of_entries es xs h.1 name f q a st d n r))
      k

  -- two rows of one name are of one file system
  one_name : (a b : Name) (x y : Shape) (p q : Before) → m a ≡ Some x → m b ≡ Some y → (d : Dataset) (n k : Row Dataset) → IsTail g a x.live p x.snapshots d n → IsTail g b y.live q y.snapshots d k → a ≡ b
  one_name a b x y p q is is' d n k r t = go (id_of_row g a x.live p x.snapshots d n r) (id_of_row g b y.live q y.snapshots d k t)
    where
      go : (d ≡ Live a) ⊎ (s : SnapShape) × IsAmong x.snapshots s × (d ≡ Snapped s.id) → (d ≡ Live b) ⊎ (t : SnapShape) × IsAmong y.snapshots t × (d ≡ Snapped t.id) → a ≡ b
      go (inl u) (inl v) = same_live a b (sym u ∙ v)
      go (inl u) (inr (t, v, w)) = absurd (live_or_snap a t.id (sym u ∙ w))
      go (inr (s, v, w)) (inl u) = absurd (live_or_snap b s.id (sym u ∙ w))
      go (inr (s, v, w)) (inr (t, v', w')) = good.placed a b x y s t is is' v v' (same_snap s.id t.id (sym w ∙ w'))

  are_stretches : (es : List (Name × Shape)) (xs : List (Stretch Dataset)) → ((name : Name) (f : Shape) → IsEntry es name f → m name ≡ Some f) → AreApart es → AreOf m g es xs → AreStretches (lineages m g) xs
  are_stretches es [] from apart h = tt
  are_stretches [] (x ∷ xs) from apart h = absurd h
  are_stretches (e ∷ es) (x ∷ xs) from apart h =
      let at = from e.0 e.1 (inl (refl, refl)) in
      let q = h.0.0 in (
        subst (λ y. Follow y.group y.origin (datasets y.rows)) (sym h.0.2) (follow e.0 e.1 q at h.0.1),
        subst (λ y. AreBornBy y.group y.origin) (sym h.0.2) (before_born m g good e.1.origin q h.0.1),
        λ d n k. row_in e.0 e.1 q at h.0.1 d n (rows_at g e.0 e.1.live q e.1.snapshots d n (subst (λ y. IsAt y.rows d n) h.0.2 k)),
        λ d n k a b.
            let r = rows_at g e.0 e.1.live q e.1.snapshots d n (subst (λ y. IsAt y.rows d n) h.0.2 a) in
            let t = in_entries es xs h.1 d k b in
            apart.0 t.0 t.1 t.3 (sym (one_name e.0 t.0 e.1 t.1 q t.2 at (from t.0 t.1 (inr t.3)) d n k r t.4)),
        are_stretches es xs (λ a f k. from a f (inr k)) apart.1 h.1,
      )

pub total_used_of_world : TotalUsed
total_used_of_world m g es xs u good list h all =
    total_used (lineages m g) good.facts xs u
    (are_stretches m g good es xs list.right list.apart h)
    (λ d n r. of_entries m g good es xs h r.0 r.1 r.2 (list.complete r.0 r.1 r.3) r.4 d n r.5)
    all

pub used_by : UsedBy
used_by m g name f q good at st =
    let born = before_born m g good f.origin q st in
    let fo = follow m g good name f q at st in
    let live_is = newest_is_live g name f.live q q.below f.snapshots in
    let sets = snapshots_is in (
      ap (λ t. len (difference t q.below)) live_is,
      ap len sets,
      (λ i. len (difference (sym live_is i) q.below) + len q.below) ∙ written_since q.base q.below (datasets (tail_rows g name f.live q f.snapshots)) fo born ∙ ap (λ t. len t + dead_upto q.base (datasets (tail_rows g name f.live q f.snapshots))) live_is,
      sym (ap len sets) ∙ len_between q.base q.below (datasets (tail_rows g name f.live q f.snapshots)) fo born,
    )
  where
    rows : BlockSet
    rows = blocks_of_all (datasets (tail_rows g name f.live q f.snapshots))

    snapshots_is : between q.below (datasets (tail_rows g name f.live q f.snapshots)) ≡ difference (difference (snapshot_blocks f.snapshots) f.live) q.below
    snapshots_is = ap (λ t. difference (difference (blocks_of_all (datasets (tail_rows g name f.live q f.snapshots))) t) q.below) (newest_is_live g name f.live q q.below f.snapshots)
        ∙ same_members o _ _
        (λ b h.
        let k = from_difference o (difference (blocks_of_all (datasets (tail_rows g name f.live q f.snapshots))) f.live) q.below b h in
        let l = from_difference o (blocks_of_all (datasets (tail_rows g name f.live q f.snapshots))) f.live b k.0 in
        in_difference o _ _ b (in_difference o _ _ b (⊎_elim (λ x. x) (λ x. absurd (l.1 x)) (rows_have g name f.live q f.snapshots b l.0)) l.1) k.1)
        (λ b h.
        let k = from_difference o (difference (snapshot_blocks f.snapshots) f.live) q.below b h in
        let l = from_difference o (snapshot_blocks f.snapshots) f.live b k.0 in
        in_difference o _ _ b (in_difference o _ _ b (have_rows g name f.live q f.snapshots b l.0) l.1) k.1)

pub used_of_snapshot_in_world : UsedOfSnapshot
used_of_snapshot_in_world m g s k xs others good h complete are all =
    let e = used_of_snapshot (lineages m g) good.facts (Snapped s.id) k xs others h complete are all in (
      e,
      λ n xs_is.
          let r = are n (subst (λ l. IsOneOf l n) (sym xs_is) (inl refl)) in
          let p = prior_is (lineages m g) good.facts r.0 (Snapped s.id) n k r.1 h r.2 in
          e ∙ ap (λ l. after k.base (dead_in_all k.blocks l)) xs_is
          ∙ ap (after k.base) (same_members o (intersection n.dead k.blocks) n.dead
          (λ b x. (from_intersection o n.dead k.blocks b x).0)
          (λ b x. in_intersection o n.dead k.blocks b x (subst (λ t. Has t b) (sym p.1) (from_dead n (good.facts.sound r.0 n r.1) b x).0))),
    )

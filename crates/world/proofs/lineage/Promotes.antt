-- Promote keeps what holds at every state.
use Rattle.std.proofs.Common.{◌≡◌, ℕ, ◌<◌, ◌≤◌, List, [], ◌∷◌, ◌++◌, Option, Some, None, refl, sym, ap, subst, ◌∙◌, ◌⊎◌, ◌↔◌, inl, inr, ⊎_elim, arith}
use Rattle.world.specs.Blocks.{BlockSet}
use Rattle.world.specs.Lineage.{Row, Rows, Facts, IsSound, IsPrior}
use Rattle.world.specs.Shapes.{Name, name_order, SnapId, Dataset, SnapShape, Shape, Shapes, Before, before_next, before_live, row, IsAmong, HasSnapshot, Starts, IsSnapRow, IsTail, lineages, Promotes, IsOneToAnId, IsClosed, IsPlaced, IsGood, PromoteKeeps}
use Rattle.model.specs.World.{Snapped}
use Rattle.world.proofs.lists.Maps.{key_cases}
use Rattle.world.proofs.lineage.Shapes.{the_system, start_stays, among_left, among_right, among_either, tail_right, promote_keeps_lineages, clone', owner', at_g, at_c, at_other, snapshots_there, origin_there}
use Rattle.world.proofs.lineage.Replace.{one_to_an_id, row_of}
use Rattle.world.proofs.lineage.Drops.{base_of_row, group_of_older}
use Rattle.world.proofs.lineage.Moves.{row_group}

-- the facts speak of the datasets alone
pub facts_same : {D : Type 0} (w w' : Rows D) → ((d : D) (n : Row D) → w d n ↔ w' d n) → Facts D w → Facts D w'
facts_same {D} w w' same facts = record {
  one = λ d n k h g. facts.one d n k ((same d n).1 h) ((same d k).1 g);
  sound = λ d n h. facts.sound d n ((same d n).1 h);
  prior = λ d n h. prior_same n.prev n.base n.below (facts.prior d n ((same d n).1 h));
  once = λ d e n k b h g. facts.once d e n k b ((same d n).1 h) ((same e k).1 g);
}
  where
    prior_same : (p : Option D) (g : ℕ) (s : BlockSet) → IsPrior D w p g s → IsPrior D w' p g s
    prior_same None g s h = h
    prior_same (Some e) g s h = (h.0, (same e h.0).0 h.1, h.2, h.3)

module _ (old new : Shapes) (c g : Name) (h : ℕ) (p : Promotes old new c g) (good : IsGood old h) where
  unique : IsOneToAnId old
  unique = one_to_an_id old h good

  there : (id : SnapId) (s : SnapShape) → HasSnapshot old id s → HasSnapshot new id s
  there = snapshots_there old new c g p unique good.closed

  closed' : IsClosed new
  closed' name f is = ⊎_elim
      (λ (at : name ≡ g).
      let f_is = the_system new name g f (owner' old new c g p unique good.closed) is (at_g old new c g p unique good.closed) at in
      (before_next p.origin, subst (λ x. Starts new x.origin (before_next p.origin)) (sym f_is) (p.origin, there p.origin.id p.origin (origin_there old new c g p unique good.closed), refl)))
      (λ (ng : ¬ (name ≡ g)). ⊎_elim
      (λ (at : name ≡ c).
      let f_is = the_system new name c f (clone' old new c g p unique good.closed) is (at_c old new c g p unique good.closed) at in
      let q = good.closed g p.owner p.owner_at in
      (q.0, subst (λ x. Starts new x.origin q.0) (sym f_is) (start_stays old new there p.owner.origin q.0 q.1)))
      (λ (nc : ¬ (name ≡ c)).
      let q = good.closed name f (sym (at_other old new c g p unique good.closed name nc ng) ∙ is) in
      (q.0, start_stays old new there f.origin q.0 q.1))
      (key_cases name_order name c))
      (key_cases name_order name g)

  -- where a snapshot of the new world stood: with the newer ones of the owner, with its older ones and the origin, or in a file system that keeps its place
  abbrev Place : Name → SnapShape → Type 0
  Place name s = ((name ≡ g) × IsAmong p.newer s) ⊎ ((name ≡ c) × (IsAmong p.older s ⊎ (s ≡ p.origin))) ⊎ ((¬ (name ≡ g)) × (f : Shape) × (old name ≡ Some f) × IsAmong f.snapshots s)

  place : (name : Name) (f : Shape) (s : SnapShape) → new name ≡ Some f → IsAmong f.snapshots s → Place name s
  place name f s is a = ⊎_elim
      (λ (at : name ≡ g).
      let f_is = the_system new name g f (owner' old new c g p unique good.closed) is (at_g old new c g p unique good.closed) at in
      inl (at, subst (λ x. IsAmong x.snapshots s) f_is a))
      (λ (ng : ¬ (name ≡ g)). ⊎_elim
      (λ (at : name ≡ c).
      let f_is = the_system new name c f (clone' old new c g p unique good.closed) is (at_c old new c g p unique good.closed) at in
      ⊎_elim (λ k. inr (inl (at, inl k))) (⊎_elim (λ k. inr (inl (at, inr k))) (λ k. inr (inr (ng, p.clone, ap old at ∙ p.clone_at, k))))
      (among_either p.older (p.origin ∷ p.clone.snapshots) s (subst (λ x. IsAmong x.snapshots s) f_is a)))
      (λ (nc : ¬ (name ≡ c)). inr (inr (ng, f, sym (at_other old new c g p unique good.closed name nc ng) ∙ is, a)))
      (key_cases name_order name c))
      (key_cases name_order name g)

  -- the rows of the owner
  q : Before
  q = (good.closed g p.owner p.owner_at).0

  owner_row : (d : Dataset) (n : Row Dataset) → IsTail h g p.owner.live q (p.older ++ p.origin ∷ p.newer) d n → lineages old h d n
  unfolding q
  owner_row d n r = (g, p.owner, (good.closed g p.owner p.owner_at).0, p.owner_at, (good.closed g p.owner p.owner_at).1, subst (λ l. IsTail h g p.owner.live (good.closed g p.owner p.owner_at).0 l d n) (sym p.owned) r)

  sound : (d : Dataset) (n : Row Dataset) → IsTail h g p.owner.live q (p.older ++ p.origin ∷ p.newer) d n → IsSound Dataset n
  sound d n r = good.facts.sound d n (owner_row d n r)

  snap_row : (r : Before) (ss : List SnapShape) (s : SnapShape) → IsAmong ss s → (n : Row Dataset) × IsSnapRow r ss (Snapped s.id) n × (n.group ≡ s.id.group)
  snap_row r [] s k = absurd k
  snap_row r (t ∷ ts) s k = ⊎_elim
      (λ e. (row t.id.group r t.blocks, inl (ap (λ x. Snapped x.id) e, refl), ap (λ x. x.id.group) (sym e)))
      (λ l. let x = snap_row (before_next t) ts s l in (x.0, inr x.1, x.2))
      k

  newer_high : (t : SnapShape) → IsAmong p.newer t → p.origin.id.group < t.id.group
  newer_high t a =
      let r = row_of h g p.owner.live (before_next p.origin) p.newer t a in
      let in_tail : IsTail h g p.owner.live q (p.older ++ p.origin ∷ p.newer) (Snapped t.id) r.0 = tail_right h g p.owner.live q p.older (p.origin ∷ p.newer) (Snapped t.id) r.0 (inr r.1) in
      let l = base_of_row h g p.owner.live (before_next p.origin) p.newer (λ d n k. sound d n (tail_right h g p.owner.live q p.older (p.origin ∷ p.newer) d n (inr k))) (Snapped t.id) r.0 r.1 in
      let f = (sound (Snapped t.id) r.0 in_tail).falls in
      let e = row_group h g p.owner.live (before_next p.origin) p.newer (Snapped t.id) r.0 r.1 in
      omega arith

  older_low : (t : SnapShape) → IsAmong p.older t ⊎ (t ≡ p.origin) → t.id.group ≤ p.origin.id.group
  older_low t k = ⊎_elim
      (λ a.
      let r = snap_row q p.older t a in
      let l = group_of_older h g p.owner.live q p.older (p.origin ∷ p.newer) sound (Snapped t.id) r.0 r.1 in
      let f = (sound (Snapped p.origin.id) (row p.origin.id.group (before_live q p.older) p.origin.blocks) (tail_right h g p.owner.live q p.older (p.origin ∷ p.newer) _ _ (inl (refl, refl)))).falls in
      let e = r.2 in
      omega arith)
      (λ (e : t ≡ p.origin). let x : t.id.group ≡ p.origin.id.group = ap (λ y. y.id.group) e in omega arith)
      k

  differ : (s t : SnapShape) → IsAmong p.newer s → IsAmong p.older t ⊎ (t ≡ p.origin) → ¬ (s.id ≡ t.id)
  differ s t a b e =
      let x = newer_high s a in
      let y = older_low t b in
      let z : s.id.group ≡ t.id.group = ap (λ i. i.group) e in
      absurd (omega arith)

  in_owner : (s : SnapShape) → IsAmong p.newer s ⊎ (IsAmong p.older s ⊎ (s ≡ p.origin)) → IsAmong p.owner.snapshots s
  in_owner s k = subst (λ l. IsAmong l s) (sym p.owned) (⊎_elim (λ a. right (inr a)) (⊎_elim left (λ e. right (inl e))) k)
    where
      left : IsAmong p.older s → IsAmong (p.older ++ p.origin ∷ p.newer) s
      left a = among_left p.older (p.origin ∷ p.newer) s a

      right : IsAmong (p.origin ∷ p.newer) s → IsAmong (p.older ++ p.origin ∷ p.newer) s
      right a = among_right p.older (p.origin ∷ p.newer) s a

  placed' : IsPlaced new
  placed' a b x y s t is is' k l ids = go (place a x s is k) (place b y t is' l)
    where
      go : Place a s → Place b t → a ≡ b
      go (inl (u, v)) (inl (u', v')) = u ∙ sym u'
      go (inl (u, v)) (inr (inl (u', v'))) = absurd (differ s t v v' ids)
      go (inl (u, v)) (inr (inr (u', f, v', w'))) = absurd (u' (good.placed b g f p.owner t s v' p.owner_at w' (in_owner s (inl v)) (sym ids)))
      go (inr (inl (u, v))) (inl (u', v')) = absurd (differ t s v' v (sym ids))
      go (inr (inl (u, v))) (inr (inl (u', v'))) = u ∙ sym u'
      go (inr (inl (u, v))) (inr (inr (u', f, v', w'))) = absurd (u' (good.placed b g f p.owner t s v' p.owner_at w' (in_owner s (inr v)) (sym ids)))
      go (inr (inr (u, f, v, w))) (inl (u', v')) = absurd (u (good.placed a g f p.owner s t v p.owner_at w (in_owner t (inl v')) ids))
      go (inr (inr (u, f, v, w))) (inr (inl (u', v'))) = absurd (u (good.placed a g f p.owner s t v p.owner_at w (in_owner t (inr v')) ids))
      go (inr (inr (u, f, v, w))) (inr (inr (u', f', v', w'))) = good.placed a b f f' s t v v' w w' ids

pub promote_keeps : PromoteKeeps
promote_keeps old new c g h p good =
    let same = promote_keeps_lineages old new c g p (one_to_an_id old h good) good.closed h in
    (record { facts = facts_same (lineages old h) (lineages new h) same good.facts; closed = closed' old new c g h p good; placed = placed' old new c g h p good }, same)

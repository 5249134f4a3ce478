-- Promote leaves the lineages as they are.
use Rattle.std.proofs.Common.{◌≡◌, ℕ, List, [], ◌∷◌, ◌++◌, Option, Some, None, refl, sym, ap, subst, ◌∙◌, ◌⊎◌, inl, inr, ⊎_elim}
use Rattle.world.specs.Blocks.{BlockSet}
use Rattle.world.specs.Lineage.{Row}
use Rattle.world.specs.Shapes.{Name, name_order, SnapId, Dataset, SnapShape, Shape, Shapes, Before, before_next, before_live, IsAmong, HasSnapshot, Starts, IsSnapRow, IsTail, IsRow, lineages, Promotes, IsOneToAnId, IsClosed, PromoteKeepsLineages}
use Rattle.world.proofs.lists.Maps.{same_value, key_cases}

pub among_left : (xs ys : List SnapShape) (s : SnapShape) → IsAmong xs s → IsAmong (xs ++ ys) s
among_left [] ys s h = absurd h
among_left (x ∷ xs) ys s h = ⊎_elim inl (λ k. inr (among_left xs ys s k)) h

pub among_right : (xs ys : List SnapShape) (s : SnapShape) → IsAmong ys s → IsAmong (xs ++ ys) s
among_right [] ys s h = h
among_right (x ∷ xs) ys s h = inr (among_right xs ys s h)

pub among_either : (xs ys : List SnapShape) (s : SnapShape) → IsAmong (xs ++ ys) s → IsAmong xs s ⊎ IsAmong ys s
among_either [] ys s h = inr h
among_either (x ∷ xs) ys s h = ⊎_elim (λ k. inl (inl k)) (λ k. ⊎_elim (λ l. inl (inr l)) inr (among_either xs ys s k)) h

pub tail_left : (g : ℕ) (name : Name) (live : BlockSet) (q : Before) (xs ys : List SnapShape) (d : Dataset) (n : Row Dataset) → IsSnapRow q xs d n → IsTail g name live q (xs ++ ys) d n
tail_left g name live q [] ys d n h = absurd h
tail_left g name live q (x ∷ xs) ys d n h = ⊎_elim inl (λ k. inr (tail_left g name live (before_next x) xs ys d n k)) h

pub tail_right : (g : ℕ) (name : Name) (live : BlockSet) (q : Before) (xs ys : List SnapShape) (d : Dataset) (n : Row Dataset) → IsTail g name live (before_live q xs) ys d n → IsTail g name live q (xs ++ ys) d n
tail_right g name live q [] ys d n h = h
tail_right g name live q (x ∷ xs) ys d n h = inr (tail_right g name live (before_next x) xs ys d n h)

pub tail_either : (g : ℕ) (name : Name) (live : BlockSet) (q : Before) (xs ys : List SnapShape) (d : Dataset) (n : Row Dataset) → IsTail g name live q (xs ++ ys) d n → IsSnapRow q xs d n ⊎ IsTail g name live (before_live q xs) ys d n
tail_either g name live q [] ys d n h = inr h
tail_either g name live q (x ∷ xs) ys d n h = ⊎_elim (λ k. inl (inl k)) (λ k. ⊎_elim (λ l. inl (inr l)) inr (tail_either g name live (before_next x) xs ys d n k)) h

-- a start stays where the snapshots stay
pub start_stays : (m k : Shapes) → ((id : SnapId) (s : SnapShape) → HasSnapshot m id s → HasSnapshot k id s) → (origin : Option SnapId) (q : Before) → Starts m origin q → Starts k origin q
start_stays m k f None q h = h
start_stays m k f (Some id) q h = (h.0, f id h.0 h.1, h.2)

pub the_system : (m : Shapes) (name other : Name) (f g : Shape) → m name ≡ Some f → m other ≡ Some g → name ≡ other → f ≡ g
the_system m name other f g e k is = same_value f g (sym e ∙ ap m is ∙ k)

module _ (old new : Shapes) (c g : Name) (p : Promotes old new c g) (unique : IsOneToAnId old) (closed : IsClosed old) where
  abbrev pub clone' : Shape
  clone' = record { live = p.clone.live; snapshots = p.older ++ p.origin ∷ p.clone.snapshots; origin = p.owner.origin }

  abbrev pub owner' : Shape
  owner' = record { live = p.owner.live; snapshots = p.newer; origin = Some p.origin.id }

  pub at_g : new g ≡ Some (record { live = p.owner.live; snapshots = p.newer; origin = Some p.origin.id })
  at_g = p.owner_new

  pub at_c : new c ≡ Some (record { live = p.clone.live; snapshots = p.older ++ p.origin ∷ p.clone.snapshots; origin = p.owner.origin })
  at_c = p.clone_new

  pub at_other : (name : Name) → ¬ (name ≡ c) → ¬ (name ≡ g) → new name ≡ old name
  at_other name nc ng = p.others name nc ng

  pub snapshots_there : (id : SnapId) (s : SnapShape) → HasSnapshot old id s → HasSnapshot new id s
  snapshots_there id s (name, f, e, among, is) = ⊎_elim
      (λ (at : name ≡ g).
      let f_is = the_system old name g f p.owner e p.owner_at at in
      ⊎_elim
      (λ k. (c, _, at_c, among_left p.older (p.origin ∷ p.clone.snapshots) s k, is))
      (⊎_elim (λ k. (c, _, at_c, among_right p.older (p.origin ∷ p.clone.snapshots) s (inl k), is)) (λ k. (g, _, at_g, k, is)))
      (among_either p.older (p.origin ∷ p.newer) s (subst (λ l. IsAmong l s) (ap (λ x. x.snapshots) f_is ∙ p.owned) among)))
      (λ (ng : ¬ (name ≡ g)). ⊎_elim
      (λ (at : name ≡ c).
      let f_is = the_system old name c f p.clone e p.clone_at at in
      (c, _, at_c, among_right p.older (p.origin ∷ p.clone.snapshots) s (inr (subst (λ x. IsAmong x.snapshots s) f_is among)), is))
      (λ (nc : ¬ (name ≡ c)). (name, f, at_other name nc ng ∙ e, among, is))
      (key_cases name_order name c))
      (key_cases name_order name g)

  pub snapshots_back : (id : SnapId) (s : SnapShape) → HasSnapshot new id s → HasSnapshot old id s
  snapshots_back id s (name, f, e, among, is) = ⊎_elim
      (λ (at : name ≡ g).
      let f_is = the_system new name g f owner' e at_g at in
      (g, p.owner, p.owner_at, subst (λ l. IsAmong l s) (sym p.owned) (among_right p.older (p.origin ∷ p.newer) s (inr (subst (λ x. IsAmong x.snapshots s) f_is among))), is))
      (λ (ng : ¬ (name ≡ g)). ⊎_elim
      (λ (at : name ≡ c).
      let f_is = the_system new name c f clone' e at_c at in
      ⊎_elim
      (λ k. (g, p.owner, p.owner_at, subst (λ l. IsAmong l s) (sym p.owned) (among_left p.older (p.origin ∷ p.newer) s k), is))
      (⊎_elim (λ k. (g, p.owner, p.owner_at, subst (λ l. IsAmong l s) (sym p.owned) (among_right p.older (p.origin ∷ p.newer) s (inl k)), is)) (λ k. (c, p.clone, p.clone_at, k, is)))
      (among_either p.older (p.origin ∷ p.clone.snapshots) s (subst (λ x. IsAmong x.snapshots s) f_is among)))
      (λ (nc : ¬ (name ≡ c)). (name, f, sym (at_other name nc ng) ∙ e, among, is))
      (key_cases name_order name c))
      (key_cases name_order name g)

  pub origin_there : HasSnapshot old p.origin.id p.origin
  origin_there = (g, p.owner, p.owner_at, subst (λ l. IsAmong l p.origin) (sym p.owned) (among_right p.older (p.origin ∷ p.newer) p.origin (inl refl)), refl)

  -- what stands before the clone's oldest dataset
  clone_start : (q : Before) → Starts old p.clone.origin q → q ≡ before_next p.origin
  clone_start q st =
      let k = subst (λ x. Starts old x q) p.origin_is st in
      k.2 ∙ ap before_next (unique p.origin.id k.0 p.origin k.1 origin_there)

  there : (h : ℕ) (d : Dataset) (n : Row Dataset) → lineages old h d n → lineages new h d n
  there h d n (name, f, q, e, st, r) = ⊎_elim
      (λ (at : name ≡ g).
      let f_is = the_system old name g f p.owner e p.owner_at at in
      let st' : Starts new p.owner.origin q = start_stays old new snapshots_there p.owner.origin q (subst (λ x. Starts old x.origin q) f_is st) in
      let start : Starts new (Some p.origin.id) (before_next p.origin) = (p.origin, snapshots_there p.origin.id p.origin origin_there, refl) in
      ⊎_elim
      (λ l. (c, clone', q, at_c, st', tail_left h c p.clone.live q p.older (p.origin ∷ p.clone.snapshots) d n l))
      (⊎_elim
      (λ l. (c, clone', q, at_c, st', tail_right h c p.clone.live q p.older (p.origin ∷ p.clone.snapshots) d n (inl l)))
      (λ l. (g, owner', before_next p.origin, at_g, start, l)))
      (tail_either h g p.owner.live q p.older (p.origin ∷ p.newer) d n (subst (λ l. IsTail h g p.owner.live q l d n) p.owned (subst (λ x. IsRow h g x q d n) f_is (subst (λ y. IsRow h y f q d n) at r)))))
      (λ (ng : ¬ (name ≡ g)). ⊎_elim
      (λ (at : name ≡ c).
      let f_is = the_system old name c f p.clone e p.clone_at at in
      let q_is = clone_start q (subst (λ x. Starts old x.origin q) f_is st) in
      let s0 = closed g p.owner p.owner_at in (
        c,
        clone',
        s0.0,
        at_c,
        start_stays old new snapshots_there p.owner.origin s0.0 s0.1,
        tail_right h c p.clone.live s0.0 p.older (p.origin ∷ p.clone.snapshots) d n
            (inr (subst (λ x. IsTail h c p.clone.live x p.clone.snapshots d n) q_is (subst (λ x. IsRow h c x q d n) f_is (subst (λ y. IsRow h y f q d n) at r)))),
      ))
      (λ (nc : ¬ (name ≡ c)). (name, f, q, at_other name nc ng ∙ e, start_stays old new snapshots_there f.origin q st, r))
      (key_cases name_order name c))
      (key_cases name_order name g)

  back : (h : ℕ) (d : Dataset) (n : Row Dataset) → lineages new h d n → lineages old h d n
  back h d n (name, f, q, e, st, r) = ⊎_elim
      (λ (at : name ≡ g).
      let f_is = the_system new name g f owner' e at_g at in
      let k : Starts new (Some p.origin.id) q = subst (λ x. Starts new x.origin q) f_is st in
      let q_is : q ≡ before_next p.origin = k.2 ∙ ap before_next (unique p.origin.id k.0 p.origin (snapshots_back p.origin.id k.0 k.1) origin_there) in
      let s0 = closed g p.owner p.owner_at in (
        g,
        p.owner,
        s0.0,
        p.owner_at,
        s0.1,
        subst (λ l. IsTail h g p.owner.live s0.0 l d n) (sym p.owned)
            (tail_right h g p.owner.live s0.0 p.older (p.origin ∷ p.newer) d n
            (inr (subst (λ x. IsTail h g p.owner.live x p.newer d n) q_is (subst (λ x. IsRow h g x q d n) f_is (subst (λ y. IsRow h y f q d n) at r))))),
      ))
      (λ (ng : ¬ (name ≡ g)). ⊎_elim
      (λ (at : name ≡ c).
      let f_is = the_system new name c f clone' e at_c at in
      let st' : Starts old p.owner.origin q = start_stays new old snapshots_back p.owner.origin q (subst (λ x. Starts new x.origin q) f_is st) in
      let start : Starts old p.clone.origin (before_next p.origin) = subst (λ x. Starts old x (before_next p.origin)) (sym p.origin_is) (p.origin, origin_there, refl) in
      let owned = λ (l : List SnapShape). IsTail h g p.owner.live q l d n in
      ⊎_elim
      (λ l. (g, p.owner, q, p.owner_at, st', subst owned (sym p.owned) (tail_left h g p.owner.live q p.older (p.origin ∷ p.newer) d n l)))
      (⊎_elim
      (λ l. (g, p.owner, q, p.owner_at, st', subst owned (sym p.owned) (tail_right h g p.owner.live q p.older (p.origin ∷ p.newer) d n (inl l))))
      (λ l. (c, p.clone, before_next p.origin, p.clone_at, start, l)))
      (tail_either h c p.clone.live q p.older (p.origin ∷ p.clone.snapshots) d n (subst (λ x. IsRow h c x q d n) f_is (subst (λ y. IsRow h y f q d n) at r))))
      (λ (nc : ¬ (name ≡ c)). (name, f, q, sym (at_other name nc ng) ∙ e, start_stays new old snapshots_back f.origin q st, r))
      (key_cases name_order name c))
      (key_cases name_order name g)

pub promote_keeps_lineages : PromoteKeepsLineages
promote_keeps_lineages old new c g p unique closed h d n = (there old new c g p unique closed h d n, back old new c g p unique closed h d n)

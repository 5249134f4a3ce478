-- One file system is replaced, and its origin stays.
use Rattle.std.proofs.Common.{◌≡◌, ℕ, List, [], ◌∷◌, Option, Some, None, refl, sym, ap, subst, ◌∙◌, ◌⊎◌, ◌↔◌, inl, inr, ⊎_elim}
use Rattle.std.proofs.lemmas.Bool.{cases_eq}
use Rattle.world.specs.Blocks.{BlockSet}
use Rattle.world.specs.Lineage.{Row}
use Rattle.world.specs.Shapes.{Name, name_order, SnapId, Dataset, SnapShape, Shape, Shapes, Before, before_next, before_live, row, IsAmong, HasSnapshot, Starts, IsSnapRow, IsTail, IsRow, lineages, IsOneToAnId, IsClosed, IsPlaced, IsGood}
use Rattle.model.specs.World.{Live, Snapped}
use Rattle.world.proofs.lists.Maps.{key_cases}
use Rattle.world.proofs.lineage.Shapes.{the_system}

pub same_live : (a b : Name) → Live a ≡ Live b → a ≡ b
same_live a b e = cc

pub same_snap : (a b : SnapId) → Snapped a ≡ Snapped b → a ≡ b
same_snap a b e = cc

pub live_or_snap : (a : Name) (b : SnapId) → Live a ≡ Snapped b → ⊥
live_or_snap a b e = cc

pub same_some : (a b : Dataset) → Some a ≡ Some b → a ≡ b
same_some a b e = cc

-- the row of a snapshot
pub row_of : (g : ℕ) (name : Name) (live : BlockSet) (q : Before) (ss : List SnapShape) (s : SnapShape) → IsAmong ss s → (n : Row Dataset) × IsTail g name live q ss (Snapped s.id) n × (n.blocks ≡ s.blocks)
row_of g name live q [] s h = absurd h
row_of g name live q (t ∷ ts) s h = ⊎_elim
    (λ (is : s ≡ t). (row t.id.group q t.blocks, inl (ap (λ x. Snapped x.id) is, refl), ap (λ x. x.blocks) (sym is)))
    (λ k. let r = row_of g name live (before_next t) ts s k in (r.0, inr r.1, r.2))
    h

-- the name of a row
pub id_of_row : (g : ℕ) (name : Name) (live : BlockSet) (q : Before) (ss : List SnapShape) (d : Dataset) (n : Row Dataset) → IsTail g name live q ss d n → (d ≡ Live name) ⊎ (s : SnapShape) × IsAmong ss s × (d ≡ Snapped s.id)
id_of_row g name live q [] d n h = inl h.0
id_of_row g name live q (t ∷ ts) d n h = ⊎_elim (λ k. inr (t, inl refl, k.0)) (λ k. ⊎_elim inl (λ (s, a, e). inr (s, inr a, e)) (id_of_row g name live (before_next t) ts d n k)) h

-- what stands before a row
pub prev_of_row : (g : ℕ) (name : Name) (live : BlockSet) (q : Before) (ss : List SnapShape) (d p : Dataset) (n : Row Dataset) → IsTail g name live q ss d n → n.prev ≡ Some p
    → (q.prev ≡ Some p) ⊎ (s : SnapShape) × IsAmong ss s × (p ≡ Snapped s.id)
prev_of_row g name live q [] d p n h e = inl (ap (λ x. x.prev) (sym h.1) ∙ e)
prev_of_row g name live q (t ∷ ts) d p n h e = ⊎_elim
    (λ k. inl (ap (λ x. x.prev) (sym k.1) ∙ e))
    (λ k. ⊎_elim (λ r. inr (t, inl refl, same_some p (Snapped t.id) (sym r))) (λ (s, a, i). inr (s, inr a, i)) (prev_of_row g name live (before_next t) ts d p n k e))
    h

pub one_to_an_id : (m : Shapes) (g : ℕ) → IsGood m g → IsOneToAnId m
one_to_an_id m g good id s t (name, f, e, a, is) (other, k, e', b, is') =
    let q = good.closed name f e in
    let r = good.closed other k e' in
    let x = row_of g name f.live q.0 f.snapshots s a in
    let y = row_of g other k.live r.0 k.snapshots t b in
    let ids : s.id ≡ t.id = is ∙ sym is' in
    let same : x.0 ≡ y.0 = good.facts.one (Snapped t.id) x.0 y.0 (name, f, q.0, e, q.1, subst (λ i. IsRow g name f q.0 (Snapped i) x.0) ids x.1) (other, k, r.0, e', r.1, y.1) in
    let blocks : s.blocks ≡ t.blocks = sym x.2 ∙ ap (λ n. n.blocks) same ∙ y.2 in
    λ i. record { id = ids i; blocks = blocks i }

pub one_start : (m : Shapes) → IsOneToAnId m → (origin : Option SnapId) (q r : Before) → Starts m origin q → Starts m origin r → q ≡ r
one_start m unique None q r h k = h ∙ sym k
one_start m unique (Some id) q r h k = h.2 ∙ ap before_next (unique id h.0 k.0 h.1 k.1) ∙ sym k.2

-- the rows of the other file systems
abbrev pub Elsewhere : Shapes → Name → ℕ → Dataset → Row Dataset → Type 0
Elsewhere m name h d n = (other : Name) × (e : Shape) × (q : Before) × (¬ (other ≡ name)) × (m other ≡ Some e) × Starts m e.origin q × IsRow h other e q d n

module _ (m : Shapes) (name : Name) (f : Shape) (at : m name ≡ Some f) (h : ℕ) where
  pub from_old : (d : Dataset) (n : Row Dataset) → lineages m h d n → ((q : Before) × Starts m f.origin q × IsRow h name f q d n) ⊎ Elsewhere m name h d n
  from_old d n (other, e, q, is, st, r) = ⊎_elim
      (λ (same : other ≡ name).
      let e_is = the_system m other name e f is at same in
      inl (q, subst (λ x. Starts m x.origin q) e_is st, subst (λ x. IsRow h name x q d n) e_is (subst (λ y. IsRow h y e q d n) same r)))
      (λ (ne : ¬ (other ≡ name)). inr (other, e, q, ne, is, st, r))
      (key_cases name_order other name)

  pub to_old : (d : Dataset) (n : Row Dataset) → Elsewhere m name h d n → lineages m h d n
  to_old d n (other, e, q, ne, is, st, r) = (other, e, q, is, st, r)

  pub rows_apart : IsPlaced m → (q : Before) (d : Dataset) (n k : Row Dataset) → IsRow h name f q d n → Elsewhere m name h d k → ⊥
  rows_apart placed q d n k r (other, e, p, ne, is, st, r') = go (id_of_row h name f.live q f.snapshots d n r) (id_of_row h other e.live p e.snapshots d k r')
    where
      go : (d ≡ Live name) ⊎ (s : SnapShape) × IsAmong f.snapshots s × (d ≡ Snapped s.id) → (d ≡ Live other) ⊎ (t : SnapShape) × IsAmong e.snapshots t × (d ≡ Snapped t.id) → ⊥
      go (inl a) (inl b) = ne (same_live other name (sym b ∙ a))
      go (inl a) (inr (t, b, c)) = live_or_snap name t.id (sym a ∙ c)
      go (inr (s, b, c)) (inl a) = live_or_snap other s.id (sym a ∙ c)
      go (inr (s, b, c)) (inr (t, b', c')) = ne (placed other name e f t s is at b' b (same_snap t.id s.id (sym c' ∙ c)))

  module _ (f' : Shape) (m' : Shapes) (here' : m' name ≡ Some f') (others : (other : Name) → ¬ (other ≡ name) → m' other ≡ m other) (same_origin : f'.origin ≡ f.origin)
      (starts : (other : Name) (e : Shape) (q : Before) → m other ≡ Some e → Starts m e.origin q ↔ Starts m' e.origin q) where
    pub from_new : (d : Dataset) (n : Row Dataset) → lineages m' h d n → ((q : Before) × Starts m f.origin q × IsRow h name f' q d n) ⊎ Elsewhere m name h d n
    from_new d n (other, e, q, is, st, r) = ⊎_elim
        (λ (same : other ≡ name).
        let e_is = the_system m' other name e f' is here' same in
        inl (
          q,
          (starts name f q at).1 (subst (λ o. Starts m' o q) (ap (λ x. x.origin) e_is ∙ same_origin) st),
          subst (λ x. IsRow h name x q d n) e_is (subst (λ y. IsRow h y e q d n) same r),
        ))
        (λ (ne : ¬ (other ≡ name)).
        let is' = sym (others other ne) ∙ is in
        inr (other, e, q, ne, is', (starts other e q is').1 st, r))
        (key_cases name_order other name)

    pub to_new : (q : Before) → Starts m f.origin q → (d : Dataset) (n : Row Dataset) → IsRow h name f' q d n → lineages m' h d n
    to_new q st d n r = (name, f', q, here', subst (λ o. Starts m' o q) (sym same_origin) ((starts name f q at).0 st), r)

    pub to_new_else : (d : Dataset) (n : Row Dataset) → Elsewhere m name h d n → lineages m' h d n
    to_new_else d n (other, e, q, ne, is, st, r) = (other, e, q, others other ne ∙ is, (starts other e q is).0 st, r)

pub snap_id_cases : (a b : SnapId) → (a ≡ b) ⊎ ¬ (a ≡ b)
snap_id_cases a b = ⊎_elim
    (λ (e : a.group ≡ b.group). ⊎_elim
    (λ (k : a.guid ≡ b.guid). inl (λ i. record { group = e i; guid = k i }))
    (λ (n : ¬ (a.guid ≡ b.guid)). inr (λ is. n (ap (λ x. x.guid) is)))
    (cases_eq a.guid b.guid))
    (λ (n : ¬ (a.group ≡ b.group)). inr (λ is. n (ap (λ x. x.group) is)))
    (cases_eq a.group b.group)

pub dataset_cases : (a b : Dataset) → (a ≡ b) ⊎ ¬ (a ≡ b)
dataset_cases (Live a) (Live b) = ⊎_elim (λ e. inl (ap Live e)) (λ n. inr (λ is. n (same_live a b is))) (key_cases name_order a b)
dataset_cases (Live a) (Snapped b) = inr (λ is. live_or_snap a b is)
dataset_cases (Snapped a) (Live b) = inr (λ is. live_or_snap b a (sym is))
dataset_cases (Snapped a) (Snapped b) = ⊎_elim (λ e. inl (ap Snapped e)) (λ n. inr (λ is. n (same_snap a b is))) (snap_id_cases a b)

-- the rows of the snapshots, and the row of the live map
pub tail_live : (g : ℕ) (name : Name) (live : BlockSet) (q : Before) (ss : List SnapShape) (d : Dataset) (n : Row Dataset) → IsTail g name live q ss d n → IsSnapRow q ss d n ⊎ ((d ≡ Live name) × (n ≡ row g (before_live q ss) live))
tail_live g name live q [] d n h = inr h
tail_live g name live q (x ∷ xs) d n h = ⊎_elim (λ k. inl (inl k)) (λ k. ⊎_elim (λ l. inl (inr l)) inr (tail_live g name live (before_next x) xs d n k)) h

pub snap_in : (g : ℕ) (name : Name) (live : BlockSet) (q : Before) (ss : List SnapShape) (d : Dataset) (n : Row Dataset) → IsSnapRow q ss d n → IsTail g name live q ss d n
snap_in g name live q [] d n h = absurd h
snap_in g name live q (x ∷ xs) d n h = ⊎_elim inl (λ k. inr (snap_in g name live (before_next x) xs d n k)) h

pub live_in : (g : ℕ) (name : Name) (live : BlockSet) (q : Before) (ss : List SnapShape) → IsTail g name live q ss (Live name) (row g (before_live q ss) live)
live_in g name live q [] = (refl, refl)
live_in g name live q (x ∷ xs) = inr (live_in g name live (before_next x) xs)

pub snap_row_id : (q : Before) (ss : List SnapShape) (d : Dataset) (n : Row Dataset) → IsSnapRow q ss d n → (s : SnapShape) × IsAmong ss s × (d ≡ Snapped s.id)
snap_row_id q [] d n h = absurd h
snap_row_id q (x ∷ xs) d n h = ⊎_elim (λ k. (x, inl refl, k.0)) (λ k. let r = snap_row_id (before_next x) xs d n k in (r.0, inr r.1, r.2)) h

-- what stands before is never a live map
pub prev_is_snap : (m : Shapes) (h : ℕ) (d : Dataset) (n : Row Dataset) (name : Name) → lineages m h d n → n.prev ≡ Some (Live name) → ⊥
prev_is_snap m h d n name (other, e, q, is, st, r) prev_is = ⊎_elim
    (λ i. start e.origin st i)
    (λ (s, a, i). live_or_snap name s.id i)
    (prev_of_row h other e.live q e.snapshots d (Live name) n r prev_is)
  where
    nothing : q.prev ≡ None → q.prev ≡ Some (Live name) → ⊥
    nothing a b = cc

    start : (origin : Option SnapId) → Starts m origin q → q.prev ≡ Some (Live name) → ⊥
    start None k i = nothing (ap (λ x. x.prev) k) i
    start (Some id) k i = live_or_snap name k.0.id (same_some (Live name) (Snapped k.0.id) (sym i ∙ ap (λ x. x.prev) k.2))

-- snapshots stay, and none comes
module _ (m m' : Shapes) (name : Name) (f f' : Shape) (at : m name ≡ Some f) (here' : m' name ≡ Some f') (others : (other : Name) → ¬ (other ≡ name) → m' other ≡ m other) where
  pub has_there : ((t : SnapShape) → IsAmong f.snapshots t → IsAmong f'.snapshots t) → (id : SnapId) (t : SnapShape) → HasSnapshot m id t → HasSnapshot m' id t
  has_there more id t (other, e, is, a, id_is) = ⊎_elim
      (λ (same : other ≡ name). (name, f', here', more t (subst (λ x. IsAmong x.snapshots t) (the_system m other name e f is at same) a), id_is))
      (λ (no : ¬ (other ≡ name)). (other, e, others other no ∙ is, a, id_is))
      (key_cases name_order other name)

  pub has_back : (id : SnapId) (t : SnapShape) → ((t : SnapShape) → t.id ≡ id → IsAmong f'.snapshots t → IsAmong f.snapshots t) → HasSnapshot m' id t → HasSnapshot m id t
  has_back id t fewer (other, e, is, a, id_is) = ⊎_elim
      (λ (same : other ≡ name). (name, f, at, fewer t id_is (subst (λ x. IsAmong x.snapshots t) (the_system m' other name e f' is (here') same) a), id_is))
      (λ (no : ¬ (other ≡ name)). (other, e, sym (others other no) ∙ is, a, id_is))
      (key_cases name_order other name)

  pub closed_new : IsClosed m → f'.origin ≡ f.origin
      → ((other : Name) (e : Shape) (q : Before) → m other ≡ Some e → Starts m e.origin q ↔ Starts m' e.origin q)
      → IsClosed m'
  closed_new closed same_origin starts other e is = ⊎_elim
      (λ (same : other ≡ name).
      let e_is = the_system m' other name e f' is (here') same in
      let c = closed name f at in
      (c.0, subst (λ o. Starts m' o c.0) (sym same_origin ∙ ap (λ x. x.origin) (sym e_is)) ((starts name f c.0 at).0 c.1)))
      (λ (no : ¬ (other ≡ name)).
      let is' = sym (others other no) ∙ is in
      let c = closed other e is' in
      (c.0, (starts other e c.0 is').0 c.1))
      (key_cases name_order other name)

  pub placed_new : IsPlaced m → ((t : SnapShape) → IsAmong f'.snapshots t → IsAmong f.snapshots t ⊎ ((s : SnapShape) → HasSnapshot m t.id s → ⊥)) → IsPlaced m'
  placed_new placed from a b x y s t is is' k l ids = ⊎_elim
      (λ (ea : a ≡ name). ⊎_elim (λ (eb : b ≡ name). ea ∙ sym eb) (λ (nb : ¬ (b ≡ name)).
      let x_is = the_system m' a name x f' is (here') ea in
      let is'' = sym (others b nb) ∙ is' in
      ⊎_elim (λ old. ea ∙ placed name b f y s t at is'' old l ids) (λ no. absurd (no t (b, y, is'', l, sym ids)))
      (from s (subst (λ z. IsAmong z.snapshots s) x_is k)))
      (key_cases name_order b name))
      (λ (na : ¬ (a ≡ name)).
      let is0 = sym (others a na) ∙ is in
      ⊎_elim
      (λ (eb : b ≡ name).
      let y_is = the_system m' b name y f' is' (here') eb in
      ⊎_elim (λ old. placed a name x f s t is0 at k old ids ∙ sym eb) (λ no. absurd (no s (a, x, is0, k, ids)))
      (from t (subst (λ z. IsAmong z.snapshots t) y_is l)))
      (λ (nb : ¬ (b ≡ name)). placed a b x y s t is0 (sym (others b nb) ∙ is') k l ids)
      (key_cases name_order b name))
      (key_cases name_order a name)

-- The open group goes up, a snapshot is taken, a file system is made or goes.
use Rattle.std.proofs.Common.{◌≡◌, ℕ, ◌<◌, ◌≤◌, List, [], ◌∷◌, ◌++◌, Option, Some, None, refl, sym, ap, subst, ◌∙◌, ◌↔◌, inl, inr, ⊎_elim, arith}
use Rattle.std.specs.FinSet.{empty, difference}
use Rattle.world.specs.Blocks.{BlockSet, Block, block_order as o, block_order as order}
use Rattle.world.specs.Sets.{Has, IsSubset}
use Rattle.world.specs.Lineage.{Row, IsSound, IsPrior, IsLeaf, IsUnion, Puts, Removes, Takes, Raises, went_on}
use Rattle.world.specs.Shapes.{Name, name_order, SnapId, Dataset, SnapShape, Shape, Shapes, Before, before_next, before_live, row, IsAmong, HasSnapshot, Starts, IsTail, IsRow, lineages, IsOneToAnId, IsGood, RaiseKeeps, SnapKeeps, MakeKeeps, RemoveKeeps}
use Rattle.model.specs.World.{Live, Snapped}
use Rattle.world.proofs.lists.SetCounts.{no-empty, same_members, from_difference}
use Rattle.world.proofs.lists.Maps.{no_value, key_cases}
use Rattle.world.proofs.lineage.Steps.{put_keeps, take_keeps, take_loses_none, raise_keeps, remove_keeps, remove_loses}
use Rattle.world.proofs.lineage.Shapes.{the_system, start_stays, among_left, among_either, tail_left, tail_right, tail_either}
use Rattle.world.proofs.lineage.Replace.{same_live, same_snap, live_or_snap, row_of, id_of_row, one_to_an_id, one_start, Elsewhere, from_old, to_old, rows_apart, from_new, to_new, to_new_else, dataset_cases, tail_live, snap_in, live_in, snap_row_id, prev_is_snap, has_there, has_back, closed_new, placed_new}

-- the group of a dataset, by its name
abbrev pub group_of : ℕ → Dataset → ℕ
group_of h (Live a) = h
group_of h (Snapped id) = id.group

pub row_group : (g : ℕ) (name : Name) (live : BlockSet) (q : Before) (ss : List SnapShape) (d : Dataset) (n : Row Dataset) → IsTail g name live q ss d n → n.group ≡ group_of g d
row_group g name live q [] d n h = ap (λ x. x.group) h.1 ∙ ap (group_of g) (sym h.0)
row_group g name live q (x ∷ xs) d n h = ⊎_elim (λ k. ap (λ x. x.group) k.1 ∙ ap (group_of g) (sym k.0)) (λ k. row_group g name live (before_next x) xs d n k) h

raise_row : (g h : ℕ) (name : Name) (live : BlockSet) (q : Before) (ss : List SnapShape) (d : Dataset) (n : Row Dataset) → IsTail g name live q ss d n → IsTail h name live q ss d (record n { group = group_of h d })
raise_row g h name live q [] d n k = (k.0, (λ i. record (k.1 i) { group = group_of h (k.0 i) }))
raise_row g h name live q (x ∷ xs) d n k = ⊎_elim
    (λ l. inl (l.0, (λ i. record (l.1 i) { group = group_of h (l.0 i) })))
    (λ l. inr (raise_row g h name live (before_next x) xs d n l))
    k

groups_rise : (g h : ℕ) (d : Dataset) → g ≤ h → group_of g d ≤ group_of h d
groups_rise g h (Live a) l = l
groups_rise g h (Snapped id) l = omega arith

module _ (m : Shapes) (g h : ℕ) (good : IsGood m g) (up : g ≤ h) where
  pub raised : (a b : ℕ) (d : Dataset) (n : Row Dataset) → lineages m a d n → lineages m b d (record n { group = group_of b d })
  raised a b d n (name, f, q, is, st, r) = (name, f, q, is, st, raise_row a b name f.live q f.snapshots d n r)

  pub group_is : (a : ℕ) (d : Dataset) (n : Row Dataset) → lineages m a d n → n.group ≡ group_of a d
  group_is a d n (name, f, q, is, st, r) = row_group a name f.live q f.snapshots d n r

  pub raises : Raises Dataset (lineages m g) (lineages m h)
  raises = record {
    new = λ d k r. (record k { group = group_of g d }, raised h g d k r, refl, (let a = groups_rise g h d up in let e = group_is h d k r in omega arith));
    one = λ d k l r t.
        let e = good.facts.one d (record k { group = group_of g d }) (record l { group = group_of g d }) (raised h g d k r) (raised h g d l t) in
        let x = group_is h d k r ∙ sym (group_is h d l t) in
        λ i. record (e i) { group = x i };
    all = λ d n r. (record n { group = group_of h d }, raised g h d n r, refl);
    rest = λ e d k n r t is. stays e k r d n t is;
  }
    where
      stays : (e : Dataset) (k : Row Dataset) → lineages m g e k → (d : Dataset) (n : Row Dataset) → lineages m g d n → n.prev ≡ Some e → lineages m h e k
      stays (Live a) k r d n t is = absurd (prev_is_snap m g d n a t is)
      stays (Snapped id) k r d n t is = subst (λ x. lineages m h (Snapped id) (record k { group = x })) (sym (group_is g (Snapped id) k r)) (raised g h (Snapped id) k r)

pub raise_keeps_world : RaiseKeeps
raise_keeps_world m g h good up = (
  record { facts = raise_keeps dataset_cases (lineages m g) (lineages m h) good.facts (raises m g h good up); closed = good.closed; placed = good.placed },
  λ u u' all all'. same_members o u u'
      (λ b k. let r = all.reached b k in all'.within r.0 (record r.1 { group = group_of h r.0 }) b (raised m g h good up g h r.0 r.1 r.2) r.3)
      (λ b k. let r = all'.reached b k in all.within r.0 (record r.1 { group = group_of g r.0 }) b (raised m g h good up h g r.0 r.1 r.2) r.3),
)

-- a snapshot's row is a snapshot
pub snapshot_of_row : (m : Shapes) (h : ℕ) (id : SnapId) (n : Row Dataset) → lineages m h (Snapped id) n → (s : SnapShape) × HasSnapshot m id s
snapshot_of_row m h id n (name, f, q, is, st, r) = ⊎_elim
    (λ e. absurd (live_or_snap name id (sym e)))
    (λ (s, a, e). (s, (name, f, is, a, sym (same_snap id s.id e))))
    (id_of_row h name f.live q f.snapshots (Snapped id) n r)

module _ (m m' : Shapes) (h : ℕ) (good : IsGood m h) (name : Name) (f : Shape) (at : m name ≡ Some f) (id : SnapId) (fresh : (s : SnapShape) → HasSnapshot m id s → ⊥)
    (here : m' name ≡ Some (record f { snapshots = f.snapshots ++ record { id = id; blocks = f.live } ∷ [] })) (others : (other : Name) → ¬ (other ≡ name) → m' other ≡ m other) (q : Before) (st : Starts m f.origin q) (closed : (b : Block) → Has f.live b → b.birth ≤ id.group) (above : (before_live q f.snapshots).base < id.group) (opens : id.group < h) where
  abbrev taken : SnapShape
  taken = record { id = id; blocks = f.live }

  abbrev f' : Shape
  f' = record f { snapshots = f.snapshots ++ record { id = id; blocks = f.live } ∷ [] }

  abbrev pub qL : Before
  qL = before_live q f.snapshots

  abbrev pub rowL : Row Dataset
  rowL = row h qL f.live

  fewer : (other : SnapId) (t : SnapShape) → ¬ (other ≡ id) → t.id ≡ other → IsAmong (f.snapshots ++ record { id = id; blocks = f.live } ∷ []) t → IsAmong f.snapshots t
  fewer other t ne is a = ⊎_elim (λ k. k) (⊎_elim (λ k. absurd (ne (sym is ∙ ap (λ x. x.id) k))) (λ k. absurd k)) (among_either f.snapshots (record { id = id; blocks = f.live } ∷ []) t a)

  starts : (other : Name) (e : Shape) (r : Before) → m other ≡ Some e → Starts m e.origin r ↔ Starts m' e.origin r
  starts other e r is = go e.origin refl
    where
      not_new : (x : SnapId) → e.origin ≡ Some x → ¬ (x ≡ id)
      not_new x i same =
          let c = good.closed other e is in
          let k = subst (λ y. Starts m y c.0) (i ∙ ap Some same) c.1 in
          fresh k.0 k.1

      go : (origin : Option SnapId) → e.origin ≡ origin → Starts m origin r ↔ Starts m' origin r
      go None i = (λ k. k, λ k. k)
      go (Some x) i = (
        λ k. (k.0, has_there m m' name f f' at here others (λ t a. among_left f.snapshots (taken ∷ []) t a) x k.0 k.1, k.2),
        λ k. (k.0, has_back m m' name f f' at here others x k.0 (λ t j a. fewer x t (not_new x i) j a) k.1, k.2),
      )

  pub in_old : lineages m h (Live name) rowL
  in_old = (name, f, q, at, st, live_in h name f.live q f.snapshots)

  went_on_is : row h (before_next taken) f.live ≡ went_on Dataset rowL (Snapped id) id.group h
  went_on_is =
      let e = same_members o (difference f.live f.live) empty (λ b k. let x = from_difference o f.live f.live b k in absurd (x.1 x.0)) (λ b k. absurd (no-empty o b k)) in
      λ i. record { blocks = f.live; dead = e i; group = h; prev = Some (Snapped id); base = id.group; below = f.live }

  new_row : (d : Dataset) (n : Row Dataset) → IsTail h name f.live q (f.snapshots ++ taken ∷ []) d n → lineages m' h d n
  new_row d n r = to_new m name f at h f' m' here others refl starts q st d n r

  pub takes : Takes Dataset (lineages m h) (lineages m' h) (Live name) rowL (Snapped id) id.group h
  takes = record {
    live = in_old;
    leaf = λ d n k. prev_is_snap m h d n name k;
    fresh = λ n k. let s = snapshot_of_row m h id n k in fresh s.0 s.1;
    closed = closed;
    above = above;
    opens = opens;
    new = λ d n k. ⊎_elim
        (λ (r, rs, x).
        let r_is = one_start m (one_to_an_id m h good) f.origin r q rs st in
        ⊎_elim
        (λ l.
        let i = snap_row_id q f.snapshots d n l in
        let old = snap_in h name f.live q f.snapshots d n l in
        inr (inr ((λ e. live_or_snap name i.0.id (sym e ∙ i.2)), (λ e. fresh i.0 (name, f, at, i.1, same_snap i.0.id id (sym i.2 ∙ e))), (name, f, q, at, st, old))))
        (⊎_elim (λ l. inr (inl l)) (λ l. inl (l.0, l.1 ∙ went_on_is)))
        (tail_either h name f.live q f.snapshots (taken ∷ []) d n (subst (λ x. IsTail h name f.live x (f.snapshots ++ taken ∷ []) d n) r_is x)))
        (λ x. inr (inr (
          (λ e. rows_apart m name f at h good.placed q (Live name) rowL n (live_in h name f.live q f.snapshots) (subst (λ y. Elsewhere m name h y n) e x)),
          (λ e. let s = snapshot_of_row m h id n (subst (λ y. lineages m h y n) e (to_old m name f at h d n x)) in fresh s.0 s.1),
          to_old m name f at h d n x,
        )))
        (from_new m name f at h f' m' here others refl starts d n k);
    here = new_row (Live name) (went_on Dataset rowL (Snapped id) id.group h) (tail_right h name f.live q f.snapshots (taken ∷ []) (Live name) (went_on Dataset rowL (Snapped id) id.group h) (inr (refl, sym went_on_is)));
    taken = new_row (Snapped id) (row id.group qL f.live) (tail_right h name f.live q f.snapshots (taken ∷ []) (Snapped id) (row id.group qL f.live) (inl (refl, refl)));
    rest = λ d n ne k. ⊎_elim
        (λ (r, rs, x).
        let r_is = one_start m (one_to_an_id m h good) f.origin r q rs st in
        ⊎_elim
        (λ l. new_row d n (tail_left h name f.live q f.snapshots (taken ∷ []) d n l))
        (λ l. absurd (ne l.0))
        (tail_live h name f.live q f.snapshots d n (subst (λ x. IsTail h name f.live x f.snapshots d n) r_is x)))
        (λ x. to_new_else m name f at h f' m' here others refl starts d n x)
        (from_old m name f at h d n k);
  }

  good_taken : IsGood m' h
  good_taken = record {
    facts = take_keeps dataset_cases (lineages m h) (lineages m' h) good.facts (Live name) rowL (Snapped id) id.group h takes;
    closed = closed_new m m' name f f' at here others good.closed refl starts;
    placed = placed_new m m' name f f' at here others good.placed (λ t a. ⊎_elim inl (⊎_elim (λ k. inr (λ s has. fresh s (subst (λ x. HasSnapshot m x s) (ap (λ x. x.id) k) has))) (λ k. absurd k)) (among_either f.snapshots (taken ∷ []) t a));
  }

  none_lost : (u u' : BlockSet) → IsUnion Dataset (lineages m h) u → IsUnion Dataset (lineages m' h) u' → u' ≡ u
  none_lost = take_loses_none dataset_cases (lineages m h) (lineages m' h) good.facts (Live name) rowL (Snapped id) id.group h takes

pub snap_keeps : SnapKeeps
snap_keeps old new h name id q good p st closed above opens = (
  good_taken old new h good name p.system p.at id p.fresh p.here p.others q st closed above opens,
  none_lost old new h good name p.system p.at id p.fresh p.here p.others q st closed above opens,
)

module _ (m : Shapes) (g : ℕ) (good : IsGood m g) where
  -- the births of what stands before a file system are at most its group
  pub before_born : (o : Option SnapId) (r : Before) → Starts m o r → (b : Block) → Has r.below b → b.birth ≤ r.base
  before_born None r k b h = absurd (no-empty order b (subst (λ x. Has x.below b) k h))
  before_born (Some id) r k b h =
      let s = k.0 in
      let c = good.closed k.1.0 k.1.1 k.1.2 in
      let x = row_of g k.1.0 k.1.1.live c.0 k.1.1.snapshots s k.1.3 in
      let in_m : lineages m g (Snapped s.id) x.0 = (k.1.0, k.1.1, c.0, k.1.2, c.1, x.1) in
      let l = (good.facts.sound (Snapped s.id) x.0 in_m).born b (subst (λ t. Has t b) (sym x.2) (subst (λ y. Has y.below b) k.2 h)) in
      let e : x.0.group ≡ s.id.group = row_group g k.1.0 k.1.1.live c.0 k.1.1.snapshots (Snapped s.id) x.0 x.1 in
      let f : r.base ≡ s.id.group = ap (λ y. y.base) k.2 in
      omega arith

module _ (m made_in : Shapes) (g : ℕ) (good : IsGood m g) (name : Name) (absent : m name ≡ None) (live : BlockSet) (origin : Option SnapId)
    (made_at : made_in name ≡ Some (record { live = live; snapshots = []; origin = origin })) (others : (other : Name) → ¬ (other ≡ name) → made_in other ≡ m other) (q : Before) (st : Starts m origin q)
    (falls : q.base < g) (within : IsSubset live q.below) where
  abbrev made : Shape
  made = record { live = live; snapshots = []; origin = origin }

  not_there : (other : Name) (e : Shape) → m other ≡ Some e → ¬ (other ≡ name)
  not_there other e is same = no_value e (sym (ap m same ∙ absent) ∙ is)

  made_has : (id : SnapId) (t : SnapShape) → HasSnapshot m id t → HasSnapshot made_in id t
  made_has id t (other, e, is, a, i) = (other, e, others other (not_there other e is) ∙ is, a, i)

  made_had : (id : SnapId) (t : SnapShape) → HasSnapshot made_in id t → HasSnapshot m id t
  made_had id t (other, e, is, a, i) = ⊎_elim
      (λ (same : other ≡ name). absurd (subst (λ x. IsAmong x.snapshots t) (the_system made_in other name e made is made_at same) a))
      (λ (ne : ¬ (other ≡ name)). (other, e, sym (others other ne) ∙ is, a, i))
      (key_cases name_order other name)

  unique : IsOneToAnId m
  unique = one_to_an_id m g good

  pub made_puts : Puts Dataset (lineages m g) (lineages made_in g) (Live name) (row g q live)
  made_puts = record {
    new = λ d n (other, e, r, is, rs, k). ⊎_elim
        (λ (same : other ≡ name).
        let e_is = the_system made_in other name e made is made_at same in
        let r_is = one_start m unique origin r q (start_stays made_in m made_had origin r (subst (λ x. Starts made_in x.origin r) e_is rs)) st in
        inl (subst (λ x. IsTail g name live x [] d n) r_is (subst (λ x. IsRow g name x r d n) e_is (subst (λ y. IsRow g y e r d n) same k))))
        (λ (ne : ¬ (other ≡ name)). inr (
          (λ at. ⊎_elim (λ i. ne (same_live other name (sym i ∙ at))) (λ (s, a, i). live_or_snap name s.id (sym at ∙ i)) (id_of_row g other e.live r e.snapshots d n k)),
          (other, e, r, sym (others other ne) ∙ is, start_stays made_in m made_had e.origin r rs, k),
        ))
        (key_cases name_order other name);
    here = (name, made, q, made_at, start_stays m made_in made_has origin q st, (refl, refl));
    rest = λ d n ne (other, e, r, is, rs, k). (other, e, r, others other (not_there other e is) ∙ is, start_stays m made_in made_has e.origin r rs, k);
  }

  made_sound : IsSound Dataset (row g q live)
  made_sound = record {
    born = λ b h. let l = before_born m g good origin q st b (within b h) in omega arith;
    falls = falls;
    kept = λ b h l. within b h;
    gone = refl;
  }

  made_ready : (o : Option SnapId) (r : Before) → Starts m o r → IsPrior Dataset (lineages made_in g) r.prev r.base r.below
  made_ready None r k = subst (λ x. IsPrior Dataset (lineages made_in g) x.prev x.base x.below) (sym k) (refl, refl)
  made_ready (Some id) r k =
      let s = k.0 in
      let c = good.closed k.1.0 k.1.1 k.1.2 in
      let x = row_of g k.1.0 k.1.1.live c.0 k.1.1.snapshots s k.1.3 in
      let e : x.0.group ≡ s.id.group = row_group g k.1.0 k.1.1.live c.0 k.1.1.snapshots (Snapped s.id) x.0 x.1 in
      subst (λ y. IsPrior Dataset (lineages made_in g) y.prev y.base y.below) (sym k.2)
      (x.0, made_puts.rest (Snapped s.id) x.0 (λ i. live_or_snap name s.id (sym i)) (k.1.0, k.1.1, c.0, k.1.2, c.1, x.1), e, x.2)

  made_good : IsGood made_in g
  made_good = record {
    facts = put_keeps dataset_cases (lineages m g) (lineages made_in g) good.facts (Live name) (row g q live) made_puts (λ d n h. prev_is_snap m g d n name h) made_sound (made_ready origin q st)
        (λ b h lt d n ne k. let l = before_born m g good origin q st b (within b h) in absurd (omega arith));
    closed = λ other e is. ⊎_elim
        (λ (same : other ≡ name).
        let e_is = the_system made_in other name e made is made_at same in
        (q, subst (λ x. Starts made_in x.origin q) (sym e_is) (start_stays m made_in made_has origin q st)))
        (λ (ne : ¬ (other ≡ name)).
        let c = good.closed other e (sym (others other ne) ∙ is) in
        (c.0, start_stays m made_in made_has e.origin c.0 c.1))
        (key_cases name_order other name);
    placed = λ a b x y s t is is' k l ids.
        let u = old_at a x s is k in
        let v = old_at b y t is' l in
        good.placed a b x y s t u v k l ids;
  }
    where
      old_at : (a : Name) (x : Shape) (s : SnapShape) → made_in a ≡ Some x → IsAmong x.snapshots s → m a ≡ Some x
      old_at a x s is k = ⊎_elim
          (λ (same : a ≡ name). absurd (subst (λ z. IsAmong z.snapshots s) (the_system made_in a name x made is made_at same) k))
          (λ (ne : ¬ (a ≡ name)). sym (others a ne) ∙ is)
          (key_cases name_order a name)

pub make_keeps : MakeKeeps
make_keeps old new g name live origin q good p st falls within =
    made_good old new g good name p.absent live origin p.here p.others q st falls within

module _ (m left : Shapes) (g : ℕ) (good : IsGood m g) (name : Name) (f : Shape) (at : m name ≡ Some f) (bare : f.snapshots ≡ [])
    (gone : left name ≡ None) (others : (other : Name) → ¬ (other ≡ name) → left other ≡ m other) (q : Before) (st : Starts m f.origin q) where
  left_at : (other : Name) (e : Shape) → left other ≡ Some e → (¬ (other ≡ name)) × (m other ≡ Some e)
  left_at other e is = ⊎_elim
      (λ (same : other ≡ name). absurd (no_value e (sym gone ∙ ap left (sym same) ∙ is)))
      (λ (ne : ¬ (other ≡ name)). (ne, sym (others other ne) ∙ is))
      (key_cases name_order other name)

  still_at : (other : Name) (e : Shape) → ¬ (other ≡ name) → m other ≡ Some e → left other ≡ Some e
  still_at other e ne is = others other ne ∙ is

  left_has : (id : SnapId) (t : SnapShape) → HasSnapshot m id t → HasSnapshot left id t
  left_has id t (other, e, is, a, i) =
      (other, e, still_at other e (λ same. let e_is = the_system m other name e f is at same in absurd (subst (λ l. IsAmong l t) (ap (λ x. x.snapshots) e_is ∙ bare) a)) is, a, i)

  left_had : (id : SnapId) (t : SnapShape) → HasSnapshot left id t → HasSnapshot m id t
  left_had id t (other, e, is, a, i) = (other, e, (left_at other e is).1, a, i)

  bare_row : IsRow g name f q (Live name) (row g q f.live)
  bare_row = subst (λ l. IsTail g name f.live q l (Live name) (row g q f.live)) (sym bare) (refl, refl)

  in_m : lineages m g (Live name) (row g q f.live)
  in_m = (name, f, q, at, st, bare_row)

  removes : Removes Dataset (lineages m g) (lineages left g) (Live name)
  removes = record {
    new = λ d n (other, e, r, is, rs, k).
        let x = left_at other e is in (
          (λ same. ⊎_elim (λ i. x.0 (same_live other name (sym i ∙ same))) (λ (s, a, i). live_or_snap name s.id (sym same ∙ i)) (id_of_row g other e.live r e.snapshots d n k)),
          (other, e, r, x.1, start_stays left m left_had e.origin r rs, k),
        );
    rest = λ d n ne (other, e, r, is, rs, k). ⊎_elim
        (λ (same : other ≡ name).
        let e_is = the_system m other name e f is at same in
        let k' = subst (λ l. IsTail g name f.live r l d n) bare (subst (λ x. IsRow g name x r d n) e_is (subst (λ y. IsRow g y e r d n) same k)) in
        absurd (ne k'.0))
        (λ (no : ¬ (other ≡ name)). (other, e, r, still_at other e no is, start_stays m left left_has e.origin r rs, k))
        (key_cases name_order other name);
  }

  pub leaf : IsLeaf Dataset (lineages m g) (Live name)
  leaf d n h = prev_is_snap m g d n name h

  left_good : IsGood left g
  left_good = record {
    facts = remove_keeps dataset_cases (lineages m g) (lineages left g) good.facts (Live name) (row g q f.live) in_m leaf removes;
    closed = λ other e is. let x = left_at other e is in let c = good.closed other e x.1 in (c.0, start_stays m left left_has e.origin c.0 c.1);
    placed = λ a b x y s t is is' k l ids. good.placed a b x y s t (left_at a x is).1 (left_at b y is').1 k l ids;
  }

pub unmake_keeps : RemoveKeeps
unmake_keeps old new g name q good p st = (
  left_good old new g good name p.system p.at p.bare p.gone p.others q st,
  remove_loses dataset_cases (lineages old g) (lineages new g) good.facts (Live name) (row g q p.system.live) (in_m old new g good name p.system p.at p.bare p.gone p.others q st)
      (leaf old new g good name p.system p.at p.bare p.gone p.others q st) (removes old new g good name p.system p.at p.bare p.gone p.others q st),
)

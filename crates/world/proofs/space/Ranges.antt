-- What would be freed, were a range of snapshots to go.
use Rattle.std.proofs.Common.{◌≡◌, ℕ, ◌≤◌, List, [], ◌∷◌, ◌++◌, Option, Some, None, refl, sym, ap, subst, ◌∙◌, ◌⊎◌, inl, inr, ⊎_elim, arith}
use Rattle.std.specs.FinSet.{difference, len}
use Rattle.world.specs.Sets.{Has}
use Rattle.world.specs.Blocks.{BlockSet, Block}
use Rattle.world.specs.Lineage.{Row, IsSound, IsUnion, Outside}
use Rattle.world.specs.Space.{AreBornBy, Follow, newest, dead_after, IsOneOf}
use Rattle.world.specs.Shapes.{Name, SnapId, Dataset, SnapShape, Shape, Shapes, Before, before_next, before_live, row, IsAmong, Starts, IsSnapRow, IsTail, IsRow, lineages, IsGood, HasNoClone}
use Rattle.model.specs.World.{Live, Snapped}
use Rattle.world.specs.Usage.{up_to_next, IsInRange, WouldFree}
use Rattle.world.proofs.lineage.Lineage.{below_born, prior_is, stands_before}
use Rattle.world.proofs.space.Space.{len_between, would_free}
use Rattle.world.proofs.lineage.Shapes.{among_left, among_right, tail_left, tail_right, tail_either}
use Rattle.world.proofs.lineage.Replace.{same_snap, same_some, prev_of_row, one_to_an_id, one_start, from_old, snap_row_id}
use Rattle.world.proofs.lineage.Drops.{first_id, first_row, tail_first, tail_split, base_of_row, group_of_older, base_of_later, first_fields}

module _ (g : ℕ) (name : Name) (live : BlockSet) (newer : List SnapShape) where
  -- the row after the range
  abbrev last_row : Before → List SnapShape → Row Dataset
  last_row r range = first_row g live (before_live r range) newer

  range_follows : (r : Before) (range : List SnapShape) → ((d : Dataset) (n : Row Dataset) → IsTail g name live r (range ++ newer) d n → IsSound Dataset n) → Follow r.base r.below (up_to_next g name live r range newer)
  range_follows r [] sound = end newer sound
    where
      end : (ss : List SnapShape) → ((d : Dataset) (n : Row Dataset) → IsTail g name live r ss d n → IsSound Dataset n) → Follow r.base r.below (up_to_next g name live r [] ss)
      end [] sound = (refl, refl, sound (Live name) (row g r live) (refl, refl), tt)
      end (s ∷ ss) sound = (refl, refl, sound (Snapped s.id) (row s.id.group r s.blocks) (inl (refl, refl)), tt)
  range_follows r (s ∷ ss) sound = (refl, refl, sound (Snapped s.id) (row s.id.group r s.blocks) (inl (refl, refl)), range_follows (before_next s) ss (λ d n h. sound d n (inr h)))

  range_newest : (t : BlockSet) (r : Before) (range : List SnapShape) → newest t (up_to_next g name live r range newer) ≡ (last_row r range).blocks
  range_newest t r [] = end newer
    where
      end : (ss : List SnapShape) → newest t (up_to_next g name live r [] ss) ≡ (first_row g live r ss).blocks
      end [] = refl
      end (s ∷ ss) = refl
  range_newest t r (s ∷ ss) = range_newest s.blocks (before_next s) ss

  -- each of the rows up to the next is of the range, or the last
  range_or_last : (r : Before) (range : List SnapShape) (x : Row Dataset) → IsOneOf (up_to_next g name live r range newer) x → ((s : SnapShape) × IsAmong range s × IsSnapRow r range (Snapped s.id) x) ⊎ (x ≡ last_row r range)
  range_or_last r [] x h = end newer h
    where
      end : (ss : List SnapShape) → IsOneOf (up_to_next g name live r [] ss) x → ((s : SnapShape) × ⊥ × ⊥) ⊎ (x ≡ first_row g live r ss)
      end [] h = ⊎_elim inr (λ k. absurd k) h
      end (s ∷ ss) h = ⊎_elim inr (λ k. absurd k) h
  range_or_last r (s ∷ ss) x h = ⊎_elim
      (λ e. inl (s, inl refl, inl (refl, e)))
      (λ k. ⊎_elim (λ (t, a, i). inl (t, inr a, inr i)) inr (range_or_last (before_next s) ss x k))
      h

  range_row : (r : Before) (range : List SnapShape) (s : SnapShape) → IsAmong range s → (n : Row Dataset) × IsOneOf (up_to_next g name live r range newer) n × IsSnapRow r range (Snapped s.id) n
  range_row r [] s h = absurd h
  range_row r (t ∷ ts) s h = ⊎_elim
      (λ e. (row t.id.group r t.blocks, inl refl, inl (ap (λ x. Snapped x.id) e, refl)))
      (λ k. let q = range_row (before_next t) ts s k in (q.0, inr q.1, inr q.2))
      h

  older_base : (q : Before) (xs ys : List SnapShape) (d : Dataset) (n : Row Dataset) → ((d : Dataset) (n : Row Dataset) → IsTail g name live q (xs ++ ys) d n → IsSound Dataset n) → IsSnapRow q xs d n → q.base ≤ n.base
  older_base q xs ys d n sound h = base_of_row g name live q (xs ++ ys) sound d n (tail_left g name live q xs ys d n h)

module _ (m : Shapes) (g : ℕ) (good : IsGood m g) (name : Name) (f : Shape) (q : Before) (older range newer : List SnapShape) (at : m name ≡ Some f) (st : Starts m f.origin q)
    (are : f.snapshots ≡ older ++ (range ++ newer)) (no_clone : (t : SnapShape) → IsAmong range t → HasNoClone m t.id) where
  abbrev qo : Before
  qo = before_live q older

  abbrev ql : Before
  ql = before_live qo range

  abbrev last : Row Dataset
  last = first_row g f.live ql newer

  in_m : (d : Dataset) (n : Row Dataset) → IsTail g name f.live q (older ++ (range ++ newer)) d n → lineages m g d n
  in_m d n r = (name, f, q, at, st, subst (λ l. IsTail g name f.live q l d n) (sym are) r)

  sound : (d : Dataset) (n : Row Dataset) → IsTail g name f.live q (older ++ (range ++ newer)) d n → IsSound Dataset n
  sound d n r = good.facts.sound d n (in_m d n r)

  in_tail : (d : Dataset) (n : Row Dataset) → IsTail g name f.live qo (range ++ newer) d n → lineages m g d n
  in_tail d n r = in_m d n (tail_right g name f.live q older (range ++ newer) d n r)

  sound_tail : (d : Dataset) (n : Row Dataset) → IsTail g name f.live qo (range ++ newer) d n → IsSound Dataset n
  sound_tail d n r = good.facts.sound d n (in_tail d n r)

  -- a row of the range
  in_range_row : (d : Dataset) (n : Row Dataset) → IsSnapRow qo range d n → lineages m g d n
  in_range_row d n r = in_tail d n (tail_left g name f.live qo range newer d n r)

  last_in : lineages m g (first_id name newer) last
  last_in = in_tail (first_id name newer) last (tail_right g name f.live qo range newer (first_id name newer) last (tail_first g name f.live ql newer))

  first_in : lineages m g (first_id name (range ++ newer)) (first_row g f.live qo (range ++ newer))
  first_in = in_tail _ _ (tail_first g name f.live qo (range ++ newer))

  last_base : last.base ≡ ql.base
  last_base = (first_fields g name f.live ql newer).1

  low : (d : Dataset) (n : Row Dataset) → IsSnapRow qo range d n → n.group ≤ last.base
  low d n r = let l = group_of_older g name f.live qo range newer sound_tail d n r in omega (arith, last_base)

  high : (d : Dataset) (n : Row Dataset) → IsSnapRow qo range d n → qo.base ≤ n.base
  high d n r = older_base g name f.live newer qo range newer d n sound_tail r

  -- the row of a snapshot of the range, by its name
  the_row : (d : Dataset) (n : Row Dataset) → IsInRange range d → lineages m g d n → IsOneOf (up_to_next g name f.live qo range newer) n × IsSnapRow qo range d n
  the_row d n (s, a, e) h =
      let r = range_row g name f.live newer qo range s a in
      let same : r.0 ≡ n = good.facts.one (Snapped s.id) r.0 n (in_range_row (Snapped s.id) r.0 r.2) (subst (λ x. lineages m g x n) e h) in (
        subst (λ x. IsOneOf (up_to_next g name f.live qo range newer) x) same r.1,
        subst (λ x. IsSnapRow qo range x n) (sym e) (subst (λ x. IsSnapRow qo range (Snapped s.id) x) same r.2),
      )

  last_out : ¬ (IsInRange range (first_id name newer))
  last_out k =
      let r = the_row (first_id name newer) last k last_in in
      let l = low (first_id name newer) last r.1 in
      let fl = (good.facts.sound (first_id name newer) last last_in).falls in
      absurd (omega arith)

  start_apart : (other : Name) (e : Shape) (r : Before) (t : SnapShape) → IsAmong range t → m other ≡ Some e → Starts m e.origin r → r.prev ≡ Some (Snapped t.id) → ⊥
  start_apart other e r t a is k prev_is = go e.origin refl k
    where
      nothing : r.prev ≡ None → ⊥
      nothing i = cc

      go : (origin : Option SnapId) → e.origin ≡ origin → Starts m origin r → ⊥
      go None i k = nothing (ap (λ x. x.prev) k)
      go (Some id) i k = no_clone t a other e is (i ∙ ap Some (sym k.1.4 ∙ same_snap k.0.id t.id (same_some (Snapped k.0.id) (Snapped t.id) (ap (λ x. x.prev) (sym k.2) ∙ prev_is))))

  nexts : (p e : Dataset) (n : Row Dataset) → IsInRange range p → lineages m g e n → n.prev ≡ Some p → IsInRange range e ⊎ (n ≡ last)
  nexts p e n (t, a, p_is) h prev_is =
      let r = range_row g name f.live newer qo range t a in
      let t_in = in_range_row (Snapped t.id) r.0 r.2 in
      let prev_t = prev_is ∙ ap Some p_is in
      let base_is = (prior_is (lineages m g) good.facts e (Snapped t.id) n r.0 h t_in prev_t).0 in
      let up = high (Snapped t.id) r.0 r.2 in
      let down = low (Snapped t.id) r.0 r.2 in
      let ft = (good.facts.sound (Snapped t.id) r.0 t_in).falls in
      let fn = (good.facts.sound e n h).falls in
      let fl = (good.facts.sound (first_id name newer) last last_in).falls in
      ⊎_elim
      (λ (x, xs, k).
      let x_is = one_start m (one_to_an_id m g good) f.origin x q xs st in
      let k' = subst (λ l. IsTail g name f.live q l e n) are (subst (λ y. IsRow g name f y e n) x_is k) in
      ⊎_elim
      (λ l. let y = group_of_older g name f.live q older (range ++ newer) sound e n l in absurd (omega (arith, base_is)))
      (λ l. ⊎_elim
      (λ y. let s = snap_row_id qo range e n y in inl s)
      (λ y. ⊎_elim (λ z. inr z.1)
      (λ z. let w = base_of_later g name f.live ql newer (λ d n k. sound_tail d n (tail_right g name f.live qo range newer d n k)) e n z in absurd (omega (arith, base_is)))
      (tail_split g name f.live ql newer e n y))
      (tail_either g name f.live qo range newer e n l))
      (tail_either g name f.live q older (range ++ newer) e n k'))
      (λ (other, k, r, ne, is, rs, x). absurd (⊎_elim
      (λ i. start_apart other k r t a is rs i)
      (λ (u, b, i). ne (good.placed other name k f u t is at b (subst (λ l. IsAmong l t) (sym are) (among_right older (range ++ newer) t (among_left range newer t a))) (same_snap u.id t.id (sym i))))
      (prev_of_row g other k.live r k.snapshots e (Snapped t.id) n x prev_t)))
      (from_old m name f at g e n h)

  fields : ((first_row g f.live qo (range ++ newer)).prev ≡ qo.prev) × ((first_row g f.live qo (range ++ newer)).base ≡ qo.base) × ((first_row g f.live qo (range ++ newer)).below ≡ qo.below)
  fields = first_fields g name f.live qo (range ++ newer)

  born : AreBornBy qo.base qo.below
  born b h = subst (λ x. b.birth ≤ x) fields.1 (below_born (lineages m g) good.facts (first_id name (range ++ newer)) (first_row g f.live qo (range ++ newer)) b first_in (subst (λ t. Has t b) (sym fields.2) h))

  before_stays : (b : Block) → Has qo.below b → (d : Dataset) × (n : Row Dataset) × (¬ (IsInRange range d)) × lineages m g d n × Has n.blocks b
  before_stays b h =
      let first = first_row g f.live qo (range ++ newer) in
      let r = stands_before (lineages m g) good.facts first.prev first.base first.below b (good.facts.prior (first_id name (range ++ newer)) first first_in) (subst (λ t. Has t b) (sym fields.2) h) in (
        r.0,
        r.1,
        (λ k.
            let x = the_row r.0 r.1 k r.2 in
            let up = high r.0 r.1 x.1 in
            let fl = (good.facts.sound r.0 r.1 r.2).falls in
            let e = r.4 in
            absurd (omega (arith, fields.1))),
        r.2,
        r.5,
      )

  freed : (u u' : BlockSet) → IsUnion Dataset (lineages m g) u → IsUnion Dataset (Outside Dataset (lineages m g) (IsInRange range)) u' → len (difference u u') ≡ dead_after qo.base (up_to_next g name f.live qo range newer)
  freed u u' all all' =
      let fo = range_follows g name f.live newer qo range sound_tail in
      ap len (would_free (lineages m g) good.facts (IsInRange range) qo.base qo.below (up_to_next g name f.live qo range newer) fo born last
      (range_newest g name f.live newer qo.below qo range)
      (λ x k. ⊎_elim (λ (s, a, r). inl (Snapped s.id, (s, a, refl), in_range_row (Snapped s.id) x r)) inr (range_or_last g name f.live newer qo range x k))
      (λ d n k h. (the_row d n k h).0)
      (first_id name newer, last_out, last_in)
      nexts before_stays u u' all all')
      ∙ len_between qo.base qo.below (up_to_next g name f.live qo range newer) fo born

pub would_free_in_world : WouldFree
would_free_in_world m g name f q older range newer u u' good at st are no_clone all all' = freed m g good name f q older range newer at st are no_clone u u' all all'

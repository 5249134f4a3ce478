-- File systems whose names are exchanged: what holds at every state holds of them.
use Rattle.std.proofs.Common.{◌≡◌, ℕ, List, [], ◌∷◌, Option, Some, None, refl, sym, ap, subst, ◌∙◌, inl, inr, ⊎_elim}
use Rattle.std.specs.Option.{option_map}
use Rattle.model.specs.World.{Live, Snapped}
use Rattle.world.specs.Blocks.{BlockSet}
use Rattle.world.specs.Lineage.{Row, Facts, IsPrior}
use Rattle.world.specs.Shapes.{Name, SnapId, Dataset, SnapShape, Shapes, Before, before_next, HasSnapshot, Starts, IsTail, lineages, IsGood}
use Rattle.world.proofs.lists.Maps.{same_value}

-- each new name is another's old one, and that one's is this one's
module _ (old new : Shapes) (other : Name → Name) (twice : (n : Name) → other (other n) ≡ n) (at : (n : Name) → new n ≡ old (other n)) where
  -- a dataset under its other name
  abbrev moved : Dataset → Dataset
  moved (Live n) = Live (other n)
  moved (Snapped id) = Snapped id

  moved_twice : (d : Dataset) → moved (moved d) ≡ d
  moved_twice (Live n) = ap Live (twice n)
  moved_twice (Snapped id) = refl

  back : (n : Name) → new (other n) ≡ old n
  back n = at (other n) ∙ ap old (twice n)

  -- ---- what stands before

  was_there : (id : SnapId) (s : SnapShape) → HasSnapshot new id s → HasSnapshot old id s
  was_there id s (n, f, is, a, e) = (other n, f, sym (at n) ∙ is, a, e)

  is_there : (id : SnapId) (s : SnapShape) → HasSnapshot old id s → HasSnapshot new id s
  is_there id s (n, f, is, a, e) = (other n, f, back n ∙ is, a, e)

  started : (o : Option SnapId) (q : Before) → Starts new o q → Starts old o q
  started None q e = e
  started (Some id) q (s, h, e) = (s, was_there id s h, e)

  starts : (o : Option SnapId) (q : Before) → Starts old o q → Starts new o q
  starts None q e = e
  starts (Some id) q (s, h, e) = (s, is_there id s h, e)

  -- ---- rows

  tail : (g : ℕ) (n : Name) (live : BlockSet) (q : Before) (ss : List SnapShape) (d : Dataset) (k : Row Dataset) → IsTail g n live q ss d k → IsTail g (other n) live q ss (moved d) k
  tail g n live q [] d k (e, is) = (ap moved e, is)
  tail g n live q (s ∷ ss) d k x = ⊎_elim (λ y. inl (ap moved y.0, y.1)) (λ y. inr (tail g n live (before_next s) ss d k y)) x

  row_was : (g : ℕ) (d : Dataset) (k : Row Dataset) → lineages new g d k → lineages old g (moved d) k
  row_was g d k (n, f, q, is, st, r) = (other n, f, q, sym (at n) ∙ is, started f.origin q st, tail g n f.live q f.snapshots d k r)

  row_is : (g : ℕ) (d : Dataset) (k : Row Dataset) → lineages old g d k → lineages new g (moved d) k
  row_is g d k (n, f, q, is, st, r) = (other n, f, q, back n ∙ is, starts f.origin q st, tail g n f.live q f.snapshots d k r)

  -- only a snapshot stands before a dataset
  abbrev Stays : Option Dataset → Type 0
  Stays p = option_map moved p ≡ p

  start_stays : (o : Option SnapId) (q : Before) → Starts new o q → Stays q.prev
  start_stays None q e = subst (λ (x : Before). Stays x.prev) (sym e) refl
  start_stays (Some id) q (s, h, e) = subst (λ (x : Before). Stays x.prev) (sym e) refl

  tail_stays : (g : ℕ) (n : Name) (live : BlockSet) (q : Before) (ss : List SnapShape) (d : Dataset) (k : Row Dataset) → Stays q.prev → IsTail g n live q ss d k → Stays k.prev
  tail_stays g n live q [] d k st (e, is) = subst (λ (x : Row Dataset). Stays x.prev) (sym is) st
  tail_stays g n live q (s ∷ ss) d k st x = ⊎_elim
      (λ y. subst (λ (x : Row Dataset). Stays x.prev) (sym y.1) st)
      (λ y. tail_stays g n live (before_next s) ss d k refl y)
      x

  prior : (g : ℕ) (p : Option Dataset) (base : ℕ) (below : BlockSet) → Stays p → IsPrior Dataset (lineages old g) p base below → IsPrior Dataset (lineages new g) p base below
  prior g None base below st h = h
  prior g (Some e) base below st (m, r, a, b) = (m, subst (λ d. lineages new g d m) (same_value (moved e) e st) (row_is g e m r), a, b)

  facts_moved : (g : ℕ) → Facts Dataset (lineages old g) → Facts Dataset (lineages new g)
  facts_moved g facts = record {
    one = λ d n k h j. facts.one (moved d) n k (row_was g d n h) (row_was g d k j);
    sound = λ d n h. facts.sound (moved d) n (row_was g d n h);
    prior = λ d n h. prior g n.prev n.base n.below (tail_stays g h.0 h.1.live h.2 h.1.snapshots d n (start_stays h.1.origin h.2 h.4) h.5) (facts.prior (moved d) n (row_was g d n h));
    once = λ d e n k b h j x y l m.
        sym (moved_twice d) ∙ ap moved (facts.once (moved d) (moved e) n k b (row_was g d n h) (row_was g e k j) x y l m) ∙ moved_twice e;
  }

  pub relabelled : (g : ℕ) → IsGood old g → IsGood new g
  relabelled g good = record {
    facts = facts_moved g good.facts;
    closed = λ n f is. let q = good.closed (other n) f (sym (at n) ∙ is) in (q.0, starts f.origin q.0 q.1);
    placed = λ n m f e s t is is' a b ids.
        sym (twice n) ∙ ap other (good.placed (other n) (other m) f e s t (sym (at n) ∙ is) (sym (at m) ∙ is') a b ids) ∙ twice m;
  }

-- A promote leaves each snapshot, perhaps in another file system.
use Rattle.std.proofs.Common.{◌≡◌, ◌<◌, ◌≤◌, Bool, true, false, Some, refl, sym, ap, subst, ◌∙◌, ⊎_elim, arith}
use Rattle.std.specs.Prelude.{nat_le, nat_lt}
use Rattle.std.specs.FinMap.{get, insert}
use Rattle.std.proofs.lemmas.Bool.{lt-ltb, ltb-true, leb-true, leb-false}
use Rattle.base.specs.Surveys.{IsIn}
use Rattle.model.specs.World.{World, FileSystem, Snap, id_of}
use Rattle.model.specs.State.{Views}
use Rattle.model.specs.requests.Promote.{Promotion, promotion_of, promoted_snaps, promoted, demoted, after_promotion}
use Rattle.world.specs.RunLaws.{HasSnap}
use Rattle.world.specs.Shapes.{Name, name_order}
use Rattle.world.proofs.lists.Maps.{same_value, key_cases}
use Rattle.world.proofs.lists.Finding.{in_filter, from_filter, in_left, in_right, in_either}
use Rattle.world.proofs.lineage.Put.{put_here, put_other, put_cases}
use Rattle.world.proofs.changes.Promotions.{IsPromotion, promotion_is}
use Rattle.world.proofs.views.Viewed.{AreOnce, AreClosed, IsSafe}

-- where a snapshot of the world after a promote was before: it came to the clone, it was the clone's, it stayed with the owner, or it is another file system's
data WasAt (w : World) (name : Name) (p : Promotion) (q : Name) (t : Snap) : Type 0 where
  came : q ≡ name → HasSnap w p.owner t → t.group ≤ p.origin.group → WasAt w name p q t
  own : q ≡ name → HasSnap w name t → WasAt w name p q t
  stayed : q ≡ p.owner → (p.owner ≡ name → ⊥) → HasSnap w p.owner t → p.origin.group < t.group → WasAt w name p q t
  apart : (q ≡ name → ⊥) → (q ≡ p.owner → ⊥) → HasSnap w q t → WasAt w name p q t

module _ (w : World) (name : Name) (p : Promotion) (is : promotion_of w name ≡ Some p) where
  P : IsPromotion w name p
  P = promotion_is w name p is

  abbrev after : World
  after = after_promotion w name p

  was_at : (q : Name) (t : Snap) → HasSnap after q t → WasAt w name p q t
  unfolding P
  was_at q t h = ⊎_elim
      (λ (k : (q ≡ name) × (h.0 ≡ promoted p)). ⊎_elim
      (λ i. let f = from_filter (λ (u : Snap). nat_le u.group p.origin.group) p.system.snaps t i in came k.0 (p.system, P.owner_at, f.0) (leb-true t.group p.origin.group f.1))
      (λ i. own k.0 (p.clone, P.clone_at, i))
      (in_either (promoted_snaps p) p.clone.snaps t (subst (λ (x : FileSystem). IsIn x.snaps t) k.1 h.2)))
      (λ (k : (q ≡ name → ⊥) × (get (insert w.file_systems p.owner (demoted p)) q ≡ Some h.0)). ⊎_elim
      (λ (l : (q ≡ p.owner) × (h.0 ≡ demoted p)).
      let f = from_filter (λ (u : Snap). nat_lt p.origin.group u.group) p.system.snaps t (subst (λ (x : FileSystem). IsIn x.snaps t) l.1 h.2) in
      stayed l.0 (λ e. k.0 (l.0 ∙ e)) (p.system, P.owner_at, f.0) (ltb-true p.origin.group t.group f.1))
      (λ (l : (q ≡ p.owner → ⊥) × (get w.file_systems q ≡ Some h.0)). apart k.0 l.0 (h.0, l.1, h.2))
      (put_cases w.file_systems p.owner (demoted p) q h.0 k.1))
      (put_cases (insert w.file_systems p.owner (demoted p)) name (promoted p) q h.0 h.1)

  module _ (once : AreOnce w) where
    one_place : (q r : Name) (t u : Snap) → WasAt w name p q t → WasAt w name p r u → id_of t ≡ id_of u → (q ≡ r) × (t ≡ u)
    one_place q r t u (came a h l) (came b k m) e = (a ∙ sym b, (once p.owner p.owner t u h k e).1)
    one_place q r t u (came a h l) (own b k) e = (a ∙ sym b, (once p.owner name t u h k e).1)
    one_place q r t u (came a h l) (stayed b n k m) e = let o = ap (λ x. x.group) e in absurd (omega arith)
    one_place q r t u (came a h l) (apart n m k) e = absurd (m (sym (once p.owner r t u h k e).0))
    one_place q r t u (own a h) (came b k m) e = (a ∙ sym b, (once name p.owner t u h k e).1)
    one_place q r t u (own a h) (own b k) e = (a ∙ sym b, (once name name t u h k e).1)
    one_place q r t u (own a h) (stayed b n k m) e = absurd (n (sym (once name p.owner t u h k e).0))
    one_place q r t u (own a h) (apart n m k) e = absurd (n (sym (once name r t u h k e).0))
    one_place q r t u (stayed a n h l) (came b k m) e = let o = ap (λ x. x.group) e in absurd (omega arith)
    one_place q r t u (stayed a n h l) (own b k) e = absurd (n (once p.owner name t u h k e).0)
    one_place q r t u (stayed a n h l) (stayed b o k m) e = (a ∙ sym b, (once p.owner p.owner t u h k e).1)
    one_place q r t u (stayed a n h l) (apart o m k) e = absurd (m (sym (once p.owner r t u h k e).0))
    one_place q r t u (apart n m h) (came b k l) e = absurd (m (once q p.owner t u h k e).0)
    one_place q r t u (apart n m h) (own b k) e = absurd (n (once q name t u h k e).0)
    one_place q r t u (apart n m h) (stayed b o k l) e = absurd (m (once q p.owner t u h k e).0)
    one_place q r t u (apart n m h) (apart o l k) e = once q r t u h k e

    was_in : (q : Name) (t : Snap) → WasAt w name p q t → (r : Name) × HasSnap w r t
    was_in q t (came a h l) = (p.owner, h)
    was_in q t (own a h) = (name, h)
    was_in q t (stayed a n h l) = (p.owner, h)
    was_in q t (apart n m h) = (q, h)

  at_clone : (t : Snap) → IsIn (promoted p).snaps t → HasSnap after name t
  at_clone t i = (promoted p, put_here (insert w.file_systems p.owner (demoted p)) name (promoted p), i)

  -- each snapshot is there still
  is_at : (q : Name) (t : Snap) → HasSnap w q t → (r : Name) × HasSnap after r t
  unfolding P
  is_at q t h = ⊎_elim
      (λ (e : q ≡ name).
      let same = same_value h.0 p.clone (sym h.1 ∙ ap (get w.file_systems) e ∙ P.clone_at) in
      (name, at_clone t (in_right (promoted_snaps p) p.clone.snaps t (subst (λ (x : FileSystem). IsIn x.snaps t) same h.2))))
      (λ (n : q ≡ name → ⊥). ⊎_elim
      (λ (e : q ≡ p.owner).
      let same = same_value h.0 p.system (sym h.1 ∙ ap (get w.file_systems) e ∙ P.owner_at) in
      by_group q e n (subst (λ (x : FileSystem). IsIn x.snaps t) same h.2) (nat_le t.group p.origin.group) refl)
      (λ (m : q ≡ p.owner → ⊥).
      (q, (h.0, put_other (insert w.file_systems p.owner (demoted p)) name (promoted p) q n ∙ put_other w.file_systems p.owner (demoted p) q m ∙ h.1, h.2)))
      (key_cases name_order q p.owner))
      (key_cases name_order q name)
    where
      by_group : (q : Name) → q ≡ p.owner → (q ≡ name → ⊥) → IsIn p.system.snaps t → (b : Bool) → nat_le t.group p.origin.group ≡ b → (r : Name) × HasSnap after r t
      by_group q e n i true l = (name, at_clone t (in_left (promoted_snaps p) p.clone.snaps t (in_filter (λ (u : Snap). nat_le u.group p.origin.group) p.system.snaps t i l)))
      by_group q e n i false l =
          let newer = in_filter (λ (u : Snap). nat_lt p.origin.group u.group) p.system.snaps t i (lt-ltb p.origin.group t.group (leb-false t.group p.origin.group l)) in
          (q, (demoted p, put_other (insert w.file_systems p.owner (demoted p)) name (promoted p) q n ∙ ap (get (insert w.file_systems p.owner (demoted p))) e ∙ put_here w.file_systems p.owner (demoted p), newer))

  pub promoted_safe : (views : Views) → AreOnce w → AreClosed w → IsSafe views w after
  promoted_safe views once closed = record {
    once = λ q r t u h k e. one_place once q r t u (was_at q t h) (was_at r u k) e;
    closed = λ q t h. let r = was_in once q t (was_at q t h) in closed r.0 t r.1;
    stands = λ q t h seen. let r = is_at q t h in (r.0, t, r.1, refl);
  }

-- A change with fresh numbers keeps it that one number names one block.
use Rattle.std.proofs.Common.{◌≡◌, ℕ, Bool, true, false, Some, refl, sym, ap, subst, ◌∙◌, true≢false, ◌⊎◌, inl, inr, ⊎_elim}
use Rattle.std.specs.Prelude.{IsTrue}
use Rattle.std.specs.FinMap.{get}
use Rattle.base.specs.declared.number.Key.{Key}
use Rattle.base.specs.Key.{is_at_or_below}
use Rattle.base.specs.Map.{Map, Cell}
use Rattle.model.specs.Numbers.{IsOneBlock}
use Rattle.world.specs.Numbering.{AreCellsOne, ChangesAt, AreNumbersFresh}

same_value : {X : Type 0} (x y : X) → Some x ≡ Some y → x ≡ y
same_value x y e = cc

module _ {D : Type 0} (old new : D → Map) (at : D) (touched : Key → Bool) (g : ℕ) (number : Key → ℕ)
    (changes : ChangesAt old new at touched g number) (fresh : AreNumbersFresh old (new at) at touched number) where
  -- a cell that was there, with all below it
  record Stays (e : D) (j : Key) (b : Cell) : Type 0 where
    was : get (old e) j ≡ Some b
    apart : e ≡ at → touched j ≡ true → ⊥
    below : (q : Key) → IsTrue (is_at_or_below j q) → get (new e) q ≡ get (old e) q

  record IsMade (e : D) (j : Key) (b : Cell) : Type 0 where
    here : e ≡ at
    is_touched : touched j ≡ true
    is_at : get (new at) j ≡ Some b
    number_is : b.number ≡ number j

  origin : (e : D) (j : Key) (b : Cell) → get (new e) j ≡ Some b → Stays e j b ⊎ IsMade e j b
  origin e j b h = ⊎_elim
      (λ other. inl (record { was = ap (λ m. get m j) (sym other.1) ∙ h; apart = λ is t. absurd (other.0 is); below = λ q l. ap (λ m. get m q) other.1 }))
      (λ is. by_touch is (touched j) refl)
      (changes.rest e)
    where
      by_touch : e ≡ at → (t : Bool) → touched j ≡ t → Stays e j b ⊎ IsMade e j b
      by_touch is true t = inr (record {
        here = is;
        is_touched = t;
        is_at = ap (λ d. get (new d) j) (sym is) ∙ h;
        number_is = (changes.change.made j b t (ap (λ d. get (new d) j) (sym is) ∙ h)).0;
      })
      by_touch is false t = inl (record {
        was = ap (λ d. get (old d) j) is ∙ sym (changes.change.kept j t) ∙ ap (λ d. get (new d) j) (sym is) ∙ h;
        apart = λ _ u. absurd (true≢false (sym u ∙ t));
        below = λ q l. ap (λ d. get (new d) q) is ∙ changes.change.kept q (changes.change.below j q t l) ∙ ap (λ d. get (old d) q) (sym is);
      })

  pub change_keeps_cells : AreCellsOne old → AreCellsOne new
  change_keeps_cells one d e j k a b hd he n = ⊎_elim
      (λ x. ⊎_elim (λ y. both_stay x y) (λ y. absurd (apart d j a e k b x y n)) (origin e k b he))
      (λ x. ⊎_elim (λ y. absurd (apart e k b d j a y x (sym n))) (λ y. both_made x y) (origin e k b he))
      (origin d j a hd)
    where
      apart : (d : D) (j : Key) (a : Cell) (e : D) (k : Key) (b : Cell) → Stays d j a → IsMade e k b → a.number ≡ b.number → ⊥
      apart d j a e k b x y n = let r = fresh.apart d j k a b x.was y.is_touched y.is_at (n ∙ y.number_is) in x.apart r.0 r.1

      both_stay : Stays d j a → Stays e k b → IsOneBlock (new d) (new e) j k a b
      both_stay x y =
          let r = one d e j k a b x.was y.was n in
          (r.0, r.1, λ q l. x.below q (subst (λ i. IsTrue (is_at_or_below i q)) (sym r.0) l) ∙ r.2 q l ∙ sym (y.below q l))

      both_made : IsMade d j a → IsMade e k b → IsOneBlock (new d) (new e) j k a b
      both_made x y =
          let same = fresh.once j k a b x.is_touched y.is_touched x.is_at y.is_at (sym x.number_is ∙ n ∙ y.number_is) in
          (same, same_value a b (sym x.is_at ∙ ap (λ i. get (new at) i) same ∙ y.is_at), λ q l. ap (λ d. get (new d) q) x.here ∙ ap (λ d. get (new d) q) (sym y.here))

-- Where a change chose its numbers, no block of a path that moves or stays is overwritten before it is copied.
use Rattle.std.proofs.Common.{◌≡◌, ℕ, ◌≤◌, Bool, true, false, List, Option, Some, None, ⊎_elim, refl, sym, ap, subst, ◌∙◌, true≢false}
use Rattle.std.specs.Prelude.{is_some, slice_get, nat_le}
use Rattle.std.proofs.lemmas.Bool.{le-leb, leb-true}
use Rattle.std.specs.Option.{option_map}
use Rattle.std.specs.FinMap.{get}
use Rattle.base.specs.declared.number.Key.{Key}
use Rattle.base.specs.Map.{Map, Cell, Block, block_of}
use Rattle.base.specs.Rewrite.{Changes, rewrite, is_touched}
use Rattle.base.specs.Surveys.{IsIn, IsMadeKey}
use Rattle.base.proofs.Presence.{same_presence}
use Rattle.base.proofs.Untouched.{rewrite_keeps, rewrite_makes}
use Rattle.zalloc.specs.declared.BlockState.{BlockState}
use Rattle.zalloc.specs.declared.BlockState.TheVariants.{Free, Allocated}
use Rattle.node.specs.Unique.{IsUnique}
use Rattle.node.proofs.Options.{if_some, mapped, same_value, not_some}
use Rattle.batch.specs.Room.{IsKept, AreAllocated}
use Rattle.tree.specs.Change.{Shown, IsChange}
use Rattle.tree.specs.Reading.{key_over}
use Rattle.image.specs.PathWrites.{AreSourcesApart}

module _ (m : Map) (c : Changes) (g young : ℕ) (states : List BlockState) (v : Shown) (is : IsChange m c g young states v) (unique : IsUnique m) (allocated : AreAllocated m states) where
  new_at : (k : Key) (x : Cell) → get v.new k ≡ Some x → get (rewrite m c g is.number) k ≡ Some x
  new_at k x there = sym (ap (λ n. get n k) is.new_is) ∙ there

  made_at : (k : Key) (x : Cell) → is_touched m c k ≡ true → get v.new k ≡ Some x → IsMadeKey m c k × (x.number ≡ is.number k)
  made_at k x t there =
      let at = new_at k x there in
      ((t, same_presence m c 0 g (λ _. 0) is.number k ∙ ap is_some at), (rewrite_makes m c g is.number k x t at).0)

  -- no new number is that of another block that stays or moves
  no_other : (j k : Key) (x y z : Cell) → get m j ≡ Some x → get v.new j ≡ Some y → get v.new k ≡ Some z → z.number ≡ x.number → k ≡ j
  no_other j k x y z was stays made same = by (is_touched m c k) refl
    where
      state : slice_get states x.number ≡ Some Allocated
      state = if_some (λ (c : Cell). slice_get states c.number ≡ Some Allocated) (get m j) x was (allocated j)

      not_free : slice_get states z.number ≡ Some Free → ⊥
      not_free e = let f : Some Allocated ≡ Some Free = sym state ∙ ap (slice_get states) (sym same) ∙ e in absurd (cc)

      -- a young block that goes is no block of a key that stays
      not_gone : (b : Block) → IsIn v.released b → young ≤ b.birth → b.number ≡ z.number → ⊥
      not_gone b i born number =
          let r = (is.released b).0 i in
          let there : r.cell.number ≡ x.number = ap (λ (b : Block). b.number) r.is ∙ number ∙ same in
          let key : r.key ≡ j = unique.one r.key j r.cell x r.there was there in
          let touched : is_touched m c j ≡ true = ap (is_touched m c) (sym key) ∙ r.touched in
          let kept : IsKept m c young j = record {
            made = (made_at j y touched stays).0;
            cell = r.cell;
            there = ap (get m) (sym key) ∙ r.there;
            born = subst (λ n. young ≤ n) (sym (ap (λ (b : Block). b.birth) r.is)) born;
          } in
          r.goes (subst (IsKept m c young) (sym key) kept)

      taken : IsMadeKey m c k → z.number ≡ is.number k → ¬ (IsKept m c young k) → ⊥
      taken made number fresh =
          let i = is.fresh k made fresh in
          ⊎_elim
          (λ (free : slice_get states (is.number k) ≡ Some Free). not_free (ap (slice_get states) number ∙ free))
          (λ gone. not_gone gone.0 gone.1 gone.2 (gone.3 ∙ sym number))
          (is.taken_free (is.number k) i)

      at_kept : (w : Cell) → IsMadeKey m c k → z.number ≡ is.number k → get m k ≡ Some w → k ≡ j
      at_kept w made number there = by_age (nat_le young w.birth) refl
        where
          by_age : (t : Bool) → nat_le young w.birth ≡ t → k ≡ j
          by_age true t = unique.one k j w x there was (sym (is.kept k w made there (leb-true _ _ t)) ∙ sym number ∙ same)
          by_age false t = absurd (taken made number (λ kept. true≢false (sym (le-leb _ _ (subst (λ n. young ≤ n) (ap (λ (c : Cell). c.birth) (same_value kept.cell w (sym kept.there ∙ there))) kept.born)) ∙ t)))

      by_old : (o : Option Cell) → get m k ≡ o → IsMadeKey m c k → z.number ≡ is.number k → k ≡ j
      by_old None there made number = absurd (taken made number (λ kept. not_some (get m k) there (ap is_some kept.there)))
      by_old (Some w) there made number = at_kept w made number there

      by : (t : Bool) → is_touched m c k ≡ t → k ≡ j
      by true t = let a = made_at k z t made in by_old (get m k) refl a.0 a.1
      by false t = unique.one k j z x (sym (rewrite_keeps m c g is.number k t) ∙ new_at k z made) was same

  pub paths_apart : (leaf : ℕ) (before after : ℕ → Option Block) → ((l : ℕ) → l ≤ 5 → before l ≡ option_map block_of (get m (key_over leaf l))) → ((l : ℕ) → l ≤ 5 → after l ≡ option_map block_of (get v.new (key_over leaf l)))
      → AreSourcesApart before after
  paths_apart leaf before after was is l n o p q low high e f h same =
      let x = mapped block_of (get m (key_over leaf l)) o (sym (was l low) ∙ e) in
      let y = mapped block_of (get v.new (key_over leaf l)) p (sym (is l low) ∙ f) in
      let z = mapped block_of (get v.new (key_over leaf n)) q (sym (is n high) ∙ h) in
      let number : z.0.number ≡ x.0.number = ap (λ (b : Block). b.number) z.2 ∙ same ∙ sym (ap (λ (b : Block). b.number) x.2) in
      ap (λ (k : Key). k.level) (sym (no_other (key_over leaf l) (key_over leaf n) x.0 y.0 z.0 x.1 y.1 z.1 number))

-- New blocks are put on a path one by one.
use Rattle.std.proofs.Common.{◌≡◌, ◌≢◌, ℕ, ◌<◌, ◌≤◌, List, [], ◌∷◌, ◌++◌, length, get_or, set, Option, Some, None, refl, sym, ap, ◌∙◌, ⊎_elim, inl, arith, get_or-set_same, get_or-set_other}
use Rattle.std.specs.Prelude.{is_some}
use Rattle.std.proofs.lemmas.Bool.{cases_eq}
use Rattle.base.specs.Surveys.{IsIn}
use Rattle.batch.proofs.NumberLaws.{in_append, in_left, in_right}
use Rattle.batch.specs.declared.numbers.NewBlock.{NewBlock}
use Rattle.tree.specs.Bytes.{maybe_block, root_block}
use Rattle.tree.specs.declared.block.Root.{Root}
use Rattle.image.specs.PathWrites.{block_on}
use Rattle.world.proofs.lists.Maps.{same_value, no_value}
use Rattle.image.specs.Writes.{ArePlaced}
use Rattle.image.proofs.LiveTrees.{no_path}

-- none is on a path of no blocks
pub none_placed : (g : ℕ) → ArePlaced g [] (block_on (None ∷ None ∷ None ∷ None ∷ None ∷ None ∷ []))
none_placed g = record {
  only = λ l b low e. absurd (no_value b (sym (ap maybe_block (no_path l low)) ∙ e));
  each = λ x i low. absurd i;
}

module _ (g : ℕ) (made : List NewBlock) (path : List (Option Root)) (placed : ArePlaced g made (block_on path)) (x : NewBlock) where
  -- one more is put at its level
  pub one_placed : (r : Root) → root_block r ≡ record { number = x.block.0; birth = g } → length path ≡ 6 → x.key.level < 6 → ArePlaced g (made ++ x ∷ []) (block_on (set path x.key.level (Some r)))
  one_placed r is long low = record {
    only = λ l b shallow e. ⊎_elim
        (λ (same : l ≡ x.key.level).
        (x, in_right made (x ∷ []) x (inl refl), sym same, sym (same_value (root_block r) b (sym (here l same) ∙ e)) ∙ is))
        (λ (other : l ≢ x.key.level).
        let p = placed.only l b shallow (sym (there l other) ∙ e) in
        (p.0, in_left made (x ∷ []) p.0 p.1, p.2, p.3))
        (cases_eq l x.key.level);
    each = λ y i shallow. ⊎_elim
        (λ (same : y.key.level ≡ x.key.level). ap is_some (here y.key.level same))
        (λ (other : y.key.level ≢ x.key.level).
        ap is_some (there y.key.level other)
        ∙ ⊎_elim
        (λ (i : IsIn made y). placed.each y i shallow)
        (λ (i : IsIn (x ∷ []) y). ⊎_elim (λ (e : y ≡ x). absurd (other (ap (λ (z : NewBlock). z.key.level) e))) (λ (e : IsIn [] y). absurd e) i)
        (in_append made (x ∷ []) y i))
        (cases_eq y.key.level x.key.level);
  }
    where
      here : (l : ℕ) → l ≡ x.key.level → block_on (set path x.key.level (Some r)) l ≡ Some (root_block r)
      here l same = ap (λ n. maybe_block (get_or (set path x.key.level (Some r)) n None)) same ∙ ap maybe_block (get_or-set_same path x.key.level (Some r) None (omega (arith, long, low)))

      there : (l : ℕ) → l ≢ x.key.level → block_on (set path x.key.level (Some r)) l ≡ block_on path l
      there l other = ap maybe_block (get_or-set_other path x.key.level l (Some r) None other)

  -- and one with no level of a path is put nowhere
  pub none_more : 6 ≤ x.key.level → ArePlaced g (made ++ x ∷ []) (block_on path)
  none_more high = record {
    only = λ l b shallow e.
        let p = placed.only l b shallow e in
        (p.0, in_left made (x ∷ []) p.0 p.1, p.2, p.3);
    each = λ y i shallow. ⊎_elim
        (λ (i : IsIn made y). placed.each y i shallow)
        (λ (i : IsIn (x ∷ []) y). ⊎_elim (λ (e : y ≡ x). let level = ap (λ (z : NewBlock). z.key.level) e in absurd (omega (arith, level, high, shallow))) (λ (e : IsIn [] y). absurd e) i)
        (in_append made (x ∷ []) y i);
  }

-- A path that moves away from the old blocks may be written.
use Rattle.std.proofs.Common.{◌≡◌, ℕ, ◌+◌, ◌<◌, ◌≤◌, List, Option, Some, None, length, ⊎_elim, subst, arith}
use Rattle.std.specs.Prelude.{slice_index_or}
use Rattle.std.proofs.lemmas.Bool.{cases_lt}
use Rattle.base.specs.Map.{Block}
use Rattle.zalloc.specs.declared.BlockState.{BlockState}
use Rattle.tree.proofs.Options.{if_some, mapped}
use Rattle.tree.specs.Bytes.{root_block}
use Rattle.tree.specs.declared.block.Root.{Root}
use Rattle.image.specs.Image.{IsOpen}
use Rattle.image.specs.PathWrites.{block_on, IsPathOpen, AreSourcesApart}
use Rattle.layers_tests.specs.Split.{IsOld, IsNext}

-- the levels so far are old before and next after
pub record AreSplit (kept : List BlockState) (before after : List (Option Root)) (levels : ℕ) : Type 0 where
  pub old : (l : ℕ) → l < levels → IsOld kept (slice_index_or before l None)
  pub next : (l : ℕ) → l < levels → IsNext kept (slice_index_or after l None)

pub one_level : (kept : List BlockState) (before after : List (Option Root)) (n : ℕ) → AreSplit kept before after n → IsOld kept (slice_index_or before n None) → IsNext kept (slice_index_or after n None) → AreSplit kept before after (n + 1)
one_level kept before after n so_far old next = record {
  old = λ l h. ⊎_elim (λ (lt : l < n). so_far.old l lt) (λ (le : n ≤ l). let same : n ≡ l = omega arith in subst (λ k. IsOld kept (slice_index_or before k None)) same old) (cases_lt l n);
  next = λ l h. ⊎_elim (λ (lt : l < n). so_far.next l lt) (λ (le : n ≤ l). let same : n ≡ l = omega arith in subst (λ k. IsNext kept (slice_index_or after k None)) same next) (cases_lt l n);
}

module _ (kept : List BlockState) (before after : List (Option Root)) (n : ℕ) (split : AreSplit kept before after n) (six : 6 ≤ n) where
  old_at : (l : ℕ) (o : Block) → l ≤ 5 → block_on before l ≡ Some o → (o.number < 6) × (o.number < length kept)
  old_at l o low e =
      let r = mapped root_block (slice_index_or before l None) o e in
      let is = if_some (λ (r : Root). (r.block.0 < 6) × (r.block.0 < length kept)) (slice_index_or before l None) r.0 r.1 (split.old l (omega (arith, low, six))) in
      subst (λ (b : Block). (b.number < 6) × (b.number < length kept)) r.2 is

  next_at : (l : ℕ) (o : Block) → l ≤ 5 → block_on after l ≡ Some o → (6 ≤ o.number) × IsOpen kept o.number
  next_at l o low e =
      let r = mapped root_block (slice_index_or after l None) o e in
      let is = if_some (λ (r : Root). (6 ≤ r.block.0) × IsOpen kept r.block.0) (slice_index_or after l None) r.0 r.1 (split.next l (omega (arith, low, six))) in
      subst (λ (b : Block). (6 ≤ b.number) × IsOpen kept b.number) r.2 is

  pub split_open : IsPathOpen kept (block_on before) (block_on after)
  split_open = record {
    open_to = λ l n low e. (next_at l n low e).1;
    there = λ l o low e. (old_at l o low e).1;
  }

  pub split_apart : AreSourcesApart (block_on before) (block_on after)
  split_apart l m o n k low high was stays made same =
      let a = (old_at l o low was).0 in
      let b = (next_at m k high made).0 in
      absurd (omega (arith, a, b, same))
